use Rattle.std.proofs.Common.{◌≡◌, inl, inr, None, sym, ap, subst, ◌∙◌}
use Rattle.pv_words.specs.Plan.{MayGo}
use Rattle.pv_words.specs.MapLeft.{map_left}
use Rattle.link_core.specs.Activities.{with_event, with_ring}
use Rattle.link_core.specs.Link.{dom_of, connect_left, connect_rest, ending_of, refs_of}
use Rattle.link_core.specs.Stage.{ring_in}
use Rattle.link_core.proofs.Connects.{begins_ring, begins_event, leads_as, may_joined, may_mapped}
use Rattle.link_core.proofs.link.Link.connect_step.Goals as goal

pub returns-in-Ring-clause-stays : goal.returns-in-Ring-clause-stays
returns-in-Ring-clause-stays g c = c.ring_step.ensures.stays _

pub returns-in-Event-clause-stays : goal.returns-in-Event-clause-stays
returns-in-Event-clause-stays g c = c.event_step.ensures.stays _

pub returns-in-Some-clause-stays : goal.returns-in-Some-clause-stays
returns-in-Some-clause-stays g c = c.ring_step-in-Some.ensures.stays _

pub returns-in-None-clause-stays : goal.returns-in-None-clause-stays
returns-in-None-clause-stays g c = c.event_step-in-None.ensures.stays _

pub ring_step-requires-clause-may : goal.ring_step-requires-clause-may
unfolding connect_left dom_of
ring_step-requires-clause-may g c =
    let l = c.args.self.now in
    let frames = g.W.Words.frames_of c.args.words.now (dom_of l) in
    let grants = g.W.Words.grants_of c.args.words.now (dom_of l) in
    let may = g.W.Words.may c.args.words.now in
    may_joined may (map_left frames grants l.map) (with_ring frames grants l.dom.0 c.args.event.0) (subst (λ s. MayGo may (connect_rest frames grants (refs_of c.args.ring) c.args.event.0 l s)) c.in-Ring.is c.requires)

pub rsp_step-requires-clause-may : goal.rsp_step-requires-clause-may
unfolding connect_left
rsp_step-requires-clause-may g c =
    let l = c.args.self.now in
    let frames = g.W.Words.frames_of c.args.words.now (dom_of l) in
    let grants = g.W.Words.grants_of c.args.words.now (dom_of l) in
    let may = g.W.Words.may c.args.words.now in
    subst (λ s. MayGo may (connect_rest frames grants None c.args.event.0 l s)) (sym c.in-Index.is) (subst (λ s. MayGo may (connect_rest frames grants (refs_of c.args.ring) c.args.event.0 l s)) c.in-Index.is c.requires)

pub event_step-requires-clause-may : goal.event_step-requires-clause-may
unfolding connect_left dom_of
event_step-requires-clause-may g c =
    let l = c.args.self.now in
    let frames = g.W.Words.frames_of c.args.words.now (dom_of l) in
    let grants = g.W.Words.grants_of c.args.words.now (dom_of l) in
    let may = g.W.Words.may c.args.words.now in
    may_joined may (map_left frames grants l.map) (with_event (ring_in l.kept l.ring_page) l.ring) (subst (λ s. MayGo may (connect_rest frames grants (refs_of c.args.ring) c.args.event.0 l s)) c.in-Event.is c.requires)

pub prod_step-requires-clause-may : goal.prod_step-requires-clause-may
unfolding connect_left
prod_step-requires-clause-may g c =
    let l = c.args.self.now in
    let frames = g.W.Words.frames_of c.args.words.now (dom_of l) in
    let grants = g.W.Words.grants_of c.args.words.now (dom_of l) in
    let may = g.W.Words.may c.args.words.now in
    subst (λ s. MayGo may (connect_rest frames grants None 0 l s)) (sym c.in-Prod.is) (subst (λ s. MayGo may (connect_rest frames grants (refs_of c.args.ring) c.args.event.0 l s)) c.in-Prod.is c.requires)

pub ring_step-requires-in-Some-clause-may : goal.ring_step-requires-in-Some-clause-may
unfolding dom_of
ring_step-requires-in-Some-clause-may g c =
    let l = c.args.self.now in
    let frames = g.W.Words.frames_of c.args.words.now (dom_of l) in
    let grants = g.W.Words.grants_of c.args.words.now (dom_of l) in
    let w = c.args.words.now in
    let b = c.begin.new.self in
    let same : dom_of b ≡ dom_of l = ap (λ d. d.0) c.begin.ensures.dom in
    let head : connect_left (g.W.Words.frames_of w (dom_of b)) (g.W.Words.grants_of w (dom_of b)) None c.args.event.0 b ≡ connect_left frames grants (refs_of c.args.ring) c.args.event.0 l = ap (λ d. connect_left (g.W.Words.frames_of w d) (g.W.Words.grants_of w d) None c.args.event.0 b) same ∙ (begins_ring frames grants l b c.in-Rest.is c.begin.ensures.dom c.in-Some.gref.0 c.args.event.0 None c.begin.ensures.stage (c.begin.ensures.map frames grants) ∙ ap (λ r. connect_left frames grants (refs_of r) c.args.event.0 l) (sym c.in-Some.is)) in
    let may = g.W.Words.may w in
    may_mapped may (g.W.Words.frames_of w (dom_of b)) (g.W.Words.grants_of w (dom_of b)) b None c.args.event.0 (inl c.begin.ensures.stage) (subst (λ p. MayGo may p) (sym head) c.requires)

pub returns-in-Some-clause-leads : goal.returns-in-Some-clause-leads
unfolding dom_of
returns-in-Some-clause-leads g c =
    let l = c.args.self.now in
    let frames = g.W.Words.frames_of c.args.words.now (dom_of l) in
    let grants = g.W.Words.grants_of c.args.words.now (dom_of l) in
    let w = c.args.words.now in
    let b = c.begin.new.self in
    let same : dom_of b ≡ dom_of l = ap (λ d. d.0) c.begin.ensures.dom in
    let head : connect_left (g.W.Words.frames_of w (dom_of b)) (g.W.Words.grants_of w (dom_of b)) (refs_of c.args.ring) c.args.event.0 b ≡ connect_left frames grants (refs_of c.args.ring) c.args.event.0 l = ap (λ d. connect_left (g.W.Words.frames_of w d) (g.W.Words.grants_of w d) (refs_of c.args.ring) c.args.event.0 b) same ∙ (begins_ring frames grants l b c.in-Rest.is c.begin.ensures.dom c.in-Some.gref.0 c.args.event.0 (refs_of c.args.ring) c.begin.ensures.stage (c.begin.ensures.map frames grants) ∙ ap (λ r. connect_left frames grants (refs_of r) c.args.event.0 l) (sym c.in-Some.is)) in
    let new = c.ring_step-in-Some.new.self in
    leads_as _ _ c.ring_step-in-Some.result.access (ending_of new c.ring_step-in-Some.result.done) _ _ (sym head) (ap (λ d. connect_left (g.W.Words.frames_of w d) (g.W.Words.grants_of w d) (refs_of c.args.ring) c.args.event.0 new) (sym same)) (c.ring_step-in-Some.ensures.leads (refs_of c.args.ring) c.args.event.0)

pub returns-in-Some-clause-dom : goal.returns-in-Some-clause-dom
unfolding dom_of
returns-in-Some-clause-dom g c = c.ring_step-in-Some.ensures.dom ∙ ap (λ d. d.0) c.begin.ensures.dom

pub event_step-requires-in-None-clause-may : goal.event_step-requires-in-None-clause-may
unfolding dom_of
event_step-requires-in-None-clause-may g c =
    let l = c.args.self.now in
    let frames = g.W.Words.frames_of c.args.words.now (dom_of l) in
    let grants = g.W.Words.grants_of c.args.words.now (dom_of l) in
    let w = c.args.words.now in
    let b = c.begin-in-None.new.self in
    let same : dom_of b ≡ dom_of l = ap (λ d. d.0) c.begin-in-None.ensures.dom in
    let head : connect_left (g.W.Words.frames_of w (dom_of b)) (g.W.Words.grants_of w (dom_of b)) None c.args.event.0 b ≡ connect_left frames grants (refs_of c.args.ring) c.args.event.0 l = ap (λ d. connect_left (g.W.Words.frames_of w d) (g.W.Words.grants_of w d) None c.args.event.0 b) same ∙ (begins_event frames grants l b c.in-Rest.is c.begin-in-None.ensures.dom c.args.event.0 c.args.event.0 None c.begin-in-None.ensures.stage c.begin-in-None.ensures.kept c.begin-in-None.ensures.ring (c.begin-in-None.ensures.map frames grants) ∙ ap (λ r. connect_left frames grants (refs_of r) c.args.event.0 l) (sym c.in-None.is)) in
    let may = g.W.Words.may w in
    may_mapped may (g.W.Words.frames_of w (dom_of b)) (g.W.Words.grants_of w (dom_of b)) b None c.args.event.0 (inr c.begin-in-None.ensures.stage) (subst (λ p. MayGo may p) (sym head) c.requires)

pub returns-in-None-clause-leads : goal.returns-in-None-clause-leads
unfolding dom_of
returns-in-None-clause-leads g c =
    let l = c.args.self.now in
    let frames = g.W.Words.frames_of c.args.words.now (dom_of l) in
    let grants = g.W.Words.grants_of c.args.words.now (dom_of l) in
    let w = c.args.words.now in
    let b = c.begin-in-None.new.self in
    let same : dom_of b ≡ dom_of l = ap (λ d. d.0) c.begin-in-None.ensures.dom in
    let head : connect_left (g.W.Words.frames_of w (dom_of b)) (g.W.Words.grants_of w (dom_of b)) (refs_of c.args.ring) c.args.event.0 b ≡ connect_left frames grants (refs_of c.args.ring) c.args.event.0 l = ap (λ d. connect_left (g.W.Words.frames_of w d) (g.W.Words.grants_of w d) (refs_of c.args.ring) c.args.event.0 b) same ∙ (begins_event frames grants l b c.in-Rest.is c.begin-in-None.ensures.dom c.args.event.0 c.args.event.0 (refs_of c.args.ring) c.begin-in-None.ensures.stage c.begin-in-None.ensures.kept c.begin-in-None.ensures.ring (c.begin-in-None.ensures.map frames grants) ∙ ap (λ r. connect_left frames grants (refs_of r) c.args.event.0 l) (sym c.in-None.is)) in
    let new = c.event_step-in-None.new.self in
    leads_as _ _ c.event_step-in-None.result.access (ending_of new c.event_step-in-None.result.done) _ _ (sym head) (ap (λ d. connect_left (g.W.Words.frames_of w d) (g.W.Words.grants_of w d) (refs_of c.args.ring) c.args.event.0 new) (sym same)) (c.event_step-in-None.ensures.leads (refs_of c.args.ring) c.args.event.0)

pub returns-in-None-clause-dom : goal.returns-in-None-clause-dom
unfolding dom_of
returns-in-None-clause-dom g c = c.event_step-in-None.ensures.dom ∙ ap (λ d. d.0) c.begin-in-None.ensures.dom
