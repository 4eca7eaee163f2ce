use Rattle.link_core.specs.declared.link.Stage.{Stage}
use Rattle.std.proofs.Common.{◌≡◌, true, Some, refl, sym, ap, subst, ◌∙◌}
use Rattle.pv_words.specs.Plan.{MayGo}
use Rattle.pv_words.specs.Mapping.{Advances}
use Rattle.pv_words.specs.MapLeft.{map_left}
use Rattle.link_core.specs.Link.{connects, dom_of, held_of, is_in_connect, is_joined, idle, rings}
use Rattle.link_core.specs.Stage.{agrees, has_nothing, ring_comes}
use Rattle.link_core.proofs.Connects.{ring_goes_on, ring_holds, ring_refuses}
use Rattle.link_core.proofs.Links.{held_nothing}
use Rattle.link_core.proofs.link.Link.ring_step.Goals as goal

pub step-turn-requires : goal.step-turn-requires
unfolding dom_of
step-turn-requires g c =
    let l = c.args.self.now in
    subst (λ d. MayGo (g.W.Words.may c.args.words.now) (map_left (g.W.Words.frames_of c.args.words.now d) (g.W.Words.grants_of c.args.words.now d) l.map)) (sym l.whose) c.requires.may

pub returns-in_default-clause-leads : goal.returns-in_default-clause-leads
unfolding dom_of
returns-in_default-clause-leads g c =
    let l = c.args.self.now in
    let frames = g.W.Words.frames_of c.args.words.now (dom_of l) in
    let grants = g.W.Words.grants_of c.args.words.now (dom_of l) in
    let turn = c.step-turn.result in
    let at : Advances (map_left frames grants l.map) turn.access turn.done (map_left frames grants c.step-turn.new.self) = subst (λ d. Advances (map_left (g.W.Words.frames_of c.args.words.now d) (g.W.Words.grants_of c.args.words.now d) l.map) turn.access turn.done (map_left (g.W.Words.frames_of c.args.words.now d) (g.W.Words.grants_of c.args.words.now d) c.step-turn.new.self)) l.whose c.step-turn.ensures.advances in
    λ ring event. ring_goes_on frames grants l _ turn.access turn.done (map_left frames grants c.step-turn.new.self) c.requires.stage ring event c.requires.stage refl refl c.in_default.is at

pub returns-in-Ok-clause-leads : goal.returns-in-Ok-clause-leads
unfolding dom_of
returns-in-Ok-clause-leads g c =
    let l = c.args.self.now in
    let frames = g.W.Words.frames_of c.args.words.now (dom_of l) in
    let grants = g.W.Words.grants_of c.args.words.now (dom_of l) in
    let turn = c.step-turn.result in
    let at : Advances (map_left frames grants l.map) turn.access turn.done (map_left frames grants c.step-turn.new.self) = subst (λ d. Advances (map_left (g.W.Words.frames_of c.args.words.now d) (g.W.Words.grants_of c.args.words.now d) l.map) turn.access turn.done (map_left (g.W.Words.frames_of c.args.words.now d) (g.W.Words.grants_of c.args.words.now d) c.step-turn.new.self)) l.whose c.step-turn.ensures.advances in
    λ ring event. ring_holds frames grants l _ turn.access turn.done (map_left frames grants c.step-turn.new.self) c.requires.stage ring event c.in-Ok.hold refl refl refl (c.in-Some.is ∙ ap Some c.in-Ok.is) (c.step-turn.ensures.held l.going) at

pub returns-in-Err-clause-leads : goal.returns-in-Err-clause-leads
unfolding dom_of held_of
returns-in-Err-clause-leads g c =
    let l = c.args.self.now in
    let frames = g.W.Words.frames_of c.args.words.now (dom_of l) in
    let grants = g.W.Words.grants_of c.args.words.now (dom_of l) in
    let turn = c.step-turn.result in
    let at : Advances (map_left frames grants l.map) turn.access turn.done (map_left frames grants c.step-turn.new.self) = subst (λ d. Advances (map_left (g.W.Words.frames_of c.args.words.now d) (g.W.Words.grants_of c.args.words.now d) l.map) turn.access turn.done (map_left (g.W.Words.frames_of c.args.words.now d) (g.W.Words.grants_of c.args.words.now d) c.step-turn.new.self)) l.whose c.step-turn.ensures.advances in
    let none : has_nothing l.kept ≡ true = subst (λ s. agrees s l.kept ≡ true) c.requires.stage l.agrees in
    λ ring event. ring_refuses frames grants l _ turn.access turn.done (map_left frames grants c.step-turn.new.self) c.requires.stage ring event c.in-Err.refusal (held_nothing l.kept l.ring_page l.event_page none) (c.in-Some.is ∙ ap Some c.in-Err.is) at

pub returns-in_default-clause-dom : goal.returns-in_default-clause-dom
unfolding dom_of
returns-in_default-clause-dom g c = refl

pub returns-in-Ok-clause-dom : goal.returns-in-Ok-clause-dom
unfolding dom_of
returns-in-Ok-clause-dom g c = refl

pub returns-in-Err-clause-dom : goal.returns-in-Err-clause-dom
unfolding dom_of
returns-in-Err-clause-dom g c = refl

pub returns-in-Err-clause-ends : goal.returns-in-Err-clause-ends
unfolding idle is_joined
returns-in-Err-clause-ends g c = (refl, refl)

pub returns-in_default-clause-ends : goal.returns-in_default-clause-ends
unfolding connects is_joined
returns-in_default-clause-ends g c = (ap is_in_connect c.requires.stage, refl)

pub returns-in-Ok-clause-ends : goal.returns-in-Ok-clause-ends
unfolding connects is_joined
returns-in-Ok-clause-ends g c = (refl, refl)

pub returns-in_default-clause-came : goal.returns-in_default-clause-came
unfolding rings
returns-in_default-clause-came g c = ap (λ (s : Stage). ring_comes s c.args.self.now.kept) c.requires.stage

pub returns-in-Ok-clause-came : goal.returns-in-Ok-clause-came
unfolding rings
returns-in-Ok-clause-came g c = refl
