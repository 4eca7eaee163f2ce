use Rattle.link_core.specs.declared.link.Stage.{Stage}
use Rattle.std.proofs.Common.{◌≡◌, true, None, refl, ap, subst, arith, sym, ◌∙◌}
use Rattle.pv_words.specs.Plan.{MayGo}
use Rattle.link_core.specs.Link.{dom_of, held_of, is_joined, idle, connect_left, connect_rest, connects, rings}
use Rattle.link_core.specs.Stage.{agrees, held_in, ring_in, has_ring_alone}
use Rattle.link_core.proofs.Connects.{index_refuses, index_goes_on}
use Rattle.link_core.proofs.Links.{ring_alone}
use Rattle.link_core.proofs.Stays.{in_alone}
use Rattle.link_core.proofs.link.Link.rsp_step.Goals as goal

pub returns-then-not-known-clause-stays : goal.returns-then-not-known-clause-stays
unfolding held_of
returns-then-not-known-clause-stays g c = in_alone c.args.self.now.kept c.args.self.now.ring_page c.args.self.now.event_page (subst (λ s. agrees s c.args.self.now.kept ≡ true) c.requires.stage c.args.self.now.agrees)

pub returns-clause-stays : goal.returns-clause-stays
unfolding held_of
returns-clause-stays g c = in_alone c.args.self.now.kept c.args.self.now.ring_page c.args.self.now.event_page (subst (λ s. agrees s c.args.self.now.kept ≡ true) c.requires.stage c.args.self.now.agrees)

pub load-rsp-requires : goal.load-rsp-requires
unfolding connect_left dom_of
load-rsp-requires g c =
    let l = c.args.self.now in
    let frames = g.W.Words.frames_of c.args.words.now (dom_of l) in
    let grants = g.W.Words.grants_of c.args.words.now (dom_of l) in
    subst (λ s. MayGo (g.W.Words.may c.args.words.now) (connect_rest frames grants None c.args.event.0 l s)) c.requires.stage c.requires.may

pub returns-then-not-known-clause-leads : goal.returns-then-not-known-clause-leads
unfolding dom_of held_of
returns-then-not-known-clause-leads g c =
    let l = c.args.self.now in
    let frames = g.W.Words.frames_of c.args.words.now (dom_of l) in
    let grants = g.W.Words.grants_of c.args.words.now (dom_of l) in
    let alone : has_ring_alone l.kept ≡ true = subst (λ s. agrees s l.kept ≡ true) c.requires.stage l.agrees in
    λ ring. index_refuses frames grants l l c.requires.stage c.load-rsp.result ring c.args.event.0 (held_in l.kept l.ring_page l.event_page) (ap (λ k. held_in k l.ring_page l.event_page) (ring_alone l.kept alone)) (omega (arith, c.grants.ensures, c.if-not-known.true))

pub returns-clause-leads : goal.returns-clause-leads
unfolding dom_of
returns-clause-leads g c =
    let l = c.args.self.now in
    let frames = g.W.Words.frames_of c.args.words.now (dom_of l) in
    let grants = g.W.Words.grants_of c.args.words.now (dom_of l) in
    let alone : has_ring_alone l.kept ≡ true = subst (λ s. agrees s l.kept ≡ true) c.requires.stage l.agrees in
    λ ring. index_goes_on frames grants l _ c.requires.stage c.load-rsp.result ring c.args.event.0 refl (c.new-self-2.ensures.whole frames grants) (ap (λ k. ring_in k l.ring_page) (ring_alone l.kept alone)) c.new-self.ensures (omega (arith, c.grants.ensures, c.if-not-known.false))

pub returns-then-not-known-clause-dom : goal.returns-then-not-known-clause-dom
unfolding dom_of
returns-then-not-known-clause-dom g c = refl

pub returns-clause-dom : goal.returns-clause-dom
unfolding dom_of
returns-clause-dom g c = refl

pub returns-then-not-known-clause-ends : goal.returns-then-not-known-clause-ends
unfolding idle is_joined
returns-then-not-known-clause-ends g c = (refl, refl)

pub returns-clause-ends : goal.returns-clause-ends
unfolding connects is_joined
returns-clause-ends g c = (refl, refl)

pub returns-clause-came : goal.returns-clause-came
unfolding rings
returns-clause-came g c = sym (ap (λ (s : Stage). agrees s c.args.self.now.kept) c.requires.stage) ∙ c.args.self.now.agrees
