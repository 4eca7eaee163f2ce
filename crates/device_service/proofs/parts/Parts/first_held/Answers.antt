use Rattle.std.proofs.Common.{◌≡◌, ◌<◌, inl, inr, length, refl, ap, ◌∙◌, arith}
use Rattle.link_core.specs.declared.link.Link.{Link}
use Rattle.link_core.specs.Link.{held_of}
use Rattle.device_service.proofs.Lists.{same_or_not, same_at, within}
use Rattle.device_service.proofs.Holding.Held.{here}
use Rattle.device_service.proofs.parts.Parts.first_held.Goals as goal

pub loop-part-init : goal.loop-part-init
loop-part-init c = λ i b lt e. absurd (omega (arith, lt))

pub loop-part-preserved : goal.loop-part-preserved
loop-part-preserved c = λ i b lt e.
    let d = c.args.self.now in
    let part = c.loop-part.part in
    let short : part < length d.links.items = omega arith in
    let at = here d.links.items part c.index.result.now _ short c.index.ensures in
    elim (same_or_not i part) [
      | inl same ↦
          let is : b ≡ c.index.result.now = same_at d.links.items i part b c.index.result.now same e at in
          let none : length (held_of c.index.result.now) ≡ 0 = omega (arith, c.held.ensures, c.if-held-gt0.false) in
          ap (λ (l : Link). length (held_of l)) is ∙ none
      | inr other ↦ c.loop-part.invariant i b (omega (arith, lt, other)) e
    ]

pub returns-then-held-gt0-clause-before : goal.returns-then-held-gt0-clause-before
returns-then-held-gt0-clause-before c = c.loop-part.invariant

pub returns-then-held-gt0-clause-here : goal.returns-then-held-gt0-clause-here
returns-then-held-gt0-clause-here c = λ l e.
    let d = c.args.self.now in
    let part = c.loop-part.part in
    let short : part < length d.links.items = omega arith in
    let at = here d.links.items part c.index.result.now _ short c.index.ensures in
    let is : length (held_of c.index.result.now) ≡ length (held_of l) = ap (λ (x : Link). length (held_of x)) (same_at d.links.items part part c.index.result.now l refl at e) in
    omega (arith, c.held.ensures, c.if-held-gt0.true, is)

pub returns-clause-before : goal.returns-clause-before
returns-clause-before c = λ i l lt e. c.loop-part.invariant i l (omega (arith, lt, within c.args.self.now.links.items i l e)) e

pub returns-clause-here : goal.returns-clause-here
returns-clause-here c = λ l e. let lt = within c.args.self.now.links.items _ l e in absurd (omega (arith, lt))
