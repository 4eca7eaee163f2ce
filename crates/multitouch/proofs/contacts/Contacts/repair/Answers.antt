use Rattle.std.proofs.Common.{◌≡◌, sym, ap, ◌∙◌, subst, arith, length, refl}
use Rattle.multitouch.specs.Known.{Known}
use Rattle.multitouch.specs.Pressed.{after, Accepts}
use Rattle.multitouch.proofs.Mending.{repair_accepted, repair_mends}
use Rattle.multitouch.proofs.Told.{nothing_said, something_said}
use Rattle.multitouch.proofs.contacts.Contacts.repair.Goals as goal

pub returns-then-events-gt1-clause-none : goal.returns-then-events-gt1-clause-none
returns-then-events-gt1-clause-none c =
    let inside = c.self.inside in
    let count = ap length (c.events.ensures.events ∙ c.repair_group-group.ensures) in
    let more = something_said inside.told inside.real (omega (arith, count, c.if-events-gt1.true)) in
    (λ e. absurd (cc), λ same. absurd (more (ap (λ (k : Known). k.told) c.self.view_is ∙ same ∙ sym (ap (λ (k : Known). k.real) c.self.view_is))))

pub returns-then-events-gt1-clause-repairs : goal.returns-then-events-gt1-clause-repairs
returns-then-events-gt1-clause-repairs c =
    let inside = c.self.inside in
    let sound = c.self.invariant.1 in
    subst (λ (k : Known). after k.told c.repair_group-group.result ≡ k.real) c.self.view_is
    (ap (after inside.told) c.repair_group-group.ensures ∙ repair_mends inside.told inside.real sound.told sound.real)

pub returns-then-events-gt1-clause-acceptable : goal.returns-then-events-gt1-clause-acceptable
returns-then-events-gt1-clause-acceptable c =
    let inside = c.self.inside in
    subst (λ (k : Known). Accepts k.told c.repair_group-group.result) c.self.view_is
    (subst (Accepts inside.told) (sym c.repair_group-group.ensures) (repair_accepted inside.told inside.real c.self.invariant.1.real))

pub returns-else-events-gt1-clause-none : goal.returns-else-events-gt1-clause-none
returns-else-events-gt1-clause-none c =
    let inside = c.self.inside in
    let sound = c.self.invariant.1 in
    let count = ap length (c.events.ensures.events ∙ c.repair_group-group.ensures) in
    (λ e. subst (λ (k : Known). k.told ≡ k.real) c.self.view_is (nothing_said inside.told inside.real sound.told sound.real (omega (arith, count, c.if-events-gt1.false))), λ same. refl)
