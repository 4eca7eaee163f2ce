use Rattle.std.proofs.Common.{sym, ap, ◌∙◌, arith}
use Rattle.std.specs.FinMap as map
use Rattle.multitouch.proofs.Slots.{contact_in, contact_past}
use Rattle.multitouch.proofs.panel.Panel.contact.Goals as goal

pub returns-then-id-lt-CONTACT_LIMIT : goal.returns-then-id-lt-CONTACT_LIMIT
returns-then-id-lt-CONTACT_LIMIT c = sym (contact_in c.self.inside.slots c.args.id) ∙ ap (λ p. map.get p.contacts c.args.id) c.self.view_is

pub returns-else-id-lt-CONTACT_LIMIT : goal.returns-else-id-lt-CONTACT_LIMIT
returns-else-id-lt-CONTACT_LIMIT c =
    sym (contact_past c.self.inside.slots c.args.id (omega (arith, c.self.invariant.2))) ∙ ap (λ p. map.get p.contacts c.args.id) c.self.view_is
