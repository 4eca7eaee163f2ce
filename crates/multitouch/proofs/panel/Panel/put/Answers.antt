use Rattle.std.proofs.Common.{ap, ◌∙◌, arith}
use Rattle.multitouch.specs.Panel.{keys_of, with_contact}
use Rattle.multitouch.specs.Pressed.{Pressed}
use Rattle.multitouch.proofs.Slots.{contacts_of-set}
use Rattle.multitouch.proofs.panel.Panel.put.Goals as goal

pub returns : goal.returns
returns c =
    ap (λ m. record { contacts = m; keys = keys_of c.self.inside.codes.items }) (contacts_of-set c.self.inside.slots c.args.id c.args.contact (omega (arith, c.self.invariant.2, c.requires)))
    ∙ ap (λ (p : Pressed). record p { contacts = with_contact p.contacts c.args.id c.args.contact }) c.self.view_is
