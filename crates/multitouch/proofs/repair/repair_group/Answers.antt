use Rattle.std.proofs.Common.{◌++◌, ◌∷◌, [], true, false, ap, ◌∙◌, map, append_assoc}
use Rattle.kbd_wire.specs.declared.Event.TheVariants.{Key, Syn}
use Rattle.multitouch.specs.Repair.{codes_without, items_below}
use Rattle.multitouch.proofs.repair.repair_group.Goals as goal

pub returns : goal.returns
returns c =
    let told = c.args.told.now in
    let real = c.args.real.now in
    let lifted = map (Key false) (codes_without told.keys real.keys) in
    let pressed = map (Key true) (codes_without real.keys told.keys) in
    let contacts = items_below told.contacts real.contacts 16 in
    c.push.ensures
    ∙ ap (λ es. es ++ Syn ∷ []) (
    c.push_contacts.ensures.contacts
    ∙ ap (λ es. es ++ contacts) (c.push_keys-2.ensures.keys ∙ ap (λ es. es ++ pressed) (c.push_keys.ensures.keys ∙ ap (λ es. es ++ lifted) c.new-group.ensures))
    ∙ append_assoc lifted pressed contacts)
