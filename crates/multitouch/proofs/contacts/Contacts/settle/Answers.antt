use Rattle.std.proofs.Common.{sym, ap, ◌∙◌, map}
use Rattle.multitouch.specs.Known.{Known, group_of, is_caught_up}
use Rattle.multitouch.proofs.Soundness.{sound_closed}
use Rattle.multitouch.proofs.contacts.Contacts.settle.Goals as goal

pub invariant_of-self : goal.invariant_of-self
invariant_of-self c =
    let inside = c.self.inside in
    let now : Known = record { real = inside.real; told = inside.told; queue = map group_of inside.queue.items; gap = inside.has_gap; under_way = inside.under_way } in
    (c.self.invariant.0, sound_closed now c.self.invariant.1 (ap is_caught_up c.self.view_is ∙ sym c.if-is_caught_up.ensures))
