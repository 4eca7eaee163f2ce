use Rattle.std.proofs.Common.{◌≡◌, true, Some, sym, ap, ◌∙◌, subst, map}
use Rattle.multitouch.specs.Known.{Known, group_of, is_due, next_group}
use Rattle.multitouch.specs.Sound.{IsSound}
use Rattle.multitouch.proofs.Soundness.{sound_begun}
use Rattle.multitouch.proofs.contacts.Contacts.begin.Goals as goal

pub invariant_of-self : goal.invariant_of-self
invariant_of-self c =
    let inside = c.self.inside in
    let now : Known = record { real = inside.real; told = inside.told; queue = map group_of inside.queue.items; gap = inside.has_gap; under_way = inside.under_way } in
    let group : c.next_group-group.result ≡ next_group now = c.next_group-group.ensures ∙ sym (ap next_group c.self.view_is) in
    let due : is_due now ≡ true = ap is_due c.self.view_is ∙ c.requires.due in (
      c.self.invariant.0,
      subst (λ g. IsSound (record now { under_way = Some g })) (sym group) (sound_begun now c.self.invariant.1 due),
    )
