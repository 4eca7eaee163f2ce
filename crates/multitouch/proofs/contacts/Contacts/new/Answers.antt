use Rattle.std.proofs.Common.{sym, ap, subst, map, false, None}
use Rattle.multitouch.specs.Known.{Known, group_of}
use Rattle.multitouch.specs.Sound.{IsSound}
use Rattle.multitouch.proofs.Soundness.{sound_at_rest}
use Rattle.multitouch.proofs.contacts.Contacts.new.Goals as goal

pub invariant_of-result : goal.invariant_of-result
invariant_of-result c = (
  ap (λ q. q.capacity) c.in_ok-queue.ensures,
  subst (λ (k : Known). IsSound k)
      (sym (λ i. record { real = c.new.ensures i; told = c.new-2.ensures i; queue = map group_of (c.in_ok-queue.ensures i).items; gap = false; under_way = None })) sound_at_rest,
)
