use Rattle.std.proofs.Common.{sym, ap, ◌∙◌, subst, map, false, None}
use Rattle.multitouch.specs.Known.{Known, group_of}
use Rattle.multitouch.specs.Sound.{IsSound}
use Rattle.multitouch.proofs.Soundness.{sound_at_rest}
use Rattle.multitouch.proofs.contacts.Contacts.clear.Goals as goal

pub invariant_of-self : goal.invariant_of-self
invariant_of-self c = (
  ap (λ q. q.capacity) c.clear.ensures ∙ c.self.invariant.0,
  subst (λ (k : Known). IsSound k)
      (sym (λ i. record { real = c.new-self-inside.ensures i; told = c.new-self-inside-2.ensures i; queue = map group_of (c.clear.ensures i).items; gap = false; under_way = None })) sound_at_rest,
)
