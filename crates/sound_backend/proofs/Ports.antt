-- Ports that answer any access.
use Rattle.pv_words.specs.Plan.{Want}
use Rattle.pv_words.proofs.Plans as plans
use Rattle.device_core.specs.Order.{Order, Act, Either, Rest, Rules, Stand, Between, During, Telling, MayChoose, MayStep}

-- where every access may be made, every step of a device may
pub may_any : {W O : Type 0} (r : Rules W O) (x : Stand W O) → MayStep (λ want. Unit {0}) r x
may_any r (Between w) = chosen (r.choice w)
  where
    chosen : {W O : Type 0} (c : Order W O) → MayChoose (λ want. Unit {0}) c
    chosen (Act v p) = plans.may_any p
    chosen (Either v p u q) = (plans.may_any p, plans.may_any q)
    chosen (Rest v) = tt
may_any r (During w p) = plans.may_any p
may_any r (Telling t w o) = tt
