-- A port where any access may be made.
use Rattle.pv_words.specs.Plan.{Plan, Finished, Make, MayGo}

pub may_any : {A : Type 0} (p : Plan A) → MayGo (λ want. Unit {0}) p
may_any (Finished x) = tt
may_any (Make want note next) = tt
