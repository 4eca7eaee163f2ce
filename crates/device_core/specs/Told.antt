-- That a reading tells just what the device said and heard, in order.
use Rattle.std.specs.Prelude.{◌≡◌, List, [], ◌∷◌, ◌++◌, Option, Some, None}
use Rattle.pv_words.specs.declared.device.Said.{Said}
use Rattle.device_core.specs.Machine.{Reading, Happening, Row, Meanwhile, Refuses}
use Rattle.device_core.specs.Order.{News, Own, Spoke, Heard, Refused}

-- what a device says and hears, among all that it does, and the refusals of what it hears
abbrev pub spoken : List Own → List Own
spoken [] = []
spoken (Spoke t ∷ es) = Spoke t ∷ spoken es
spoken (Heard news ∷ es) = Heard news ∷ spoken es
spoken (Refused why ∷ es) = Refused why ∷ spoken es
spoken (e ∷ es) = spoken es

abbrev pub one_or_none : Option Own → List Own
one_or_none None = []
one_or_none (Some e) = e ∷ []

-- The same of what happens to the machine, where `tells` says of what happens to the rows whether it is something that was said
-- or heard, and what.
abbrev pub told_by : {E : Type 0} → (E → Option Own) → List (Happening E) → List Own
told_by tells [] = []
told_by tells (Row e words ∷ hs) = one_or_none (tells e) ++ told_by tells hs
told_by tells (Meanwhile e ∷ hs) = one_or_none (tells e) ++ told_by tells hs
told_by tells (Refuses why ∷ hs) = Refused why ∷ told_by tells hs
told_by tells (h ∷ hs) = told_by tells hs

-- what is said and heard happens to the rows as such, and an activity's beginning is neither
pub record TellsAll {S W O N R E : Type 0} (d : Reading S W O N R E) (tells : E → Option Own) : Type 0 where
  pub said : (w : W) (o : O) (s : S) (t : Said) → tells (d.event w o s t) ≡ Some (Spoke t)
  pub heard : (news : News) → tells (d.heard news) ≡ Some (Heard news)
  pub began : (w : W) (n : N) → told_by tells (d.began w n) ≡ []
