-- Nothing happens to a name that is gone.
use Rattle.std.specs.Prelude.{◌≡◌, ◌≢◌, ℕ, List, ◌∷◌, ◌++◌, Option, Some, None}
use Rattle.std.specs.List.{AllByRecursion}
use Rattle.device_core.specs.Machine.{Happening, Gone, Draw, Touches}
use Rattle.device_core.specs.Touched.{stroke_of}

-- The name to which something happens: a word of it is written, whoever writes; the device takes a word of it, or puts one; or it is
-- gone.
abbrev pub name_of : {E : Type 0} → Happening E → Option ℕ
name_of (Draw s) = Some s.number
name_of (Touches x) = Some (stroke_of x).number
name_of (Gone number) = Some number
name_of other = None

-- Once a name is gone, nothing happens to it.
abbrev pub NothingAfterGone : {E : Type 0} → List (Happening E) → Type 0
NothingAfterGone {E} hs =
    (before later : List (Happening E)) (number : ℕ) → hs ≡ before ++ Gone number ∷ later
    → AllByRecursion (λ h. name_of h ≢ Some number) later
