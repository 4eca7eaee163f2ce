-- How a rectangle of a buffer is read: for each of its rows in order, a load of each word that has an octet of the row's pixels, in
-- order. A word that two rows share is loaded in each.
use Rattle.std.specs.Prelude.{ℕ, zero, suc, ◌+◌, ◌*◌, List, [], ◌∷◌, fold}
use Rattle.pv_words.specs.declared.grant.Hold.{Hold}
use Rattle.pv_words.specs.Mark.{mark_after}
use Rattle.pv_words.specs.Plan.{Plan, Finished, Make, Load, Takes}
use Rattle.octet_window.specs.Pages.{word_place}
use Rattle.picture_scan.specs.declared.scan.Shown.{Shown}
use Rattle.picture_scan.specs.declared.shape.Shape.{Shape}
use Rattle.picture_scan.specs.Rectangle.{row_pixels, row_words}

-- these words are loaded in order, each for the name of this key, and what they are leads on
abbrev pub take_words : {A : Type 0} → List Hold → (key : ℕ) → List ℕ → (List ℕ → Plan A) → Plan A
take_words pages key [] more = more []
take_words pages key (i ∷ is) more = Make (Load (word_place pages i)) (Takes key i) (λ v. take_words pages key is (λ vs. more (v ∷ vs)))

-- so many rows are read, from this one of the buffer on, where the pixels so far have this mark
abbrev pub rows_plan : Shape → List Hold → (key row rows mark : ℕ) → Plan Shown
rows_plan s pages key row zero mark = Finished (record { pixels = s.columns * s.rows; mark = mark })
rows_plan s pages key row (suc n) mark =
    take_words pages key (row_words s row) (λ words. rows_plan s pages key (row + 1) n (fold mark_after mark (row_pixels s row words)))

-- the rectangle is read
unfoldable pub scan_plan : Shape → List Hold → (key : ℕ) → Plan Shown
scan_plan s pages key = rows_plan s pages key s.y s.rows 0
