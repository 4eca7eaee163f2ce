-- What is left of a scan.
use Rattle.std.specs.Prelude.{ℕ, ◌+◌, ◌*◌, Bool, true, false, List, length, fold}
use Rattle.pv_words.specs.declared.grant.Hold.{Hold}
use Rattle.pv_words.specs.Plan.{Plan}
use Rattle.picture_scan.specs.declared.pixels.Pixels.{Pixels}
use Rattle.picture_scan.specs.declared.scan.Scan.{Scan}
use Rattle.picture_scan.specs.declared.scan.Shown.{Shown}
use Rattle.picture_scan.specs.declared.shape.Shape.{Shape}
use Rattle.octet_window.specs.Octets.{octets_in, words_of}
use Rattle.picture_scan.specs.Pixels.{fed}
use Rattle.picture_scan.specs.Rectangle.{IsWithin}
use Rattle.picture_scan.specs.Scanning.{rows_plan, take_words}

-- the rectangle that is read, and the key of the buffer's name
unfoldable pub shape_of : Scan → Shape
shape_of c = c.shape

unfoldable pub key_of : Scan → ℕ
key_of c = c.key

-- the rectangle is read
unfoldable pub is_over : Scan → Bool
is_over c = c.over

-- the rectangle's rows lie in these pages
abbrev pub LiesIn : List Hold → Shape → Type 0
LiesIn pages s = IsWithin (4096 * length pages) s

-- These many octets of a row are to come yet, from this one of the buffer on, and then so many rows from this one on.
abbrev pub left_in : Shape → List Hold → (key row rows place more : ℕ) → Pixels → (over : Bool) → Plan Shown
left_in s pages key row rows place more pixels true = rows_plan s pages key row rows pixels.mark
left_in s pages key row rows place more pixels false =
    take_words pages key (words_of place more) (λ words. rows_plan s pages key row rows (fold fed pixels (octets_in place more words)).mark)

unfoldable pub left_of : List Hold → Scan → Plan Shown
left_of pages c = left_in c.shape pages c.key (c.row + 1) c.rows c.place c.more c.pixels c.over
