-- What a word that was loaded makes of a scan.
use Rattle.std.specs.Prelude.{◌≡◌, ℕ, ◌+◌, ◌/◌, ◌<◌, List, Option, Some, None, is_some, length}
use Rattle.pv_words.specs.declared.access.Access.{Access}
use Rattle.pv_words.specs.declared.access.Access.TheVariants as access
use Rattle.pv_words.specs.declared.grant.Hold.{Hold}
use Rattle.pv_words.specs.Plan.{Plan, Finished, IsUnfinished, Turns}
use Rattle.picture_scan.specs.declared.scan.Scan.{Scan}
use Rattle.picture_scan.specs.declared.scan.Shown.{Shown}
use Rattle.picture_scan.specs.Scan.{key_of, left_of, shape_of, is_over}
use Rattle.octet_window.specs.Pages.{word_place}
use Rattle.picture_scan.specs.Scanning.{rows_plan}

-- a load of this word, of the word of a buffer with these pages that is next, leads on so
abbrev pub TurnsBy : List Hold → (index word : ℕ) → (old : Scan) → Option Shown → (new : Scan) → Type 0
TurnsBy pages index word old done new =
    Turns (left_of pages old) (Some (access.Load (word_place pages index) word)) done (left_of pages new)

-- this is left, or it was over with this
abbrev pub IsLeft : Plan Shown → Option Shown → Plan Shown → Type 0
IsLeft p None new = (new ≡ p) × IsUnfinished new
IsLeft p (Some x) new = p ≡ Finished x

-- the row is read, and those behind it are left
abbrev pub EndsRow : List Hold → (old : Scan) → Option Shown → (new : Scan) → Type 0
EndsRow pages old done new =
    IsLeft (rows_plan old.shape pages old.key (old.row + 1) old.rows old.pixels.mark) done (left_of pages new)

-- the same rectangle of the same buffer, and it is read where there is something to show
pub record GoesOn (old : Scan) (done : Option Shown) (new : Scan) : Type 0 where
  pub shape : shape_of new ≡ shape_of old
  pub key : key_of new ≡ key_of old
  pub over : is_over new ≡ is_some done

-- a load of a word of one of these pages
pub record IsInPages (pages : List Hold) (a : Access) : Type 0 where
  pub index : ℕ
  pub word : ℕ
  pub inside : index / 1024 < length pages
  pub is : a ≡ access.Load (word_place pages index) word
