-- What a scan comes to.
use Rattle.std.specs.Prelude.{◌≡◌, ℕ, zero, suc, ◌+◌, ◌*◌, List, [], ◌∷◌, ◌++◌, length, slice_get, Some}
use Rattle.pv_words.specs.declared.grant.Hold.{Hold}
use Rattle.pv_words.specs.declared.place.Place.{Place}
use Rattle.pv_words.specs.Held.{holds_of}
use Rattle.pv_words.specs.Mark.{mark_of}
use Rattle.pv_words.specs.Plan.{Want, Load, Note, Takes, FitsFrom}
use Rattle.device_core.specs.Learned.{Learned, learning}
use Rattle.device_core.specs.Names.{cells_of}
use Rattle.device_core.specs.Touched.{Carried, Touch, Took, carrying}
use Rattle.picture_scan.specs.declared.scan.Shown.{Shown}
use Rattle.picture_scan.specs.declared.shape.Shape.{Shape}
use Rattle.picture_scan.specs.Rectangle.{row_pixels, row_words}
use Rattle.picture_scan.specs.Scan.{LiesIn}
use Rattle.picture_scan.specs.Scanning.{scan_plan}

-- these words of the name of this key, in order, were taken, and were these
abbrev pub taken : (key : ℕ) → List ℕ → List ℕ → List Touch
taken key [] words = []
taken key (i ∷ is) [] = []
taken key (i ∷ is) (v ∷ vs) = Took (record { number = key; index = i; word = v }) ∷ taken key is vs

-- So many rows were read, from this one of the buffer on: row by row each word that has an octet of the row's pixels was taken, in
-- order, each once in this row, and the pixels are, row by row, those of the words that were found for this row.
abbrev pub AreRead : Shape → (key row rows : ℕ) → List Touch → List ℕ → Type 0
AreRead s key row zero touched pixels = (touched ≡ []) × (pixels ≡ [])
AreRead s key row (suc n) touched pixels =
    (words : List ℕ) × (later : List Touch) × (others : List ℕ) × (length words ≡ length (row_words s row))
    × (touched ≡ taken key (row_words s row) words ++ later) × (pixels ≡ row_pixels s row words ++ others)
    × AreRead s key (row + 1) n later others

-- what is shown are the rectangle's pixels, row by row, as the words were found that were taken
pub record IsShown (s : Shape) (key : ℕ) (touched : List Touch) (x : Shown) : Type 0 where
  pub pixels : List ℕ
  pub read : AreRead s key s.y s.rows touched pixels
  pub count : x.pixels ≡ length pixels
  pub all : length pixels ≡ s.columns * s.rows
  pub mark : x.mark ≡ mark_of pixels

-- a load of a word of these pages, which takes that word of the name of this key
pub record IsTaking (pages : List Hold) (key : ℕ) (want : Want) (note : Note) : Type 0 where
  pub index : ℕ
  pub at : Place
  pub loads : want ≡ Load at
  pub takes : note ≡ Takes key index
  pub is : slice_get (cells_of pages) index ≡ Some at

-- a device holds just these pages
abbrev pub HasHeld : List Hold → Carried Learned → Type 0
HasHeld held k = k.own.holds ≡ holds_of held

-- more words were taken since, by which this is shown
abbrev pub HasShown : Shape → (key : ℕ) → (before after : List Touch) → Shown → Type 0
HasShown s key before after x = (touched : List Touch) × (after ≡ before ++ touched) × IsShown s key touched x

-- Whatever words a scan finds, each of its accesses takes a word of the buffer's pages, it holds what it held, and it shows the
-- pixels of the rectangle as the words were found.
abbrev pub ShowsExactly : Type 0
ShowsExactly =
    (frames : ℕ → ℕ) (s : Shape) (pages held : List Hold) (key : ℕ) (k : Carried Learned) → LiesIn pages s → HasHeld held k
    → FitsFrom (λ j want note. HasHeld held j × IsTaking pages key want note) (carrying (learning frames))
    (λ j x. HasHeld held j × HasShown s key k.touched j.touched x) k (scan_plan s pages key)
