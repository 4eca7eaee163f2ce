-- A rectangle of a buffer: rows of pixels, each of 2, 3 or 4 octets.
use Rattle.std.specs.Prelude.{◌≡◌, ℕ, zero, suc, ◌+◌, ◌*◌, ◌/◌, ◌<◌, ◌≤◌, ◌==◌, ◌||◌, Bool, true, List, [], ◌∷◌, take, drop}
use Rattle.picture_scan.specs.declared.shape.Shape.{Shape}
use Rattle.octet_window.specs.Octets.{number_of, octets_in, words_of}

abbrev pub is_depth : ℕ → Bool
is_depth bpp = (bpp == 16) || ((bpp == 24) || (bpp == 32))

-- how many octets a pixel has
abbrev pub pixel_octets : Shape → ℕ
pixel_octets s = s.bpp / 8

-- the octet at which pixel (x, y) of the buffer starts
abbrev pub pixel_first : Shape → (x y : ℕ) → ℕ
pixel_first s x y = (y * s.width + x) * pixel_octets s

-- the octet at which the rectangle's pixels of a row of the buffer start, and how many octets they have
abbrev pub row_first : Shape → ℕ → ℕ
row_first s row = pixel_first s s.x row

abbrev pub row_octets : Shape → ℕ
row_octets s = s.columns * pixel_octets s

-- the words that have these octets, in order
abbrev pub row_words : Shape → ℕ → List ℕ
row_words s row = words_of (row_first s row) (row_octets s)

-- so many pixels, each the number of the next octets
abbrev pub pixels_in : (size count : ℕ) → List ℕ → List ℕ
pixels_in size zero octets = []
pixels_in size (suc n) octets = number_of (take size octets) ∷ pixels_in size n (drop size octets)

-- the rectangle's pixels of a row, where its words, in order, are these
abbrev pub row_pixels : Shape → (row : ℕ) → (words : List ℕ) → List ℕ
row_pixels s row words = pixels_in (pixel_octets s) s.columns (octets_in (row_first s row) (row_octets s) words)

-- how many octets the buffer's rows have, down to the last that the rectangle has
abbrev pub rows_octets : Shape → ℕ
rows_octets s = (s.y + s.rows) * s.width * pixel_octets s

-- The rectangle has a pixel and is as wide as the buffer at most, and its rows lie in so many octets.
pub record IsWithin (octets : ℕ) (s : Shape) : Type 0 where
  pub depth : is_depth s.bpp ≡ true
  pub columns : 0 < s.columns
  pub rows : 0 < s.rows
  pub across : s.x + s.columns ≤ s.width
  pub down : rows_octets s ≤ octets
