-- The words of a rectangle are words of the pages.
use Rattle.std.proofs.Common.{◌≡◌, ℕ, zero, suc, ◌+◌, ◌-◌, ◌*◌, ◌/◌, ◌%◌, ◌<◌, ◌≤◌, List, [], ◌∷◌, ◌++◌, length, Some, slice_get, slice_index_or, refl, ◌∙◌, ap, arith}
use Rattle.std.specs.List.{AllByRecursion, range_with_len}
use Rattle.pv_words.specs.declared.grant.Hold.{Hold}
use Rattle.pv_words.specs.declared.place.Place.{Place}
use Rattle.device_core.specs.Names.{cells_from, cells_of}
use Rattle.octet_window.specs.Octets.{words_of}
use Rattle.octet_window.specs.Pages.{cell_in, no_page, word_place}

cells_length : (h : Hold) (w n : ℕ) → length (cells_from h w n) ≡ n
unfolding cells_from
cells_length h w zero = refl
cells_length h w (suc n) = omega (arith, cells_length h (w + 1) n)

cells_get : (h : Hold) (w n k : ℕ) → k < n → slice_get (cells_from h w n) k ≡ Some (cell_in h (w + k))
unfolding cells_from
cells_get h w zero k l = absurd (omega arith)
cells_get h w (suc n) zero l = let e : w ≡ w + 0 = omega arith in ap (λ x. Some (cell_in h x)) e
cells_get h w (suc n) (suc k) l =
    let e : w + 1 + k ≡ w + suc k = omega arith in
    cells_get h (w + 1) n k (omega arith) ∙ ap (λ x. Some (cell_in h x)) e

get_front : (xs ys : List Place) (k : ℕ) → k < length xs → slice_get (xs ++ ys) k ≡ slice_get xs k
get_front [] ys k l = absurd (omega arith)
get_front (x ∷ xs) ys zero l = refl
get_front (x ∷ xs) ys (suc k) l = get_front xs ys k (omega arith)

get_behind : (xs ys : List Place) (k n : ℕ) → n ≡ length xs + k → slice_get (xs ++ ys) n ≡ slice_get ys k
get_behind [] ys k n e = let same : n ≡ k = omega arith in ap (slice_get ys) same
get_behind (x ∷ xs) ys k zero e = absurd (omega arith)
get_behind (x ∷ xs) ys k (suc n) e = get_behind xs ys k n (omega arith)

-- word w of page p
page_get : (pages : List Hold) (p w i : ℕ) → w < 1024 → i ≡ 1024 * p + w → p < length pages → slice_get (cells_of pages) i ≡ Some (word_place pages i)
unfolding cells_of
page_get [] p w i l e h = absurd (omega arith)
page_get (x ∷ xs) zero w i l e h =
    let n = cells_length x 0 1024 in
    let same : 0 + i ≡ i % 1024 = omega arith in
    let first : 0 ≡ i / 1024 = omega arith in
    get_front (cells_from x 0 1024) (cells_of xs) i (omega (arith, n)) ∙ (cells_get x 0 1024 i (omega arith)
    ∙ (ap (λ y. Some (cell_in x y)) same ∙ ap (λ q. Some (cell_in (slice_index_or (x ∷ xs) q no_page) (i % 1024))) first))
page_get (x ∷ xs) (suc p) w i l e h =
    let n = cells_length x 0 1024 in
    let j : ℕ = 1024 * p + w in
    let page : j / 1024 ≡ p = omega arith in
    let word : j % 1024 ≡ i % 1024 = omega arith in
    let next : suc p ≡ i / 1024 = omega arith in
    get_behind (cells_from x 0 1024) (cells_of xs) j i (omega (arith, n))
    ∙ (page_get xs p w j l refl (omega arith)
    ∙ (ap (λ q. Some (cell_in (slice_index_or xs q no_page) (j % 1024))) page
    ∙ (ap (λ r. Some (cell_in (slice_index_or xs p no_page) r)) word
    ∙ ap (λ q. Some (cell_in (slice_index_or (x ∷ xs) q no_page) (i % 1024))) next)))

-- each of these is a word of the pages
abbrev pub AreCells : List Hold → List ℕ → Type 0
AreCells pages is = AllByRecursion (λ i. slice_get (cells_of pages) i ≡ Some (word_place pages i)) is

range_cells : (pages : List Hold) (a n : ℕ) → a + n ≤ 1024 * length pages → AreCells pages (range_with_len a n)
range_cells pages a zero h = tt
range_cells pages a (suc n) h = (page_get pages (a / 1024) (a % 1024) a (omega arith) (omega arith) (omega arith), range_cells pages (a + 1) n (omega arith))

pub words_cells : (pages : List Hold) (first count : ℕ) → first + count ≤ 4096 * length pages → AreCells pages (words_of first count)
unfolding words_of
words_cells pages first zero h = tt
words_cells pages first (suc n) h = range_cells pages (first / 4) ((first + n) / 4 + 1 - first / 4) (omega arith)
