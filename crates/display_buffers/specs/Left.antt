-- How a store keeps what is left of each buffer's pages: the buffers with all pages, and a Release of each.
use Rattle.std.specs.Prelude.{◌≡◌, ℕ, zero, suc, ◌+◌, ◌<◌, Bool, true, false, List, [], ◌∷◌, drop, take, length, Option, Some, None}
use Rattle.std.specs.List.{AllByRecursion}
use Rattle.pv_words.specs.declared.grant.Hold.{Hold}
use Rattle.page_directory.specs.declared.release.Release.{Release}
use Rattle.page_directory.specs.Release.{left_of}
use Rattle.display_buffers.specs.Stock.{Held, buffer_pages, less_first, with_pages}

-- what the first of these Releases leaves
abbrev pub left_by : List Release → List Hold → List Hold
left_by [] pages = pages
left_by (r ∷ rs) pages = left_of r pages

-- each buffer without the pages that were given up
abbrev pub left_in : List Held → List Release → List Held
left_in [] rs = []
left_in (b ∷ bs) rs = with_pages b (left_by rs b.pages) ∷ left_in bs (drop 1 rs)

-- the pages of the buffer at this place, from 0
abbrev pub pages_at : List Held → ℕ → List Hold
pages_at [] k = []
pages_at (b ∷ bs) zero = b.pages
pages_at (b ∷ bs) (suc k) = pages_at bs k

-- the buffer at this place without its first page
abbrev pub less_at : List Held → ℕ → List Held
less_at [] k = []
less_at (b ∷ bs) zero = less_first b ∷ bs
less_at (b ∷ bs) (suc k) = b ∷ less_at bs k

-- page i of all buffers is page j of the buffer at place k
abbrev pub IsPage : List Held → (i k j : ℕ) → Type 0
IsPage bs i k j = (j < length (pages_at bs k)) × (length (buffer_pages (take k bs)) + j ≡ i)

-- the buffer at this place passes, and none before it
abbrev pub IsFirst : (Held → Bool) → List Held → ℕ → Type 0
IsFirst p [] k = ⊥
IsFirst p (b ∷ bs) zero = p b ≡ true
IsFirst p (b ∷ bs) (suc k) = (p b ≡ false) × IsFirst p bs k

-- the place of the first buffer that passes, if one does
abbrev pub Finds : (Held → Bool) → List Held → Option ℕ → Type 0
Finds p bs None = AllByRecursion (λ b. p b ≡ false) bs
Finds p bs (Some k) = IsFirst p bs k
