-- Lists of pages that are held, and what becomes of them as pages are given up.
use Rattle.std.specs.Prelude.{◌≡◌, ℕ, ◌+◌, ◌<◌, List, [], ◌∷◌, ◌++◌, drop, length, map, slice_index_or, slice_set, take}
use Rattle.pv_words.specs.declared.grant.Hold.{Hold}

-- the pages of all lists, in order
abbrev pub pages_in : List (List Hold) → List Hold
pages_in [] = []
pages_in (hs ∷ lists) = hs ++ pages_in lists

-- the list at this place, from 0; another one in its place
abbrev pub list_at : List (List Hold) → ℕ → List Hold
list_at lists k = slice_index_or lists k []

abbrev pub with_list : List (List Hold) → ℕ → List Hold → List (List Hold)
with_list lists k hs = slice_set lists k hs

-- the list at this place without its first page; without any page
abbrev pub less_one : List (List Hold) → ℕ → List (List Hold)
less_one lists k = with_list lists k (drop 1 (list_at lists k))

abbrev pub bared : List (List Hold) → ℕ → List (List Hold)
bared lists k = with_list lists k []

-- no list has a page
abbrev pub all_bared : List (List Hold) → List (List Hold)
all_bared lists = map (λ _. []) lists

-- the first of all pages is gone
abbrev pub without_first : List (List Hold) → List (List Hold)
without_first [] = []
without_first ([] ∷ lists) = [] ∷ without_first lists
without_first ((h ∷ hs) ∷ lists) = hs ∷ lists

-- page i of all lists is page j of the list at place k
abbrev pub IsPage : List (List Hold) → (i k j : ℕ) → Type 0
IsPage lists i k j = (j < length (list_at lists k)) × (length (pages_in (take k lists)) + j ≡ i)
