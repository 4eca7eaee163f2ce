-- Where a word of a buffer is found.
use Rattle.std.proofs.Common.{◌≡◌, ℕ, zero, suc, ◌/◌, ◌%◌, List, [], ◌∷◌, Some, slice_get, slice_index_or, ap}
use Rattle.pv_words.specs.declared.grant.Hold.{Hold}
use Rattle.pv_words.specs.declared.place.Place.TheVariants.{Cell}
use Rattle.octet_window.specs.Pages.{cell_in, no_page, word_place}

page_at : (pages : List Hold) (i : ℕ) (page : Hold) → slice_get pages i ≡ Some page → page ≡ slice_index_or pages i no_page
page_at [] i page e = let wrong : ⊥ = cc in absurd wrong
page_at (p ∷ ps) zero page e = cc
page_at (p ∷ ps) (suc i) page e = page_at ps i page e

pub place_is : (pages : List Hold) (i : ℕ) (page : Hold) → slice_get pages (i / 1024) ≡ Some page
    → Cell page.dom page.frame (i % 1024) ≡ word_place pages i
place_is pages i page e = ap (λ h. cell_in h (i % 1024)) (page_at pages (i / 1024) page e)
