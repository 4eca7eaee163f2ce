-- Pages of buffers are unmapped.
use Rattle.std.proofs.Common.{◌≡◌, ℕ, Bool, true, false, cond, List, [], ◌∷◌, refl, sym, ap}
use Rattle.display_buffers.specs.Buffers.{has_cookie}
use Rattle.display_buffers.specs.Stock.{Held, pages_under, with_pages, bared}

-- a buffer without pages stays as it is
pub bare_freed : (cookie : ℕ) (bs : List Held) → pages_under cookie bs ≡ [] → bared cookie bs ≡ bs
bare_freed cookie [] e = refl
bare_freed cookie (b ∷ bs) e = by_test (has_cookie cookie b) e (bare_freed cookie bs)
  where
    by_test : (t : Bool) → cond t b.pages (pages_under cookie bs) ≡ [] → (pages_under cookie bs ≡ [] → bared cookie bs ≡ bs) → cond t (with_pages b [] ∷ bs) (b ∷ bared cookie bs) ≡ b ∷ bs
    by_test true none later = ap (λ pages. with_pages b pages ∷ bs) (sym none)
    by_test false none later = ap (λ cs. b ∷ cs) (later none)
