-- The name of what has pages, beside other names.
use Rattle.std.proofs.Common.{◌≡◌, ℕ, ◌<◌, List, [], ◌∷◌, ◌++◌, length, refl, arith}
use Rattle.pv_words.specs.declared.grant.Hold.{Hold}
use Rattle.device_core.specs.Names.{Name, cells_of}
use Rattle.device_service.specs.Named.{named_if}

pub named_one : (pages : List Hold) (n : ℕ) → 0 < length pages → named_if pages n [] ≡ record { number = n; cells = cells_of pages } ∷ []
named_one [] n some = absurd (omega (arith, some))
named_one (h ∷ hs) n some = refl

pub named_behind : (pages : List Hold) (n : ℕ) (xs ys : List Name) → named_if pages n (xs ++ ys) ≡ named_if pages n xs ++ ys
named_behind [] n xs ys = refl
named_behind (h ∷ hs) n xs ys = refl
