-- An element of two lists that are joined.
use Rattle.std.proofs.Common.{◌≡◌, ℕ, zero, suc, ◌+◌, ◌<◌, List, [], ◌∷◌, ◌++◌, length, slice_get, refl, ap, arith}

module _ {X : Type 0} where
  pub get_first : (xs ys : List X) (i : ℕ) → i < length xs → slice_get (xs ++ ys) i ≡ slice_get xs i
  get_first [] ys i within = absurd (omega (arith, within))
  get_first (x ∷ xs) ys zero within = refl
  get_first (x ∷ xs) ys (suc i) within = get_first xs ys i (omega (arith, within))

  pub get_second : (xs ys : List X) (i j : ℕ) → i ≡ length xs + j → slice_get (xs ++ ys) i ≡ slice_get ys j
  get_second [] ys i j at = let e : i ≡ j = omega (arith, at) in ap (slice_get ys) e
  get_second (x ∷ xs) ys zero j at = absurd (omega (arith, at))
  get_second (x ∷ xs) ys (suc i) j at = get_second xs ys i j (omega (arith, at))
