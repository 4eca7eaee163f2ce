-- The pages of a service, then those of the parts.
use Rattle.std.proofs.Common.{◌≡◌, ℕ, zero, suc, ◌+◌, ◌-◌, ◌<◌, ◌≤◌, List, [], ◌∷◌, ◌++◌, length, slice_get, Some, length-append, ap, ◌∙◌, arith}

module _ {A : Type 0} where
  get_left : (xs ys : List A) (i : ℕ) (x : A) → slice_get xs i ≡ Some x → slice_get (xs ++ ys) i ≡ Some x
  get_left [] ys i x e = let wrong : ⊥ = cc in absurd wrong
  get_left (y ∷ xs) ys zero x e = e
  get_left (y ∷ xs) ys (suc i) x e = get_left xs ys i x e

  get_right : (xs ys : List A) (i : ℕ) → slice_get (xs ++ ys) (length xs + i) ≡ slice_get ys i
  get_right [] ys i = let e : 0 + i ≡ i = omega arith in ap (slice_get ys) e
  get_right (x ∷ xs) ys i = let e : suc (length xs) + i ≡ suc (length xs + i) = omega arith in ap (slice_get ((x ∷ xs) ++ ys)) e ∙ get_right xs ys i

module _ {A : Type 0} (hs ks : List A) (n : ℕ) (e : n ≡ length hs) where
  -- how many they are
  pub count_both : (m : ℕ) → m ≡ length ks → n + m ≡ length (hs ++ ks)
  count_both m f = omega (arith, e, f, length-append hs ks)

  -- the page at a place of them
  pub at_first : (i : ℕ) (h : A) → slice_get hs i ≡ Some h → slice_get (hs ++ ks) i ≡ Some h
  at_first i h g = get_left hs ks i h g

  pub at_second : (i : ℕ) (h : A) → n ≤ i → slice_get ks (i - n) ≡ Some h → slice_get (hs ++ ks) i ≡ Some h
  at_second i h past g =
      let place : i ≡ length hs + (i - n) = omega (arith, e, past) in
      ap (slice_get (hs ++ ks)) place ∙ (get_right hs ks (i - n) ∙ g)

  pub within_second : (i : ℕ) → n ≤ i → i < length (hs ++ ks) → i - n < length ks
  within_second i past lt = omega (arith, e, past, lt, length-append hs ks)
