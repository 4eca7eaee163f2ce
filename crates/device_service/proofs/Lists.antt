-- Lists of which one element is changed.
use Rattle.std.proofs.Common.{◌≡◌, ◌≢◌, ◌⊎◌, inl, inr, ℕ, zero, suc, ◌+◌, ◌-◌, ◌<◌, ◌≤◌, ◌++◌, List, [], ◌∷◌, Some, length, map, take, drop, slice_get, slice_set, refl, sym, ap, ◌∙◌, arith}

pub same_or_not : (i k : ℕ) → (i ≡ k) ⊎ (i ≢ k)
same_or_not zero zero = inl refl
same_or_not zero (suc k) = inr (omega arith)
same_or_not (suc i) zero = inr (omega arith)
same_or_not (suc i) (suc k) = elim (same_or_not i k) [ inl e ↦ inl (ap suc e) | inr n ↦ inr (λ e. n (omega arith)) ]

module _ {A : Type 0} where
  some_in : (x y : A) → Some x ≡ Some y → x ≡ y
  some_in x y e = cc

  pub get_set : (xs : List A) (i : ℕ) (x : A) → i < length xs → slice_get (slice_set xs i x) i ≡ Some x
  get_set [] i x h = absurd (omega arith)
  get_set (y ∷ ys) zero x h = refl
  get_set (y ∷ ys) (suc i) x h = get_set ys i x (omega arith)

  pub get_set_other : (xs : List A) (i j : ℕ) (x : A) → j ≢ i → slice_get (slice_set xs i x) j ≡ slice_get xs j
  get_set_other [] i j x n = refl
  get_set_other (y ∷ ys) zero zero x n = absurd (n refl)
  get_set_other (y ∷ ys) zero (suc j) x n = refl
  get_set_other (y ∷ ys) (suc i) zero x n = refl
  get_set_other (y ∷ ys) (suc i) (suc j) x n = get_set_other ys i j x (λ e. n (ap suc e))

  pub within : (xs : List A) (i : ℕ) (x : A) → slice_get xs i ≡ Some x → i < length xs
  within [] i x e = let wrong : ⊥ = cc in absurd wrong
  within (y ∷ ys) zero x e = omega arith
  within (y ∷ ys) (suc i) x e = let h = within ys i x e in omega arith

  pub got : (xs : List A) (i : ℕ) → i < length xs → (x : A) × (slice_get xs i ≡ Some x)
  got [] i h = absurd (omega arith)
  got (y ∷ ys) zero h = (y, refl)
  got (y ∷ ys) (suc i) h = got ys i (omega arith)

  -- an element that looks the same changes nothing of what is seen
  pub map_set_same : {B : Type 0} (f : A → B) (xs : List A) (i : ℕ) (x y : A) → slice_get xs i ≡ Some x → f y ≡ f x → map f (slice_set xs i y) ≡ map f xs
  map_set_same f [] i x y e h = refl
  map_set_same f (z ∷ zs) zero x y e h = let same : z ≡ x = cc in ap (λ b. b ∷ map f zs) (h ∙ ap f (sym same))
  map_set_same f (z ∷ zs) (suc i) x y e h = ap (λ bs. f z ∷ bs) (map_set_same f zs i x y e h)

  pub map_set : {B : Type 0} (f : A → B) (xs : List A) (i : ℕ) (y : A) → map f (slice_set xs i y) ≡ slice_set (map f xs) i (f y)
  map_set f [] i y = refl
  map_set f (z ∷ zs) zero y = refl
  map_set f (z ∷ zs) (suc i) y = ap (λ bs. f z ∷ bs) (map_set f zs i y)

  pub get_map : {B : Type 0} (f : A → B) (xs : List A) (i : ℕ) (x : A) → slice_get xs i ≡ Some x → slice_get (map f xs) i ≡ Some (f x)
  get_map f [] i x e = let wrong : ⊥ = cc in absurd wrong
  get_map f (z ∷ zs) zero x e = let same : z ≡ x = cc in ap (λ b. Some (f b)) same
  get_map f (z ∷ zs) (suc i) x e = get_map f zs i x e

  -- the elements from a place on
  pub drop_get : (xs : List A) (i : ℕ) (x : A) → slice_get xs i ≡ Some x → drop i xs ≡ x ∷ drop (i + 1) xs
  drop_get [] i x e = let wrong : ⊥ = cc in absurd wrong
  drop_get (z ∷ zs) zero x e = let same : z ≡ x = cc in ap (λ y. y ∷ zs) same
  drop_get (z ∷ zs) (suc i) x e =
      let rest : drop i zs ≡ x ∷ drop (i + 1) zs = drop_get zs i x e in
      let one : suc i + 1 ≡ suc (i + 1) = omega arith in
      rest ∙ ap (λ n. x ∷ drop n (z ∷ zs)) (sym one)

  pub drop_past : (xs : List A) (i : ℕ) → length xs ≤ i → drop i xs ≡ []
  drop_past [] zero h = refl
  drop_past [] (suc i) h = refl
  drop_past (z ∷ zs) zero h = absurd (omega arith)
  drop_past (z ∷ zs) (suc i) h = drop_past zs i (omega arith)

  pub take_past : (xs : List A) (i : ℕ) → length xs ≤ i → take i xs ≡ xs
  take_past [] zero h = refl
  take_past [] (suc i) h = refl
  take_past (z ∷ zs) zero h = absurd (omega arith)
  take_past (z ∷ zs) (suc i) h = ap (λ ys. z ∷ ys) (take_past zs i (omega arith))

  pub take_more_of : (xs : List A) (i : ℕ) (x : A) → slice_get xs i ≡ Some x → take (i + 1) xs ≡ take i xs ++ x ∷ []
  take_more_of [] i x e = let wrong : ⊥ = cc in absurd wrong
  take_more_of (z ∷ zs) zero x e = let same : z ≡ x = cc in ap (λ y. y ∷ []) same
  take_more_of (z ∷ zs) (suc i) x e =
      let one : suc i + 1 ≡ suc (i + 1) = omega arith in
      ap (λ n. take n (z ∷ zs)) one ∙ ap (λ ys. z ∷ ys) (take_more_of zs i x e)

  pub same_at : (xs : List A) (i j : ℕ) (x y : A) → i ≡ j → slice_get xs i ≡ Some x → slice_get xs j ≡ Some y → x ≡ y
  same_at xs i j x y same e f = some_in x y (sym e ∙ (ap (slice_get xs) same ∙ f))

  pub get_left : (xs ys : List A) (i : ℕ) (x : A) → slice_get xs i ≡ Some x → slice_get (xs ++ ys) i ≡ Some x
  get_left [] ys i x e = let wrong : ⊥ = cc in absurd wrong
  get_left (z ∷ zs) ys zero x e = e
  get_left (z ∷ zs) ys (suc i) x e = get_left zs ys i x e

  pub get_right : (xs ys : List A) (i : ℕ) → length xs ≤ i → slice_get (xs ++ ys) i ≡ slice_get ys (i - length xs)
  get_right [] ys i h = let same : i ≡ i - 0 = omega arith in ap (slice_get ys) same
  get_right (z ∷ zs) ys zero h = absurd (omega arith)
  get_right (z ∷ zs) ys (suc i) h = let same : i - length zs ≡ suc i - suc (length zs) = omega arith in get_right zs ys i (omega arith) ∙ ap (slice_get ys) same

  pub get_push : (xs : List A) (i : ℕ) (y x : A) → slice_get (xs ++ y ∷ []) i ≡ Some x → (slice_get xs i ≡ Some x) ⊎ (y ≡ x)
  get_push [] zero y x e = inr (some_in y x e)
  get_push [] (suc i) y x e = let wrong : ⊥ = cc in absurd wrong
  get_push (z ∷ zs) zero y x e = inl e
  get_push (z ∷ zs) (suc i) y x e = get_push zs i y x e
