-- Lists of which each item is replaced in turn.
use Rattle.std.proofs.Common.{◌≡◌, ℕ, zero, suc, ◌+◌, ◌<◌, ◌≤◌, List, [], ◌∷◌, ◌++◌, drop, get_or, length, map, set, take, refl, ap, ◌∙◌, arith}

-- those before k are through, and so are those before the next, once item k is replaced.
abbrev through : {X : Type 0} → (X → X) → List X → ℕ → List X
through f xs k = map f (take k xs) ++ drop k xs

pub length_through : {X : Type 0} (f : X → X) (xs : List X) (k : ℕ) → length (through f xs k) ≡ length xs
length_through f [] zero = refl
length_through f [] (suc k) = refl
length_through f (x ∷ xs) zero = refl
length_through f (x ∷ xs) (suc k) = ap suc (length_through f xs k)

set_through : {X : Type 0} (f : X → X) (xs : List X) (k : ℕ) (d : X) → k < length xs → set (through f xs k) k (f (get_or (through f xs k) k d)) ≡ through f xs (suc k)
set_through f [] k d h = absurd (omega arith)
set_through f (x ∷ xs) zero d h = refl
set_through f (x ∷ xs) (suc k) d h = ap (λ ys. f x ∷ ys) (set_through f xs k d (omega (arith, h)))

pub through_more : {X : Type 0} (f : X → X) (xs items : List X) (k : ℕ) (new d : X) → items ≡ through f xs k → k < length items → new ≡ f (get_or items k d) → set items k new ≡ through f xs (k + 1)
through_more f xs items k new d is h e =
    ap (set items k) e
    ∙ ap (λ ys. set ys k (f (get_or ys k d))) is
    ∙ set_through f xs k d (omega (arith, h, ap length is, length_through f xs k))
    ∙ (let next : suc k ≡ k + 1 = omega arith in ap (through f xs) next)

through_all : {X : Type 0} (f : X → X) (xs : List X) (k : ℕ) → length xs ≤ k → through f xs k ≡ map f xs
through_all f [] zero past = refl
through_all f [] (suc k) past = refl
through_all f (x ∷ xs) zero past = absurd (omega (arith, past))
through_all f (x ∷ xs) (suc k) past = ap (λ ys. f x ∷ ys) (through_all f xs k (omega (arith, past)))

all_through : {X : Type 0} (f : X → X) (xs items : List X) (k : ℕ) → items ≡ through f xs k → length items ≤ k → items ≡ map f xs
all_through f xs items k is past = is ∙ through_all f xs k (omega (arith, past, ap length is, length_through f xs k))

-- all items of a list that has so many
take_front : {X : Type 0} (xs ys : List X) → take (length xs) (xs ++ ys) ≡ xs
take_front [] ys = refl
take_front (x ∷ xs) ys = ap (λ zs. x ∷ zs) (take_front xs ys)

pub all_taken : {X : Type 0} (f : X → X) (xs items ys : List X) (k n : ℕ) → items ≡ through f xs k → length items ≤ k → n ≡ length xs → take n (items ++ ys) ≡ map f xs
all_taken f xs items ys k n is past long =
    let count : n ≡ length items = omega (arith, long, ap length is, length_through f xs k) in
    ap (λ m. take m (items ++ ys)) count ∙ (take_front items ys ∙ all_through f xs items k is past)
