-- The words and the octets of a range, a word at a time.
use Rattle.std.proofs.Common.{◌≡◌, ℕ, zero, suc, ◌+◌, ◌-◌, ◌*◌, ◌/◌, ◌%◌, ◌<◌, ◌≤◌, List, [], ◌∷◌, ◌++◌, length, take, drop, refl, sym, ◌∙◌, ap, arith}
use Rattle.std.specs.List.{flat_map, range_with_len}
use Rattle.std.proofs.lemmas.List.{drop-append-le, take-append-le, length-append, length-take, length-drop}
use Rattle.std.proofs.lemmas.List.FromFn.{length-range_with_len}
use Rattle.std.proofs.Math.Seq.{take-append-add, take-length}
use Rattle.octet_window.specs.Octets.{octets_in, octets_of, words_of}

range_one : (a n : ℕ) → n ≡ 1 → range_with_len a n ≡ a ∷ []
range_one a n e = ap (range_with_len a) e

range_more : (a b n m : ℕ) → n ≡ m + 1 → b ≡ a + 1 → range_with_len a n ≡ a ∷ range_with_len b m
range_more a b n m e f =
    let s : n ≡ suc m = omega arith in
    ap (range_with_len a) s ∙ ap (λ x. a ∷ range_with_len x m) (sym f)

-- a range that ends in its first word
pub words_last : (place more : ℕ) → 0 < more → place % 4 + more ≤ 4 → words_of place more ≡ place / 4 ∷ []
unfolding words_of
words_last place zero h l = absurd (omega arith)
words_last place (suc n) h l = range_one (place / 4) ((place + n) / 4 + 1 - place / 4) (omega arith)

-- and one that goes beyond it
pub words_more : (place d more m : ℕ) → place % 4 + d ≡ 4 → more ≡ d + suc m
    → words_of place more ≡ place / 4 ∷ words_of (place + d) (suc m)
unfolding words_of
words_more place d zero m e f = absurd (omega arith)
words_more place d (suc n) m e f =
    range_more (place / 4) ((place + d) / 4) ((place + n) / 4 + 1 - place / 4) ((place + d + m) / 4 + 1 - (place + d) / 4) (omega arith)
    (omega arith)

-- a range has a word
pub words_some : (place more : ℕ) → 0 < more → (is : List ℕ) × (words_of place more ≡ place / 4 ∷ is)
unfolding words_of
words_some place zero h = absurd (omega arith)
words_some place (suc n) h =
    let k = (place + n) / 4 - place / 4 in
    (range_with_len (place / 4 + 1) k, range_more (place / 4) (place / 4 + 1) ((place + n) / 4 + 1 - place / 4) k (omega arith) refl)

pub octets_last : (place more v : ℕ) (vs : List ℕ) → place % 4 + more ≤ 4
    → octets_in place more (v ∷ vs) ≡ take more (drop (place % 4) (octets_of v))
octets_last place more v vs l =
    let s : place % 4 ≤ length (octets_of v) = omega arith in
    let t : more ≤ length (drop (place % 4) (octets_of v)) = omega (arith, length-drop (place % 4) (octets_of v)) in
    ap (take more) (drop-append-le (place % 4) (octets_of v) (flat_map octets_of vs) s) ∙ take-append-le more
    (drop (place % 4) (octets_of v)) (flat_map octets_of vs) t

pub octets_more : (place d more rest v : ℕ) (vs : List ℕ) → place % 4 + d ≡ 4 → more ≡ d + rest
    → octets_in place more (v ∷ vs) ≡ take d (drop (place % 4) (octets_of v)) ++ octets_in (place + d) rest vs
octets_more place d more rest v vs e f =
    let s : place % 4 ≤ length (octets_of v) = omega arith in
    let front : List ℕ = drop (place % 4) (octets_of v) in
    let n : length front ≡ d = omega (arith, length-drop (place % 4) (octets_of v)) in
    let m : more ≡ length front + rest = omega arith in
    let z : 0 ≡ (place + d) % 4 = omega arith in
    ap (take more) (drop-append-le (place % 4) (octets_of v) (flat_map octets_of vs) s)
    ∙ (ap (λ k. take k (front ++ flat_map octets_of vs)) m
    ∙ (take-append-add front (flat_map octets_of vs) rest
    ∙ (ap (λ xs. xs ++ take rest (flat_map octets_of vs)) (sym (take-length front) ∙ ap (λ k. take k front) n)
    ∙ ap (λ k. take d front ++ take rest (drop k (flat_map octets_of vs))) z)))

length_octets : (words : List ℕ) → length (flat_map octets_of words) ≡ 4 * length words
length_octets [] = refl
length_octets (w ∷ ws) = omega (arith, length_octets ws, length-append (octets_of w) (flat_map octets_of ws))

length_words : (first n : ℕ) → length (words_of first (suc n)) ≡ (first + n) / 4 + 1 - first / 4
unfolding words_of
length_words first n = length-range_with_len (first / 4) ((first + n) / 4 + 1 - first / 4)

-- a range has as many octets as are asked for, where all its words are there
pub length_range : (first count : ℕ) (words : List ℕ) → length words ≡ length (words_of first count)
    → length (octets_in first count words) ≡ count
length_range first zero words e = refl
length_range first (suc n) words e =
    omega (
      arith,
      length_words first n,
      length_octets words,
      length-take (suc n)
          (drop (first % 4) (flat_map octets_of words)),
      length-drop (first % 4) (flat_map octets_of words),
    )
