-- Octets that are put into a word.
use Rattle.std.proofs.Common.{◌≡◌, ℕ, zero, suc, ◌+◌, ◌<◌, ◌≤◌, List, [], ◌∷◌, ◌++◌, length, get_or, take, drop, refl, sym, ◌∙◌, ap, subst, arith}
use Rattle.std.proofs.lemmas.List.{length-append, length-take, length-drop}
use Rattle.std.proofs.Math.Seq.{take-length}
use Rattle.std.proofs.lemmas.Slice.{put_mid-paste}
use borrow.Rule.Slice.PartMut.{put_mid}
use Rattle.octet_window.specs.declared.piece.Piece.{Piece}
use Rattle.octet_window.specs.Octets.{octets_of}
use Rattle.octet_window.specs.Parts.{blended}

-- each of these numbers is an octet
abbrev pub AreOctets : List ℕ → Type 0
AreOctets xs = (i : ℕ) → get_or xs i 0 < 256

octets_append : (xs ys : List ℕ) → AreOctets xs → AreOctets ys → AreOctets (xs ++ ys)
octets_append [] ys h k i = k i
octets_append (x ∷ xs) ys h k zero = h 0
octets_append (x ∷ xs) ys h k (suc i) = octets_append xs ys (λ j. h (suc j)) k i

octets_take : (n : ℕ) (xs : List ℕ) → AreOctets xs → AreOctets (take n xs)
octets_take zero xs h i = omega arith
octets_take (suc n) [] h i = omega arith
octets_take (suc n) (x ∷ xs) h zero = h 0
octets_take (suc n) (x ∷ xs) h (suc i) = octets_take n xs (λ j. h (suc j)) i

octets_drop : (n : ℕ) (xs : List ℕ) → AreOctets xs → AreOctets (drop n xs)
octets_drop zero xs h i = h i
octets_drop (suc n) [] h i = omega arith
octets_drop (suc n) (x ∷ xs) h i = octets_drop n xs (λ j. h (suc j)) i

octets_word : (word : ℕ) → AreOctets (octets_of word)
octets_word word zero = omega arith
octets_word word (suc zero) = omega arith
octets_word word (suc (suc zero)) = omega arith
octets_word word (suc (suc (suc zero))) = omega arith
octets_word word (suc (suc (suc (suc i)))) = omega arith

put_same : (first len n word : ℕ) (all new octets : List ℕ) → first + len ≤ 4 → length octets ≡ 4 → n ≡ len → all ≡ octets_of word
    → new ≡ take len octets
    → put_mid first n all new ≡ take first (octets_of word) ++ take len octets ++ drop (first + len) (octets_of word)
put_same first len n word all new octets h l e a b =
    let long : len ≡ length new = omega (arith, length-take len octets, ap length b) in
    put_mid-paste first n all new new len refl (sym e) long
    ∙ (ap (λ xs. take first xs ++ take len new ++ drop (first + len) xs) a
    ∙ ap (λ xs. take first (octets_of word) ++ xs ++ drop (first + len) (octets_of word))
    (ap (λ k. take k new) long ∙ (take-length new ∙ b)))

pub put_length : (first len n word : ℕ) (all new octets : List ℕ) → first + len ≤ 4 → length octets ≡ 4 → n ≡ len → all ≡ octets_of word
    → new ≡ take len octets → length (put_mid first n all new) ≡ 4
put_length first len n word all new octets h l e a b =
    let W : List ℕ = octets_of word in
    let front : List ℕ = take first W in
    let mid : List ℕ = take len octets in
    let back : List ℕ = drop (first + len) W in
    ap length (put_same first len n word all new octets h l e a b)
    ∙ omega (
      arith,
      l,
      length-append
          (front ++ mid) back,
      length-append front mid,
      length-take first W,
      length-take len octets,
      length-drop (first + len) W,
    )

pub put_small : (first len n word : ℕ) (all new octets : List ℕ) → first + len ≤ 4 → length octets ≡ 4 → n ≡ len → all ≡ octets_of word
    → new ≡ take len octets → AreOctets octets → AreOctets (put_mid first n all new)
put_small first len n word all new octets f l e a b h =
    let W : List ℕ = octets_of word in
    subst AreOctets (sym (put_same first len n word all new octets f l e a b))
    (octets_append (take first W ++ take len octets) (drop (first + len) W)
    (octets_append (take first W) (take len octets) (octets_take first W (octets_word word)) (octets_take len octets h))
    (octets_drop (first + len) W (octets_word word)))

pub put_is : (p : Piece) (word : ℕ) (octets : List ℕ) (n : ℕ) (all new : List ℕ) → p.first + p.len ≤ 4 → length octets ≡ 4 → n ≡ p.len
    → all ≡ octets_of word → new ≡ take p.len octets → put_mid p.first n all new ≡ blended p word octets
put_is p word octets n all new h l e a b = put_same p.first p.len n word all new octets h l e a b
