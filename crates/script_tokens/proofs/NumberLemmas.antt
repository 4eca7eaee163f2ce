-- The value of digits, as a loop finds it.
use Rattle.std.proofs.Common.{◌≡◌, ◌≢◌, ℕ, suc, ◌+◌, ◌*◌, ◌^◌, ◌<◌, ◌≤◌, true, false, ◌&&◌, List, [], ◌∷◌, length, get_or, take, drop, Option, Some, None, refl, sym, ap, ◌∙◌, inl, inr, arith, add-one, drop-cons}
use Rattle.std.specs.Prelude.{◌==◌, option_and_then, codes}
use Rattle.std.specs.Str.{bytes_eq}
use Rattle.std.proofs.lemmas.Bool.{le-ltb, lt-ltb, cases_Bool, and_parts, eqb-true}
use Rattle.std.proofs.lemmas.Bool.Decides.{nat_tests}
use Rattle.std.proofs.lemmas.List.{get_or-take}
use Rattle.std.proofs.lemmas.List.Sums.{fails_before_first, passes_at_first}
use Rattle.std.proofs.Math.ListN.{drop_of_length-le}
use Rattle.std.proofs.Math.Nat.{mul-le-mul_left}
use Rattle.script_tokens.specs.Tokens.{is_blank}
use Rattle.script_tokens.specs.Numbers.{digit_of, value_of, digits_of, number_of, in_64_bits}
use Rattle.script_tokens.proofs.TokenLemmas.{filled, front, front_length, front_within}

some_digits : (base : ℕ) (bs : List ℕ) → length bs ≢ 0 → digits_of base bs ≡ value_of base 0 bs
unfolding digits_of
some_digits base [] some = absurd (some refl)
some_digits base (b ∷ bs) some = refl

large_digit : (base front : ℕ) (bs : List ℕ) (o : Option ℕ) → ((d : ℕ) → in_64_bits (value_of base (front * base + d) bs) ≡ None) → in_64_bits (option_and_then (λ d. value_of base (front * base + d) bs) o) ≡ None
large_digit base front bs None rest = refl
large_digit base front bs (Some d) rest = rest d

-- digits behind a large number make no small one
too_large : (base front : ℕ) (bs : List ℕ) → 0 < base → 2 ^ 64 ≤ front → in_64_bits (value_of base front bs) ≡ None
unfolding value_of
too_large base front [] pos large = rw (le-ltb front (2 ^ 64) large) refl
too_large base front (b ∷ bs) pos large = large_digit base front bs (digit_of base b) (λ d. too_large base (front * base + d) bs pos (omega (arith, mul-le-mul_left front pos)))

-- the value from the digit at i on
at_digit : (base value : ℕ) (bs : List ℕ) (i : ℕ) → i < length bs → value_of base value (drop i bs) ≡ option_and_then (λ d. value_of base (value * base + d) (drop (i + 1) bs)) (digit_of base (get_or bs i 0))
unfolding value_of
at_digit base value bs i lt = rw (add-one, drop-cons bs i 0) refl

-- the value of the digits is that of those from i on, behind those before
abbrev Same : (base value : ℕ) (bs : List ℕ) (i : ℕ) → Type 0
Same base value bs i = in_64_bits (value_of base value (drop i bs)) ≡ in_64_bits (value_of base 0 bs)

no_digit : (base value : ℕ) (bs : List ℕ) (i : ℕ) → Same base value bs i → i < length bs → None ≡ digit_of base (get_or bs i 0) → None ≡ in_64_bits (digits_of base bs)
no_digit base value bs i same lt none =
    let none_left : in_64_bits (value_of base value (drop i bs)) ≡ None = rw (at_digit base value bs i lt, sym none) refl in
    sym none_left ∙ same ∙ ap in_64_bits (sym (some_digits base bs (omega arith)))

next_digit : (base value : ℕ) (bs : List ℕ) (i d : ℕ) → Same base value bs i → i < length bs → Some d ≡ digit_of base (get_or bs i 0) → Same base (value * base + d) bs (i + 1)
next_digit base value bs i d same lt digit =
    let left : in_64_bits (value_of base value (drop i bs)) ≡ in_64_bits (value_of base (value * base + d) (drop (i + 1) bs)) = rw (at_digit base value bs i lt, sym digit) refl in
    sym left ∙ same

too_many_digits : (base value : ℕ) (bs : List ℕ) (i d : ℕ) → Same base value bs i → i < length bs → Some d ≡ digit_of base (get_or bs i 0) → 0 < base → 2 ^ 64 ≤ value * base + d → None ≡ in_64_bits (digits_of base bs)
too_many_digits base value bs i d same lt digit pos large =
    sym (too_large base (value * base + d) (drop (i + 1) bs) pos large) ∙ next_digit base value bs i d same lt digit ∙ ap in_64_bits (sym (some_digits base bs (omega arith)))

last_digit : (base value : ℕ) → value < 2 ^ 64 → Some value ≡ in_64_bits (value_of base value [])
unfolding value_of
last_digit base value small = rw (lt-ltb value (2 ^ 64) small) refl

all_digits : (base value : ℕ) (bs : List ℕ) (i : ℕ) → Same base value bs i → length bs ≤ i → length bs ≢ 0 → value < 2 ^ 64 → Some value ≡ in_64_bits (digits_of base bs)
all_digits base value bs i same le some small =
    let over : drop i bs ≡ [] = drop_of_length-le bs le in
    last_digit base value small ∙ ap (λ (r : List ℕ). in_64_bits (value_of base value r)) (sym over) ∙ same ∙ ap in_64_bits (sym (some_digits base bs some))

-- ---- the digits before the first blank

no_digits : (base : ℕ) → None ≡ digits_of base []
unfolding digits_of
no_digits base = refl

less_if_other : (a b : ℕ) → a ≤ b → (a == b) ≡ false → a < b
less_if_other a b le other = grind (arith, nat_tests)

true_is_false : true ≡ false → ⊥
true_is_false e = cc

-- an octet before which no blank stands, and is none
stands_before : (octets : List ℕ) (i : ℕ) → i ≤ filled octets → i < length octets → is_blank (get_or octets i 0) ≡ false → i < filled octets
stands_before octets i le lt fails =
    elim (cases_Bool (i == filled octets)) [
      | inl same ↦
          let e : i ≡ filled octets = eqb-true i (filled octets) same in
          let short : filled octets < length octets = omega arith in
          let passes : is_blank (get_or octets i 0) ≡ true = rw e (passes_at_first is_blank octets 0 short) in
          absurd (true_is_false (sym passes ∙ fails))
      | inr other ↦ less_if_other i (filled octets) le other
    ]

-- the first blank
ends_there : (octets : List ℕ) (i : ℕ) → i ≤ filled octets → is_blank (get_or octets i 0) ≡ true → i ≡ filled octets
ends_there octets i le passes =
    elim (cases_Bool (i == filled octets)) [
      | inl same ↦ eqb-true i (filled octets) same
      | inr other ↦
          let fails : is_blank (get_or octets i 0) ≡ false = fails_before_first is_blank octets i 0 (less_if_other i (filled octets) le other) in
          absurd (true_is_false (sym passes ∙ fails))
    ]

-- no blank is a digit
blank_is_none : (base b : ℕ) → is_blank b ≡ true → digit_of base b ≡ None
unfolding digit_of
blank_is_none base b passes =
    elim (cases_Bool (b == 32)) [
      | inl space ↦ let e : b ≡ 32 = eqb-true b 32 space in rw e refl
      | inr no_space ↦
          elim (cases_Bool (b == 9)) [
            | inl tab ↦ let e : b ≡ 9 = eqb-true b 9 tab in rw e refl
            | inr no_tab ↦
                let cr : (b == 13) ≡ true = rw (no_space, no_tab) at passes in
                let e : b ≡ 13 = eqb-true b 13 cr in
                rw e refl
          ]
    ]

digit_is_filled : (base b d : ℕ) → Some d ≡ digit_of base b → is_blank b ≡ false
digit_is_filled base b d digit =
    elim (cases_Bool (is_blank b)) [
      | inl passes ↦ let none : Some d ≡ None = digit ∙ blank_is_none base b passes in cc
      | inr fails ↦ fails
    ]

-- what the loop knows at octet i: none before it is a blank, and their value
pub record Reads (base value : ℕ) (octets : List ℕ) (i : ℕ) : Type 0 where
  pub fits : value < 2 ^ 64
  pub within : i ≤ filled octets
  pub same : Same base value (front octets) i

pub no_front_digit : (base value : ℕ) (octets : List ℕ) (i : ℕ) → Reads base value octets i → i < length octets → is_blank (get_or octets i 0) ≡ false → None ≡ digit_of base (get_or octets i 0) → None ≡ in_64_bits (digits_of base (front octets))
no_front_digit base value octets i reads lt filled_there none =
    let before : i < filled octets = stands_before octets i reads.within lt filled_there in
    let inside : i < length (front octets) = rw (front_length octets) before in
    no_digit base value (front octets) i reads.same inside (none ∙ ap (digit_of base) (sym (get_or-take (filled octets) octets i 0 before)))

pub next_front_digit : (base value : ℕ) (octets : List ℕ) (i d : ℕ) → Reads base value octets i → i < length octets → Some d ≡ digit_of base (get_or octets i 0) → value * base + d < 2 ^ 64 → Reads base (value * base + d) octets (i + 1)
next_front_digit base value octets i d reads lt digit small =
    let before : i < filled octets = stands_before octets i reads.within lt (digit_is_filled base (get_or octets i 0) d digit) in
    let inside : i < length (front octets) = rw (front_length octets) before in
    record {
      fits = small;
      within = omega arith;
      same = next_digit base value (front octets) i d reads.same inside (digit ∙ ap (digit_of base) (sym (get_or-take (filled octets) octets i 0 before)));
    }

pub too_many_front_digits : (base value : ℕ) (octets : List ℕ) (i d : ℕ) → Reads base value octets i → i < length octets → Some d ≡ digit_of base (get_or octets i 0) → 0 < base → 2 ^ 64 ≤ value * base + d → None ≡ in_64_bits (digits_of base (front octets))
too_many_front_digits base value octets i d reads lt digit pos large =
    let before : i < filled octets = stands_before octets i reads.within lt (digit_is_filled base (get_or octets i 0) d digit) in
    let inside : i < length (front octets) = rw (front_length octets) before in
    too_many_digits base value (front octets) i d reads.same inside (digit ∙ ap (digit_of base) (sym (get_or-take (filled octets) octets i 0 before))) pos large

-- the digits end before a blank, or with the octets
pub front_ends : (base value : ℕ) (octets : List ℕ) (i : ℕ) → Reads base value octets i → (i < length octets → is_blank (get_or octets i 0) ≡ true) → i ≤ length octets → i ≢ 0 → (i ≡ filled octets) × (Some value ≡ in_64_bits (digits_of base (front octets)))
front_ends base value octets i reads ends le some =
    elim (cases_Bool (i == length octets)) [
      | inl same ↦
          let e : i ≡ length octets = eqb-true i (length octets) same in
          let there : i ≡ filled octets = omega (arith, front_within octets, reads.within) in
          (there, value_there there)
      | inr other ↦
          let there : i ≡ filled octets = ends_there octets i reads.within (ends (less_if_other i (length octets) le other)) in
          (there, value_there there)
    ] where
      value_there : i ≡ filled octets → Some value ≡ in_64_bits (digits_of base (front octets))
      value_there there = all_digits base value (front octets) i reads.same (omega (arith, front_length octets)) (λ e. some (omega (arith, front_length octets))) reads.fits

-- no octet stands before the first blank
pub front_is_none : (base value : ℕ) (octets : List ℕ) (i : ℕ) → Reads base value octets i → (i < length octets → is_blank (get_or octets i 0) ≡ true) → i ≤ length octets → i ≡ 0 → None ≡ in_64_bits (digits_of base (front octets))
front_is_none base value [] i reads ends le none = ap in_64_bits (no_digits base)
front_is_none base value (b ∷ bs) i reads ends le none =
    let here : 0 < length (b ∷ bs) = omega arith in
    let first : 0 ≡ filled (b ∷ bs) = ends_there (b ∷ bs) 0 (omega arith) (rw none at ends here) in
    rw (← first) (ap in_64_bits (no_digits base))

pub front_starts : (base value : ℕ) (octets : List ℕ) (i : ℕ) → Reads base value octets i → i < length octets → None ≡ digit_of base (get_or octets i 0) → i ≡ 0 → None ≡ in_64_bits (digits_of base (front octets))
front_starts base value octets i reads lt none first =
    elim (cases_Bool (is_blank (get_or octets i 0))) [
      | inl passes ↦ front_is_none base value octets i reads (λ short. passes) (omega arith) first
      | inr fails ↦ no_front_digit base value octets i reads lt fails none
    ]

-- ---- the number before the first blank

pub hex_front : (octets : List ℕ) → bytes_eq (take 2 octets) (codes "0x") ≡ true → (number_of (front octets) ≡ digits_of 16 (front (drop 2 octets))) × (filled octets ≡ filled (drop 2 octets) + 2)
unfolding number_of
hex_front [] same = cc
hex_front (a ∷ []) same = let parts = and_parts (a == 48) false same in cc
hex_front (a ∷ b ∷ rest) same =
    let parts = and_parts (a == 48) ((b == 120) && true) same in
    let also = and_parts (b == 120) true parts.1 in
    let first : a ≡ 48 = eqb-true a 48 parts.0 in
    let second : b ≡ 120 = eqb-true b 120 also.0 in
    let n : filled (48 ∷ 120 ∷ rest) ≡ suc (suc (filled rest)) = omega arith in
    rw (first, second, n) (refl, omega arith)

pub hex_value : (octets digits : List ℕ) → bytes_eq (take 2 octets) (codes "0x") ≡ true → digits ≡ drop 2 octets → in_64_bits (digits_of 16 (front digits)) ≡ in_64_bits (number_of (front octets))
hex_value octets digits same is = ap (λ (ds : List ℕ). in_64_bits (digits_of 16 (front ds))) is ∙ ap in_64_bits (sym (hex_front octets same).0)

-- one octet is no 0x
alone : (a : ℕ) → number_of (a ∷ []) ≡ digits_of 10 (a ∷ [])
unfolding number_of
alone a =
    elim (cases_Bool (a == 48)) [
      | inl passes ↦ rw passes refl
      | inr fails ↦ rw fails refl
    ]

pub decimal_front : (octets : List ℕ) → bytes_eq (take 2 octets) (codes "0x") ≡ false → number_of (front octets) ≡ digits_of 10 (front octets)
unfolding number_of
decimal_front [] other = refl
decimal_front (a ∷ []) other =
    elim (cases_Bool (is_blank a)) [
      | inl passes ↦ let n : filled (a ∷ []) ≡ 0 = rw passes refl in rw n refl
      | inr fails ↦ let n : filled (a ∷ []) ≡ 1 = rw fails refl in rw n (alone a)
    ]
decimal_front (a ∷ b ∷ rest) other =
    elim (cases_Bool (is_blank a)) [
      | inl passes ↦ let n : filled (a ∷ b ∷ rest) ≡ 0 = rw passes refl in rw n refl
      | inr fails ↦
          elim (cases_Bool (is_blank b)) [
            | inl ends ↦ let n : filled (a ∷ b ∷ rest) ≡ 1 = rw (fails, ends) refl in rw n (alone a)
            | inr on ↦ let n : filled (a ∷ b ∷ rest) ≡ suc (suc (filled rest)) = rw (fails, on) (omega arith) in rw n (rw other refl)
          ]
    ]
