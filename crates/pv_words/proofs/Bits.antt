-- Masks that have bits in common.
use Rattle.std.proofs.Common.{◌≡◌, ℕ, zero, suc, ◌+◌, ◌-◌, ◌^◌, ◌<◌, ◌≤◌, ◌==◌, ◌&&◌, false, bit_and, bit_xor, refl, sym, ◌∙◌, ap, arith}
use Rattle.std.specs.Int.Bits.{and_zero_r}
use Rattle.std.proofs.lemmas.Bool.Decides.{nat_tests}
use Rattle.std.proofs.lemmas.Nat.{and_le_r, and_comm, and_assoc, and-not}
use Rattle.pv_words.specs.Memory.{without}

-- a word without the bits of two masks is without those of both
pub both_clear : (x m a b : ℕ) → m < 512 → a < 512 → bit_and m a ≡ a → bit_and m (511 - a) ≡ b → bit_and x a ≡ 0 → bit_and x b ≡ 0 → bit_and x m ≡ 0
both_clear x m a b small_m small_a in_a in_b no_a no_b =
    let y = bit_and x m in
    let small : bit_and x m ≤ m = and_le_r x m in
    let e : bit_and (2 ^ 9 - 1 - a) y + bit_and a y ≡ y = and-not 9 a y small_a (omega (arith, small)) in
    let one : bit_and a y ≡ 0 = and_comm a y ∙ (and_assoc a x m ∙ (ap (bit_and x) in_a ∙ no_a)) in
    let two : bit_and (511 - a) y ≡ 0 = and_comm (511 - a) y ∙ (and_assoc (511 - a) x m ∙ (ap (bit_and x) in_b ∙ no_b)) in
    omega (arith, e, one, two)

-- a word without the bits of a mask is without those of a part of it
pub part_clear : (x m a : ℕ) → bit_and m a ≡ a → bit_and x m ≡ 0 → bit_and x a ≡ 0
part_clear x m a in_a none = ap (bit_and x) (sym in_a) ∙ (sym (and_assoc a x m) ∙ ap (λ y. bit_and y a) none)

-- one test in place of two
pub zero_tests : (x y z : ℕ) → (x ≡ 0 → y ≡ 0) → (x ≡ 0 → z ≡ 0) → (y ≡ 0 → z ≡ 0 → x ≡ 0) → (x == 0) ≡ ((y == 0) && (z == 0))
zero_tests zero zero zero p q r = refl
zero_tests zero zero (suc z) p q r = let wrong = q refl in absurd (omega (arith, wrong))
zero_tests zero (suc y) z p q r = let wrong = p refl in absurd (omega (arith, wrong))
zero_tests (suc x) zero zero p q r = let wrong = r refl refl in absurd (omega (arith, wrong))
zero_tests (suc x) zero (suc z) p q r =
    let one : (suc x == 0) ≡ false = grind (arith, nat_tests) in
    let two : (suc z == 0) ≡ false = grind (arith, nat_tests) in
    one ∙ sym two
zero_tests (suc x) (suc y) z p q r =
    let one : (suc x == 0) ≡ false = grind (arith, nat_tests) in
    let two : (suc y == 0) ≡ false = grind (arith, nat_tests) in
    one ∙ sym (ap (λ t. t && (z == 0)) two)

pub test_280 : (w : ℕ) → (bit_and w 280 == 0) ≡ ((bit_and w 256 == 0) && (bit_and w 24 == 0))
test_280 w = zero_tests (bit_and w 280) (bit_and w 256) (bit_and w 24) (part_clear w 280 256 refl) (part_clear w 280 24 refl) (both_clear w 280 256 24 (omega arith) (omega arith) refl refl)

pub test_284 : (w : ℕ) → (bit_and w 284 == 0) ≡ ((bit_and w 4 == 0) && (bit_and w 280 == 0))
test_284 w = zero_tests (bit_and w 284) (bit_and w 4) (bit_and w 280) (part_clear w 284 4 refl) (part_clear w 284 280 refl) (both_clear w 284 4 280 (omega arith) (omega arith) refl refl)

-- a word without its in-use bits has none
pub without_used : (w : ℕ) → bit_and (without w 24) 24 ≡ 0
without_used w = and_assoc 24 w (bit_xor 24 0xFFFF_FFFF) ∙ and_zero_r w
