-- The blocks of the declared domains.
use Rattle.std.proofs.Common.{◌≡◌, ℕ, zero, suc, ◌+◌, ◌*◌, ◌/◌, ◌≤◌, ◌==◌, ◌∙◌, sym, ap, Bool, true, false, cond, List, [], ◌∷◌, get_or, sum, sum_by, refl, arith}
use Rattle.std.proofs.lemmas.Bool.Decides.{nat_tests}
use Rattle.std.proofs.lemmas.List.{get_or_past}
use Rattle.std.proofs.lemmas.List.Sums.{sum_by-cons}
use Rattle.std.proofs.lemmas.List.Elements.{recursion_from_All}
use Rattle.std.specs.List.{AllByRecursion}
use Rattle.pv_words.specs.declared.setup.DomainSize.{DomainSize}
use Rattle.pv_words.specs.Layout.{start_of, frames_in, grants_in}
use Rattle.pv_words.specs.Sizes.{AreSizes, frames_by, grants_by, blocks_by}

cond_le : (b : Bool) (x y n : ℕ) → x ≤ n → y ≤ n → cond b x y ≤ n
cond_le true x y n h k = h
cond_le false x y n h k = k

pub frames_by-le : (ss : List DomainSize) (d : ℕ) → frames_by ss d ≤ sum_by (λ s. s.frames) ss
frames_by-le [] d = omega arith
frames_by-le (s ∷ ss) d =
    let whole = sum_by-cons (λ (t : DomainSize). t.frames) s ss in
    cond_le (s.dom.0 == d) s.frames (frames_by ss d) _ (omega (arith, whole)) (omega (arith, whole, frames_by-le ss d))

pub grants_by-le : (ss : List DomainSize) (d : ℕ) → grants_by ss d ≤ sum_by (λ s. s.grants) ss
grants_by-le [] d = omega arith
grants_by-le (s ∷ ss) d =
    let whole = sum_by-cons (λ (t : DomainSize). t.grants) s ss in
    cond_le (s.dom.0 == d) s.grants (grants_by ss d) _ (omega (arith, whole)) (omega (arith, whole, grants_by-le ss d))

-- a list of small numbers has small numbers at each place
pub small_each : (n : ℕ) (xs : List ℕ) → AllByRecursion (λ x. x ≤ n) xs → (b : ℕ) → get_or xs b 0 ≤ n
small_each n [] h b = omega arith
small_each n (x ∷ xs) h zero = h.0
small_each n (x ∷ xs) h (suc b) = small_each n xs h.1 b

pub small_blocks : (ss : List DomainSize) → AreSizes ss → (b : ℕ) → get_or (blocks_by ss) b 0 ≤ 16777216
small_blocks ss h =
    let f : (d : ℕ) → 1024 * frames_by ss d ≤ 16777216 = λ d. omega (arith, frames_by-le ss d, h.frames) in
    let g : (d : ℕ) → 2 * grants_by ss d ≤ 16777216 = λ d. omega (arith, grants_by-le ss d, h.grants) in
    small_each 16777216 (blocks_by ss) (f 0, (g 0, (f 1, (g 1, (f 2, (g 2, (f 3, (g 3, (f 4, (g 4, tt))))))))))

-- a domain of another number has nothing
pub frames_by-other : (ss : List DomainSize) (d : ℕ) → AllByRecursion (λ s. (1 ≤ s.dom.0) × (s.dom.0 ≤ 4)) ss → 5 ≤ d → frames_by ss d ≡ 0
frames_by-other [] d h l = refl
frames_by-other (s ∷ ss) d h l = let rest = frames_by-other ss d h.1 l in let here : s.dom.0 ≤ 4 = h.0.1 in grind (arith, nat_tests)

pub grants_by-other : (ss : List DomainSize) (d : ℕ) → AllByRecursion (λ s. (1 ≤ s.dom.0) × (s.dom.0 ≤ 4)) ss → 5 ≤ d → grants_by ss d ≡ 0
grants_by-other [] d h l = refl
grants_by-other (s ∷ ss) d h l = let rest = grants_by-other ss d h.1 l in let here : s.dom.0 ≤ 4 = h.0.1 in grind (arith, nat_tests)

pub frames_of_blocks : (ss : List DomainSize) → AreSizes ss → (d : ℕ) → frames_in (blocks_by ss) d ≡ frames_by ss d
frames_of_blocks ss h zero = omega arith
frames_of_blocks ss h (suc zero) = omega arith
frames_of_blocks ss h (suc (suc zero)) = omega arith
frames_of_blocks ss h (suc (suc (suc zero))) = omega arith
frames_of_blocks ss h (suc (suc (suc (suc zero)))) = omega arith
frames_of_blocks ss h (suc (suc (suc (suc (suc d))))) =
    let e : ℕ = suc (suc (suc (suc (suc d)))) in
    ap (λ n. n / 1024) (get_or_past (blocks_by ss) (2 * e) 0 (omega arith)) ∙ sym (frames_by-other ss e (recursion_from_All _ ss h.numbers) (omega arith))

pub grants_of_blocks : (ss : List DomainSize) → AreSizes ss → (d : ℕ) → grants_in (blocks_by ss) d ≡ grants_by ss d
grants_of_blocks ss h zero = omega arith
grants_of_blocks ss h (suc zero) = omega arith
grants_of_blocks ss h (suc (suc zero)) = omega arith
grants_of_blocks ss h (suc (suc (suc zero))) = omega arith
grants_of_blocks ss h (suc (suc (suc (suc zero)))) = omega arith
grants_of_blocks ss h (suc (suc (suc (suc (suc d))))) =
    let e : ℕ = suc (suc (suc (suc (suc d)))) in
    ap (λ n. n / 2) (get_or_past (blocks_by ss) (2 * e + 1) 0 (omega arith)) ∙ sym (grants_by-other ss e (recursion_from_All _ ss h.numbers) (omega arith))

-- the last block ends where the words do
pub last_ends : (ss : List DomainSize) → start_of (blocks_by ss) 9 + get_or (blocks_by ss) 9 0 ≡ sum (blocks_by ss)
last_ends ss = omega arith

pub last_start : (ss : List DomainSize) → AreSizes ss → start_of (blocks_by ss) 9 ≤ 150994944
last_start ss h =
    let f : (d : ℕ) → 1024 * frames_by ss d ≤ 16777216 = λ d. omega (arith, frames_by-le ss d, h.frames) in
    let g : (d : ℕ) → 2 * grants_by ss d ≤ 16777216 = λ d. omega (arith, grants_by-le ss d, h.grants) in
    omega (arith, f 0, f 1, f 2, f 3, f 4, g 0, g 1, g 2, g 3)
