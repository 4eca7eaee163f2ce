-- Two places in range stand at one index only if they are one place.
use Rattle.std.proofs.Common.{◌≡◌, ℕ, zero, suc, ◌+◌, ◌<◌, ◌≤◌, ◌⊎◌, ◌&&◌, ◌==◌, ◌∙◌, ap, sym, inl, inr, Bool, cond, List, [], ◌∷◌, length, get_or, get_or-set_same, get_or-set_other, set, take, sum, true, false, refl, arith}
use Rattle.std.proofs.lemmas.Bool.{false≢true}
use Rattle.std.proofs.lemmas.List.Sums.{sum_by-cons}
use Rattle.std.proofs.lemmas.Bool.Decides.{nat_tests, Decides-eqb}
use Rattle.pv_words.specs.declared.place.Place.{Place}
use Rattle.pv_words.specs.declared.place.Place.TheVariants.{Cell, Grant}
use Rattle.pv_words.specs.declared.place.Half.{Half}
use Rattle.pv_words.specs.declared.place.Half.TheVariants.{Flags, FrameNo}
use Rattle.pv_words.specs.Layout.{start_of, block_of, offset_of, frames_in, grants_in, half_number}
use Rattle.pv_words.specs.ListWords.{index_of}
use Rattle.pv_words.specs.Place.{same_place, same_half, InRange}

-- a block ends before each later one begins
pub ends_before : (xs : List ℕ) (b c : ℕ) → b < c → sum (take b xs) + get_or xs b 0 ≤ sum (take c xs)
ends_before xs b zero h = absurd (omega arith)
ends_before [] zero (suc c) h = omega arith
ends_before [] (suc b) (suc c) h = omega arith
ends_before (x ∷ xs) zero (suc c) h = omega (arith, sum_by-cons (λ n. n) x (take c xs))
ends_before (x ∷ xs) (suc b) (suc c) h =
    omega (arith, ends_before xs b c (omega arith), sum_by-cons (λ n. n) x (take b xs), sum_by-cons (λ n. n) x (take c xs))

pub same_block : (xs : List ℕ) (b c o p : ℕ) → o < get_or xs b 0 → p < get_or xs c 0 → sum (take b xs) + o ≡ sum (take c xs) + p → (b ≡ c) ⊎ ((b < c) ⊎ (c < b)) → b ≡ c
same_block xs b c o p h k e (inl s) = s
same_block xs b c o p h k e (inr (inl l)) = absurd (omega (arith, ends_before xs b c l))
same_block xs b c o p h k e (inr (inr l)) = absurd (omega (arith, ends_before xs c b l))

pub offset_fits : (xs : List ℕ) (p : Place) → InRange (frames_in xs) (grants_in xs) p → offset_of p < get_or xs (block_of p) 0
offset_fits xs (Cell d f w) h = omega arith
offset_fits xs (Grant d g Flags) h = omega arith
offset_fits xs (Grant d g FrameNo) h = omega arith

-- the cases of two numbers
trichotomy : (b c : ℕ) → (b ≡ c) ⊎ ((b < c) ⊎ (c < b))
trichotomy b c = grind (arith, nat_tests)

-- two places with one block and one offset are one
same_numbers : (p q : Place) → block_of p ≡ block_of q → offset_of p ≡ offset_of q → (frames grants : ℕ → ℕ) → InRange frames grants p → InRange frames grants q → same_place p q ≡ true
same_numbers (Cell d f w) (Cell e g x) b o frames grants i j = grind (arith, nat_tests)
same_numbers (Cell d f w) (Grant e g h) b o frames grants i j = absurd (omega arith)
same_numbers (Grant e g h) (Cell d f w) b o frames grants i j = absurd (omega arith)
same_numbers (Grant d g Flags) (Grant e k Flags) b o frames grants i j = grind (arith, nat_tests)
same_numbers (Grant d g Flags) (Grant e k FrameNo) b o frames grants i j = absurd (omega arith)
same_numbers (Grant d g FrameNo) (Grant e k Flags) b o frames grants i j = absurd (omega arith)
same_numbers (Grant d g FrameNo) (Grant e k FrameNo) b o frames grants i j = grind (arith, nat_tests)

-- one place has one index
same_index_half : (h i : Half) → same_half h i ≡ true → half_number h ≡ half_number i
same_index_half Flags Flags e = refl
same_index_half Flags FrameNo e = absurd (false≢true e)
same_index_half FrameNo Flags e = absurd (false≢true e)
same_index_half FrameNo FrameNo e = refl

both : (a b : Bool) → (a && b) ≡ true → (a ≡ true) × (b ≡ true)
both true b e = (refl, e)
both false b e = absurd (false≢true e)

pub same_index : (blocks : List ℕ) (p q : Place) → same_place p q ≡ true → index_of blocks p ≡ index_of blocks q
same_index blocks (Cell d f w) (Cell e g x) s =
    let a = both (d.0 == e.0) ((f.0 == g.0) && (w == x)) s in
    let b = both (f.0 == g.0) (w == x) a.1 in
    let dom : d.0 ≡ e.0 = (Decides-eqb d.0 e.0).0 a.0 in
    let frame : f.0 ≡ g.0 = (Decides-eqb f.0 g.0).0 b.0 in
    let word : w ≡ x = (Decides-eqb w x).0 b.1 in
    rw (dom, frame, word) refl
same_index blocks (Cell d f w) (Grant e g h) s = absurd (false≢true s)
same_index blocks (Grant e g h) (Cell d f w) s = absurd (false≢true s)
same_index blocks (Grant d g h) (Grant e k i) s =
    let a = both (d.0 == e.0) ((g.0 == k.0) && same_half h i) s in
    let b = both (g.0 == k.0) (same_half h i) a.1 in
    let dom : d.0 ≡ e.0 = (Decides-eqb d.0 e.0).0 a.0 in
    let gref : g.0 ≡ k.0 = (Decides-eqb g.0 k.0).0 b.0 in
    let half : half_number h ≡ half_number i = same_index_half h i b.1 in
    rw (dom, gref, half) refl

-- two places in range with one index are one
pub one_place : (blocks : List ℕ) (p q : Place) → InRange (frames_in blocks) (grants_in blocks) p → InRange (frames_in blocks) (grants_in blocks) q → index_of blocks p ≡ index_of blocks q → same_place p q ≡ true
one_place blocks p q i j e =
    let b : block_of p ≡ block_of q = same_block blocks (block_of p) (block_of q) (offset_of p) (offset_of q) (offset_fits blocks p i) (offset_fits blocks q j) e (trichotomy (block_of p) (block_of q)) in
    let same_start : start_of blocks (block_of p) ≡ start_of blocks (block_of q) = ap (start_of blocks) b in
    same_numbers p q b (omega arith) (frames_in blocks) (grants_in blocks) i j

-- a word that is stored at a place changes what is read there, and nothing else
stored_cases : (xs blocks : List ℕ) (p q : Place) (v : ℕ) → index_of blocks p < length xs → InRange (frames_in blocks) (grants_in blocks) p → InRange (frames_in blocks) (grants_in blocks) q → (b : Bool) → same_place p q ≡ b → get_or (set xs (index_of blocks p) v) (index_of blocks q) 0 ≡ cond b v (get_or xs (index_of blocks q) 0)
stored_cases xs blocks p q v l i j true e =
    rw (← same_index blocks p q e) (get_or-set_same xs (index_of blocks p) v 0 l)
stored_cases xs blocks p q v l i j false e =
    get_or-set_other xs (index_of blocks p) (index_of blocks q) v 0 (λ s. false≢true (sym e ∙ one_place blocks p q i j (sym s)))

pub stored : (xs blocks : List ℕ) (p : Place) (k v : ℕ) → k ≡ index_of blocks p → k < length xs → InRange (frames_in blocks) (grants_in blocks) p → (q : Place) → InRange (frames_in blocks) (grants_in blocks) q → get_or (set xs k v) (index_of blocks q) 0 ≡ cond (same_place p q) v (get_or xs (index_of blocks q) 0)
stored xs blocks p k v e l i q j =
    rw e (stored_cases xs blocks p q v (rw e at l) i j (same_place p q) refl)
