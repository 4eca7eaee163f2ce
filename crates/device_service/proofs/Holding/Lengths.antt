-- Pages that are the same but for their order are as many.
use Rattle.std.proofs.Common.{◌≡◌, inl, inr, ℕ, suc, ◌<◌, Bool, true, false, cond, List, [], ◌∷◌, length, slice_get, Some, zero, refl, sym, ap, subst, ◌∙◌, arith}
use Rattle.std.proofs.lemmas.Bool.{false≢true}
use Rattle.pv_words.specs.declared.grant.Hold.{Hold}
use Rattle.pv_words.specs.Held.{same_hold, unheld}
use Rattle.page_directory.specs.Same.{AreSame, times}
use Rattle.page_directory.proofs.Counts.{has_counted, hold_itself, times_append, times_here, times_unheld}
use Rattle.device_service.proofs.Soundness.Same.{IsIn, none_same}

unheld_length : (h : Hold) (xs : List Hold) → IsIn h xs → suc (length (unheld h xs)) ≡ length xs
unheld_length h [] at = absurd at
unheld_length h (x ∷ xs) at = by_test (same_hold x h) refl at (λ i. unheld_length h xs i)
  where
    by_test : (b : Bool) → same_hold x h ≡ b → IsIn h (x ∷ xs) → (IsIn h xs → suc (length (unheld h xs)) ≡ length xs) → suc (length (cond b xs (x ∷ unheld h xs))) ≡ suc (length xs)
    by_test true e i rest = refl
    by_test false e (inl same) rest = absurd (false≢true (sym e ∙ subst (λ (y : Hold). same_hold x y ≡ true) same (hold_itself x)))
    by_test false e (inr i) rest = ap suc (rest i)

pub same_length : (xs ys : List Hold) → AreSame xs ys → length xs ≡ length ys
same_length [] ys same = sym (ap length (none_same ys (λ k. sym (same k))))
same_length (x ∷ xs) ys same =
    let at : IsIn x ys = has_counted x ys (omega (arith, same x, times_here x xs)) in
    let rest : AreSame xs (unheld x ys) = λ k. omega (arith, same k, times_append k (x ∷ []) xs, times_unheld k x ys at) in
    ap suc (same_length xs (unheld x ys) rest) ∙ unheld_length x ys at

-- the page at a place is one of them
pub times_at : (xs : List Hold) (i : ℕ) (h : Hold) → slice_get xs i ≡ Some h → 0 < times h xs
times_at [] i h e = let wrong : ⊥ = cc in absurd wrong
times_at (x ∷ xs) zero h e = let same : x ≡ h = cc in subst (λ (y : Hold). 0 < times y (x ∷ xs)) same (times_here x xs)
times_at (x ∷ xs) (suc i) h e = omega (arith, times_at xs i h e)
