-- The contacts in the slots of a panel: what is found of each, and what a change of one slot makes of all.
use Rattle.std.proofs.Common.{◌≡◌, ◌≢◌, ℕ, zero, suc, ◌+◌, ◌<◌, ◌≤◌, true, false, cond, ◌==◌, List, [], ◌∷◌, length, get_or, set, Option, Some, None, refl, sym, ap, ◌∙◌, arith, eq-eqb, nat_cmp}
use Rattle.std.proofs.lemmas.Bool.Decides.{Decides-eqb}
use Rattle.std.proofs.lemmas.List.{get_or-set_same, get_or-set_other}
use Rattle.std.specs.Ordering.{eq_by_cmp}
use Rattle.std.specs.Cmp.{nat_cmp_total, unsigned_tied}
use Rattle.std.specs.FinMap as finite
use Rattle.multitouch.specs.declared.contact.Contact.{Contact}
use Rattle.multitouch.specs.Panel.{contacts_of, entries_from, with_contact}
use Rattle.multitouch.specs.Pressed.{ContactMap}

pub apart : (q n : ℕ) → q ≢ n → (q == n) ≡ false
apart q n h = elim (q == n) as (λ b. (q == n) ≡ b → b ≡ false) [ true ↦ λ e. absurd (h ((Decides-eqb q n).0 e)) | false ↦ λ e. refl ] refl

pub untied : (q n : ℕ) → q ≢ n → eq_by_cmp nat_cmp q n ≡ false
untied q n h = unsigned_tied q n ∙ apart q n h

pub tied : (q n : ℕ) → q ≡ n → eq_by_cmp nat_cmp q n ≡ true
tied q n h = unsigned_tied q n ∙ eq-eqb q n h

find_before : (n q : ℕ) (slots : List (Option Contact)) → q < n → finite.find nat_cmp q (entries_from n slots) ≡ None
find_before n q [] h = refl
find_before n q (None ∷ slots) h = find_before (suc n) q slots (omega arith)
find_before n q (Some c ∷ slots) h =
    ap (λ b. cond b (Some c) (finite.find nat_cmp q (entries_from (suc n) slots))) (untied q n (λ e. omega arith))
    ∙ find_before (suc n) q slots (omega arith)

find_from : (n k q : ℕ) (slots : List (Option Contact)) → q ≡ n + k → finite.find nat_cmp q (entries_from n slots) ≡ get_or slots k None
find_from n zero q [] h = refl
find_from n (suc k) q [] h = refl
find_from n zero q (None ∷ slots) h = find_before (suc n) q slots (omega arith)
find_from n zero q (Some c ∷ slots) h = ap (λ b. cond b (Some c) (finite.find nat_cmp q (entries_from (suc n) slots))) (tied q n (omega arith))
find_from n (suc k) q (None ∷ slots) h = find_from (suc n) k q slots (omega arith)
find_from n (suc k) q (Some c ∷ slots) h =
    ap (λ b. cond b (Some c) (finite.find nat_cmp q (entries_from (suc n) slots))) (untied q n (λ e. omega arith))
    ∙ find_from (suc n) k q slots (omega arith)

-- the contact in its slot
pub contact_in : (slots : List (Option Contact)) (q : ℕ) → finite.get (contacts_of slots) q ≡ get_or slots q None
contact_in slots q = finite.get-from_entries nat_cmp_total (entries_from 0 slots) q ∙ find_from 0 q q slots (omega arith)

past_end : (slots : List (Option Contact)) (q : ℕ) → length slots ≤ q → get_or slots q None ≡ None
past_end [] zero h = refl
past_end [] (suc q) h = refl
past_end (o ∷ slots) zero h = absurd (omega arith)
past_end (o ∷ slots) (suc q) h = past_end slots q (omega arith)

-- a contact for which there is no slot isn't down
pub contact_past : (slots : List (Option Contact)) (q : ℕ) → length slots ≤ q → finite.get (contacts_of slots) q ≡ None
contact_past slots q h = contact_in slots q ∙ past_end slots q h

pub get-with_contact : (contacts : ContactMap) (id q : ℕ) (o : Option Contact) → finite.get (with_contact contacts id o) q ≡ cond (q == id) o (finite.get contacts q)
get-with_contact contacts id q None = finite.get-remove nat_cmp_total contacts id q ∙ ap (λ b. cond b None (finite.get contacts q)) (unsigned_tied q id)
get-with_contact contacts id q (Some c) =
    finite.get-insert nat_cmp_total contacts id c q ∙ ap (λ b. cond b (Some c) (finite.get contacts q)) (unsigned_tied q id)

get_or-set_slot : (slots : List (Option Contact)) (id q : ℕ) (o : Option Contact) → id < length slots → get_or (set slots id o) q None ≡ cond (q == id) o (get_or slots q None)
get_or-set_slot slots id q o h =
    elim (q == id) as (λ b. (q == id) ≡ b → get_or (set slots id o) q None ≡ cond b o (get_or slots q None)) [
      | true ↦ λ e. ap (λ k. get_or (set slots id o) k None) ((Decides-eqb q id).0 e) ∙ get_or-set_same slots id o None h
      | false ↦ λ e. get_or-set_other slots id q o None (λ same. true_is_false (sym (eq-eqb q id same) ∙ e))
    ] refl
  where
    true_is_false : true ≡ false → ⊥
    true_is_false e = absurd (cc)

-- a change of one slot
pub contacts_of-set : (slots : List (Option Contact)) (id : ℕ) (o : Option Contact) → id < length slots → contacts_of (set slots id o) ≡ with_contact (contacts_of slots) id o
contacts_of-set slots id o h =
    finite.same_map nat_cmp_total finite.nat_cmp-IsAntisymmetric _ _ (λ q.
    contact_in (set slots id o) q
    ∙ get_or-set_slot slots id q o h
    ∙ sym (get-with_contact (contacts_of slots) id q o ∙ ap (cond (q == id) o) (contact_in slots q)))
