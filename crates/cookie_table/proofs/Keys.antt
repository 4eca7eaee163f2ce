-- Lists of distinct keys, and what stands under them as one entry changes.
use Rattle.std.proofs.Common.{◌≡◌, ◌≢◌, ℕ, List, [], ◌∷◌, ◌++◌, Option, Some, None, refl, sym, ap, ◌∙◌, subst, IsSome, true, false}
use Rattle.std.specs.List.{AllByRecursion, cons_option}
use Rattle.std.specs.Option.{option_flatten}
use Rattle.slab.specs.Slab.{Slab, get, Updates}
use Rattle.cookie_table.specs.Cookies.{IsFresh, AreDistinct}
use Rattle.cookie_table.specs.Entries.{entry_at, rows, IsUsed, IsUnused}

-- what is true of all is true of all and one more
pub all_push : {X : Type 0} (Q : X → Type 0) (xs : List X) (y : X) → AllByRecursion Q xs → Q y → AllByRecursion Q (xs ++ y ∷ [])
all_push Q [] y h q = (q, tt)
all_push Q (x ∷ xs) y h q = (h.0, all_push Q xs y h.1 q)

-- and of all but one, and of that one
pub all_but : {X : Type 0} (Q : X → Type 0) (xs : List X) (y : X) (ys : List X) → AllByRecursion Q (xs ++ y ∷ ys) → AllByRecursion Q (xs ++ ys)
all_but Q [] y ys h = h.1
all_but Q (x ∷ xs) y ys h = (h.0, all_but Q xs y ys h.1)

pub all_middle : {X : Type 0} (Q : X → Type 0) (xs : List X) (y : X) (ys : List X) → AllByRecursion Q (xs ++ y ∷ ys) → Q y
all_middle Q [] y ys h = h.0
all_middle Q (x ∷ xs) y ys h = all_middle Q xs y ys h.1

pub distinct_push : (ns : List ℕ) (n : ℕ) → AreDistinct ns → IsFresh n ns → AreDistinct (ns ++ n ∷ [])
distinct_push [] n d f = (tt, tt)
distinct_push (m ∷ ns) n d f = (all_push (λ k. m ≢ k) ns n d.0 (λ e. f.0 (sym e)), distinct_push ns n d.1 f.1)

pub distinct_but : (ms : List ℕ) (n : ℕ) (ns : List ℕ) → AreDistinct (ms ++ n ∷ ns) → AreDistinct (ms ++ ns)
distinct_but [] n ns d = d.1
distinct_but (m ∷ ms) n ns d = (all_but (λ k. m ≢ k) ms n ns d.0, distinct_but ms n ns d.1)

pub fresh_but : (ms : List ℕ) (n : ℕ) (ns : List ℕ) → AreDistinct (ms ++ n ∷ ns) → IsFresh n (ms ++ ns)
fresh_but [] n ns d = d.0
fresh_but (m ∷ ms) n ns d = (λ e. all_middle (λ k. m ≢ k) ms n ns d.0 (sym e), fresh_but ms n ns d.1)

module _ {T : Type 0} where
  -- a key with no entry, or an empty one, is none of those with a value
  pub fresh_unused : (entries : Slab (Option T)) (key : ℕ) (keys : List ℕ) → IsUnused entries key → AllByRecursion (IsUsed entries) keys → IsFresh key keys
  fresh_unused entries key [] empty used = tt
  fresh_unused entries key (k ∷ keys) empty used = (λ same. apart same empty used.0, fresh_unused entries key keys empty used.1)
    where
      apart : key ≡ k → IsUnused entries key → IsUsed entries k → ⊥
      apart same empty used =
          let e : get entries k ≡ Some None = ap (get entries) (sym same) ∙ empty in
          let Q : Option (Option T) → Type 0 = λ o. IsSome (option_flatten o) in
          let h : false ≡ true = subst Q e used in
          cc

  pub fresh_used : (entries : Slab (Option T)) (key : ℕ) (keys : List ℕ) → IsUsed entries key → AllByRecursion (IsUnused entries) keys → IsFresh key keys
  fresh_used entries key [] used unused = tt
  fresh_used entries key (k ∷ keys) used unused = (
    λ same.
        let e : get entries key ≡ Some None = ap (get entries) same ∙ unused.0 in
        let Q : Option (Option T) → Type 0 = λ o. IsSome (option_flatten o) in
        let h : false ≡ true = subst Q e used in
        cc,
    fresh_used entries key keys used unused.1,
  )

  pub fresh_absent : (entries : Slab (Option T)) (key : ℕ) (keys : List ℕ) → get entries key ≡ None → AllByRecursion (IsUnused entries) keys → IsFresh key keys
  fresh_absent entries key [] none unused = tt
  fresh_absent entries key (k ∷ keys) none unused = (λ same. cc, fresh_absent entries key keys none unused.1)

  module _ (old new : Slab (Option T)) (key : ℕ) (slot : Option (Option T)) (change : Updates old new key slot) where
    -- other keys keep what stands under them
    entry_kept : (k : ℕ) → key ≢ k → entry_at new k ≡ entry_at old k
    entry_kept k apart = ap option_flatten (change.others k (λ e. apart (sym e)))

    pub rows_kept : (keys : List ℕ) → IsFresh key keys → rows new keys ≡ rows old keys
    rows_kept [] fresh = refl
    rows_kept (k ∷ keys) fresh =
        ap (λ o. cons_option o (rows new keys)) (entry_kept k fresh.0)
        ∙ ap (λ xs. cons_option (entry_at old k) xs) (rows_kept keys fresh.1)

    pub used_kept : (keys : List ℕ) → IsFresh key keys → AllByRecursion (IsUsed old) keys → AllByRecursion (IsUsed new) keys
    used_kept [] fresh used = tt
    used_kept (k ∷ keys) fresh used = (rw (entry_kept k fresh.0) used.0, used_kept keys fresh.1 used.1)

    pub unused_kept : (keys : List ℕ) → IsFresh key keys → AllByRecursion (IsUnused old) keys → AllByRecursion (IsUnused new) keys
    unused_kept [] fresh unused = tt
    unused_kept (k ∷ keys) fresh unused = (change.others k (λ e. fresh.0 (sym e)) ∙ unused.0, unused_kept keys fresh.1 unused.1)
