-- The values under a list of keys, and what is found among them.
use Rattle.std.proofs.Common.{◌≡◌, ℕ, zero, suc, ◌<◌, Bool, true, false, not, cond, List, [], ◌∷◌, ◌++◌, length, slice_get, slice_index, Option, Some, None, IsSome, refl, sym, ap, ◌∙◌, arith, eq-eqb, subst}
use Rattle.std.proofs.lemmas.Bool.{eqb-true}
use Rattle.std.proofs.lemmas.List.Elements.{filter_map-append}
use Rattle.std.specs.List.{AllByRecursion, cons_option, find}
use Rattle.slab.specs.Slab.{Slab}
use Rattle.cookie_table.specs.Cookies.{has_cookie, value_of, cookies, without, IsFresh}
use Rattle.cookie_table.specs.Entries.{entry_at, rows, IsUsed}

pub some_of : {X : Type 0} (o : Option X) → IsSome o → (x : X) × (o ≡ Some x)
some_of None h = absurd (cc)
some_of (Some x) h = (x, refl)

-- what is found passes the test, and has what all have
pub find_passes : {X : Type 0} (p : X → Bool) (xs : List X) (y : X) → find p xs ≡ Some y → p y ≡ true
find_passes p [] y h = absurd (cc)
find_passes p (x ∷ xs) y h = by_test (p x) refl h (find_passes p xs y)
  where
    by_test : (t : Bool) → p x ≡ t → cond t (Some x) (find p xs) ≡ Some y → (find p xs ≡ Some y → p y ≡ true) → p y ≡ true
    by_test true e found later = let same : x ≡ y = cc in ap p (sym same) ∙ e
    by_test false e found later = later found

pub find_all : {X : Type 0} (Q : X → Type 0) (p : X → Bool) (xs : List X) (y : X) → find p xs ≡ Some y → AllByRecursion Q xs → Q y
find_all Q p [] y h all = absurd (cc)
find_all Q p (x ∷ xs) y h all = by_test (p x) h (λ found. find_all Q p xs y found all.1)
  where
    by_test : (t : Bool) → cond t (Some x) (find p xs) ≡ Some y → (find p xs ≡ Some y → Q y) → Q y
    by_test true found later = let same : x ≡ y = cc in subst Q same all.0
    by_test false found later = later found

module _ {T : Type 0} where
  pub length_rows : (entries : Slab (Option T)) (keys : List ℕ) → AllByRecursion (IsUsed entries) keys → length (rows entries keys) ≡ length keys
  length_rows entries [] used = refl
  length_rows entries (k ∷ keys) used =
      ap (λ o. length (cons_option o (rows entries keys))) (some_of _ used.0).1
      ∙ ap suc (length_rows entries keys used.1)

  pub row_at : (entries : Slab (Option T)) (keys : List ℕ) (rank : ℕ) → AllByRecursion (IsUsed entries) keys → rank < length keys → slice_get (rows entries keys) rank ≡ entry_at entries (slice_index keys rank)
  row_at entries [] rank used within = absurd (omega arith)
  row_at entries (k ∷ keys) zero used within =
      let there = some_of _ used.0 in
      ap (λ o. slice_get (cons_option o (rows entries keys)) 0) there.1 ∙ sym there.1
  row_at entries (k ∷ keys) (suc n) used within =
      ap (λ o. slice_get (cons_option o (rows entries keys)) (suc n)) (some_of _ used.0).1
      ∙ row_at entries keys n used.1 (omega arith)

  -- the values around one of them
  pub rows_middle : (entries : Slab (Option T)) (xs : List ℕ) (k : ℕ) (ys : List ℕ) (x : T) → entry_at entries k ≡ Some x → rows entries (xs ++ k ∷ ys) ≡ rows entries xs ++ x ∷ rows entries ys
  rows_middle entries xs k ys x there =
      filter_map-append (entry_at entries) xs (k ∷ ys)
      ∙ ap (λ o. rows entries xs ++ cons_option o (rows entries ys)) there

module _ {T : Type 0} (name : T → ℕ) where
  -- a cookie that isn't found is none of theirs
  pub fresh_cookie : (cookie : ℕ) (xs : List T) → value_of name cookie xs ≡ None → IsFresh cookie (cookies name xs)
  fresh_cookie cookie [] absent = tt
  fresh_cookie cookie (x ∷ xs) absent = by_test (has_cookie name cookie x) refl absent (fresh_cookie cookie xs)
    where
      by_test : (t : Bool) → has_cookie name cookie x ≡ t → cond t (Some x) (value_of name cookie xs) ≡ None → (value_of name cookie xs ≡ None → IsFresh cookie (cookies name xs)) → IsFresh cookie (cookies name (x ∷ xs))
      by_test true e found later = absurd (cc)
      by_test false e found later = (
        λ same. let wrong : false ≡ true = sym e ∙ eq-eqb _ _ (sym same) in cc,
        later found,
      )

  -- taking away what isn't there changes nothing
  pub without_fresh : (cookie : ℕ) (xs : List T) → IsFresh cookie (cookies name xs) → without name cookie xs ≡ xs
  without_fresh cookie [] fresh = refl
  without_fresh cookie (x ∷ xs) fresh = by_test (has_cookie name cookie x) refl (without_fresh cookie xs fresh.1)
    where
      by_test : (t : Bool) → has_cookie name cookie x ≡ t → without name cookie xs ≡ xs → cond (not t) (x ∷ without name cookie xs) (without name cookie xs) ≡ x ∷ xs
      by_test true e later = absurd (fresh.0 (sym (eqb-true _ _ e)))
      by_test false e later = ap (λ ys. x ∷ ys) later

  -- where no other value has the cookie, the one that has it goes alone
  pub without_one : (cookie : ℕ) (xs : List T) (y : T) (ys : List T) → name y ≡ cookie → IsFresh cookie (cookies name (xs ++ ys)) → without name cookie (xs ++ y ∷ ys) ≡ xs ++ ys
  without_one cookie [] y ys same fresh =
      ap (λ t. cond (not t) (y ∷ without name cookie ys) (without name cookie ys)) (eq-eqb _ _ same)
      ∙ without_fresh cookie ys fresh
  without_one cookie (x ∷ xs) y ys same fresh = by_test (has_cookie name cookie x) refl (without_one cookie xs y ys same fresh.1)
    where
      by_test : (t : Bool) → has_cookie name cookie x ≡ t → without name cookie (xs ++ y ∷ ys) ≡ xs ++ ys → cond (not t) (x ∷ without name cookie (xs ++ y ∷ ys)) (without name cookie (xs ++ y ∷ ys)) ≡ x ∷ (xs ++ ys)
      by_test true e later = absurd (fresh.0 (sym (eqb-true _ _ e)))
      by_test false e later = ap (λ zs. x ∷ zs) later
