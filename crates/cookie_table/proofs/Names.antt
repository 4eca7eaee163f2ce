-- Cookies name the values: one comes, one goes.
use Rattle.std.proofs.Common.{◌≡◌, ◌≢◌, ℕ, ◌<◌, ◌≤◌, Bool, true, false, not, cond, List, [], ◌∷◌, ◌++◌, length, Option, Some, None, refl, sym, ap, ◌∙◌, arith, subst, eq-eqb, length-append}
use Rattle.std.proofs.lemmas.Bool.{eqb-true, ne_eqb}
use Rattle.std.proofs.lemmas.List.{map-append}
use Rattle.std.proofs.lemmas.List.Folds.{find-append}
use Rattle.std.specs.List.{AllByRecursion}
use Rattle.std.specs.Option.{option_or}
use Rattle.cookie_table.specs.Cookies.{AreDistinct, AreFew, IsFresh, cookies, has_cookie, value_of, without}
use Rattle.cookie_table.proofs.Keys.{distinct_push}
use Rattle.cookie_table.proofs.Rows.{fresh_cookie}

or_none : {X : Type 0} (o : Option X) → option_or o None ≡ o
or_none None = refl
or_none (Some x) = refl

module _ {T : Type 0} (name : T → ℕ) where
  pub added_here : (xs : List T) (x : T) → value_of name (name x) xs ≡ None → value_of name (name x) (xs ++ x ∷ []) ≡ Some x
  added_here xs x free =
      find-append (has_cookie name (name x)) xs (x ∷ [])
      ∙ ap (λ o. option_or o (value_of name (name x) (x ∷ []))) free
      ∙ ap (λ t. cond t (Some x) None) (eq-eqb (name x) (name x) refl)

  pub added_elsewhere : (xs : List T) (x : T) (other : ℕ) → other ≢ name x → value_of name other (xs ++ x ∷ []) ≡ value_of name other xs
  added_elsewhere xs x other apart =
      find-append (has_cookie name other) xs (x ∷ [])
      ∙ ap (λ t. option_or (value_of name other xs) (cond t (Some x) None)) (ne_eqb (name x) other (λ e. apart (sym e)))
      ∙ or_none (value_of name other xs)

  pub taken_here : (xs : List T) (cookie : ℕ) → value_of name cookie (without name cookie xs) ≡ None
  taken_here [] cookie = refl
  taken_here (x ∷ xs) cookie = by_test (has_cookie name cookie x) refl (taken_here xs cookie)
    where
      by_test : (t : Bool) → has_cookie name cookie x ≡ t → value_of name cookie (without name cookie xs) ≡ None → value_of name cookie (cond (not t) (x ∷ without name cookie xs) (without name cookie xs)) ≡ None
      by_test true e later = later
      by_test false e later = ap (λ t. cond t (Some x) (value_of name cookie (without name cookie xs))) e ∙ later

  pub taken_elsewhere : (xs : List T) (cookie other : ℕ) → other ≢ cookie → value_of name other (without name cookie xs) ≡ value_of name other xs
  taken_elsewhere [] cookie other apart = refl
  taken_elsewhere (x ∷ xs) cookie other apart = by_test (has_cookie name cookie x) refl (taken_elsewhere xs cookie other apart)
    where
      by_test : (t : Bool) → has_cookie name cookie x ≡ t → value_of name other (without name cookie xs) ≡ value_of name other xs → value_of name other (cond (not t) (x ∷ without name cookie xs) (without name cookie xs)) ≡ value_of name other (x ∷ xs)
      by_test true e later =
          let same : name x ≡ cookie = eqb-true _ _ e in
          later ∙ ap (λ t. cond t (Some x) (value_of name other xs)) (sym (ne_eqb (name x) other (λ f. apart (sym f ∙ same))))
      by_test false e later = ap (λ o. cond (has_cookie name other x) (Some x) o) later

  fresh_without : (n cookie : ℕ) (xs : List T) → IsFresh n (cookies name xs) → IsFresh n (cookies name (without name cookie xs))
  fresh_without n cookie [] fresh = tt
  fresh_without n cookie (x ∷ xs) fresh = by_test (has_cookie name cookie x) (fresh_without n cookie xs fresh.1)
    where
      by_test : (t : Bool) → IsFresh n (cookies name (without name cookie xs)) → IsFresh n (cookies name (cond (not t) (x ∷ without name cookie xs) (without name cookie xs)))
      by_test true later = later
      by_test false later = (fresh.0, later)

  distinct_without : (cookie : ℕ) (xs : List T) → AreDistinct (cookies name xs) → AreDistinct (cookies name (without name cookie xs))
  distinct_without cookie [] distinct = tt
  distinct_without cookie (x ∷ xs) distinct = by_test (has_cookie name cookie x) (distinct_without cookie xs distinct.1)
    where
      by_test : (t : Bool) → AreDistinct (cookies name (without name cookie xs)) → AreDistinct (cookies name (cond (not t) (x ∷ without name cookie xs) (without name cookie xs)))
      by_test true later = later
      by_test false later = (fresh_without (name x) cookie xs distinct.0, later)

  length_without : (cookie : ℕ) (xs : List T) → length (without name cookie xs) ≤ length xs
  length_without cookie [] = omega arith
  length_without cookie (x ∷ xs) = by_test (has_cookie name cookie x) (length_without cookie xs)
    where
      by_test : (t : Bool) → length (without name cookie xs) ≤ length xs → length (cond (not t) (x ∷ without name cookie xs) (without name cookie xs)) ≤ length (x ∷ xs)
      by_test true later = omega (arith, later)
      by_test false later = omega (arith, later)

  pub all_without : (Q : T → Type 0) (cookie : ℕ) (xs : List T) → AllByRecursion Q xs → AllByRecursion Q (without name cookie xs)
  all_without Q cookie [] all = tt
  all_without Q cookie (x ∷ xs) all = by_test (has_cookie name cookie x) (all_without Q cookie xs all.1)
    where
      by_test : (t : Bool) → AllByRecursion Q (without name cookie xs) → AllByRecursion Q (cond (not t) (x ∷ without name cookie xs) (without name cookie xs))
      by_test true later = later
      by_test false later = (all.0, later)

  pub few_with : (xs : List T) (x : T) → AreFew name xs → value_of name (name x) xs ≡ None → length xs < 64 → AreFew name (xs ++ x ∷ [])
  few_with xs x few free room = record {
    at_most = omega (arith, room, length-append xs (x ∷ []));
    distinct = subst AreDistinct (sym (map-append name xs (x ∷ []))) (distinct_push (cookies name xs) (name x) few.distinct (fresh_cookie name (name x) xs free));
  }

  pub few_without : (cookie : ℕ) (xs : List T) → AreFew name xs → AreFew name (without name cookie xs)
  few_without cookie xs few = record {
    at_most = omega (arith, length_without cookie xs, few.at_most);
    distinct = distinct_without cookie xs few.distinct;
  }
