-- The codes of keys that rise, as a set: which are in it, where one is put in, and where one is taken out.
use Rattle.std.proofs.Common.{◌≡◌, ℕ, suc, ◌+◌, ◌<◌, ◌≤◌, Bool, true, false, cond, not, ◌&&◌, ◌||◌, List, [], ◌∷◌, map, length, nat_lt, nat_eq, refl, sym, ap, ◌∙◌, subst, arith, T, nat_cmp, one-add, Less, Equal, Greater, is_eq, is_lt, Option, None}
use Rattle.std.proofs.lemmas.Bool.{lt-ltb, le-ltb}
use Rattle.std.proofs.lemmas.List.Recursion.{is_count_by}
use Rattle.multitouch.proofs.Slots.{untied}
use Rattle.std.specs.List.{insert, remove, list_any}
use Rattle.std.specs.Ordering.{eq_by_cmp}
use Rattle.std.specs.Cmp.{nat_cmp_total, ranked, unsigned_tied, nat_eq_equiv, eq_by_cmp_equiv}
use Rattle.std.specs.FinMap as finite
use Rattle.std.specs.FinMap.Entries.{below_all, by_order, put, where_key, is_sorted-put, is_sorted-where_key, find-where_key}
use Rattle.multitouch.specs.Panel.{keys_of, marked, place, IsRising}
use Rattle.multitouch.specs.Pressed.{KeySet}

and_first : (a b : Bool) → (a && b) ≡ true → a ≡ true
and_first true b h = refl
and_first false b h = h

and_second : (a b : Bool) → (a && b) ≡ true → b ≡ true
and_second true b h = h
and_second false b h = absurd (cc)

truth : (b : Bool) → b ≡ true → T b
truth b h = subst T (sym h) tt

true_of : (b : Bool) → T b → b ≡ true
true_of true h = refl
true_of false h = absurd h

pub length_marked : (codes : List ℕ) → length (marked codes) ≡ length codes
length_marked [] = refl
length_marked (x ∷ xs) = ap suc (length_marked xs)

codes_marked : (codes : List ℕ) → map (λ (e : ℕ × Unit {0}). e.0) (marked codes) ≡ codes
codes_marked [] = refl
codes_marked (x ∷ xs) = ap (λ ys. x ∷ ys) (codes_marked xs)

entries_of : (codes : List ℕ) → IsRising codes → finite.entries (keys_of codes) ≡ marked codes
entries_of codes h = finite.entries-from_sorted nat_cmp (marked codes) (truth _ h)

-- the set's codes in order are these
pub keys-keys_of : (codes : List ℕ) → IsRising codes → finite.keys (keys_of codes) ≡ codes
keys-keys_of codes h = ap (map (λ e. e.0)) (entries_of codes h) ∙ codes_marked codes

pub len-keys_of : (codes : List ℕ) → IsRising codes → finite.len (keys_of codes) ≡ length codes
len-keys_of codes h = finite.len-entries (keys_of codes) ∙ ap length (entries_of codes h) ∙ length_marked codes

pub no_keys : keys_of [] ≡ finite.empty
no_keys = finite.empty_of_len (keys_of []) (len-keys_of [] refl)

any_code : (q : ℕ) (codes : List ℕ) → list_any (eq_by_cmp nat_cmp q) codes ≡ list_any (λ y. nat_eq y q) codes
any_code q [] = refl
any_code q (x ∷ xs) = λ i. (unsigned_tied q x ∙ nat_eq_equiv.symm q x) i || any_code q xs i

-- a code is in the set where it is among these
pub contains-keys_of : (codes : List ℕ) (q : ℕ) → IsRising codes → finite.contains_key (keys_of codes) q ≡ list_any (λ y. nat_eq y q) codes
contains-keys_of codes q h =
    finite.contains_key-keys (keys_of codes) q ∙ ap (list_any (eq_by_cmp nat_cmp q)) (keys-keys_of codes h) ∙ any_code q codes

less : (x y : ℕ) → is_lt (nat_cmp x y) ≡ true → x < y
less x y h =
    elim (nat_cmp x y) as (λ r. r ≡ nat_cmp x y → is_lt r ≡ true → x < y) [
      | Less ↦ λ e _. ranked x y Less e
      | Equal ↦ λ _ h. absurd (cc)
      | Greater ↦ λ _ h. absurd (cc)
    ] refl h

-- how many are below a code, one after another
abbrev below : ℕ → List ℕ → ℕ
below code [] = 0
below code (x ∷ xs) = cond (nat_lt x code) (1 + below code xs) (below code xs)

place-below : (code : ℕ) (codes : List ℕ) → below code codes ≡ place code codes
place-below code codes = is_count_by (below code) (λ x. nat_lt x code) refl (λ x xs. refl) codes

-- behind a code are only larger ones
none_before : (x code : ℕ) (xs : List ℕ) → below_all nat_cmp x (marked xs) ≡ true → code ≤ x → below code xs ≡ 0
none_before x code [] h le = refl
none_before x code (y ∷ ys) h le =
    let above = less x y (and_first _ _ h) in
    ap (λ b. cond b (1 + below code ys) (below code ys)) (le-ltb _ _ (omega arith)) ∙ none_before x code ys (and_second _ _ h) le

none_tied : (x code : ℕ) (xs : List ℕ) → below_all nat_cmp x (marked xs) ≡ true → code ≤ x → list_any (eq_by_cmp nat_cmp code) xs ≡ false
none_tied x code [] h le = refl
none_tied x code (y ∷ ys) h le =
    let above = less x y (and_first _ _ h) in
    ap (λ b. b || list_any (eq_by_cmp nat_cmp code) ys) (untied code y (λ e. omega arith)) ∙ none_tied x code ys (and_second _ _ h) le

none_out : (x code : ℕ) (xs : List ℕ) → below_all nat_cmp x (marked xs) ≡ true → code ≤ x → where_key nat_cmp (λ k. not (eq_by_cmp nat_cmp code k)) (marked xs) ≡ marked xs
none_out x code [] h le = refl
none_out x code (y ∷ ys) h le =
    let above = less x y (and_first _ _ h) in
    let rest = where_key nat_cmp (λ k. not (eq_by_cmp nat_cmp code k)) (marked ys) in
    ap (λ b. cond (not b) ((y, tt) ∷ rest) rest) (untied code y (λ e. omega arith))
    ∙ ap (λ es. (y, tt) ∷ es) (none_out x code ys (and_second _ _ h) le)

insert_at : (x code n : ℕ) (xs : List ℕ) → marked (insert (x ∷ xs) (1 + n) code) ≡ (x, tt) ∷ marked (insert xs n code)
insert_at x code n xs = rw (one-add n) refl

remove_at : (x n : ℕ) (xs : List ℕ) → marked (remove (x ∷ xs) (1 + n)) ≡ (x, tt) ∷ marked (remove xs n)
remove_at x n xs = rw (one-add n) refl

-- a code that isn't there is put in its place
put_in : (code : ℕ) (codes : List ℕ) → IsRising codes → list_any (eq_by_cmp nat_cmp code) codes ≡ false → marked (insert codes (below code codes) code) ≡ put nat_cmp code tt (marked codes)
put_in code [] rising absent = refl
put_in code (x ∷ xs) rising absent =
    let above = and_first _ _ rising in
    let rest = put nat_cmp code tt (marked xs) in
    elim (nat_cmp code x) as (λ r. r ≡ nat_cmp code x → (is_eq r || list_any (eq_by_cmp nat_cmp code) xs) ≡ false → marked (insert (x ∷ xs) (below code (x ∷ xs)) code) ≡ by_order r ((code, tt) ∷ (x, tt) ∷ marked xs) ((x, tt) ∷ marked xs) ((x, tt) ∷ rest)) [
      | Less ↦ λ e _.
          let first = ranked code x Less e in
          ap (λ n. marked (insert (x ∷ xs) n code)) (ap (λ b. cond b (1 + below code xs) (below code xs)) (le-ltb _ _ (omega arith)) ∙ none_before x code xs above (omega arith))
      | Equal ↦ λ _ absent. absurd (cc)
      | Greater ↦ λ e absent.
          let later = ranked code x Greater e in
          ap (λ n. marked (insert (x ∷ xs) n code)) (ap (λ b. cond b (1 + below code xs) (below code xs)) (lt-ltb _ _ later))
          ∙ insert_at x code (below code xs) xs
          ∙ ap (λ es. (x, tt) ∷ es) (put_in code xs (and_second _ _ rising) absent)
    ] refl absent

-- a code that is there is taken out of its place
taken_out : (code : ℕ) (codes : List ℕ) → IsRising codes → list_any (eq_by_cmp nat_cmp code) codes ≡ true → (below code codes < length codes) × (marked (remove codes (below code codes)) ≡ where_key nat_cmp (λ k. not (eq_by_cmp nat_cmp code k)) (marked codes))
taken_out code [] rising present = absurd (cc)
taken_out code (x ∷ xs) rising present =
    let above = and_first _ _ rising in
    let kept = where_key nat_cmp (λ k. not (eq_by_cmp nat_cmp code k)) (marked xs) in
    elim (nat_cmp code x) as (λ r. r ≡ nat_cmp code x → (is_eq r || list_any (eq_by_cmp nat_cmp code) xs) ≡ true → (below code (x ∷ xs) < length (x ∷ xs)) × (marked (remove (x ∷ xs) (below code (x ∷ xs))) ≡ cond (not (is_eq r)) ((x, tt) ∷ kept) kept)) [
      | Less ↦ λ e present.
          let first = ranked code x Less e in
          let absent = none_tied x code xs above (omega arith) in
          absurd (cc)
      | Equal ↦ λ e _.
          let same = ranked code x Equal e in
          let at : below code (x ∷ xs) ≡ 0 =
          ap (λ b. cond b (1 + below code xs) (below code xs)) (le-ltb _ _ (omega arith)) ∙ none_before x code xs above (omega arith) in
          (omega arith, ap (λ n. marked (remove (x ∷ xs) n)) at ∙ sym (none_out x code xs above (omega arith)))
      | Greater ↦ λ e present.
          let later = ranked code x Greater e in
          let rest = taken_out code xs (and_second _ _ rising) present in
          let at : below code (x ∷ xs) ≡ 1 + below code xs = ap (λ b. cond b (1 + below code xs) (below code xs)) (lt-ltb _ _ later) in
          (omega (arith, rest.0), ap (λ n. marked (remove (x ∷ xs) n)) at ∙ remove_at x (below code xs) xs ∙ ap (λ es. (x, tt) ∷ es) rest.1)
    ] refl present

tied_any : (codes : List ℕ) (q : ℕ) (b : Bool) → list_any (λ y. nat_eq y q) codes ≡ b → list_any (eq_by_cmp nat_cmp q) codes ≡ b
tied_any codes q b h = any_code q codes ∙ h

module _ (codes : List ℕ) (code at : ℕ) (rising : IsRising codes) (is_at : at ≡ place code codes) where
  where_it_is : at ≡ below code codes
  where_it_is = is_at ∙ sym (place-below code codes)

  module _ (absent : finite.contains_key (keys_of codes) code ≡ false) where
    inserted : marked (insert codes at code) ≡ put nat_cmp code tt (marked codes)
    inserted =
        ap (λ n. marked (insert codes n code)) where_it_is
        ∙ put_in code codes rising (tied_any codes code false (sym (contains-keys_of codes code rising) ∙ absent))

    pub rising-insert : IsRising (insert codes at code)
    rising-insert = true_of _ (subst (λ es. T (finite.is_sorted nat_cmp es)) (sym inserted) (is_sorted-put nat_cmp nat_cmp_total code tt (marked codes) (truth _ rising)))

    pub keys_of-insert : keys_of (insert codes at code) ≡ finite.insert (keys_of codes) code tt
    keys_of-insert =
        finite.same_entries_map _ _
        (entries_of (insert codes at code) rising-insert
        ∙ inserted
        ∙ sym (finite.entries-insert nat_cmp_total (keys_of codes) code tt ∙ ap (put nat_cmp code tt) (entries_of codes rising)))

  module _ (present : finite.contains_key (keys_of codes) code ≡ true) where
    out : (below code codes < length codes) × (marked (remove codes (below code codes)) ≡ where_key nat_cmp (λ k. not (eq_by_cmp nat_cmp code k)) (marked codes))
    out = taken_out code codes rising (tied_any codes code true (sym (contains-keys_of codes code rising) ∙ present))

    pub at_inside : at < length codes
    at_inside = omega (arith, where_it_is, out.0)

    removed : marked (remove codes at) ≡ where_key nat_cmp (λ k. not (eq_by_cmp nat_cmp code k)) (marked codes)
    removed = ap (λ n. marked (remove codes n)) where_it_is ∙ out.1

    pub rising-remove : IsRising (remove codes at)
    rising-remove = true_of _ (subst (λ es. T (finite.is_sorted nat_cmp es)) (sym removed) (is_sorted-where_key nat_cmp (λ k. not (eq_by_cmp nat_cmp code k)) (marked codes) (truth _ rising)))

    pub keys_of-remove : keys_of (remove codes at) ≡ finite.remove (keys_of codes) code
    keys_of-remove =
        finite.same_map nat_cmp_total finite.nat_cmp-IsAntisymmetric _ _ (λ q.
        finite.get-from_sorted nat_cmp (marked (remove codes at)) q (truth _ rising-remove)
        ∙ ap (finite.find nat_cmp q) removed
        ∙ find-where_key nat_cmp (λ k. not (eq_by_cmp nat_cmp code k)) q (λ x tie. ap (λ k. not (eq_by_cmp nat_cmp code k)) (sym (finite.nat_cmp-IsAntisymmetric q x tie))) (marked codes)
        ∙ ap (λ o. cond (not (eq_by_cmp nat_cmp code q)) o None) (sym (finite.get-from_sorted nat_cmp (marked codes) q (truth _ rising)))
        ∙ turned (eq_by_cmp nat_cmp code q) (finite.get (keys_of codes) q)
        ∙ ap (λ b. cond b None (finite.get (keys_of codes) q)) ((eq_by_cmp_equiv nat_cmp_total).symm code q)
        ∙ sym (finite.get-remove nat_cmp_total (keys_of codes) code q))
      where
        turned : (b : Bool) (o : Option (Unit {0})) → cond (not b) o None ≡ cond b None o
        turned true o = refl
        turned false o = refl

-- the first of codes that rise isn't among the rest, and the rest rises
pub rising_apart : (x : ℕ) (xs : List ℕ) → IsRising (x ∷ xs) → list_any (eq_by_cmp nat_cmp x) xs ≡ false
rising_apart x xs rising = none_tied x x xs (and_first _ _ rising) (omega arith)

pub rising_rest : (x : ℕ) (xs : List ℕ) → IsRising (x ∷ xs) → IsRising xs
rising_rest x xs rising = and_second _ _ rising

marked_codes : (es : List (ℕ × Unit {0})) → marked (map (λ e. e.0) es) ≡ es
marked_codes [] = refl
marked_codes (e ∷ es) = ap (λ xs. e ∷ xs) (marked_codes es)

-- the codes of a set rise
pub rising-keys : (keys : KeySet) → IsRising (finite.keys keys)
rising-keys keys = ap (finite.is_sorted nat_cmp) (marked_codes (finite.entries keys)) ∙ true_of _ (finite.entries_sorted keys)
