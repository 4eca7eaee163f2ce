-- A value comes and goes: the table stays one, and its values are those of the rows.
use Rattle.std.proofs.Common.{◌≡◌, ℕ, ◌+◌, ◌<◌, List, [], ◌∷◌, ◌++◌, length, Option, Some, None, sym, ap, ◌∙◌, arith, subst, length-append, is_some, get_or, take, drop}
use Rattle.std.proofs.lemmas.Bool.{eqb-true}
use Rattle.std.proofs.lemmas.List.{map-append, append-nil, take-append-drop, drop_more}
use Rattle.std.proofs.lemmas.List.Elements.{filter_map-append}
use Rattle.std.specs.Option.{option_flatten}
use Rattle.std.specs.List.{AllByRecursion}
use Rattle.slab.specs.Slab.{Slab, Updates}
use Rattle.cookie_table.specs.Cookies.{value_of, has_cookie, cookies, without, IsFresh, AreDistinct}
use Rattle.cookie_table.specs.Entries.{entry_at, rows, IsUsed, IsUnused, IsTable}
use Rattle.cookie_table.proofs.Keys.{all_push, all_but, all_middle, distinct_push, distinct_but, fresh_but, fresh_unused, fresh_used, rows_kept, used_kept, unused_kept}
use Rattle.cookie_table.proofs.Rows.{rows_middle, without_one, find_passes}

module _ {T : Type 0} (name : T → ℕ) (old new : Slab (Option T)) (key : ℕ) (x : T) where
  -- a value is put under a key that was empty
  module _ (order rest : List ℕ) (table : IsTable name old order (rest ++ key ∷ [])) (change : Updates old new key (Some (Some x))) where
    fresh_key : IsFresh key order
    fresh_key = fresh_unused old key order (all_middle (IsUnused old) rest key [] table.unused) table.used

    pub pushed_rows : rows new (order ++ key ∷ []) ≡ rows old order ++ x ∷ []
    pushed_rows =
        rows_middle new order key [] x (ap option_flatten change.changed)
        ∙ ap (λ xs. xs ++ x ∷ []) (rows_kept old new key (Some (Some x)) change order fresh_key)

    pub pushed : IsFresh (name x) (cookies name (rows old order)) → IsTable name new (order ++ key ∷ []) rest
    pushed fresh =
        let apart : IsFresh key rest = subst (IsFresh key) (append-nil rest) (fresh_but rest key [] table.others_distinct) in
        let unused : AllByRecursion (IsUnused old) rest = subst (AllByRecursion (IsUnused old)) (append-nil rest) (all_but (IsUnused old) rest key [] table.unused) in
        record {
          used = all_push (IsUsed new) order key (used_kept old new key (Some (Some x)) change order fresh_key table.used) (ap (λ o. is_some (option_flatten o)) change.changed);
          unused = unused_kept old new key (Some (Some x)) change rest apart unused;
          order_distinct = distinct_push order key table.order_distinct fresh_key;
          others_distinct = subst AreDistinct (append-nil rest) (distinct_but rest key [] table.others_distinct);
          number = omega (arith, table.number, length-append order (key ∷ []), length-append rest (key ∷ []));
          cookies_distinct = subst (λ xs. AreDistinct (cookies name xs)) (sym pushed_rows) (subst AreDistinct (sym (map-append name (rows old order) (x ∷ []))) (distinct_push (cookies name (rows old order)) (name x) table.cookies_distinct fresh));
        }

  -- the value is taken from its key
  module _ (xs ys others : List ℕ) (table : IsTable name old (xs ++ key ∷ ys) others) (there : entry_at old key ≡ Some x) (change : Updates old new key (Some None)) where
    left_rows : rows new (xs ++ ys) ≡ rows old xs ++ rows old ys
    left_rows =
        rows_kept old new key (Some None) change (xs ++ ys) (fresh_but xs key ys table.order_distinct)
        ∙ filter_map-append (entry_at old) xs ys

    around : rows old (xs ++ key ∷ ys) ≡ rows old xs ++ x ∷ rows old ys
    around = rows_middle old xs key ys x there

    names : AreDistinct (cookies name (rows old xs) ++ name x ∷ cookies name (rows old ys))
    names = subst AreDistinct (ap (cookies name) around ∙ map-append name (rows old xs) (x ∷ rows old ys)) table.cookies_distinct

    joined : cookies name (rows old xs ++ rows old ys) ≡ cookies name (rows old xs) ++ cookies name (rows old ys)
    joined = map-append name (rows old xs) (rows old ys)

    taken_rows : (cookie : ℕ) → value_of name cookie (rows old (xs ++ key ∷ ys)) ≡ Some x → rows new (xs ++ ys) ≡ without name cookie (rows old (xs ++ key ∷ ys))
    taken_rows cookie found =
        let same : name x ≡ cookie = eqb-true _ _ (find_passes (has_cookie name cookie) _ x found) in
        let fresh : IsFresh cookie (cookies name (rows old xs ++ rows old ys)) =
        subst (λ n. IsFresh n (cookies name (rows old xs ++ rows old ys))) same
        (subst (IsFresh (name x)) (sym joined) (fresh_but (cookies name (rows old xs)) (name x) (cookies name (rows old ys)) names)) in
        left_rows ∙ sym (without_one name cookie (rows old xs) x (rows old ys) same fresh) ∙ ap (without name cookie) (sym around)

    pub taken : IsTable name new (xs ++ ys) (others ++ key ∷ [])
    taken =
        let apart = fresh_but xs key ys table.order_distinct in
        let is_used : IsUsed old key = ap is_some there in
        let fresh : IsFresh key others = fresh_used old key others is_used table.unused in
        record {
          used = used_kept old new key (Some None) change (xs ++ ys) apart (all_but (IsUsed old) xs key ys table.used);
          unused = all_push (IsUnused new) others key (unused_kept old new key (Some None) change others fresh table.unused) change.changed;
          order_distinct = distinct_but xs key ys table.order_distinct;
          others_distinct = distinct_push others key table.others_distinct fresh;
          number = omega (arith, table.number, length-append xs (key ∷ ys), length-append xs ys, length-append others (key ∷ []));
          cookies_distinct = subst (λ zs. AreDistinct (cookies name zs)) (sym left_rows) (subst AreDistinct (sym joined) (distinct_but (cookies name (rows old xs)) (name x) (cookies name (rows old ys)) names));
        }

  -- the same, by the place in the order
  module _ (order others : List ℕ) (at : ℕ) (within : at < length order) (read : key ≡ get_or order at key) (table : IsTable name old order others) (there : entry_at old key ≡ Some x) (change : Updates old new key (Some None)) where
    split : order ≡ take at order ++ key ∷ drop (at + 1) order
    split =
        sym (take-append-drop at order)
        ∙ ap (λ ks. take at order ++ ks) (drop_more order at key within)
        ∙ ap (λ k. take at order ++ k ∷ drop (at + 1) order) (sym read)

    parted : IsTable name old (take at order ++ key ∷ drop (at + 1) order) others
    parted = subst (λ ks. IsTable name old ks others) split table

    pub taken_at : IsTable name new (take at order ++ drop (at + 1) order) (others ++ key ∷ [])
    taken_at = taken (take at order) (drop (at + 1) order) others parted there change

    pub taken_rows_at : (cookie : ℕ) → value_of name cookie (rows old order) ≡ Some x → rows new (take at order ++ drop (at + 1) order) ≡ without name cookie (rows old order)
    taken_rows_at cookie found =
        taken_rows (take at order) (drop (at + 1) order) others parted there change cookie (subst (λ ks. value_of name cookie (rows old ks) ≡ Some x) split found)
        ∙ ap (λ ks. without name cookie (rows old ks)) (sym split)
