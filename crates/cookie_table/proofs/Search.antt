-- The search for a cookie, from the place on at which it is found.
use Rattle.std.proofs.Common.{◌≡◌, ℕ, ◌+◌, ◌<◌, List, length, drop, cond, slice_index, Option, Some, ap, ◌∙◌, eq-eqb}
use Rattle.std.proofs.lemmas.List.{at_drop_more}
use Rattle.std.specs.List.{cons_option}
use Rattle.slab.specs.Slab.{Slab}
use Rattle.cookie_table.specs.Cookies.{value_of}
use Rattle.cookie_table.specs.Entries.{entry_at, rows}

pub found_at : {T : Type 0} (name : T → ℕ) (entries : Slab (Option T)) (order : List ℕ) (cookie at : ℕ) (x : T) → at < length order → entry_at entries (slice_index order at) ≡ Some x → name x ≡ cookie → value_of name cookie (rows entries (drop at order)) ≡ Some x
found_at name entries order cookie at x within there same =
    let rest = rows entries (drop (at + 1) order) in
    at_drop_more (λ keys. value_of name cookie (rows entries keys)) order at 0 within
    ∙ ap (λ o. value_of name cookie (cons_option o rest)) there
    ∙ ap (λ t. cond t (Some x) (value_of name cookie rest)) (eq-eqb _ _ same)
