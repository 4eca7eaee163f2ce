-- What maps and ends come to.
use Rattle.std.proofs.Common.{◌≡◌, ℕ, ◌%◌, ◌/◌, ◌==◌, ◌&&◌, ◌||◌, Bool, true, false, not, cond, nat_lt, bit_and, [], ◌∷◌, Option, Some, None, is_some, Ok, Err, refl, sym, ◌∙◌, ap, arith}
use Rattle.std.proofs.lemmas.Bool.{false≢true}
use Rattle.std.proofs.lemmas.Bool.Decides.{nat_tests}
use Rattle.pv_words.specs.declared.grant.Mode.{Mode}
use Rattle.pv_words.specs.declared.grant.Mode.TheVariants.{Read, Write}
use Rattle.pv_words.specs.declared.grant.GrantRefusal.{GrantRefusal}
use Rattle.pv_words.specs.declared.grant.GrantRefusal.TheVariants.{NoEntry, Moved, NotPermitted, OtherDomain, ReadOnly, InUse, BadFrame}
use Rattle.pv_words.specs.Held.{permits}
use Rattle.pv_words.specs.Memory.{without}
use Rattle.pv_words.specs.Plan.{Finished}
use Rattle.grant_table.specs.declared.owner.Owned.TheVariants.{Ended, Busy}
use Rattle.grant_table.specs.declared.owner.Owned.TheVariants as owned
use Rattle.pv_words.specs.Flags.{refusal_of, has, used}
use Rattle.pv_words.specs.Mapping.{hold_of, undo_plan, frame_plan, with_flags, flags_plan}
use Rattle.pv_words.specs.MapLaws.{RefusesExactly, MapsExactly, SucceedsExactly, exchange_result, flags_result, outcome, won}
use Rattle.grant_table.specs.Laws.{EndsExactly, GrantsExactly, Means}
use Rattle.pv_words.proofs.Bits.{test_280, test_284, without_used}

-- the in-use bits of the word seen, and whether it is the word that was asked for
ending : (word seen : ℕ) (busy same : Bool) → has seen used ≡ busy → (seen == without word used) ≡ same → (busy ≡ true → same ≡ true → ⊥) → Means (cond busy (Busy seen) (cond same Ended (owned.Moved word seen))) seen (cond same 0 seen)
ending word seen true true b s clash = absurd (clash refl refl)
ending word seen true false b s clash = (b, (refl, refl))
ending word seen false true b s clash = (b, refl)
ending word seen false false b s clash = (b, (refl, refl))

pub ends_exactly : EndsExactly
ends_exactly word seen =
    ending word seen (has seen used) (seen == without word used) refl refl (λ busy same.
    let equal : seen ≡ without word used = grind (arith, nat_tests) in
    let none : bit_and seen 24 ≡ 0 = ap (λ x. bit_and x 24) equal ∙ without_used word in
    let free : (bit_and seen 24 == 0) ≡ true = grind (arith, nat_tests) in
    false≢true (sym (ap not free) ∙ busy))

pub grants_exactly : GrantsExactly
grants_exactly Read Read = refl
grants_exactly Read Write = refl
grants_exactly Write Read = refl
grants_exactly Write Write = refl
