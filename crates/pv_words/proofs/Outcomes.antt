-- What maps and ends come to.
use Rattle.std.proofs.Common.{◌≡◌, ℕ, ◌%◌, ◌/◌, ◌==◌, ◌&&◌, ◌||◌, Bool, true, false, not, cond, nat_lt, bit_and, [], ◌∷◌, Option, Some, None, is_some, Ok, Err, refl, sym, ◌∙◌, ap}
use Rattle.pv_words.specs.declared.grant.Mode.{Mode}
use Rattle.pv_words.specs.declared.grant.Mode.TheVariants.{Read, Write}
use Rattle.pv_words.specs.declared.grant.GrantRefusal.{GrantRefusal}
use Rattle.pv_words.specs.declared.grant.GrantRefusal.TheVariants.{NoEntry, Moved, NotPermitted, OtherDomain, ReadOnly, InUse, BadFrame}
use Rattle.pv_words.specs.Held.{permits}
use Rattle.pv_words.specs.Plan.{Finished}
use Rattle.pv_words.specs.Flags.{refusal_of}
use Rattle.pv_words.specs.Mapping.{hold_of, undo_plan, frame_plan, with_flags, flags_plan}
use Rattle.pv_words.specs.MapLaws.{RefusesExactly, MapsExactly, SucceedsExactly, exchange_result, flags_result, outcome, won}
use Rattle.pv_words.proofs.Bits.{test_280, test_284}

-- the tests of a flags' word one after another, and all of them at once
chain : (word : ℕ) (one whole foreign spare free : Bool) → is_some (cond (not one || not whole) (Some (NotPermitted word)) (cond (not foreign) (Some (OtherDomain word)) (cond (not spare) (Some (ReadOnly word)) (cond (not free) (Some (InUse word)) None)))) ≡ not (one && (foreign && (spare && (whole && free))))
chain word false whole foreign spare free = refl
chain word true false false spare free = refl
chain word true false true false free = refl
chain word true false true true free = refl
chain word true true false spare free = refl
chain word true true true false free = refl
chain word true true true true false = refl
chain word true true true true true = refl

pub refuses_exactly : RefusesExactly
refuses_exactly word Read =
    chain word (word % 4 == 1) (bit_and word 256 == 0) (word / 65536 == 0) true (bit_and word 24 == 0)
    ∙ ap (λ t. not ((word % 4 == 1) && ((word / 65536 == 0) && t))) (sym (test_280 word))
refuses_exactly word Write =
    chain word (word % 4 == 1) (bit_and word 256 == 0) (word / 65536 == 0) (bit_and word 4 == 0) (bit_and word 24 == 0)
    ∙ ap (λ t. not ((word % 4 == 1) && ((word / 65536 == 0) && t))) (ap (λ t. (bit_and word 4 == 0) && t) (sym (test_280 word)) ∙ sym (test_284 word))

module _ (frames dom gref : ℕ) (mode : Mode) (word seen frame last : ℕ) where
  named : (b : Bool) → outcome (cond b (Finished (Ok (hold_of dom gref mode frame))) (undo_plan dom gref mode frame)) (last ∷ []) ≡ Some (cond b (Ok (hold_of dom gref mode frame)) (Err (BadFrame frame)))
  named true = refl
  named false = refl

  begun : (b : Bool) → outcome (cond b (frame_plan frames dom gref mode) (Finished (Err (Moved word seen)))) (frame ∷ last ∷ []) ≡ Some (cond (not b) (Err (Moved word seen)) (cond (nat_lt frame frames) (Ok (hold_of dom gref mode frame)) (Err (BadFrame frame))))
  begun true = named (nat_lt frame frames)
  begun false = refl

  asked : (r : Option GrantRefusal) → outcome (with_flags frames dom gref mode word r) (seen ∷ frame ∷ last ∷ []) ≡ Some (flags_result r (exchange_result frames dom gref mode word seen frame))
  asked None = begun (seen == word)
  asked (Some r) = refl

  entered : (b : Bool) → outcome (cond b (flags_plan frames dom gref mode) (Finished (Err (NoEntry gref)))) (word ∷ seen ∷ frame ∷ last ∷ []) ≡ Some (cond b (flags_result (refusal_of word mode) (exchange_result frames dom gref mode word seen frame)) (Err (NoEntry gref)))
  entered true = asked (refusal_of word mode)
  entered false = refl

pub maps_exactly : MapsExactly
maps_exactly frames grants dom gref mode word seen frame last = entered frames dom gref mode word seen frame last (nat_lt gref grants)

-- what a map comes to is a hold where no refusal applies
module _ (frames dom gref : ℕ) (mode : Mode) (word seen frame : ℕ) where
  won_named : (b c : Bool) → won (cond (not b) (Err (Moved word seen)) (cond c (Ok (hold_of dom gref mode frame)) (Err (BadFrame frame)))) ≡ cond (b && c) (Some (hold_of dom gref mode frame)) None
  won_named true true = refl
  won_named true false = refl
  won_named false c = refl

  won_asked : (r : Option GrantRefusal) → won (flags_result r (exchange_result frames dom gref mode word seen frame)) ≡ cond (not (is_some r) && ((seen == word) && nat_lt frame frames)) (Some (hold_of dom gref mode frame)) None
  won_asked None = won_named (seen == word) (nat_lt frame frames)
  won_asked (Some r) = refl

  won_entered : (b : Bool) → won (cond b (flags_result (refusal_of word mode) (exchange_result frames dom gref mode word seen frame)) (Err (NoEntry gref))) ≡ cond (b && (not (is_some (refusal_of word mode)) && ((seen == word) && nat_lt frame frames))) (Some (hold_of dom gref mode frame)) None
  won_entered true = won_asked (refusal_of word mode)
  won_entered false = refl

not_not : (b c : Bool) → b ≡ not c → not b ≡ c
not_not b true e = ap not e
not_not b false e = ap not e

pub succeeds_exactly : SucceedsExactly
succeeds_exactly frames grants dom gref mode word seen frame =
    won_entered frames dom gref mode word seen frame (nat_lt gref grants)
    ∙ ap (λ t. cond (nat_lt gref grants && (t && ((seen == word) && nat_lt frame frames))) (Some (hold_of dom gref mode frame)) None) (not_not (is_some (refusal_of word mode)) (permits word mode) (refuses_exactly word mode))
