-- What a connection remembers of the states that it heard.
use Rattle.std.proofs.Common.{◌≡◌, ◌||◌, List, [], ◌∷◌, Some, None, refl, sym, ◌∙◌, ap, inl, inr}
use Rattle.std.specs.Prelude.{find}
use Rattle.std.specs.List.{list_any}
use Rattle.std.proofs.Math.Bool.{or-false, or_assoc}
use Rattle.std.proofs.lemmas.Bool.{cases_Bool}
use Rattle.pv_words.specs.declared.device.State.{State}
use Rattle.pv_words.specs.Along.{after}
use Rattle.xenbus_states.specs.Connection.{Connection, heard, begun, is_ending, is_start, first_ending}

-- the first ending state stays
ending_kept : (c : Connection) (e : State) (states : List State) → c.ending ≡ Some e → (after heard c states).ending ≡ Some e
ending_kept c e [] same = same
ending_kept c e (s ∷ ss) same =
    let next : (heard c s).ending ≡ Some e = ap (λ o. first_ending o s) same in
    ending_kept (heard c s) e ss next

-- where there is none yet, the first one that is heard is it
ending_found : (c : Connection) (states : List State) → c.ending ≡ None → (after heard c states).ending ≡ find is_ending states
ending_found c [] none = none
ending_found c (s ∷ ss) none =
    let next : (heard c s).ending ≡ first_ending None s = ap (λ o. first_ending o s) none in
    elim (cases_Bool (is_ending s)) [
      | inl passes ↦
          let now : (heard c s).ending ≡ Some s = rw passes at next in
          rw passes (ending_kept (heard c s) s ss now)
      | inr fails ↦
          let still : (heard c s).ending ≡ None = rw fails at next in
          rw fails (ending_found (heard c s) ss still)
    ]

-- a start that was heard isn't forgotten
again_found : (c : Connection) (states : List State) → (after heard c states).again ≡ c.again || list_any is_start states
again_found c [] = sym (or-false c.again)
again_found c (s ∷ ss) = again_found (heard c s) ss ∙ or_assoc c.again (is_start s) (list_any is_start ss)

pub remembers : (c : Connection) (states : List State) → ((after heard (begun c) states).ending ≡ find is_ending states) × ((after heard (begun c) states).again ≡ list_any is_start states)
remembers c states = (ending_found (begun c) states refl, again_found (begun c) states)
