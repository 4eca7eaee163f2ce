-- A repair takes what was told to what is real, by events that can be.
use Rattle.std.proofs.Common.{◌≡◌, ℕ, ◌+◌, ◌≤◌, Bool, true, false, cond, List, [], ◌∷◌, ◌++◌, map, length, nat_lt, Option, Some, None, is_some, refl, sym, ap, ◌∙◌, arith}
use Rattle.std.proofs.lemmas.Bool.{ltb-false}
use Rattle.std.specs.Cmp.{nat_cmp_total}
use Rattle.std.specs.FinMap as finite
use Rattle.kbd_wire.specs.declared.Event.{Event}
use Rattle.kbd_wire.specs.declared.Event.TheVariants.{Key, Syn}
use Rattle.multitouch.specs.Pressed.{KeySet, Pressed, after, Accepts, IsBounded}
use Rattle.multitouch.specs.Repair.{changes, codes_without, items_below, repair_of}
use Rattle.multitouch.proofs.Codes.{rising-keys}
use Rattle.multitouch.proofs.ContactChanges.{items_accepted, items_said}
use Rattle.multitouch.proofs.Events.{after-append, accepts_both}
use Rattle.multitouch.proofs.KeyChanges.{after_lifts, after_presses, among, among-codes_without, get-without, keys_settled, len-with_all, lifts_accepted, only_first, presses_accepted, with_all, without}

module _ (told real : Pressed) where
  lifted : List ℕ
  lifted = codes_without told.keys real.keys

  pressed : List ℕ
  pressed = codes_without real.keys told.keys

  contacts : List Event
  contacts = items_below told.contacts real.contacts 16

  -- once the keys that are up came up, and once those that are down went down
  at_first : Pressed
  at_first = after told (map (Key false) lifted)

  at_last : Pressed
  at_last = after at_first (map (Key true) pressed)

  first_keys : at_first ≡ record told { keys = without told.keys lifted }
  unfolding at_first
  first_keys = after_lifts told lifted

  last_keys : at_last ≡ record told { keys = real.keys }
  unfolding at_last lifted pressed
  last_keys =
      after_presses at_first pressed
      ∙ ap (λ (p : Pressed). record p { keys = with_all p.keys pressed }) first_keys
      ∙ ap (λ keys. record told { keys = keys }) (keys_settled told.keys real.keys)

  in_order : after told (changes told real) ≡ after at_last contacts
  unfolding at_first at_last lifted pressed contacts
  in_order =
      after-append told (map (Key false) lifted) (map (Key true) pressed ++ contacts)
      ∙ after-append at_first (map (Key true) pressed) contacts

  there_or : (here there : Option (Unit {0})) → only_first here there ≡ true → (is_some here ≡ true) × (is_some there ≡ false)
  there_or None None h = absurd (cc)
  there_or None (Some t) h = absurd (cc)
  there_or (Some u) None h = (refl, refl)
  there_or (Some u) (Some t) h = absurd (cc)

  -- a key that comes up is down
  lifts_down : (q : ℕ) → among q lifted ≡ true → finite.contains_key told.keys q ≡ true
  unfolding lifted
  lifts_down q there = (there_or _ _ (sym (among-codes_without told.keys real.keys q) ∙ there)).0

  -- a key that goes down is up
  presses_up : (q : ℕ) → among q pressed ≡ true → finite.contains_key (without told.keys lifted) q ≡ false
  unfolding pressed
  presses_up q there =
      let up = (there_or _ _ (sym (among-codes_without real.keys told.keys q) ∙ there)).1 in
      ap is_some (get-without told.keys lifted q) ∙ still_up (among q lifted) (finite.get told.keys q) up
    where
      still_up : (b : Bool) (o : Option (Unit {0})) → is_some o ≡ false → is_some (cond b None o) ≡ false
      still_up true o h = refl
      still_up false o h = h

  few_keys : finite.len real.keys ≤ 16 → finite.len (without told.keys lifted) + length pressed ≤ 16
  unfolding pressed lifted
  few_keys few =
      let count = len-with_all (without told.keys lifted) pressed (rising-keys _) presses_up in
      let whole = ap (λ (m : KeySet). finite.len m) (keys_settled told.keys real.keys) in
      omega (arith, count, whole, few)

  -- the contacts that there may be are below 16
  contacts_settled : IsBounded told → IsBounded real → (after at_last contacts).contacts ≡ real.contacts
  unfolding contacts
  contacts_settled told_bounded real_bounded =
      let said = items_said at_last told.contacts real.contacts 16 (ap (λ (p : Pressed). p.contacts) last_keys) in
      finite.same_map nat_cmp_total finite.nat_cmp-IsAntisymmetric _ _ (λ q. said.contacts q ∙ each q (nat_lt q 16) refl)
    where
      each : (q : ℕ) (b : Bool) → nat_lt q 16 ≡ b → cond b (finite.get real.contacts q) (finite.get told.contacts q) ≡ finite.get real.contacts q
      each q true e = refl
      each q false e =
          let past = ltb-false q 16 e in
          told_bounded.contacts q past ∙ sym (real_bounded.contacts q past)

  pub changes_mend : IsBounded told → IsBounded real → after told (changes told real) ≡ real
  unfolding contacts
  changes_mend told_bounded real_bounded =
      let said = items_said at_last told.contacts real.contacts 16 (ap (λ (p : Pressed). p.contacts) last_keys) in
      let keys : (after at_last contacts).keys ≡ real.keys = said.keys ∙ ap (λ (p : Pressed). p.keys) last_keys in
      in_order ∙ (λ i. record { contacts = contacts_settled told_bounded real_bounded i; keys = keys i })

  pub changes_accepted : IsBounded real → Accepts told (changes told real)
  unfolding at_first at_last lifted pressed contacts
  changes_accepted bounded =
      let first = lifts_accepted told lifted (rising-keys _) lifts_down in
      let keys : at_first.keys ≡ without told.keys lifted = ap (λ (p : Pressed). p.keys) first_keys in
      let second = presses_accepted at_first pressed (rising-keys _) (λ q there. ap (λ (m : KeySet). finite.contains_key m q) keys ∙ presses_up q there) (omega (arith, ap (λ (m : KeySet). finite.len m) keys, few_keys bounded.keys)) in
      let third = items_accepted at_last told.contacts real.contacts 16 (omega arith) (ap (λ (p : Pressed). p.contacts) last_keys) in
      accepts_both told (map (Key false) lifted) (map (Key true) pressed ++ contacts) first (accepts_both at_first (map (Key true) pressed) contacts second third)

  pub repair_mends : IsBounded told → IsBounded real → after told (repair_of told real) ≡ real
  repair_mends told_bounded real_bounded = after-append told (changes told real) (Syn ∷ []) ∙ changes_mend told_bounded real_bounded

  pub repair_accepted : IsBounded real → Accepts told (repair_of told real)
  repair_accepted bounded = accepts_both told (changes told real) (Syn ∷ []) (changes_accepted bounded) (refl, tt)
