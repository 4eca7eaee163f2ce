-- What a device holds along a map and after an unmap.
use Rattle.std.proofs.Common.{◌≡◌, inl, inr, ℕ, ◌+◌, ◌==◌, ◌&&◌, ◌<◌, ◌≤◌, Bool, true, false, not, cond, nat_lt, List, [], ◌∷◌, ◌++◌, Option, Some, None, is_some, Result, Ok, Err, refl, sym, ◌∙◌, ap, subst, arith}
use Rattle.std.proofs.lemmas.Bool.Decides.{nat_tests}
use Rattle.pv_words.specs.declared.grant.Hold.{Hold}
use Rattle.pv_words.specs.declared.grant.Mode.{Mode}
use Rattle.pv_words.specs.declared.grant.Mode.TheVariants.{Read, Write}
use Rattle.pv_words.specs.declared.grant.GrantRefusal.{GrantRefusal}
use Rattle.pv_words.specs.declared.grant.GrantRefusal.TheVariants.{NoEntry, NotPermitted, OtherDomain, ReadOnly, InUse, Moved}
use Rattle.pv_words.specs.Held.{Has, Holds, IsProper, MarksPage, holding, holds_of, in_use, permits, begins, exchanged, framed, unheld, unmissed}
use Rattle.pv_words.specs.Plan.{Plan, Finished, FitsFrom}
use Rattle.pv_words.specs.Flags.{refusal_of, denies, forbids, has, is_foreign, used}
use Rattle.pv_words.specs.Mapping.{hold_of, undo_plan, frame_plan, with_flags, with_seen, flags_plan, map_plan, unmap_want}
use Rattle.pv_words.specs.Mapping as map
use Rattle.pv_words.specs.MapLaws.{HoldsExactly, UnmapsExactly, IsCause, IsResult, with_result}
use Rattle.pv_words.proofs.Outcomes.{refuses_exactly}

-- the exchange of a map begins a mapping where it saw the word, and else none
begins_none : (gref old new seen : ℕ) → (seen == old) ≡ false → begins gref old new seen ≡ None
begins_none gref old new seen e =
    ap (λ t. cond (t && ((new == old + 8) && permits old Read)) (Some (record { gref = gref; mode = Read })) (cond (t && ((new == old + 24) && permits old Write)) (Some (record { gref = gref; mode = Write })) None)) e

begins_is : (gref old new seen : ℕ) (read write : Bool) → ((seen == old) && ((new == old + 8) && permits old Read)) ≡ read → ((seen == old) && ((new == old + 24) && permits old Write)) ≡ write → begins gref old new seen ≡ cond read (Some (record { gref = gref; mode = Read })) (cond write (Some (record { gref = gref; mode = Write })) None)
begins_is gref old new seen read write r w = rw r (rw w refl)

begins_mode : (gref word seen : ℕ) (mode : Mode) → (seen == word) ≡ true → permits word mode ≡ true → begins gref word (word + in_use mode) seen ≡ Some (record { gref = gref; mode = mode })
begins_mode gref word seen Read same ok =
    let is : (word + 8 == word + 8) ≡ true = grind (arith, nat_tests) in
    begins_is gref word (word + 8) seen true ((seen == word) && ((word + 8 == word + 24) && permits word Write)) (rw same (rw is ok)) refl
begins_mode gref word seen Write same ok =
    let apart : (word + 24 == word + 8) ≡ false = grind (arith, nat_tests) in
    let is : (word + 24 == word + 24) ≡ true = grind (arith, nat_tests) in
    begins_is gref word (word + 24) seen false true (rw same (rw apart refl)) (rw same (rw is ok))

pub permitted : (b : Bool) → false ≡ not b → b ≡ true
permitted true e = refl
permitted false e = e

pub some_same : {A : Type 0} (x y : A) → Some x ≡ Some y → x ≡ y
some_same x y e = cc

-- a refusal by the flags' word shows its cause
pub caused : (frames grants gref word : ℕ) (mode : Mode) (d f w u : Bool) (r : GrantRefusal) → denies word ≡ d → is_foreign word ≡ f → forbids word mode ≡ w → has word used ≡ u → cond d (Some (NotPermitted word)) (cond f (Some (OtherDomain word)) (cond w (Some (ReadOnly word)) (cond u (Some (InUse word)) None))) ≡ Some r → IsCause frames grants gref mode r
caused frames grants gref word mode true f w u r a b c e h = subst (λ x. IsCause frames grants gref mode x) (some_same (NotPermitted word) r h) a
caused frames grants gref word mode false true w u r a b c e h = subst (λ x. IsCause frames grants gref mode x) (some_same (OtherDomain word) r h) (a, b)
caused frames grants gref word mode false false true u r a b c e h = subst (λ x. IsCause frames grants gref mode x) (some_same (ReadOnly word) r h) (a, b, c)
caused frames grants gref word mode false false false true r a b c e h = subst (λ x. IsCause frames grants gref mode x) (some_same (InUse word) r h) (a, b, c, e)
caused frames grants gref word mode false false false false r a b c e h = let wrong : ⊥ = cc in absurd wrong

-- a mapping taken back is none any more
taken_back : (gref : ℕ) (mode : Mode) (same bits : Bool) → (gref == gref) ≡ same → (in_use mode == in_use mode) ≡ bits → same ≡ true → bits ≡ true → unmissed gref (in_use mode) (record { gref = gref; mode = mode } ∷ []) ≡ []
taken_back gref mode same bits s b st bt = rw (s ∙ st) (rw (b ∙ bt) refl)

module _ (frames grants : ℕ → ℕ) (dom gref : ℕ) (mode : Mode) (held : List Hold) (known : gref < grants dom) where
  abbrev Ends_so : Holds → Result Hold GrantRefusal → Type 0
  Ends_so h r = (h ≡ holds_of (with_result held r)) × IsResult (frames dom) (grants dom) dom gref mode r

  abbrev Fit : Holds → Plan (Result Hold GrantRefusal) → Type 0
  Fit h p = FitsFrom (IsProper frames grants dom) (holding frames) Ends_so h p

  undone : (frame : ℕ) → frames dom ≤ frame → Fit (record { held = held; begun = None; missed = record { gref = gref; mode = mode } ∷ [] }) (undo_plan dom gref mode frame)
  undone frame out =
      let same : (gref == gref) ≡ true = grind (arith, nat_tests) in
      let bits : (in_use mode == in_use mode) ≡ true = grind (arith, nat_tests) in
      ((known, ((refl, inr (inl (refl, refl))), inl (refl, refl))), λ v. (ap (λ m. record { held = held; begun = None; missed = m }) (taken_back gref mode true true same bits refl refl), out))

  named_so : (b : Bool) (f : ℕ) → nat_lt f (frames dom) ≡ b → Fit (cond b (record { held = held ++ hold_of dom gref mode f ∷ []; begun = None; missed = [] }) (record { held = held; begun = None; missed = record { gref = gref; mode = mode } ∷ [] })) (cond b (Finished (Ok (hold_of dom gref mode f))) (undo_plan dom gref mode f))
  named_so true f e = (refl, record { dom_is = refl; gref_is = refl; mode_is = refl; frame_in = grind (arith, nat_tests); gref_in = known })
  named_so false f e = undone f (grind (arith, nat_tests))

  named : (f : ℕ) → Fit (framed frames (record { held = held; begun = Some (record { gref = gref; mode = mode }); missed = [] }) dom gref f (Some (record { gref = gref; mode = mode }))) (map.with_frame (frames dom) dom gref mode f)
  named f =
      let same : (gref == gref) ≡ true = grind (arith, nat_tests) in
      subst (λ t. Fit (cond (t && nat_lt f (frames dom)) (record { held = held ++ hold_of dom gref mode f ∷ []; begun = None; missed = [] }) (record { held = held; begun = None; missed = record { gref = gref; mode = mode } ∷ [] })) (map.with_frame (frames dom) dom gref mode f)) (sym same) (named_so (nat_lt f (frames dom)) f refl)

  swapped : (b : Bool) (word seen : ℕ) → (seen == word) ≡ b → permits word mode ≡ true → Fit (exchanged (holds_of held) (begins gref word (word + in_use mode) seen)) (cond b (frame_plan (frames dom) dom gref mode) (Finished (Err (Moved word seen))))
  swapped true word seen e ok =
      subst (λ x. Fit (exchanged (holds_of held) x) (frame_plan (frames dom) dom gref mode)) (sym (begins_mode gref word seen mode e ok)) ((known, (refl, tt)), λ f. named f)
  swapped false word seen e ok =
      subst (λ x. Fit (exchanged (holds_of held) x) (Finished (Err (Moved word seen)))) (sym (begins_none gref word (word + in_use mode) seen e)) (refl, (ok, e))

  asked : (o : Option GrantRefusal) (word : ℕ) → refusal_of word mode ≡ o → Fit (holds_of held) (with_flags (frames dom) dom gref mode word o)
  asked (Some x) word e = (refl, caused (frames dom) (grants dom) gref word mode (denies word) (is_foreign word) (forbids word mode) (has word used) x refl refl refl refl e)
  asked None word e =
      let ok = permitted (permits word mode) (sym (ap is_some e) ∙ refuses_exactly word mode) in
      ((known, ((refl, (mode, refl, ok)), tt)), λ seen. swapped (seen == word) word seen refl ok)

  known_maps : Fit (holds_of held) (flags_plan (frames dom) dom gref mode)
  known_maps = ((known, (refl, tt)), λ word. asked (refusal_of word mode) word refl)

entered : (frames grants : ℕ → ℕ) (dom gref : ℕ) (mode : Mode) (held : List Hold) (b : Bool) → nat_lt gref (grants dom) ≡ b → FitsFrom (IsProper frames grants dom) (holding frames) (λ h r. (h ≡ holds_of (with_result held r)) × IsResult (frames dom) (grants dom) dom gref mode r) (holds_of held) (cond b (flags_plan (frames dom) dom gref mode) (Finished (Err (NoEntry gref))))
entered frames grants dom gref mode held true e = known_maps frames grants dom gref mode held (grind (arith, nat_tests))
entered frames grants dom gref mode held false e = (refl, (refl, grind (arith, nat_tests)))

pub holds_exactly : HoldsExactly
holds_exactly frames grants dom gref mode held = entered frames grants dom gref mode held (nat_lt gref (grants dom)) refl

-- a page that is held is mapped
marked : (h : Hold) (held : List Hold) → Has (λ k. k ≡ h) held → Has (MarksPage h.gref.0 (in_use h.mode)) held
marked h [] at = absurd at
marked h (k ∷ ks) (inl e) = inl (ap (λ (x : Hold). x.gref.0) e, ap (λ (x : Hold). in_use x.mode) e)
marked h (k ∷ ks) (inr at) = inr (marked h ks at)

pub unmaps_exactly : UnmapsExactly
unmaps_exactly frames grants dom h held seen is known at =
    let same : (h.gref.0 == h.gref.0) ≡ true = grind (arith, nat_tests) in
    let bits : (in_use h.mode == in_use h.mode) ≡ true = grind (arith, nat_tests) in (
      (subst (λ d. h.gref.0 < grants d) (sym is) known, ((is, inl (marked h held at)), ((refl, refl), at))),
      ap (λ t. cond (t && (in_use h.mode == in_use h.mode)) (holds_of (unheld h held)) (holds_of held)) same ∙ ap (λ t. cond t (holds_of (unheld h held)) (holds_of held)) bits,
    )
