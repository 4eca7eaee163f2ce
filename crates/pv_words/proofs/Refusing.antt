-- What is left of a map tells that it may still be refused, and an unmap takes just its page away.
use Rattle.std.proofs.Common.{◌≡◌, ℕ, suc, ◌+◌, ◌==◌, ◌&&◌, Bool, true, false, cond, nat_lt, [], ◌∷◌, ◌++◌, Option, Some, None, Result, Ok, Err, refl, sym, ap, subst, ◌∙◌, arith}
use Rattle.std.proofs.lemmas.Bool.{false≢true}
use Rattle.std.proofs.lemmas.Bool.Decides.{nat_tests}
use Rattle.pv_words.specs.declared.grant.GrantRefusal.{GrantRefusal}
use Rattle.pv_words.specs.declared.grant.GrantRefusal.TheVariants.{NoEntry, NotPermitted, Moved, BadFrame}
use Rattle.pv_words.specs.declared.grant.Hold.{Hold}
use Rattle.pv_words.specs.declared.grant.Mode.{Mode}
use Rattle.pv_words.specs.declared.grant.Mode.TheVariants.{Read, Write}
use Rattle.pv_words.specs.Held.{Begun, Has, Holds, IsProper, begins, exchanged, framed, holding, in_use, kept, passed, unheld, unmissed}
use Rattle.pv_words.specs.Plan.{Finished, Ends, Note, FitsFrom, Want, found}
use Rattle.pv_words.specs.declared.map.MapStage.{MapStage}
use Rattle.pv_words.specs.declared.map.MapStage.TheVariants as map_stage
use Rattle.pv_words.specs.declared.map.MapStep.{MapStep}
use Rattle.pv_words.specs.Mapping.{flags_plan, frame_plan, hold_of, undo_plan, unmap_want}
use Rattle.pv_words.specs.MapLeft.{is_last, is_over, map_left, map_rest}
use Rattle.pv_words.specs.MapLeft as mapping

-- a load of a frame that the domain hasn't gets no page
gets_none : (s r : Holds) (t u : Bool) → u ≡ false → (cond (t && u) r (kept s)).held ≡ s.held
gets_none s r true true e = absurd (false≢true (sym e))
gets_none s r true false e = refl
gets_none s r false u e = refl

framed_none : (frames : ℕ → ℕ) (s : Holds) (dom gref frame : ℕ) (b : Option Begun) → nat_lt frame (frames dom) ≡ false → (framed frames s dom gref frame b).held ≡ s.held
framed_none frames s dom gref frame None h = refl
framed_none frames s dom gref frame (Some b) h =
    gets_none s (record { held = s.held ++ record { dom = record { 0 = dom }; gref = record { 0 = gref }; frame = record { 0 = frame }; mode = b.mode } ∷ []; begun = None; missed = s.missed }) (b.gref == gref) (nat_lt frame (frames dom)) h

module _ (frames : ℕ → ℕ) (May : Holds → Want → Note → Type 0) (Q : Holds → Result Hold GrantRefusal → Type 0) where
  -- one way on from here the map is refused, and the same pages are held
  abbrev pub IsRefusedSo : Holds → Type 0
  IsRefusedSo s = (t : Holds) × (r : GrantRefusal) × Q t (Err r) × (t.held ≡ s.held)

  pub start_none : (F dom gref : ℕ) (mode : Mode) (b : Bool) (s : Holds) → FitsFrom May (holding frames) Q s (cond b (flags_plan F dom gref mode) (Finished (Err (NoEntry gref)))) → IsRefusedSo s
  start_none F dom gref mode false s h = (s, NoEntry gref, h, refl)
  start_none F dom gref Read true s h = (kept s, NotPermitted 0, h.1 0, refl)
  start_none F dom gref Write true s h = (kept s, NotPermitted 0, h.1 0, refl)

  rest_none : (F G dom gref : ℕ) (mode : Mode) (m : MapStage) (s : Holds) → F ≡ frames dom → is_last m ≡ false → FitsFrom May (holding frames) Q s (map_rest F G dom gref mode m) → IsRefusedSo s
  rest_none F G dom gref mode map_stage.Start s e going h = start_none F dom gref mode (nat_lt gref G) s h
  rest_none F G dom gref mode (map_stage.Begin flags) s e going h =
      let other : (suc flags == flags) ≡ false = grind (arith, nat_tests) in
      let t : Holds = exchanged s (begins gref flags (flags + in_use mode) (suc flags)) in
      (t, Moved flags (suc flags), subst (λ b. FitsFrom May (holding frames) Q t (cond b (frame_plan F dom gref mode) (Finished (Err (Moved flags (suc flags)))))) other (h.1 (suc flags)), refl)
  rest_none F G dom gref mode map_stage.Name s e going h =
      let none : nat_lt F F ≡ false = grind (arith, nat_tests) in
      let t : Holds = framed frames s dom gref F s.begun in
      let left : FitsFrom May (holding frames) Q t (undo_plan dom gref mode F) = subst (λ b. FitsFrom May (holding frames) Q t (cond b (Finished (Ok (hold_of dom gref mode F))) (undo_plan dom gref mode F))) none (h.1 F) in
      let same : (framed frames s dom gref F s.begun).held ≡ s.held = framed_none frames s dom gref F s.begun (ap (nat_lt F) (sym e) ∙ none) in
      (record { held = t.held; begun = None; missed = unmissed gref (in_use mode) (passed t.begun t.missed) }, BadFrame F, left.1 0, same)
  rest_none F G dom gref mode (map_stage.Undo frame) s e going h =
      (record { held = s.held; begun = None; missed = unmissed gref (in_use mode) (passed s.begun s.missed) }, BadFrame frame, h.1 0, refl)
  rest_none F G dom gref mode (map_stage.Over r) s e going h = absurd (false≢true (sym going))

  pub map_none : (F G : ℕ) (m : MapStep) (s : Holds) → F ≡ frames (mapping.dom_of m) → is_over m ≡ false → FitsFrom May (holding frames) Q s (map_left F G m) → IsRefusedSo s
  unfolding map_left is_over mapping.dom_of
  map_none F G m s e going h = rest_none F G m.dom.0 m.gref.0 m.mode m.stage s e going h

-- by the unmap of a page that is held, just that page is held no longer
pub unmap_leaves : (frames grants : ℕ → ℕ) (dom : ℕ) (h : Hold) (s : Holds) (v : ℕ) → IsProper frames grants dom s (unmap_want h) (Ends h) → Has (λ x. x ≡ h) s.held × ((holding frames s (Ends h) (found (unmap_want h) v)).held ≡ unheld h s.held)
unmap_leaves frames grants dom h s v proper =
    let same : (h.gref.0 == h.gref.0) ≡ true = grind (arith, nat_tests) in
    let bits : (in_use h.mode == in_use h.mode) ≡ true = grind (arith, nat_tests) in
    let less : Holds = record { held = unheld h s.held; begun = None; missed = passed s.begun s.missed } in (
      proper.1.1.1,
      ap (λ t. (cond (t && (in_use h.mode == in_use h.mode)) less (kept s)).held) same ∙ ap (λ t. (cond t less (kept s)).held) bits,
    )
