-- Which flip is pending on a connector is told by what came to pass: the one that was accepted last, unless it is done.
use Rattle.std.proofs.Common.{◌≡◌, inl, inr, ℕ, pos, Bool, true, false, cond, ◌==◌, List, [], ◌∷◌, ◌++◌, Option, Some, None, refl, sym, ◌∙◌, ap, append-nil, eqb-true}
use Rattle.std.proofs.lemmas.Bool.{eqb-false}
use Rattle.displ_wire.specs.declared.Asked.TheVariants as asked
use Rattle.displ_wire.specs.declared.Config.{Config}
use Rattle.display_buffers.specs.declared.live.Live.{Live}
use Rattle.display_backend.specs.Scene.{Scene, after_blank_at, configured, detached, flipped, no_scene, pending_at}
use Rattle.display_backend.specs.Verdict.{verdict}
use Rattle.display_backend.proofs.Pending as scene
use Rattle.backend_core.specs.Flips.{AreInOrder, accepted, raised}
use Rattle.backend_core.specs.Pictures.{Change, Configured, Detached, Flipped, Raised}

abbrev pending : Option ℕ → List ℕ
pending None = []
pending (Some fb) = fb ∷ []

abbrev pub Pends : Scene → List Change → Type 0
Pends sc cs = (part : ℕ) → raised part cs ++ pending (pending_at sc part) ≡ accepted part cs

pub nothing_pends : Pends no_scene []
nothing_pends part = ap pending (scene.none_pends part)

pub in_order : (sc : Scene) (cs : List Change) (part : ℕ) → Pends sc cs → AreInOrder part cs
in_order sc cs part p = by_pending (pending_at sc part) (p part)
  where
    by_pending : (o : Option ℕ) → raised part cs ++ pending o ≡ accepted part cs → AreInOrder part cs
    by_pending None e = inl (sym (append-nil (raised part cs)) ∙ e)
    by_pending (Some fb) e = inr (fb, e)

module _ (sc : Scene) (cs : List Change) (p : Pends sc cs) where
  -- the same flip is pending on each connector
  kept : (new : Scene) → ((part : ℕ) → pending_at new part ≡ pending_at sc part) → (part : ℕ) → raised part cs ++ pending (pending_at new part) ≡ accepted part cs
  kept new same part = ap (λ o. raised part cs ++ pending o) (same part) ∙ p part

  pub configured_pends : (c : Config) → Pends (configured c sc) (Configured sc.part c ∷ cs)
  configured_pends c = kept (configured c sc) (scene.configured_pends sc c)

  pub detached_pends : (fb : ℕ) → Pends (detached fb sc) (Detached fb ∷ cs)
  detached_pends fb = kept (detached fb sc) (scene.detached_pends sc fb)

  -- a flip is accepted where none is pending, and is pending then
  pub flipped_pends : (bs : List (Live ℕ)) (fb : ℕ) → verdict bs sc (asked.Flip fb) ≡ pos 0 → Pends (flipped fb sc) (Flipped sc.part fb ∷ cs)
  flipped_pends bs fb v part = by_part (sc.part == part) refl
    where
      by_part : (t : Bool) → (sc.part == part) ≡ t → raised part cs ++ pending (pending_at (flipped fb sc) part) ≡ cond t (accepted part cs ++ fb ∷ []) (accepted part cs)
      by_part true same =
          let here : part ≡ sc.part = sym (eqb-true sc.part part same) in
          let none : raised part cs ≡ accepted part cs =
          sym (append-nil (raised part cs)) ∙ (ap (λ o. raised part cs ++ pending o) (sym (ap (pending_at sc) here ∙ scene.flips_first sc bs fb v)) ∙ p part) in
          ap (λ o. raised part cs ++ pending o) (ap (pending_at (flipped fb sc)) here ∙ scene.flipped_pends sc bs fb v)
          ∙ ap (λ fbs. fbs ++ fb ∷ []) none
      by_part false other =
          ap (λ o. raised part cs ++ pending o) (scene.flipped_elsewhere sc fb part (λ i. eqb-false sc.part part other (sym i))) ∙ p part

  -- a flip that is done is pending no longer
  pub raised_pends : (k fb : ℕ) → pending_at sc k ≡ Some fb → Pends (after_blank_at sc k) (Raised k fb ∷ cs)
  raised_pends k fb is part = by_part (k == part) refl
    where
      by_part : (t : Bool) → (k == part) ≡ t → cond t (raised part cs ++ fb ∷ []) (raised part cs) ++ pending (pending_at (after_blank_at sc k) part) ≡ accepted part cs
      by_part true same =
          let here : k ≡ part = eqb-true k part same in
          ap (λ o. (raised part cs ++ fb ∷ []) ++ pending o) (ap (pending_at (after_blank_at sc k)) (sym here) ∙ scene.blanked_pends sc k)
          ∙ (append-nil (raised part cs ++ fb ∷ [])
          ∙ (ap (λ o. raised part cs ++ pending o) (sym is ∙ ap (pending_at sc) here) ∙ p part))
      by_part false other =
          ap (λ o. raised part cs ++ pending o) (scene.blanked_elsewhere sc k part (λ i. eqb-false k part other (sym i))) ∙ p part
