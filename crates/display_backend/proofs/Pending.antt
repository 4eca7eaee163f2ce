-- Which flip is pending on a connector, as requests are answered and blanks come.
use Rattle.std.proofs.Common.{◌≡◌, ◌≢◌, ℕ, zero, suc, pos, List, [], ◌∷◌, get_or, set, Option, Some, None, Ok, refl, ap, ◌∙◌}
use Rattle.std.proofs.Math.ListN as lists
use Rattle.std.proofs.lemmas.List.{get_or-set_other}
use Rattle.displ_wire.specs.declared.Asked.TheVariants as asked
use Rattle.displ_wire.specs.declared.Config.{Config}
use Rattle.display_buffers.specs.declared.live.Live.{Live}
use Rattle.framebuffers.specs.Frames.{frame_of}
use Rattle.connectors.specs.declared.connector.Connector.{Connector}
use Rattle.connectors.specs.Connectors.{after_blank, after_detach, after_flip, first_connector, flip_check, pending_of}
use Rattle.connectors.proofs.Showing.{configured_pending, detached_pending, flips_alone}
use Rattle.display_backend.specs.Scene.{Scene, after_blank_at, asking, configured, connector_at, detached, flipped, no_scene, pending_at}
use Rattle.display_backend.specs.Verdict.{verdict}
use Rattle.display_backend.proofs.Numbered.{passes_by}

abbrev at : List Connector → ℕ → Connector
at cs part = get_or cs part first_connector

-- one connector is another, on which the same flip is pending
kept_at : (cs : List Connector) (i part : ℕ) (c : Connector) → pending_of c ≡ pending_of (at cs i) → pending_of (at (set cs i c) part) ≡ pending_of (at cs part)
kept_at [] i part c e = refl
kept_at (k ∷ ks) zero zero c e = e
kept_at (k ∷ ks) zero (suc part) c e = refl
kept_at (k ∷ ks) (suc i) zero c e = refl
kept_at (k ∷ ks) (suc i) (suc part) c e = kept_at ks i part c e

-- a flip is accepted on a connector that is there, and is pending then
pends_at : (cs : List Connector) (i fb : ℕ) (f : Option _) → flip_check (at cs i) f ≡ Ok tt → pending_of (at (set cs i (after_flip (at cs i) fb)) i) ≡ Some fb
pends_at [] i fb None h = absurd (cc)
pends_at [] i fb (Some f) h = absurd (cc)
pends_at (k ∷ ks) zero fb f h = refl
pends_at (k ∷ ks) (suc i) fb f h = pends_at ks i fb f h

-- after its blank none is pending
blanked_at : (cs : List Connector) (i : ℕ) → pending_of (at (set cs i (after_blank (at cs i))) i) ≡ None
blanked_at [] i = refl
blanked_at (k ∷ ks) zero = refl
blanked_at (k ∷ ks) (suc i) = blanked_at ks i

pub none_pends : (part : ℕ) → pending_at no_scene part ≡ None
none_pends zero = refl
none_pends (suc zero) = refl
none_pends (suc (suc zero)) = refl
none_pends (suc (suc (suc zero))) = refl
none_pends (suc (suc (suc (suc part)))) = refl

module _ (sc : Scene) where
  pub blanked_pends : (part : ℕ) → pending_at (after_blank_at sc part) part ≡ None
  blanked_pends part = blanked_at sc.connectors part

  pub blanked_elsewhere : (part other : ℕ) → other ≢ part → pending_at (after_blank_at sc part) other ≡ pending_at sc other
  blanked_elsewhere part other apart = ap pending_of (get_or-set_other sc.connectors part other (after_blank (connector_at sc part)) first_connector apart)

  pub configured_pends : (c : Config) (part : ℕ) → pending_at (configured c sc) part ≡ pending_at sc part
  configured_pends c part = kept_at sc.connectors sc.part part _ (configured_pending (asking sc) c)

  pub detached_pends : (fb part : ℕ) → pending_at (detached fb sc) part ≡ pending_at sc part
  detached_pends fb part =
      ap pending_of (lists.get_or-map (after_detach fb) sc.connectors part first_connector)
      ∙ detached_pending fb (connector_at sc part).flip

  pub flipped_elsewhere : (fb part : ℕ) → part ≢ sc.part → pending_at (flipped fb sc) part ≡ pending_at sc part
  flipped_elsewhere fb part apart = ap pending_of (get_or-set_other sc.connectors sc.part part (after_flip (asking sc) fb) first_connector apart)

  module _ {P : Type 0} (bs : List (Live P)) (fb : ℕ) (accepted : verdict bs sc (asked.Flip fb) ≡ pos 0) where
    passes : flip_check (asking sc) (frame_of fb sc.frames) ≡ Ok tt
    passes = passes_by (flip_check (asking sc) (frame_of fb sc.frames)) accepted

    -- a flip is accepted only where none is pending
    pub flips_first : pending_at sc sc.part ≡ None
    flips_first = flips_alone (asking sc) (frame_of fb sc.frames) passes

    pub flipped_pends : pending_at (flipped fb sc) sc.part ≡ Some fb
    flipped_pends = pends_at sc.connectors sc.part fb (frame_of fb sc.frames) passes
