-- What a display shows stays sound: each framebuffer lies in a live display buffer, each picture in a live framebuffer.
use Rattle.std.proofs.Common.{◌≡◌, ◌≢◌, ℕ, zero, suc, Bool, true, false, ◌==◌, List, [], ◌∷◌, ◌++◌, map, get_or, set, Option, Some, None, Ok, option_map, is_some, pos, IsSomeAnd, refl, sym, ◌∙◌, arith, subst, eq-eqb}
use Rattle.std.proofs.lemmas.Bool.{or_parts, true≢false}
use Rattle.std.proofs.lemmas.List.Folds.{find-append}
use Rattle.std.specs.List.{AllByRecursion}
use Rattle.std.specs.Option.{option_or}
use Rattle.cookie_table.proofs.Keys.{all_push}
use Rattle.cookie_table.proofs.Names as table
use Rattle.displ_wire.specs.declared.Asked.{Asked}
use Rattle.displ_wire.specs.declared.Asked.TheVariants as asked
use Rattle.displ_wire.specs.declared.Attach.{Attach}
use Rattle.displ_wire.specs.declared.buffer.Refused.TheVariants.{Unknown}
use Rattle.display_buffers.specs.declared.live.Live.{Live}
use Rattle.display_buffers.specs.Buffers.{buffer_of, has_cookie, made_of, with_buffer, without_buffer}
use Rattle.display_buffers.specs.Buffers as buffers
use Rattle.displ_wire.specs.declared.framebuffer.Framebuffer.{Framebuffer}
use Rattle.framebuffers.specs.Frames as frames
use Rattle.framebuffers.specs.Frames.{LiesIn, attach_check, cookie_of, frame_of, is_used, with_frame, without_frame}
use Rattle.framebuffers.proofs.Checks as checks
use Rattle.framebuffers.proofs.Found.{found_elsewhere, found_still}
use Rattle.framebuffers.proofs.Sound.{sound_with, sound_without}
use Rattle.connectors.specs.declared.connector.Connector.{Connector}
use Rattle.connectors.specs.Connectors.{after_blank, after_config, after_detach, after_flip, config_check, first_connector, flip_check}
use Rattle.connectors.specs.Laws as connectors
use Rattle.connectors.proofs.Showing.{attached_sound, blanked_sound, configured_sound, detached_sound, flipped_sound}
use Rattle.page_directory.proofs.WalkAlong.{all_weaker}
use Rattle.display_backend.specs.Reply.{replied_to}
use Rattle.display_backend.specs.Scene.{IsSound, LiesInLive, Scene, after_blank_at, asking, connector_at, live_among, no_scene, scene_after, with_connector}
use Rattle.display_buffers.specs.Buffers.{buffer_at}
use Rattle.display_backend.specs.Verdict.{destroy_verdict, verdict}
use Rattle.display_buffers.specs.Stock.{Held}
use Rattle.display_backend.proofs.Numbered.{AreLike, like_buffer, not_refused, passes_by}

all_mapped : {X : Type 0} (Q R : X → Type 0) (f : X → X) → ((x : X) → Q x → R (f x)) → (xs : List X) → AllByRecursion Q xs → AllByRecursion R (map f xs)
all_mapped Q R f so [] all = tt
all_mapped Q R f so (x ∷ xs) all = (so x all.0, all_mapped Q R f so xs all.1)

all_set : {X : Type 0} (Q : X → Type 0) (xs : List X) (i : ℕ) (x : X) → AllByRecursion Q xs → Q x → AllByRecursion Q (set xs i x)
all_set Q [] i x all q = tt
all_set Q (y ∷ ys) zero x all q = (q, all.1)
all_set Q (y ∷ ys) (suc i) x all q = (all.0, all_set Q ys i x all.1 q)

all_at : {X : Type 0} (Q : X → Type 0) (xs : List X) (i : ℕ) (d : X) → AllByRecursion Q xs → Q d → Q (get_or xs i d)
all_at Q [] i d all q = q
all_at Q (y ∷ ys) zero d all q = all.0
all_at Q (y ∷ ys) (suc i) d all q = all_at Q ys i d all.1 q

-- a connector at first shows nothing
first_sound : (fs : List Framebuffer) → connectors.IsSound (live_among fs) first_connector
first_sound fs = record { has_pixels = λ r e. absurd (cc); shown = λ fb e. absurd (cc); marked = λ fb e. absurd (cc) }

abbrev AreSound : List Framebuffer → List Connector → Type 0
AreSound fs cs = AllByRecursion (λ c. connectors.IsSound (live_among fs) c) cs

pub connector_sound : (sc : Scene) (part : ℕ) → AreSound sc.frames sc.connectors → connectors.IsSound (live_among sc.frames) (connector_at sc part)
connector_sound sc part all = all_at (connectors.IsSound (live_among sc.frames)) sc.connectors part first_connector all (first_sound sc.frames)

-- an accepted DESTROY is of a buffer without a framebuffer
unused_by : (live used : Bool) → destroy_verdict live used ≡ pos 0 → used ≡ false
unused_by live false h = refl
unused_by false true h = absurd (not_refused Unknown h)
unused_by true true h = let wrong : ⊥ = cc in absurd wrong

module _ {P : Type 0} where
  -- where nothing is
  pub none_sound : (bs : List (Live P)) → IsSound bs no_scene
  none_sound bs =
      let first = first_sound [] in
      record {
        frames_are = record { few = record { at_most = omega arith; distinct = tt }; have_pixels = tt };
        frames_lie = tt;
        connectors_are = (first, (first, (first, (first, tt))));
      }

  -- a buffer more, and one less that no framebuffer is of
  lies_among_more : (bs : List (Live P)) (b : Live P) (f : Framebuffer) → LiesInLive bs f → LiesInLive (bs ++ b ∷ []) f
  lies_among_more bs b f lies =
      subst (λ (o : Option (Live P)). IsSomeAnd (option_map (λ x. x.buffer) o) (LiesIn f)) (sym (find-append (has_cookie f.dbuf) bs (b ∷ [])))
      (by_found (buffer_of f.dbuf bs) lies)
    where
      by_found : (o : Option (Live P)) → IsSomeAnd (option_map (λ x. x.buffer) o) (LiesIn f) → IsSomeAnd (option_map (λ x. x.buffer) (option_or o (buffer_of f.dbuf (b ∷ [])))) (LiesIn f)
      by_found None lies = absurd lies
      by_found (Some x) lies = lies

  lie_without : (bs : List (Live P)) (cookie : ℕ) (fs : List Framebuffer) → is_used cookie fs ≡ false → AllByRecursion (LiesInLive bs) fs → AllByRecursion (LiesInLive (without_buffer cookie bs)) fs
  lie_without bs cookie [] unused all = tt
  lie_without bs cookie (f ∷ fs) unused all =
      let parts = or_parts (f.dbuf == cookie) (is_used cookie fs) unused in
      let apart : f.dbuf ≢ cookie = λ e. let wrong : false ≡ true = sym parts.0 ∙ eq-eqb f.dbuf cookie e in true≢false (sym wrong) in
      let same : buffer_of f.dbuf (without_buffer cookie bs) ≡ buffer_of f.dbuf bs = table.taken_elsewhere buffers.cookie_of bs cookie f.dbuf apart in (
        subst (λ (o : Option (Live P)). IsSomeAnd (option_map (λ x. x.buffer) o) (LiesIn f)) (sym same) all.0,
        lie_without bs cookie fs parts.1 all.1,
      )

  module _ (bs : List (Live P)) (sc : Scene) (s : IsSound bs sc) where
    attached : (a : Attach) → attach_check sc.frames a (buffer_at a.dbuf_cookie bs) ≡ Ok tt → IsSound bs (record sc { frames = with_frame sc.frames a (buffer_at a.dbuf_cookie bs) })
    attached a h =
        let buffer = buffer_at a.dbuf_cookie bs in
        let p = checks.passes sc.frames a buffer h in
        let made = frames.made_of a p.of in
        let lies : LiesInLive bs made = subst (λ o. IsSomeAnd o (LiesIn made)) (sym p.live) (checks.lies_in a p.of p.fits) in
        record {
          frames_are = sound_with sc.frames a buffer s.frames_are h;
          frames_lie = subst (λ o. AllByRecursion (LiesInLive bs) (with_frame sc.frames a o)) (sym p.live) (all_push (LiesInLive bs) sc.frames made s.frames_lie lies);
          connectors_are = all_weaker (connectors.IsSound (live_among sc.frames)) (connectors.IsSound (live_among (with_frame sc.frames a buffer))) (λ k q. attached_sound (live_among sc.frames) (live_among (with_frame sc.frames a buffer)) k q (found_still sc.frames a buffer)) sc.connectors s.connectors_are;
        }

    detached : (fb : ℕ) → IsSound bs (record sc { frames = without_frame fb sc.frames; connectors = map (after_detach fb) sc.connectors })
    detached fb =
        record {
          frames_are = sound_without fb sc.frames s.frames_are;
          frames_lie = table.all_without cookie_of (LiesInLive bs) fb sc.frames s.frames_lie;
          connectors_are = all_mapped (connectors.IsSound (live_among sc.frames)) (connectors.IsSound (live_among (without_frame fb sc.frames))) (after_detach fb) (λ k q. detached_sound (live_among sc.frames) (live_among (without_frame fb sc.frames)) k fb q (found_elsewhere sc.frames fb)) sc.connectors s.connectors_are;
        }

    -- the connector of a part changes
    changed : (part : ℕ) (k : Connector) → connectors.IsSound (live_among sc.frames) k → IsSound bs (with_connector sc part k)
    changed part k q =
        record {
          frames_are = s.frames_are;
          frames_lie = s.frames_lie;
          connectors_are = all_set (connectors.IsSound (live_among sc.frames)) sc.connectors part k s.connectors_are q;
        }

    -- another part asks
    pub asked_scene : (part : ℕ) → IsSound bs (record sc { part = part })
    asked_scene part = record { frames_are = s.frames_are; frames_lie = s.frames_lie; connectors_are = s.connectors_are }

    -- other buffers, in which all framebuffers lie
    lying : {Q : Type 0} (cs : List (Live Q)) → AllByRecursion (LiesInLive cs) sc.frames → IsSound cs sc
    lying cs lie = record { frames_are = s.frames_are; frames_lie = lie; connectors_are = s.connectors_are }

    pub blanked_scene : (part : ℕ) → IsSound bs (after_blank_at sc part)
    blanked_scene part =
        let old = connector_at sc part in
        changed part (after_blank old) (blanked_sound (live_among sc.frames) old (connector_sound sc part s.connectors_are))

    -- an answer, where a status that accepts is the verdict
    pub answered_scene : (made : P) (asks : Asked) (accepted : Bool) → (accepted ≡ true → verdict bs sc asks ≡ pos 0) → IsSound (replied_to bs made asks accepted) (scene_after bs sc asks accepted)
    answered_scene made (asked.Create c) true h =
        let b : Live P = record { buffer = made_of c; pages = made } in
        lying (with_buffer bs c made) (all_weaker (LiesInLive bs) (LiesInLive (with_buffer bs c made)) (lies_among_more bs b) sc.frames s.frames_lie)
    answered_scene made (asked.Destroy cookie) true h =
        lying (without_buffer cookie bs) (lie_without bs cookie sc.frames (unused_by (is_some (buffer_of cookie bs)) (is_used cookie sc.frames) (h refl)) s.frames_lie)
    answered_scene made (asked.Attach a) true h = attached a (passes_by (attach_check sc.frames a (buffer_at a.dbuf_cookie bs)) (h refl))
    answered_scene made (asked.Detach fb) true h = detached fb
    answered_scene made (asked.Config c) true h =
        let old = asking sc in
        changed sc.part (after_config old c) (configured_sound (live_among sc.frames) old c (passes_by (config_check c (frame_of c.fb_cookie sc.frames)) (h refl)))
    answered_scene made (asked.Flip fb) true h =
        let old = asking sc in
        changed sc.part (after_flip old fb) (flipped_sound (live_among sc.frames) old fb (connector_sound sc sc.part s.connectors_are) (passes_by (flip_check old (frame_of fb sc.frames)) (h refl)))
    answered_scene made asked.Other true h = s
    answered_scene made (asked.Create c) false h = s
    answered_scene made (asked.Destroy cookie) false h = s
    answered_scene made (asked.Attach a) false h = s
    answered_scene made (asked.Detach fb) false h = s
    answered_scene made (asked.Config c) false h = s
    answered_scene made (asked.Flip fb) false h = s
    answered_scene made asked.Other false h = s

-- the buffers are the same, but for their pages
pub like_scene : (bs cs : List Held) (sc : Scene) → AreLike bs cs → IsSound bs sc → IsSound cs sc
like_scene bs cs sc e s =
    lying bs sc s cs (all_weaker (LiesInLive bs) (LiesInLive cs) (λ f lies. subst (λ o. IsSomeAnd o (LiesIn f)) (like_buffer bs cs f.dbuf e) lies) sc.frames s.frames_lie)
