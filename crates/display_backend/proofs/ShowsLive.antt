-- Wherever a display stands, what its connectors show is live.
use Rattle.std.proofs.Common.{◌≡◌, inl, inr, ℕ, ◌+◌, ◌&&◌, ◌==◌, nat_lt, nat_le, true, List, Option, Some, None, IsSomeAnd, refl}
use Rattle.std.proofs.lemmas.Bool.{and_parts, eqb-true, leb-true, ltb-true}
use Rattle.pv_words.specs.Plan.{Finished}
use Rattle.displ_wire.specs.declared.buffer.Buffer.{Buffer}
use Rattle.displ_wire.specs.declared.framebuffer.Framebuffer.{Framebuffer}
use Rattle.display_buffers.specs.Buffers.{buffer_at}
use Rattle.framebuffers.specs.Frames.{LiesIn, frame_of}
use Rattle.connectors.specs.declared.rectangle.Rectangle.{Rectangle}
use Rattle.connectors.specs.Connectors.{has_area, is_shown_by}
use Rattle.connectors.specs.Laws.{CanShow}
use Rattle.device_core.specs.Learned.{Learned}
use Rattle.device_core.specs.Order.{Stand, Between, During, Telling, work_at}
use Rattle.device_core.specs.Touched.{Carried}
use Rattle.device_service.specs.Work.{Work, End}
use Rattle.device_service.proofs.Sound.{Good, fits_during, tells_between}
use Rattle.device_service.proofs.Soundness.Work.{Lawful, IsSane}
use Rattle.device_service.proofs.Standing.{carried, good, station}
use Rattle.display_backend.specs.declared.waiting.Waiting.{Waiting}
use Rattle.display_backend.specs.Kept.{facts}
use Rattle.display_backend.specs.Laws.{IsToShow, ShowsLive, ShowsStaySound}
use Rattle.display_backend.specs.Scene.{IsSound, LiesInLive, connector_at, live_among}
use Rattle.display_backend.specs.Service.{Known, Ending, Lines, display, nothing_known, shows, table}
use Rattle.display_backend.proofs.Keeps.{keeps_laws}
use Rattle.display_backend.proofs.Pictures.{frame_so}
use Rattle.display_backend.proofs.Scenes.{connector_sound}

-- wherever a device of a lawful service stands, what it knows is sane
sane_at : {X A V Y M : Type 0} (D : Lawful X A V Y M) (stand : Stand (Work X V) (End A V)) (k : Carried Learned) → Good D stand k → IsSane D (work_at stand)
sane_at D (Between w) k g = (tells_between D w k g).0
sane_at D (During w p) k g = (fits_during D w p k g).0
sane_at D (Telling s w o) k g = (fits_during D w (Finished o) k (g.0, g.1)).0

module _ (x : Known) (fb : ℕ) (is_sound : IsSound x.stock.buffers x.scene) where
  -- of a framebuffer, a rectangle and a buffer that were found
  live_by : (r : Rectangle) (f : Framebuffer) → frame_of fb x.scene.frames ≡ Some f → has_area r ≡ true → is_shown_by (Some r) f ≡ true → (o : Option Buffer) → buffer_at f.dbuf x.stock.buffers ≡ o → IsSomeAnd o (LiesIn f) → ShowsLive x (Some r) fb
  live_by r f found area inside None at lies = absurd lies
  live_by r f found area inside (Some b) at lies =
      let sides = and_parts (nat_lt 0 r.width) (nat_lt 0 r.height) area in
      let across = and_parts (nat_le (r.x + r.width) f.width) (nat_le (r.y + r.height) f.height && (r.bpp == f.bpp)) inside in
      let down = and_parts (nat_le (r.y + r.height) f.height) (r.bpp == f.bpp) across.1 in
      record {
        rectangle = r;
        is_configured = refl;
        frame = f;
        is_live = found;
        wide = ltb-true 0 r.width sides.0;
        high = ltb-true 0 r.height sides.1;
        across = leb-true (r.x + r.width) f.width across.0;
        down = leb-true (r.y + r.height) f.height down.0;
        depth = eqb-true r.bpp f.bpp down.1;
        buffer = b;
        has_buffer = at;
        lies = lies;
      }

  shown_live : (o : Option Rectangle) → ((r : Rectangle) → o ≡ Some r → has_area r ≡ true) → (found : Option Framebuffer) → frame_of fb x.scene.frames ≡ found → IsSomeAnd found (λ f. is_shown_by o f ≡ true) → ShowsLive x o fb
  shown_live o pixels None at can = absurd can
  shown_live None pixels (Some f) at can = let wrong : ⊥ = cc in absurd wrong
  shown_live (Some r) pixels (Some f) at can =
      live_by r f at (pixels r refl) can (buffer_at f.dbuf x.stock.buffers) refl (frame_so (LiesInLive x.stock.buffers) fb x.scene.frames f is_sound.frames_lie at)

  pub shows_live : (part : ℕ) → IsToShow (connector_at x.scene part) fb → ShowsLive x (connector_at x.scene part).rectangle fb
  shows_live part is =
      let c = connector_at x.scene part in
      let sound = connector_sound x.scene part is_sound.connectors_are in
      let can : CanShow (live_among x.scene.frames) c.rectangle fb = elim is [ inl shown ↦ sound.shown fb shown | inr marked ↦ sound.marked fb marked ] in
      shown_live c.rectangle sound.has_pixels (frame_of fb x.scene.frames) refl can

pub shows_sound : ShowsStaySound
shows_sound frames grants dom parts es work part fb is =
    let D : Lawful Known Ending Waiting Lines (List ℕ) =
    record {
      s = display;
      t = table;
      r = shows;
      frames = frames;
      grants = grants;
      dom = dom;
      parts = parts;
      known = facts frames grants dom parts;
      l = keeps_laws frames grants dom parts;
    } in
    let sane = sane_at D (station D nothing_known refl es).stand (carried D nothing_known refl es) (good D nothing_known refl es work) in
    shows_live (work_at (station D nothing_known refl es).stand).service fb sane.sane.2 part is
