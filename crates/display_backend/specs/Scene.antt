-- What a display shows: its framebuffers, and its connectors by part (the operations of displif.h). What a request and a blank make
-- of them.
use Rattle.std.specs.Prelude.{ℕ, Bool, true, List, [], map, Option, replicate, slice_index_or, slice_set, IsSomeAnd}
use Rattle.std.specs.List.{AllByRecursion}
use Rattle.displ_wire.specs.declared.Asked.{Asked}
use Rattle.displ_wire.specs.declared.Asked.TheVariants as asked
use Rattle.displ_wire.specs.declared.Attach.{Attach}
use Rattle.displ_wire.specs.declared.Config.{Config}
use Rattle.display_buffers.specs.declared.live.Live.{Live}
use Rattle.display_buffers.specs.Buffers.{buffer_at}
use Rattle.displ_wire.specs.declared.framebuffer.Framebuffer.{Framebuffer}
use Rattle.framebuffers.specs.Frames as frames
use Rattle.framebuffers.specs.Frames.{LiesIn, frame_of, with_frame, without_frame}
use Rattle.connectors.specs.declared.connector.Connector.{Connector}
use Rattle.connectors.specs.Connectors.{after_blank, after_config, after_detach, after_flip, first_connector, pending_of}
use Rattle.connectors.specs.Laws as connectors

-- the live framebuffers, the four connectors, and the one by which the last request came
pub record Scene : Type 0 where
  pub frames : List Framebuffer
  pub connectors : List Connector
  pub part : ℕ

-- at first: no framebuffer, and no connector is configured
abbrev pub no_scene : Scene
no_scene = record { frames = []; connectors = replicate 4 first_connector; part = 0 }

-- the connector of a part; a part that isn't there has one that isn't configured
abbrev pub connector_at : Scene → ℕ → Connector
connector_at sc part = slice_index_or sc.connectors part first_connector

abbrev pub with_connector : Scene → ℕ → Connector → Scene
with_connector sc part c = record sc { connectors = slice_set sc.connectors part c }

-- the connector by which the request in hand came
abbrev pub asking : Scene → Connector
asking sc = connector_at sc sc.part

-- the framebuffer of the flip that is pending on the connector of a part
abbrev pub pending_at : Scene → ℕ → Option ℕ
pending_at sc part = pending_of (connector_at sc part)

-- a framebuffer comes; one goes, from each connector that shows it or is to show it too
abbrev pub attached : {P : Type 0} → List (Live P) → Attach → Scene → Scene
attached bs a sc = record sc { frames = with_frame sc.frames a (buffer_at a.dbuf_cookie bs) }

abbrev pub detached : ℕ → Scene → Scene
detached fb sc = record sc { frames = without_frame fb sc.frames; connectors = map (after_detach fb) sc.connectors }

-- the connector that asks is configured; a flip is pending on it
abbrev pub configured : Config → Scene → Scene
configured c sc = with_connector sc sc.part (after_config (asking sc) c)

abbrev pub flipped : ℕ → Scene → Scene
flipped fb sc = with_connector sc sc.part (after_flip (asking sc) fb)

-- what the answer to a request makes of it, where it is accepted or not
abbrev pub scene_after : {P : Type 0} → List (Live P) → Scene → Asked → Bool → Scene
scene_after bs sc (asked.Attach a) true = attached bs a sc
scene_after bs sc (asked.Detach fb) true = detached fb sc
scene_after bs sc (asked.Config c) true = configured c sc
scene_after bs sc (asked.Flip fb) true = flipped fb sc
scene_after bs sc asks accepted = sc

-- the pending flip of a part is done
abbrev pub after_blank_at : Scene → ℕ → Scene
after_blank_at sc part = with_connector sc part (after_blank (connector_at sc part))

-- a framebuffer lies in the live display buffer of its cookie
abbrev pub LiesInLive : {P : Type 0} → List (Live P) → Framebuffer → Type 0
LiesInLive bs f = IsSomeAnd (buffer_at f.dbuf bs) (λ b. LiesIn f b)

-- the live framebuffers, by their cookies
abbrev pub live_among : List Framebuffer → connectors.Frames
live_among fs fb = frame_of fb fs

-- Each framebuffer lies in its live display buffer; and what a connector shows, or is to show once its flip is done, is a live
-- framebuffer in which its rectangle lies.
pub record IsSound {P : Type 0} (bs : List (Live P)) (sc : Scene) : Type 0 where
  pub frames_are : frames.AreSound sc.frames
  pub frames_lie : AllByRecursion (λ f. LiesInLive bs f) sc.frames
  pub connectors_are : AllByRecursion (λ c. connectors.IsSound (live_among sc.frames) c) sc.connectors
