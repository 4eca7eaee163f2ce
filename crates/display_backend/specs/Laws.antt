-- What a display tells that it holds, and what it shows.
use Rattle.std.specs.Prelude.{◌≡◌, ℕ, ◌+◌, ◌<◌, ◌≤◌, ◌⊎◌, true, List, Option, Some}
use Rattle.pv_words.specs.Along.{after}
use Rattle.displ_wire.specs.declared.buffer.Buffer.{Buffer}
use Rattle.displ_wire.specs.declared.framebuffer.Framebuffer.{Framebuffer}
use Rattle.display_buffers.specs.Buffers.{buffer_at}
use Rattle.framebuffers.specs.Frames.{LiesIn, frame_of}
use Rattle.connectors.specs.declared.connector.Connector.{Connector}
use Rattle.connectors.specs.declared.rectangle.Rectangle.{Rectangle}
use Rattle.device_core.specs.Order.{Own, followed, work_at}
use Rattle.device_core.specs.Site.{Site}
use Rattle.device_service.specs.Claims.{IsWork, site_of}
use Rattle.device_service.specs.Held as held
use Rattle.device_service.specs.Work.{device, first_station}
use Rattle.display_backend.specs.contracts.service.ServiceServe.TheImpl.{ghosts}
use Rattle.display_backend.specs.Scene.{connector_at}
use Rattle.display_backend.specs.Service.{Known, display, nothing_known, shows, table}

-- Wherever a display stands by what it has done and heard, the pages that it tells are just those that its accesses hold, each as
-- often.
abbrev pub TellsWhatIsHeld : Type 0
TellsWhatIsHeld = held.AllTell ghosts

-- what a display's service knows that has done and heard this since it was declared
abbrev pub known_by : Site → List Own → Known
known_by site es = (work_at (after (followed (device display site)) (first_station nothing_known) es).stand).service

-- a connector shows the framebuffer of this cookie, or is to show it by a pending flip whose mark stands
abbrev pub IsToShow : Connector → ℕ → Type 0
IsToShow c fb = (c.shown ≡ Some fb) ⊎ (c.flip ≡ Some (record { fb = fb; marked = true }))

-- This cookie names a live framebuffer in which the configured rectangle lies, with pixels and as many bits for each; and the
-- framebuffer lies in a live display buffer.
pub record ShowsLive (x : Known) (configured : Option Rectangle) (fb : ℕ) : Type 0 where
  pub rectangle : Rectangle
  pub is_configured : configured ≡ Some rectangle
  pub frame : Framebuffer
  pub is_live : frame_of fb x.scene.frames ≡ Some frame
  pub wide : 0 < rectangle.width
  pub high : 0 < rectangle.height
  pub across : rectangle.x + rectangle.width ≤ frame.width
  pub down : rectangle.y + rectangle.height ≤ frame.height
  pub depth : rectangle.bpp ≡ frame.bpp
  pub buffer : Buffer
  pub has_buffer : buffer_at frame.dbuf x.stock.buffers ≡ Some buffer
  pub lies : LiesIn frame buffer

-- Wherever a display stands by what it has done and heard, each connector shows, and is to show, what is live.
abbrev pub ShowsStaySound : Type 0
ShowsStaySound =
    (frames grants : ℕ → ℕ) (dom parts : ℕ) (es : List Own)
    → IsWork display table shows (site_of frames grants dom parts) nothing_known es
    → (part fb : ℕ) → IsToShow (connector_at (known_by (site_of frames grants dom parts) es).scene part) fb
    → ShowsLive (known_by (site_of frames grants dom parts) es) (connector_at (known_by (site_of frames grants dom parts) es).scene part).rectangle fb
