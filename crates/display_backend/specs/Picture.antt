-- The picture that a connector shows: a rectangle of a display buffer.
use Rattle.std.specs.Prelude.{◌≡◌, ℕ, ◌+◌, ◌&&◌, nat_lt, nat_le, Bool, List, [], ◌∷◌, Option, Some, None, if◌then◌else◌}
use Rattle.displ_wire.specs.declared.buffer.Buffer.{Buffer}
use Rattle.display_buffers.specs.declared.live.Live.{Live}
use Rattle.display_buffers.specs.Buffers.{has_cookie}
use Rattle.displ_wire.specs.declared.framebuffer.Framebuffer.{Framebuffer}
use Rattle.framebuffers.specs.Frames.{frame_of}
use Rattle.connectors.specs.declared.connector.Picture.{Picture}
use Rattle.connectors.specs.Connectors.{picture_of}
use Rattle.device_core.specs.Touched.{Touch}
use Rattle.picture_scan.specs.declared.scan.Shown.{Shown}
use Rattle.picture_scan.specs.declared.shape.Shape.{Shape}
use Rattle.picture_scan.specs.Laws.{HasShown}
use Rattle.picture_scan.specs.Rectangle.{is_depth, rows_octets}
use Rattle.display_backend.specs.declared.picture.Source.{Source}
use Rattle.display_backend.specs.Scene.{Scene, connector_at}
use Rattle.display_buffers.specs.Buffers.{buffer_at}

-- a framebuffer lies at the top left of its display buffer, whose rows have that buffer's width
abbrev pub source_in : Picture → ℕ → Option Buffer → Option Source
source_in p dbuf None = None
source_in p dbuf (Some b) =
    Some (record {
      dbuf = dbuf;
      shape = record { width = b.width; bpp = b.bpp; x = p.x; y = p.y; columns = p.width; rows = p.height };
    })

module _ {P : Type 0} (bs : List (Live P)) where
  abbrev pub source_by : Picture → Option Framebuffer → Option Source
  source_by p None = None
  source_by p (Some f) = source_in p f.dbuf (buffer_at f.dbuf bs)

  abbrev pub source_of : List Framebuffer → Option Picture → Option Source
  source_of fs None = None
  source_of fs (Some p) = source_by p (frame_of p.fb fs)

  -- what the connector of a part shows; nothing where it has no rectangle, or shows no framebuffer
  abbrev pub source_at : Scene → ℕ → Option Source
  source_at sc part = source_of sc.frames (picture_of (connector_at sc part))

-- whether a rectangle of a buffer may be read in so many octets
abbrev pub is_within : (octets : ℕ) → Shape → Bool
is_within octets s =
    is_depth s.bpp
    && (nat_lt 0 s.columns
    && (nat_lt 0 s.rows
    && (nat_le (s.x + s.columns) s.width
    && nat_le (rows_octets s) octets)))

-- the number of the name of the live buffer of a cookie
abbrev pub number_under : ℕ → List (Live ℕ) → ℕ
number_under cookie [] = 0
number_under cookie (b ∷ bs) = if has_cookie cookie b then b.pages else number_under cookie bs

-- These are the pixels, and their mark, of what is shown: none where nothing is; else those of the rectangle, row by row, as the words
-- of the buffer's name were found that were taken last, each once in its row.
abbrev pub AreShown : List (Live ℕ) → Option Source → List Touch → Shown → Type 0
AreShown bs None touched x = (x.pixels ≡ 0) × (x.mark ≡ 0)
AreShown bs (Some s) touched x = (before : List Touch) × HasShown s.shape (number_under s.dbuf bs) before touched x
