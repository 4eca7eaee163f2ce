-- Framebuffers: the rows of ATTACH and DETACH (the operations of displif.h, the formats of drm_fourcc.h; which formats are
-- accepted, the limit and which error answers which fault are this project's own). A framebuffer lies at the top left of its
-- display buffer.
use Rattle.std.specs.Prelude.{◌≡◌, ℕ, ◌<◌, ◌≤◌, Bool, false, ◌&&◌, ◌||◌, ◌==◌, nat_lt, nat_le, if◌then◌else◌, IsTrue, List, [], ◌∷◌, ◌++◌, length, Option, Some, None, is_some, Result, Ok, Err}
use Rattle.std.specs.List.{AllByRecursion, list_any}
use Rattle.cookie_table.specs.Cookies.{AreFew, value_of, without}
use Rattle.displ_wire.specs.declared.Attach.{Attach}
use Rattle.displ_wire.specs.declared.buffer.Buffer.{Buffer}
use Rattle.displ_wire.specs.declared.buffer.Refused.{Refused}
use Rattle.displ_wire.specs.declared.buffer.Refused.TheVariants.{Exists, Full, Invalid, Unknown}
use Rattle.displ_wire.specs.declared.framebuffer.Framebuffer.{Framebuffer}

abbrev pub cookie_of : Framebuffer → ℕ
cookie_of f = f.cookie

-- the live framebuffer of a cookie
abbrev pub frame_of : ℕ → List Framebuffer → Option Framebuffer
frame_of cookie fs = value_of cookie_of cookie fs

-- a framebuffer of the display buffer of this cookie is live
abbrev pub is_used : ℕ → List Framebuffer → Bool
is_used dbuf fs = list_any (λ f. f.dbuf == dbuf) fs

-- Whether pixels of this format take so many bits: XR24 (0x34325258) and AR24 (0x34325241) take 32, RG24 (0x34324752) takes
-- 24 and RG16 (0x36314752) takes 16. No other format is known.
abbrev pub has_bits : ℕ → ℕ → Bool
has_bits format bits =
    if (format == 0x34325258) || (format == 0x34325241)
    then bits == 32
    else if format == 0x34324752
    then bits == 24
    else if format == 0x36314752
    then bits == 16
    else false

-- a format that is known, and takes the bits of the buffer's pixels; sides that aren't 0 and no larger than the buffer's
abbrev pub fits_in : Attach → Buffer → Bool
fits_in a b =
    has_bits a.pixel_format b.bpp
    && (nat_lt 0 a.width
    && (nat_lt 0 a.height
    && (nat_le a.width b.width
    && nat_le a.height b.height)))

-- an ATTACH needs a live buffer in which it fits
abbrev pub buffer_check : Attach → Option Buffer → Result (Unit {0}) Refused
buffer_check a None = Err Unknown
buffer_check a (Some b) = if fits_in a b then Ok tt else Err Invalid

-- the first check of an ATTACH that fails, while this is the live buffer of its cookie, if there is one
abbrev pub attach_check : List Framebuffer → Attach → Option Buffer → Result (Unit {0}) Refused
attach_check fs a buffer =
    if is_some (frame_of a.fb_cookie fs)
    then Err Exists
    else if nat_le 64 (length fs)
    then Err Full
    else buffer_check a buffer

-- the framebuffer that an ATTACH makes of a buffer
abbrev pub made_of : Attach → Buffer → Framebuffer
made_of a b = record {
  cookie = a.fb_cookie;
  dbuf = a.dbuf_cookie;
  width = a.width;
  height = a.height;
  bpp = b.bpp;
}

-- the live framebuffers after an accepted ATTACH, in order
abbrev pub with_frame : List Framebuffer → Attach → Option Buffer → List Framebuffer
with_frame fs a None = fs
with_frame fs a (Some b) = fs ++ made_of a b ∷ []

-- a DETACH needs a live framebuffer
abbrev pub detach_check : ℕ → List Framebuffer → Result (Unit {0}) Refused
detach_check cookie fs = if is_some (frame_of cookie fs) then Ok tt else Err Unknown

-- the live framebuffers after a DETACH
abbrev pub without_frame : ℕ → List Framebuffer → List Framebuffer
without_frame cookie fs = without cookie_of cookie fs

-- a framebuffer lies in a display buffer with as many bits a pixel, and has pixels
pub record LiesIn (f : Framebuffer) (b : Buffer) : Type 0 where
  pub depth : f.bpp ≡ b.bpp
  pub wide : 0 < f.width
  pub high : 0 < f.height
  pub within_width : f.width ≤ b.width
  pub within_height : f.height ≤ b.height

-- its sides aren't 0, and its pixels take 16, 24 or 32 bits
abbrev pub has_pixels : Framebuffer → Bool
has_pixels f = ((f.bpp == 16) || ((f.bpp == 24) || (f.bpp == 32))) && (nat_lt 0 f.width && nat_lt 0 f.height)

-- at most 64 framebuffers are live, under different cookies, each with pixels of a known depth
pub record AreSound (fs : List Framebuffer) : Type 0 where
  pub few : AreFew cookie_of fs
  pub have_pixels : AllByRecursion (λ f. IsTrue (has_pixels f)) fs
