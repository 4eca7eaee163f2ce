-- What ATTACH and DETACH come to, by the cookies.
use Rattle.std.specs.Prelude.{◌≡◌, ◌≢◌, ℕ, false, List, Option, Some, None, Ok}
use Rattle.displ_wire.specs.declared.Attach.{Attach}
use Rattle.displ_wire.specs.declared.buffer.Buffer.{Buffer}
use Rattle.displ_wire.specs.declared.framebuffer.Framebuffer.{Framebuffer}
use Rattle.framebuffers.specs.Frames.{AreSound, LiesIn, attach_check, frame_of, is_used, made_of, with_frame, without_frame}

-- an accepted ATTACH was of a live buffer, in which its framebuffer lies and is found under its cookie; no other cookie
-- changes
abbrev pub AttachesOne : Type 0
AttachesOne =
    (fs : List Framebuffer) (a : Attach) (buffer : Option Buffer) → attach_check fs a buffer ≡ Ok tt
    → ((b : Buffer)
    × (buffer ≡ Some b)
    × LiesIn (made_of a b) b
    × (frame_of a.fb_cookie (with_frame fs a buffer) ≡ Some (made_of a b)))
    × ((other : ℕ) → other ≢ a.fb_cookie → frame_of other (with_frame fs a buffer) ≡ frame_of other fs)

-- after a DETACH the cookie is free; no other cookie changes
abbrev pub DetachesOne : Type 0
DetachesOne =
    (fs : List Framebuffer) (cookie : ℕ)
    → (frame_of cookie (without_frame cookie fs) ≡ None)
    × ((other : ℕ) → other ≢ cookie → frame_of other (without_frame cookie fs) ≡ frame_of other fs)

-- either keeps the cookies different, at most 64 of them, and pixels in each framebuffer
abbrev pub StaysSound : Type 0
StaysSound =
    (fs : List Framebuffer) → AreSound fs
    → ((a : Attach) (buffer : Option Buffer) → attach_check fs a buffer ≡ Ok tt → AreSound (with_frame fs a buffer))
    × ((cookie : ℕ) → AreSound (without_frame cookie fs))

-- no live framebuffer is of a display buffer that isn't used
abbrev pub UnusedHasNone : Type 0
UnusedHasNone =
    (fs : List Framebuffer) (dbuf cookie : ℕ) (f : Framebuffer) → is_used dbuf fs ≡ false → frame_of cookie fs ≡ Some f
    → f.dbuf ≢ dbuf
