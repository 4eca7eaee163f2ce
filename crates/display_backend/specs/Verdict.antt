-- The verdict on a request, and the status that answers it.
use Rattle.std.specs.Prelude.{ℤ, pos, negsuc, Bool, true, false, List, is_some, Result, Ok, Err}
use Rattle.displ_wire.specs.declared.Asked.{Asked}
use Rattle.displ_wire.specs.declared.Asked.TheVariants as asked
use Rattle.displ_wire.specs.declared.buffer.Refused.{Refused}
use Rattle.displ_wire.specs.declared.buffer.Refused.TheVariants.{NotSupported, Unknown}
use Rattle.displ_wire.specs.Refused.{status_of}
use Rattle.display_buffers.specs.declared.live.Live.{Live}
use Rattle.display_buffers.specs.Buffers.{buffer_of, check_of}
use Rattle.framebuffers.specs.Frames.{attach_check, detach_check, frame_of, is_used}
use Rattle.connectors.specs.Connectors.{config_check, flip_check}
use Rattle.display_backend.specs.Scene.{Scene, asking}
use Rattle.display_buffers.specs.Buffers.{buffer_at}
use Rattle.page_directory.specs.Progress.{IsStatusOf}

-- the status of a request, as its checks come out
abbrev pub checked : Result (Unit {0}) Refused → ℤ
checked (Ok fine) = pos 0
checked (Err why) = status_of why

-- a display buffer that a framebuffer is attached to (EBUSY)
abbrev pub busy : ℤ
busy = negsuc 15

-- the verdict on a DESTROY, where its buffer is live or not, and a framebuffer of it or none
abbrev pub destroy_verdict : (is_live is_used : Bool) → ℤ
destroy_verdict false is_used = status_of Unknown
destroy_verdict true true = busy
destroy_verdict true false = pos 0

-- The verdict on a request, by the first check that fails, without those on memory and pages; no other operation is met.
abbrev pub verdict : {P : Type 0} → List (Live P) → Scene → Asked → ℤ
verdict bs sc (asked.Create c) = checked (check_of bs c)
verdict bs sc (asked.Destroy cookie) = destroy_verdict (is_some (buffer_of cookie bs)) (is_used cookie sc.frames)
verdict bs sc (asked.Attach a) = checked (attach_check sc.frames a (buffer_at a.dbuf_cookie bs))
verdict bs sc (asked.Detach fb) = checked (detach_check fb sc.frames)
verdict bs sc (asked.Config c) = checked (config_check c (frame_of c.fb_cookie sc.frames))
verdict bs sc (asked.Flip fb) = checked (flip_check (asking sc) (frame_of fb sc.frames))
verdict bs sc asked.Other = status_of NotSupported

abbrev pub is_creation : Asked → Bool
is_creation (asked.Create c) = true
is_creation asks = false

-- The status that answers a request: where a page was denied to it, just that; else its verdict, or, of an accepted CREATE,
-- want of memory.
abbrev pub IsStatus : {P : Type 0} → (denied : Bool) → List (Live P) → Scene → Asked → ℤ → Type 0
IsStatus denied bs sc asks status = IsStatusOf denied (is_creation asks) (verdict bs sc asks) status
