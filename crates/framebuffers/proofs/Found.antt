-- A framebuffer that is found is found still after an ATTACH, and after a DETACH of another.
use Rattle.std.proofs.Common.{◌≡◌, ◌≢◌, ℕ, List, [], ◌∷◌, Option, Some, None, ap, ◌∙◌}
use Rattle.std.proofs.lemmas.List.Folds.{find-append}
use Rattle.std.specs.Option.{option_or}
use Rattle.cookie_table.specs.Cookies.{has_cookie}
use Rattle.cookie_table.proofs.Names.{taken_elsewhere}
use Rattle.displ_wire.specs.declared.Attach.{Attach}
use Rattle.displ_wire.specs.declared.buffer.Buffer.{Buffer}
use Rattle.displ_wire.specs.declared.framebuffer.Framebuffer.{Framebuffer}
use Rattle.framebuffers.specs.Frames.{cookie_of, frame_of, made_of, with_frame, without_frame}

pub found_still : (fs : List Framebuffer) (a : Attach) (buffer : Option Buffer) (fb : ℕ) (f : Framebuffer) → frame_of fb fs ≡ Some f → frame_of fb (with_frame fs a buffer) ≡ Some f
found_still fs a None fb f there = there
found_still fs a (Some b) fb f there =
    find-append (has_cookie cookie_of fb) fs (made_of a b ∷ [])
    ∙ ap (λ (o : Option Framebuffer). option_or o (frame_of fb (made_of a b ∷ []))) there

pub found_elsewhere : (fs : List Framebuffer) (fb other : ℕ) → other ≢ fb → frame_of other (without_frame fb fs) ≡ frame_of other fs
found_elsewhere fs fb other apart = taken_elsewhere cookie_of fs fb other apart
