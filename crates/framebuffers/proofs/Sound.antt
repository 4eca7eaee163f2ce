-- Framebuffers stay sound: one comes by an accepted ATTACH, one goes.
use Rattle.std.proofs.Common.{◌≡◌, ℕ, List, Option, Ok, IsTrue, sym, ap, subst}
use Rattle.cookie_table.proofs.Keys.{all_push}
use Rattle.cookie_table.proofs.Names.{all_without, few_with, few_without}
use Rattle.displ_wire.specs.declared.Attach.{Attach}
use Rattle.displ_wire.specs.declared.buffer.Buffer.{Buffer}
use Rattle.displ_wire.specs.declared.framebuffer.Framebuffer.{Framebuffer}
use Rattle.framebuffers.specs.Frames.{AreSound, attach_check, cookie_of, has_pixels, made_of, with_frame, without_frame}
use Rattle.framebuffers.proofs.Checks.{has_its_pixels, passes}

pub sound_with : (fs : List Framebuffer) (a : Attach) (buffer : Option Buffer) → AreSound fs → attach_check fs a buffer ≡ Ok tt → AreSound (with_frame fs a buffer)
sound_with fs a buffer sound accepted =
    let p = passes fs a buffer accepted in
    subst AreSound (sym (ap (with_frame fs a) p.live))
    (record {
      few = few_with cookie_of fs (made_of a p.of) sound.few p.free p.room;
      have_pixels = all_push (λ f. IsTrue (has_pixels f)) fs (made_of a p.of) sound.have_pixels (has_its_pixels a p.of p.fits);
    })

pub sound_without : (cookie : ℕ) (fs : List Framebuffer) → AreSound fs → AreSound (without_frame cookie fs)
sound_without cookie fs sound = record {
  few = few_without cookie_of cookie fs sound.few;
  have_pixels = all_without cookie_of (λ f. IsTrue (has_pixels f)) cookie fs sound.have_pixels;
}
