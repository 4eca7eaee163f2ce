use Rattle.std.proofs.Common.{◌≡◌, Some, ap, ◌∙◌}
use Rattle.cookie_table.proofs.Names.{added_elsewhere, added_here}
use Rattle.framebuffers.specs.Frames.{cookie_of, frame_of, made_of, with_frame}
use Rattle.framebuffers.proofs.Checks.{lies_in, passes}
use Rattle.framebuffers.proofs.laws.attaches_one.Goals as goal

pub returns : goal.returns
returns c fs a buffer accepted =
    let p = passes fs a buffer accepted in
    let after : with_frame fs a buffer ≡ with_frame fs a (Some p.of) = ap (with_frame fs a) p.live in (
      (
        p.of,
        p.live,
        lies_in a p.of p.fits,
        ap (frame_of a.fb_cookie) after ∙ added_here cookie_of fs (made_of a p.of) p.free,
      ),
      λ other apart. ap (frame_of other) after ∙ added_elsewhere cookie_of fs (made_of a p.of) other apart,
    )
