use Rattle.std.proofs.Common.{sym, ap, ◌∙◌}
use Rattle.display_buffers.specs.Buffers.{cookies}
use Rattle.display_buffers.proofs.Checks.{check_by}
use Rattle.display_buffers.proofs.Lefts.{cookies_left}
use Rattle.display_buffers.proofs.left.LeftBuffers.check.Goals as goal

pub returns : goal.returns
returns c =
    let bs = c.self.inside.buffers in
    let same = sym (cookies_left bs c.self.inside.releases.items) ∙ ap cookies c.self.view_is in
    c.check.ensures ∙ check_by bs c.args.self.now same c.args.c.now
