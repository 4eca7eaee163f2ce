use Rattle.std.proofs.Common.{sym, ap, ◌∙◌, is_some}
use Rattle.display_buffers.specs.Buffers.{buffer_of, cookies}
use Rattle.display_buffers.proofs.Checks.{live_by}
use Rattle.display_buffers.specs.Stock.{Held}
use Rattle.display_buffers.proofs.Lefts.{cookies_left, some_mapped}
use Rattle.display_buffers.proofs.left.LeftBuffers.is_live.Goals as goal

pub returns : goal.returns
returns c =
    let bs = c.self.inside.buffers in
    let same = sym (cookies_left bs c.self.inside.releases.items) ∙ ap cookies c.self.view_is in
    c.is_some.ensures
    ∙ ap is_some c.get.ensures.value
    ∙ some_mapped (λ (b : Held). b.buffer) (buffer_of c.args.cookie bs)
    ∙ live_by bs c.args.self.now same c.args.cookie
