use Rattle.std.proofs.Common.{sym, ap, ◌∙◌}
use Rattle.display_buffers.specs.Buffers.{buffer_at}
use Rattle.display_buffers.proofs.Lefts.{buffer_left}
use Rattle.display_buffers.proofs.left.LeftBuffers.buffer.Goals as goal

pub returns : goal.returns
returns c =
    c.get.ensures.value
    ∙ sym (buffer_left c.args.cookie c.self.inside.buffers c.self.inside.releases.items)
    ∙ ap (buffer_at c.args.cookie) c.self.view_is
