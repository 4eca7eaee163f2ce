use Rattle.std.proofs.Common.{◌∙◌}
use Rattle.display_buffers.proofs.Places.{page_there}
use Rattle.display_buffers.proofs.left.LeftBuffers.hold.Goals as goal

pub hold_at-requires : goal.hold_at-requires
hold_at-requires c = c.find-k.ensures.0

pub returns : goal.returns
returns c = page_there c.args.self.now c.args.i c.find-k.result.0 c.find-k.result.1 c.find-k.ensures ∙ c.hold_at.ensures
