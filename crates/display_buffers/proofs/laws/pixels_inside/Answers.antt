use Rattle.display_buffers.proofs.Inside.{inside}
use Rattle.display_buffers.proofs.laws.pixels_inside.Goals as goal

pub returns : goal.returns
returns c = inside
