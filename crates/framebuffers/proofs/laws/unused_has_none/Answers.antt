use Rattle.framebuffers.proofs.Used.{unused_none}
use Rattle.framebuffers.proofs.laws.unused_has_none.Goals as goal

pub returns : goal.returns
returns c = unused_none
