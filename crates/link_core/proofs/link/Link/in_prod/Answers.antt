use Rattle.std.proofs.Common.{refl}
use Rattle.link_core.specs.Link.{joined_of}
use Rattle.link_core.proofs.link.Link.in_prod.Goals as goal

pub returns : goal.returns
unfolding joined_of
returns c = refl
