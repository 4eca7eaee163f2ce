use Rattle.std.proofs.Common.{refl}
use Rattle.grant_table.specs.OwnerLeft.{end_left}
use Rattle.grant_table.proofs.owner.OwnerStep.end.Goals as goal

pub returns : goal.returns
unfolding end_left
returns c = refl
