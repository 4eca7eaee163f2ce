use Rattle.std.proofs.Common.{refl}
use Rattle.grant_table.specs.OwnerLeft.{permit_left}
use Rattle.grant_table.proofs.owner.OwnerStep.permit.Goals as goal

pub returns : goal.returns
unfolding permit_left
returns c = refl
