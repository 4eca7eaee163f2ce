use Rattle.grant_table.proofs.Outcomes.{grants_exactly}
use Rattle.grant_table.proofs.laws.grants_exactly.Goals as goal

pub returns : goal.returns
returns c = grants_exactly
