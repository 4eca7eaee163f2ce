use Rattle.grant_table.proofs.Outcomes.{ends_exactly}
use Rattle.grant_table.proofs.laws.ends_exactly.Goals as goal

pub returns : goal.returns
returns c = ends_exactly
