use Rattle.backend_core.proofs.Consequences as consequences
use Rattle.backend_core.proofs.laws.histories_are_runs.Goals as goal

pub returns : goal.returns
returns c = consequences.histories_are_runs
