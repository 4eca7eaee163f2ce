use Rattle.backend_core.proofs.Consequences as consequences
use Rattle.backend_core.proofs.laws.fronts_are_histories.Goals as goal

pub returns : goal.returns
returns c = consequences.fronts_are_histories
