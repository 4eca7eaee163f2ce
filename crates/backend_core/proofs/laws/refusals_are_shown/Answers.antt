use Rattle.backend_core.proofs.Consequences as consequences
use Rattle.backend_core.proofs.laws.refusals_are_shown.Goals as goal

pub returns : goal.returns
returns c = consequences.refusals_are_shown
