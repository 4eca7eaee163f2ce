use Rattle.backend_core.proofs.Consequences as consequences
use Rattle.backend_core.proofs.laws.nothing_comes_after_gone.Goals as goal

pub returns : goal.returns
returns c = consequences.nothing_comes_after_gone
