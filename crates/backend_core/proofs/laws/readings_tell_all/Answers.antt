use Rattle.backend_core.proofs.Consequences as consequences
use Rattle.backend_core.proofs.laws.readings_tell_all.Goals as goal

pub returns : goal.returns
returns c = consequences.readings_tell_all
