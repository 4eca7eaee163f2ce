use Rattle.backend_core.proofs.Consequences as consequences
use Rattle.backend_core.proofs.laws.pictures_are_named.Goals as goal

pub returns : goal.returns
returns c = consequences.pictures_are_named
