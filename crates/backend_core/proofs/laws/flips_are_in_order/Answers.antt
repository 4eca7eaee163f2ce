use Rattle.backend_core.proofs.Consequences as consequences
use Rattle.backend_core.proofs.laws.flips_are_in_order.Goals as goal

pub returns : goal.returns
returns c = consequences.flips_are_in_order
