use Rattle.backend_core.proofs.Consequences as consequences
use Rattle.backend_core.proofs.laws.listing_suffices.Goals as goal

pub returns : goal.returns
returns c = consequences.listing_suffices
