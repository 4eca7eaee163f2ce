use Rattle.pv_words.proofs.Holdings.{holds_exactly, unmaps_exactly}
use Rattle.pv_words.proofs.laws.holds_exactly.Goals as goal

pub returns-clause-maps : goal.returns-clause-maps
returns-clause-maps c = holds_exactly

pub returns-clause-unmaps : goal.returns-clause-unmaps
returns-clause-unmaps c = unmaps_exactly
