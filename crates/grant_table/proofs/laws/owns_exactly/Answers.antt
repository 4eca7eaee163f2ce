use Rattle.grant_table.proofs.Keeps.{permits_at_entry, ends_at_entry, opens_exactly, frees_exactly}
use Rattle.grant_table.proofs.laws.owns_exactly.Goals as goal

pub returns-clause-permits : goal.returns-clause-permits
returns-clause-permits c = permits_at_entry

pub returns-clause-ends : goal.returns-clause-ends
returns-clause-ends c = ends_at_entry

pub returns-clause-opens : goal.returns-clause-opens
returns-clause-opens c = opens_exactly

pub returns-clause-frees : goal.returns-clause-frees
returns-clause-frees c = frees_exactly
