use Rattle.octet_window.proofs.Ranges.{blends_range, covers_range, joins_range, lies_in_pages}
use Rattle.octet_window.proofs.laws.covers_exactly.Goals as goal

pub returns-clause-covers : goal.returns-clause-covers
returns-clause-covers c = covers_range

pub returns-clause-lies : goal.returns-clause-lies
returns-clause-lies c = lies_in_pages

pub returns-clause-joins : goal.returns-clause-joins
returns-clause-joins c = joins_range

pub returns-clause-blends : goal.returns-clause-blends
returns-clause-blends c = blends_range
