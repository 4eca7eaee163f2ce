use Rattle.picture_scan.proofs.Showing.{shows_exactly}
use Rattle.picture_scan.proofs.laws.shows_exactly.Goals as goal

pub returns : goal.returns
returns c = shows_exactly
