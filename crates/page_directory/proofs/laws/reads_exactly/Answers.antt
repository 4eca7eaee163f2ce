use Rattle.page_directory.proofs.Readings.{reads_exactly}
use Rattle.page_directory.proofs.laws.reads_exactly.Goals as goal

pub returns : goal.returns
returns c = reads_exactly
