use Rattle.display_buffers.proofs.Names.{created_elsewhere, created_here}
use Rattle.display_buffers.proofs.laws.creates_one.Goals as goal

pub returns : goal.returns
returns g c bs asked pages passed = (created_here bs asked pages passed, created_elsewhere bs asked pages)
