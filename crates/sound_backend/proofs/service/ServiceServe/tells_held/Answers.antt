use Rattle.sound_backend.proofs.HeldThroughout.{holds_throughout}
use Rattle.sound_backend.proofs.service.ServiceServe.tells_held.Goals as goal

pub returns : goal.returns
returns c = holds_throughout
