use Rattle.sound_backend.proofs.Keeps as kept
use Rattle.sound_backend.proofs.service.ServiceServe.keeps_laws.Goals as goal

pub returns : goal.returns
returns c = kept.keeps_laws
