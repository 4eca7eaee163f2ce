use Rattle.sound_backend.proofs.Declared as declared
use Rattle.sound_backend.proofs.laws.kinds_stay.Goals as goal

pub returns : goal.returns
returns c = declared.kinds_stay
