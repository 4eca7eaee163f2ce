use Rattle.kbd_wire.proofs.Plain.{words_back}
use Rattle.kbd_wire.proofs.words_read_back.Goals as goal

pub returns : goal.returns
returns c = words_back
