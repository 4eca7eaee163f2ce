-- What a machine shows of itself, by the members of its two traits as a proof has them.
use Rattle.pv_words.specs.declared.words.Machine.{Ghosts as Machine}
use Rattle.pv_words.specs.declared.words.Words.{Ghosts as Words}
use Rattle.pv_world.specs.World.{Sight, sight}

abbrev pub seen : {W : Type 0} → Words W → Machine W → Sight W
seen w m = sight m.word w.frames_of w.grants_of w.port m.whole m.knows_device m.knows_domain
