use Rattle.display_backend.proofs.ShowsLive.{shows_sound}
use Rattle.display_backend.proofs.laws.shows_stay_sound.Goals as goal

pub returns : goal.returns
returns c = shows_sound
