use Rattle.sound_backend.proofs.Lists.{none_in}
use Rattle.sound_backend.proofs.Serviced.{first_goes, streams_stay}
use Rattle.sound_backend.proofs.laws.gives_up_in_order.Goals as goal

pub returns : goal.returns
returns c s = (first_goes s, streams_stay s, none_in s.held)
