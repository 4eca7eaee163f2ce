use Rattle.xenbus_states.proofs.Heard.{remembers}
use Rattle.xenbus_states.proofs.laws.remembers_what_it_heard.Goals as goal

pub returns : goal.returns
returns c = remembers
