use Rattle.cookie_table.proofs.Names.{taken_elsewhere, taken_here}
use Rattle.cookie_table.proofs.laws.takes_one.Goals as goal

pub returns : goal.returns
returns g c xs cookie = (taken_here g.T.HasCookie.cookie_of xs cookie, taken_elsewhere g.T.HasCookie.cookie_of xs cookie)
