use Rattle.cookie_table.proofs.Names.{added_elsewhere, added_here}
use Rattle.cookie_table.proofs.laws.adds_one.Goals as goal

pub returns : goal.returns
returns g c xs x free = (added_here g.T.HasCookie.cookie_of xs x free, added_elsewhere g.T.HasCookie.cookie_of xs x)
