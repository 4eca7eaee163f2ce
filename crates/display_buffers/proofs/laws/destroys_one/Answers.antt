use Rattle.cookie_table.proofs.Names.{taken_elsewhere, taken_here}
use Rattle.display_buffers.specs.Buffers.{cookie_of}
use Rattle.display_buffers.proofs.laws.destroys_one.Goals as goal

pub returns : goal.returns
returns g c bs cookie = (taken_here cookie_of bs cookie, taken_elsewhere cookie_of bs cookie)
