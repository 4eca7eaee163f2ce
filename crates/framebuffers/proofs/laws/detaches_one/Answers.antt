use Rattle.cookie_table.proofs.Names.{taken_elsewhere, taken_here}
use Rattle.framebuffers.specs.Frames.{cookie_of}
use Rattle.framebuffers.proofs.laws.detaches_one.Goals as goal

pub returns : goal.returns
returns c fs cookie = (taken_here cookie_of fs cookie, taken_elsewhere cookie_of fs cookie)
