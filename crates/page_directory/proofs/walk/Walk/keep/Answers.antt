use Rattle.std.proofs.Common.{refl}
use Rattle.page_directory.specs.WalkLeft.{dom_of}
use Rattle.page_directory.proofs.walk.Walk.keep.Goals as goal

pub returns-clause-dom : goal.returns-clause-dom
unfolding dom_of
returns-clause-dom c = refl
