use Rattle.std.proofs.Common.{refl}
use Rattle.link_core.specs.Link.{dom_of, held_of, is_joined, idle}
use Rattle.link_core.proofs.link.Link.new.Goals as goal

pub returns-clause-dom : goal.returns-clause-dom
unfolding dom_of
returns-clause-dom c = refl

pub returns-clause-bare : goal.returns-clause-bare
unfolding held_of
returns-clause-bare c = refl

pub returns-clause-apart : goal.returns-clause-apart
unfolding is_joined
returns-clause-apart c = refl

pub returns-clause-idle : goal.returns-clause-idle
unfolding idle
returns-clause-idle c = refl
