use Rattle.std.proofs.Common.{refl}
use Rattle.pv_words.specs.MapLeft.{map_left, dom_of, gref_of, mode_of, is_over}
use Rattle.pv_words.proofs.map.MapStep.new.Goals as goal

pub returns-clause-whole : goal.returns-clause-whole
unfolding map_left
returns-clause-whole c = λ frames grants. refl

pub returns-clause-dom : goal.returns-clause-dom
unfolding dom_of
returns-clause-dom c = refl

pub returns-clause-begins : goal.returns-clause-begins
unfolding is_over
returns-clause-begins c = refl

pub returns-clause-entry : goal.returns-clause-entry
unfolding gref_of mode_of
returns-clause-entry c = (refl, refl)
