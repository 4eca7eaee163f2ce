use Rattle.std.proofs.Common.{Vec, Global, ap, ◌∙◌}
use Rattle.pv_words.specs.declared.grant.Hold.{Hold}
use Rattle.page_directory.specs.WalkLeft.{held_by}
use Rattle.std.proofs.Common.{refl}
use Rattle.page_directory.specs.WalkLeft.{dom_of, is_over}
use Rattle.page_directory.proofs.walk.Walk.finish.Goals as goal

pub returns-clause-dom : goal.returns-clause-dom
unfolding dom_of
returns-clause-dom c = refl

pub returns-clause-over : goal.returns-clause-over
unfolding is_over
returns-clause-over c = refl

pub returns-clause-empty : goal.returns-clause-empty
unfolding held_by
returns-clause-empty c = ap (λ (v : Vec Hold Global). v.items) c.replace.ensures.after ∙ c.new.ensures.items
