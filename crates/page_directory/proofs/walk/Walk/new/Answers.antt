use Rattle.std.proofs.Common.{◌+◌, ◌/◌, ◌<◌, refl, arith}
use Rattle.pv_words.specs.MapLeft.{map_left}
use Rattle.page_directory.specs.WalkLeft.{walk_left, dom_of, count_of, is_over, held_by}
use Rattle.page_directory.proofs.Transitions.{starts}
use Rattle.page_directory.proofs.walk.Walk.new.Goals as goal

pub returns-clause-whole : goal.returns-clause-whole
unfolding walk_left
returns-clause-whole c =
    let count = (c.args.buffer_sz + 4095) / 4096 in
    let some : 0 < (c.args.buffer_sz + 4095) / 4096 = omega arith in
    λ frames grants. starts frames grants c.args.dom.0 c.args.gref.0 c.args.mode count c.in_ok-pages.pages.items (map_left frames grants c.new.result) some c.in_ok-pages.ensures.items (c.new.ensures.whole frames grants)

pub returns-clause-dom : goal.returns-clause-dom
unfolding dom_of
returns-clause-dom c = refl

pub returns-clause-begins : goal.returns-clause-begins
unfolding is_over
returns-clause-begins c = refl

pub returns-clause-holds : goal.returns-clause-holds
unfolding held_by
returns-clause-holds c = c.in_ok-pages.ensures.items

pub returns-clause-count : goal.returns-clause-count
unfolding count_of
returns-clause-count c = refl
