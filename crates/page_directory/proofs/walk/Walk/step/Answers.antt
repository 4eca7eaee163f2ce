use Rattle.page_directory.specs.WalkLeft.{walk_left, dom_of, count_of, is_over, held_by, held_in}
use Rattle.page_directory.proofs.Begun.{goes_on}
use Rattle.page_directory.proofs.Heads.{by_access, first_lies, no_pages, lies_next}
use Rattle.std.proofs.Common.{arith}
use Rattle.page_directory.proofs.walk.Walk.step.Goals as goal

pub returns-clause-turns : goal.returns-clause-turns
returns-clause-turns g c = c.advance.ensures.steps.moves

pub returns-clause-dom : goal.returns-clause-dom
returns-clause-dom g c = c.advance.ensures.steps.dom

pub returns-clause-over : goal.returns-clause-over
returns-clause-over g c = c.advance.ensures.steps.over

pub returns-clause-pages : goal.returns-clause-pages
unfolding walk_left dom_of is_over
returns-clause-pages g c =
    let w = c.args.self.now in
    let frames = g.W.Words.frames_of c.args.words.now w.dom.0 in
    let grants = g.W.Words.grants_of c.args.words.now w.dom.0 in
    λ going. by_access (walk_left frames grants w) c.advance.result.access c.advance.result.done (walk_left frames grants c.advance.new.self) (no_pages frames grants w.dom.0 w.mode w.map w.more w.begins w.pages.items w.stage going w.maps) c.advance.ensures.steps.moves

pub returns-clause-lies : goal.returns-clause-lies
unfolding walk_left dom_of held_by
returns-clause-lies g c =
    let w = c.args.self.now in
    let frames = g.W.Words.frames_of c.args.words.now w.dom.0 in
    let grants = g.W.Words.grants_of c.args.words.now w.dom.0 in
    lies_next (walk_left frames grants w) c.advance.result.access c.advance.result.done (walk_left frames grants c.advance.new.self) (held_in w.begins w.pages.items w.stage) (first_lies frames grants w.dom.0 w.mode w.map w.more w.begins w.pages.items w.stage w.maps) c.advance.ensures.steps.moves

pub returns-clause-holds : goal.returns-clause-holds
returns-clause-holds g c = c.advance.ensures.steps.holds

pub returns-clause-rests : goal.returns-clause-rests
returns-clause-rests g c = c.advance.ensures.steps.rests

pub returns-clause-count : goal.returns-clause-count
unfolding count_of
returns-clause-count g c = c.advance.ensures.count

pub returns-clause-number : goal.returns-clause-number
unfolding count_of
returns-clause-number g c = c.advance.ensures.number

pub returns-clause-goes_on : goal.returns-clause-goes_on
unfolding walk_left
returns-clause-goes_on g c =
    let w = c.advance.new.self in
    λ none frames grants. goes_on frames grants w.dom.0 w.mode w.map w.more w.begins w.pages.items w.stage (c.advance.ensures.begun none) w.maps (λ u. omega (arith, w.undoes u, w.pages.ok))
