use Rattle.std.specs.List.{insert}
use Rattle.page_directory.specs.WalkLeft.{held_by}
use Rattle.std.proofs.Common.{◌≡◌, suc, ◌-◌, ◌<◌, ◌≤◌, length, refl, ap, ◌∙◌, arith}
use Rattle.page_directory.specs.Walking.{rest_plan}
use Rattle.page_directory.specs.WalkLeft.{walk_left, dom_of, is_over}
use Rattle.page_directory.proofs.Transitions.{rest_leaves, rest_reads, rest_turns}
use Rattle.page_directory.proofs.walk.Walk.push.Goals as goal

pub returns-then-self-eq0-clause-left : goal.returns-then-self-eq0-clause-left
unfolding walk_left dom_of
returns-then-self-eq0-clause-left c =
    let w = c.args.self.now in
    let v = c.push_reserved.new.self in
    λ frames grants.
    rest_leaves frames grants w.dom.0 w.mode w.more c.args.directory w.begins v.items c.if-self-eq0.true
    ∙ ap (rest_plan frames grants w.dom.0 w.mode w.more c.args.directory w.begins) c.push_reserved.ensures.items

pub returns-then-self-eq0-clause-dom : goal.returns-then-self-eq0-clause-dom
unfolding dom_of
returns-then-self-eq0-clause-dom c = refl

pub returns-then-self-eq0-clause-over : goal.returns-then-self-eq0-clause-over
unfolding is_over
returns-then-self-eq0-clause-over c = refl

pub returns-then-len-self-lt-PER_PAGE-clause-left : goal.returns-then-len-self-lt-PER_PAGE-clause-left
unfolding walk_left dom_of
returns-then-len-self-lt-PER_PAGE-clause-left c =
    let w = c.args.self.now in
    let v = c.push_reserved.new.self in
    let one : w.more ≡ suc (w.more - 1) = omega (arith, c.if-self-eq0.false) in
    let room : length v.items - w.begins < 1023 = omega (arith, v.ok) in
    λ frames grants.
    rest_reads frames grants w.dom.0 w.mode w.more (w.more - 1) c.args.directory w.begins v.items one room
    ∙ ap (rest_plan frames grants w.dom.0 w.mode w.more c.args.directory w.begins) c.push_reserved.ensures.items

pub returns-then-len-self-lt-PER_PAGE-clause-dom : goal.returns-then-len-self-lt-PER_PAGE-clause-dom
unfolding dom_of
returns-then-len-self-lt-PER_PAGE-clause-dom c = refl

pub returns-then-len-self-lt-PER_PAGE-clause-over : goal.returns-then-len-self-lt-PER_PAGE-clause-over
unfolding is_over
returns-then-len-self-lt-PER_PAGE-clause-over c = refl

pub returns-clause-left : goal.returns-clause-left
unfolding walk_left dom_of
returns-clause-left c =
    let w = c.args.self.now in
    let v = c.push_reserved.new.self in
    let one : w.more ≡ suc (w.more - 1) = omega (arith, c.if-self-eq0.false) in
    let full : 1023 ≤ length v.items - w.begins = omega (arith, v.ok) in
    λ frames grants.
    rest_turns frames grants w.dom.0 w.mode w.more (w.more - 1) c.args.directory w.begins v.items one full
    ∙ ap (rest_plan frames grants w.dom.0 w.mode w.more c.args.directory w.begins) c.push_reserved.ensures.items

pub returns-clause-dom : goal.returns-clause-dom
unfolding dom_of
returns-clause-dom c = refl

pub returns-clause-over : goal.returns-clause-over
unfolding is_over
returns-clause-over c = refl

pub returns-then-self-eq0-clause-held : goal.returns-then-self-eq0-clause-held
unfolding held_by
returns-then-self-eq0-clause-held c =
    ap (λ xs. insert xs c.args.self.now.begins c.args.directory) c.push_reserved.ensures.items

pub returns-then-len-self-lt-PER_PAGE-clause-held : goal.returns-then-len-self-lt-PER_PAGE-clause-held
unfolding held_by
returns-then-len-self-lt-PER_PAGE-clause-held c =
    ap (λ xs. insert xs c.args.self.now.begins c.args.directory) c.push_reserved.ensures.items

pub returns-clause-held : goal.returns-clause-held
unfolding held_by
returns-clause-held c =
    ap (λ xs. insert xs c.args.self.now.begins c.args.directory) c.push_reserved.ensures.items
