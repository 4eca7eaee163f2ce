use Rattle.std.proofs.Common.{sym, ◌∙◌}
use Rattle.std.specs.List.{insert}
use Rattle.pv_words.specs.declared.access.Access.TheVariants as access
use Rattle.page_directory.specs.Walking.{word_in}
use Rattle.page_directory.specs.WalkLeft.{held_by, held_in}
use Rattle.page_directory.proofs.Changing.{changes_first}
use Rattle.std.proofs.Common.{ℕ, refl, ap}
use Rattle.page_directory.specs.Walking.{enter_plan, rest_plan}
use Rattle.page_directory.specs.WalkLeft.{left_in, walk_left, dom_of, is_over}
use Rattle.page_directory.proofs.Plans.{may_first, steps_from}
use Rattle.page_directory.proofs.Transitions.{next_refuses, next_turns}
use Rattle.page_directory.proofs.walk.Walk.next_step.Goals as goal

pub load-gref-requires : goal.load-gref-requires
unfolding walk_left dom_of
load-gref-requires g c =
    let w = c.args.self.now in
    let frames = g.W.Words.frames_of c.args.words.now w.dom.0 in
    let grants = g.W.Words.grants_of c.args.words.now w.dom.0 in
    may_first _ _ _ _ _ (ap (left_in frames grants w.dom.0 w.mode w.map w.more w.begins w.pages.items) c.requires.turning) c.requires.may

pub returns-then-gref-eq0-clause-steps : goal.returns-then-gref-eq0-clause-steps
unfolding walk_left dom_of held_by
returns-then-gref-eq0-clause-steps g c =
    let w = c.args.self.now in
    λ frames grants.
    let old = walk_left frames grants w in
    let next = λ (gref : ℕ). enter_plan frames grants w.dom.0 w.mode (rest_plan frames grants w.dom.0 w.mode w.more) gref w.pages.items in
    steps_from frames grants w.dom.0 (dom_of c.keep.new.self) (held_by w) (held_by w) old old c.refuse.result.access c.refuse.result.done c.refuse.new.self c.keep.ensures.dom refl refl
    (c.refuse.ensures.steps frames grants (held_by w) old (next_refuses c.args.directory w.begins w.pages.items c.keep.new.self.pages.items next c.load-gref.result old (ap (left_in frames grants w.dom.0 w.mode w.map w.more w.begins w.pages.items) c.requires.turning) c.if-gref-eq0.true c.keep.ensures.pages)
    (changes_first frames (held_by w) old _ _ _ (access.Load (word_in c.args.directory 0) c.load-gref.result) c.keep.new.self.pages.items (ap (left_in frames grants w.dom.0 w.mode w.map w.more w.begins w.pages.items) c.requires.turning) (c.keep.ensures.pages ∙ sym (ap (held_in w.begins w.pages.items) c.requires.turning))))

pub returns-clause-steps : goal.returns-clause-steps
unfolding walk_left dom_of is_over held_by
returns-clause-steps g c =
    let w = c.args.self.now in
    λ frames grants.
    let old = walk_left frames grants w in
    let next = λ (gref : ℕ). enter_plan frames grants w.dom.0 w.mode (rest_plan frames grants w.dom.0 w.mode w.more) gref w.pages.items in
    record {
      rests = tt;
      holds = changes_first frames (held_by w) old _ _ _ (access.Load (word_in c.args.directory 0) c.load-gref.result) (insert w.pages.items w.begins c.args.directory) (ap (left_in frames grants w.dom.0 w.mode w.map w.more w.begins w.pages.items) c.requires.turning) (sym (ap (held_in w.begins w.pages.items) c.requires.turning));
      moves = next_turns c.args.directory w.begins w.pages.items next c.load-gref.result old (ap (left_in frames grants w.dom.0 w.mode w.map w.more w.begins w.pages.items) c.requires.turning) c.if-gref-eq0.false;
      dom = refl;
      over = refl;
    }
