use Rattle.std.proofs.Common.{None}
use Rattle.page_directory.specs.WalkLeft.{held_by, held_in}
use Rattle.page_directory.proofs.Changing.{changes_along}
use Rattle.std.proofs.Common.{drop, sym, ap, ◌∙◌, refl}
use Rattle.pv_words.specs.Plan.{Finished}
use Rattle.page_directory.specs.declared.walk.Walked.TheVariants.{Pages}
use Rattle.page_directory.specs.Walking.{undo_plan}
use Rattle.page_directory.specs.WalkLeft.{left_in, walk_left, dom_of}
use Rattle.page_directory.proofs.Plans.{may_along, steps_from}
use Rattle.page_directory.proofs.walk.Walk.advance.Goals as goal

pub undo-requires-clause-may : goal.undo-requires-clause-may
unfolding walk_left dom_of
undo-requires-clause-may g c =
    let w = c.args.self.now in
    let frames = g.W.Words.frames_of c.args.words.now w.dom.0 in
    let grants = g.W.Words.grants_of c.args.words.now w.dom.0 in
    may_along _ _ _ (ap (left_in frames grants w.dom.0 w.mode w.map w.more w.begins w.pages.items) c.in-Undo.is) c.requires

pub returns-in-Undo-clause-steps : goal.returns-in-Undo-clause-steps
unfolding walk_left dom_of held_by
returns-in-Undo-clause-steps g c =
    let w = c.args.self.now in
    let frames = g.W.Words.frames_of c.args.words.now w.dom.0 in
    let grants = g.W.Words.grants_of c.args.words.now w.dom.0 in
    steps_from frames grants w.dom.0 w.dom.0 (held_by w) (drop c.in-Undo.i w.pages.items) (walk_left frames grants w) (undo_plan (drop c.in-Undo.i w.pages.items) c.in-Undo.refusal) c.undo.result.access c.undo.result.done c.undo.new.self refl (ap (held_in w.begins w.pages.items) c.in-Undo.is) (ap (left_in frames grants w.dom.0 w.mode w.map w.more w.begins w.pages.items) c.in-Undo.is) (c.undo.ensures.steps frames grants)

pub returns-in-Over-clause-steps : goal.returns-in-Over-clause-steps
unfolding walk_left dom_of held_by
returns-in-Over-clause-steps g c =
    let w = c.args.self.now in
    let frames = g.W.Words.frames_of c.args.words.now w.dom.0 in
    let grants = g.W.Words.grants_of c.args.words.now w.dom.0 in
    record {
      rests = c.finish.ensures.empty;
      holds = changes_along frames (held_by w) w.pages.items (walk_left frames grants w) (Finished (Pages w.pages.items)) None c.finish.result w.pages.items (ap (held_in w.begins w.pages.items) c.in-Over.is) (ap (left_in frames grants w.dom.0 w.mode w.map w.more w.begins w.pages.items) c.in-Over.is) c.finish.ensures.pages refl;
      moves = ap (left_in frames grants w.dom.0 w.mode w.map w.more w.begins w.pages.items) c.in-Over.is ∙ ap (λ ps. Finished (Pages ps)) (sym c.finish.ensures.pages);
      dom = c.finish.ensures.dom;
      over = c.finish.ensures.over;
    }
