use Rattle.std.proofs.Common.{sym, subst}
use Rattle.pv_words.specs.Plan.{Ends}
use Rattle.page_directory.specs.Changes.{ChangesBy}
use Rattle.page_directory.proofs.Changing.{changes_first, leaves_directory}
use Rattle.std.proofs.Common.{ap}
use Rattle.page_directory.specs.WalkLeft.{left_in, walk_left, dom_of, held_by, held_in}
use Rattle.page_directory.proofs.Plans.{may_first}
use Rattle.page_directory.proofs.Transitions.{leave_ends}
use Rattle.page_directory.proofs.walk.Walk.leave_step.Goals as goal

pub unmap-access-requires : goal.unmap-access-requires
unfolding walk_left dom_of
unmap-access-requires g c =
    let w = c.args.self.now in
    let frames = g.W.Words.frames_of c.args.words.now w.dom.0 in
    let grants = g.W.Words.grants_of c.args.words.now w.dom.0 in
    may_first _ _ _ _ _ (ap (left_in frames grants w.dom.0 w.mode w.map w.more w.begins w.pages.items) c.requires.leaving) c.requires.may

pub returns-clause-steps : goal.returns-clause-steps
unfolding walk_left held_by
returns-clause-steps g c =
    let w = c.args.self.now in
    λ frames grants. record {
      rests = c.finish.ensures.empty;
      holds = changes_first frames (held_by w) (walk_left frames grants w) _ _ _ c.unmap-access.result c.finish.result (ap (left_in frames grants w.dom.0 w.mode w.map w.more w.begins w.pages.items) c.requires.leaving) (subst (λ hs. ChangesBy frames hs (Ends c.args.directory) c.unmap-access.result c.finish.result) (sym (ap (held_in w.begins w.pages.items) c.requires.leaving)) (leaves_directory frames w.pages.items w.begins c.args.directory c.unmap-access.result c.finish.result c.finish.ensures.pages));
      moves = leave_ends c.args.directory w.pages.items c.finish.result c.unmap-access.result (walk_left frames grants w) (walk_left frames grants c.finish.new.self) (ap (left_in frames grants w.dom.0 w.mode w.map w.more w.begins w.pages.items) c.requires.leaving) c.unmap-access.ensures.clears c.finish.ensures.pages;
      dom = c.finish.ensures.dom;
      over = c.finish.ensures.over;
    }
