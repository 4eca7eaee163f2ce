use Rattle.std.proofs.Common.{sym, subst}
use Rattle.pv_words.specs.Plan.{Ends}
use Rattle.page_directory.specs.Changes.{ChangesBy}
use Rattle.page_directory.proofs.Changing.{changes_first, leaves_directory}
use Rattle.std.proofs.Common.{◌<◌, length, refl, ap, arith}
use Rattle.pv_words.specs.MapLeft.{map_left}
use Rattle.page_directory.specs.Stages.{is_turning}
use Rattle.page_directory.specs.WalkLeft.{left_in, walk_left, dom_of, is_over, held_by, held_in}
use Rattle.page_directory.proofs.Plans.{may_first}
use Rattle.page_directory.proofs.Transitions.{further_turns}
use Rattle.page_directory.proofs.walk.Walk.further_step.Goals as goal

pub unmap-access-requires : goal.unmap-access-requires
unfolding walk_left dom_of
unmap-access-requires g c =
    let w = c.args.self.now in
    let frames = g.W.Words.frames_of c.args.words.now w.dom.0 in
    let grants = g.W.Words.grants_of c.args.words.now w.dom.0 in
    may_first _ _ _ _ _ (ap (left_in frames grants w.dom.0 w.mode w.map w.more w.begins w.pages.items) c.requires.turning) c.requires.may

pub returns-clause-steps : goal.returns-clause-steps
unfolding walk_left dom_of is_over held_by
returns-clause-steps g c =
    let w = c.args.self.now in
    let some : 0 < length w.pages.items = omega (arith, w.turned (ap is_turning c.requires.turning), w.pages.ok) in
    λ frames grants. record {
      rests = tt;
      holds = changes_first frames (held_by w) (walk_left frames grants w) _ _ _ c.unmap-access.result w.pages.items (ap (left_in frames grants w.dom.0 w.mode w.map w.more w.begins w.pages.items) c.requires.turning) (subst (λ hs. ChangesBy frames hs (Ends c.args.directory) c.unmap-access.result w.pages.items) (sym (ap (held_in w.begins w.pages.items) c.requires.turning)) (leaves_directory frames w.pages.items w.begins c.args.directory c.unmap-access.result w.pages.items refl));
      moves = further_turns frames grants w.dom.0 w.mode w.more c.args.directory c.args.gref.0 w.pages.items c.unmap-access.result (walk_left frames grants w) (map_left frames grants c.new-self.result) (ap (left_in frames grants w.dom.0 w.mode w.map w.more w.begins w.pages.items) c.requires.turning) c.unmap-access.ensures.clears (c.new-self.ensures.whole frames grants) some;
      dom = refl;
      over = refl;
    }
