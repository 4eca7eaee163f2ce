use Rattle.std.proofs.Common.{drop, sym, ◌∙◌}
use Rattle.std.proofs.lemmas.List.{drop_all}
use Rattle.page_directory.proofs.Changing.{undo_changes}
use Rattle.std.proofs.Common.{◌+◌, ◌≤◌, ◌<◌, length, refl, arith}
use Rattle.pv_words.specs.Plan.{Finished}
use Rattle.page_directory.specs.declared.walk.Walked.TheVariants.{Pages}
use Rattle.page_directory.specs.WalkLeft.{walk_left, dom_of, is_over, held_by}
use Rattle.page_directory.proofs.Helds.{rest_from}
use Rattle.page_directory.proofs.Transitions.{undo_turns, undo_ends}
use Rattle.page_directory.proofs.walk.Walk.undo.Goals as goal

pub returns-then-i-len-clause-steps : goal.returns-then-i-len-clause-steps
unfolding walk_left dom_of is_over held_by
returns-then-i-len-clause-steps g c =
    let pages = c.args.self.now.pages in
    let within : c.args.i < length pages.items = omega (arith, pages.ok) in
    let left : c.args.i + 1 < length pages.items = omega (arith, pages.ok) in
    λ frames grants. record {
      rests = tt;
      holds = undo_changes frames (drop c.args.i pages.items) (drop (c.args.i + 1) pages.items) c.index.result.now c.args.refusal c.unmap-access.result (drop (c.args.i + 1) pages.items) (rest_from pages.items c.args.i c.index.result.now within c.index.ensures) refl;
      moves = undo_turns pages.items c.args.i c.index.result.now c.args.refusal c.unmap-access.result (rest_from pages.items c.args.i c.index.result.now within c.index.ensures) left c.unmap-access.ensures.clears;
      dom = refl;
      over = refl;
    }

pub returns-clause-steps : goal.returns-clause-steps
unfolding walk_left dom_of is_over held_by
returns-clause-steps g c =
    let pages = c.args.self.now.pages in
    let within : c.args.i < length pages.items = omega (arith, pages.ok) in
    let last : length pages.items ≤ c.args.i + 1 = omega (arith, pages.ok) in
    λ frames grants. record {
      rests = c.clear.ensures.items;
      holds = undo_changes frames (drop c.args.i pages.items) (drop (c.args.i + 1) pages.items) c.index.result.now c.args.refusal c.unmap-access.result c.clear.new.self.items (rest_from pages.items c.args.i c.index.result.now within c.index.ensures) (c.clear.ensures.items ∙ sym (drop_all (c.args.i + 1) pages.items last));
      moves = undo_ends pages.items c.args.i c.index.result.now c.args.refusal c.unmap-access.result (Finished (Pages c.clear.new.self.items)) (rest_from pages.items c.args.i c.index.result.now within c.index.ensures) last c.unmap-access.ensures.clears;
      dom = refl;
      over = refl;
    }
