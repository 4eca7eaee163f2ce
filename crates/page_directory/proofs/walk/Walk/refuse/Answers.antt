use Rattle.page_directory.specs.Changes.{Stand}
use Rattle.page_directory.proofs.Changing.{refused_changes, stand_changes}
use Rattle.std.proofs.Common.{◌≡◌, ◌<◌, ◌==◌, true, false, not, length, refl, sym, subst, ap, ◌∙◌, arith}
use Rattle.std.proofs.lemmas.Bool.Decides.{nat_tests}
use Rattle.std.proofs.lemmas.List.{nil_from_length}
use Rattle.pv_words.specs.Plan.{Finished}
use Rattle.page_directory.specs.declared.walk.Walked.TheVariants.{Pages}
use Rattle.page_directory.specs.Joins.{Leads}
use Rattle.page_directory.specs.Walking.{undo_plan}
use Rattle.page_directory.specs.WalkLeft.{walk_left, dom_of, is_over, held_by}
use Rattle.page_directory.proofs.Plans.{refused_at_once, undoes_then, is_none, steps_from}
use Rattle.page_directory.proofs.walk.Walk.refuse.Goals as goal

pub returns-then-is_empty-clause-steps : goal.returns-then-is_empty-clause-steps
unfolding walk_left dom_of is_over held_by
returns-then-is_empty-clause-steps g c =
    let w = c.args.self.now in
    let test : (w.pages.len == 0) ≡ true = sym c.is_empty.ensures ∙ c.if-is_empty.true in
    let none : length w.pages.items ≡ 0 = grind (arith, nat_tests, test, w.pages.ok) in
    λ frames grants held old leads stand. record {
      rests = nil_from_length w.pages.items none;
      holds = refused_changes frames held old c.args.access w.pages.items c.args.refusal (nil_from_length w.pages.items none) leads stand;
      moves = refused_at_once old c.args.access w.pages.items c.args.refusal (Finished (Pages w.pages.items)) (nil_from_length w.pages.items none) leads;
      dom = refl;
      over = refl;
    }

pub returns-then-is_none-clause-steps : goal.returns-then-is_none-clause-steps
unfolding dom_of
returns-then-is_none-clause-steps g c =
    let w = c.args.self.now in
    let none = is_none c.args.access (c.is_none.ensures ∙ ap not c.if-is_none.true) in
    λ frames grants held old leads stand.
    let same : old ≡ undo_plan w.pages.items c.args.refusal = subst (λ x. Leads old x (undo_plan w.pages.items c.args.refusal)) none leads in
    let here : held ≡ w.pages.items = subst (λ x. Stand frames held old x w.pages.items) none stand in
    steps_from frames grants w.dom.0 w.dom.0 held w.pages.items old (undo_plan w.pages.items c.args.refusal) c.undo.result.access c.undo.result.done c.undo.new.self refl here same (c.undo.ensures.steps frames grants)

pub returns-clause-steps : goal.returns-clause-steps
unfolding walk_left dom_of is_over held_by
returns-clause-steps g c =
    let w = c.args.self.now in
    let test : (w.pages.len == 0) ≡ false = sym c.is_empty.ensures ∙ c.if-is_empty.false in
    let some : 0 < length w.pages.items = grind (arith, nat_tests, test, w.pages.ok) in
    λ frames grants held old leads stand. record {
      rests = tt;
      holds = stand_changes frames held old c.args.access w.pages.items (c.is_none.ensures ∙ ap not c.if-is_none.false) stand;
      moves = undoes_then old c.args.access w.pages.items c.args.refusal some (c.is_none.ensures ∙ ap not c.if-is_none.false) leads;
      dom = refl;
      over = refl;
    }
