use Rattle.std.proofs.Common.{inr, ◌<◌, ◌≤◌, length, slice_set, refl, ap, ◌∙◌, arith}
use Rattle.std.proofs.lemmas.List.{length-set}
use Rattle.link_core.specs.Link.{drop_left, held_of as link_held, rest_of}
use Rattle.device_service.specs.Doing.{all_held, busy_in}
use Rattle.device_service.specs.Parts.{count_of, doing_of, dom_of, held_of, kind_of}
use Rattle.device_service.proofs.Connects.{undo_goes, undone_at_once}
use Rattle.device_service.proofs.Holding.Held.{bare_from, cons_of, drop_clears, first_drop, here, in_unmap, may_drop}
use Rattle.device_service.proofs.Wholes.{given_idle, whole_dropped, whole_left}
use Rattle.device_service.proofs.parts.Parts.undo.Goals as goal

pub invariant_of-self : goal.invariant_of-self
unfolding doing_of
invariant_of-self g c =
    let p = c.args.self.now in
    let ls = p.links.items in
    let past : length ls ≤ c.first_held-part.result = omega (arith, c.if-part-len.true) in
    record { whole = whole_left p.dom.0 p.ringed p.doing ls p.whole (ap (λ d. busy_in d (length ls)) c.requires.undoing) (bare_from ls c.first_held-part.result past c.first_held-part.ensures.before) }

pub returns-then-part-len-clause-leads : goal.returns-then-part-len-clause-leads
unfolding held_of
returns-then-part-len-clause-leads g c = λ site nodes.
    let p = c.args.self.now in
    let ls = p.links.items in
    let past : length ls ≤ c.first_held-part.result = omega (arith, c.if-part-len.true) in
    undone_at_once site nodes p c.args.why c.requires.undoing (bare_from ls c.first_held-part.result past c.first_held-part.ensures.before)

pub returns-then-part-len-clause-connected : goal.returns-then-part-len-clause-connected
unfolding doing_of
returns-then-part-len-clause-connected g c = refl

pub returns-then-part-len-clause-same : goal.returns-then-part-len-clause-same
unfolding count_of dom_of kind_of
returns-then-part-len-clause-same g c = record { dom = refl; count = refl; kind = refl }

pub drop_step-turn-requires-clause-idle : goal.drop_step-turn-requires-clause-idle
unfolding doing_of
drop_step-turn-requires-clause-idle g c =
    let p = c.args.self.now in
    let ls = p.links.items in
    let k = c.first_held-part.result in
    let l = c.index_mut.result.now in
    let lt : k < length ls = omega arith in
    let at = here ls k l _ lt c.index_mut.ensures.value in
    given_idle p.dom.0 p.ringed p.doing ls k l p.whole (inr (c.args.why, c.requires.undoing)) at

pub drop_step-turn-requires-clause-may : goal.drop_step-turn-requires-clause-may
unfolding held_of
drop_step-turn-requires-clause-may g c =
    let ls = c.args.self.now.links.items in
    let k = c.first_held-part.result in
    let l = c.index_mut.result.now in
    let lt : k < length ls = omega arith in
    let at = here ls k l _ lt c.index_mut.ensures.value in
    may_drop (g.W.Words.may c.args.words.now) ls k l at c.first_held-part.ensures.before (c.first_held-part.ensures.here l at) c.requires.may

pub invariant_of-self-2 : goal.invariant_of-self-2
unfolding doing_of
invariant_of-self-2 g c =
    let p = c.args.self.now in
    let ls = p.links.items in
    let k = c.first_held-part.result in
    let l = c.index_mut.result.now in
    let turn = c.drop_step-turn in
    let lt : k < length ls = omega arith in
    let at = here ls k l _ lt c.index_mut.ensures.value in
    record { whole = whole_dropped p.dom.0 p.ringed p.doing ls k l turn.new.self p.whole (inr (c.args.why, c.requires.undoing)) at turn.ensures.dom turn.ensures.idle }

pub undone-done-requires : goal.undone-done-requires
unfolding doing_of
undone-done-requires g c = c.requires.undoing

pub returns-clause-leads : goal.returns-clause-leads
unfolding held_of
returns-clause-leads g c = λ site nodes.
    let p = c.args.self.now in
    let ls = p.links.items in
    let k = c.first_held-part.result in
    let l = c.index_mut.result.now in
    let turn = c.drop_step-turn in
    let new = turn.new.self in
    let lt : k < length ls = omega arith in
    let at = here ls k l _ lt c.index_mut.ensures.value in
    let pages = cons_of (link_held l) (c.first_held-part.ensures.here l at) in
    let made = drop_clears l turn.result.access turn.result.done (drop_left new) pages.0 pages.1 pages.2 turn.ensures.leads in
    let all = first_drop ls k l new pages.0 pages.1 at c.first_held-part.ensures.before pages.2 (turn.ensures.held ∙ ap rest_of pages.2) in
    undo_goes site nodes p c.undone-done.new.self (all_held (slice_set ls k new)) pages.0 turn.result.access made.0 c.args.why c.undone-done.result c.requires.undoing all made.1 made.2 c.undone-done.ensures.ends c.undone-done.ensures.left c.undone-done.ensures.held

pub returns-clause-stays : goal.returns-clause-stays
returns-clause-stays g c = λ held.
    let p = c.args.self.now in
    let ls = p.links.items in
    let k = c.first_held-part.result in
    let l = c.index_mut.result.now in
    let turn = c.drop_step-turn in
    let lt : k < length ls = omega arith in
    let at = here ls k l _ lt c.index_mut.ensures.value in
    let pages = cons_of (link_held l) (c.first_held-part.ensures.here l at) in
    let made = drop_clears l turn.result.access turn.result.done (drop_left turn.new.self) pages.0 pages.1 pages.2 turn.ensures.leads in
    in_unmap held turn.result.access made.0 pages.0 made.1 made.2

pub returns-clause-same : goal.returns-clause-same
unfolding count_of dom_of kind_of
returns-clause-same g c =
    let s = c.undone-done.ensures.same in
    record { dom = s.dom; count = s.count ∙ length-set c.args.self.now.links.items c.first_held-part.result c.drop_step-turn.new.self; kind = s.kind }
