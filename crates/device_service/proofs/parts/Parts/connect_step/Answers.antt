use Rattle.std.proofs.Common.{◌≡◌, ◌+◌, ◌<◌, ◌≤◌, true, not, List, Some, Ok, Err, is_some, length, slice_get, slice_set, refl, sym, ap, subst, ◌∙◌, arith}
use Rattle.std.proofs.lemmas.List.{length-set}
use Rattle.pv_words.specs.declared.access.Access.{Access}
use Rattle.pv_words.specs.declared.grant.Hold.{Hold}
use Rattle.pv_words.specs.Plan.{Finished, Goes, MayGo}
use Rattle.link_core.specs.Activities.{Joins, Refuses, unmaps}
use Rattle.link_core.specs.Link as link
use Rattle.link_core.specs.Link.{Came, CameBy, Leads}
use Rattle.device_service.specs.Doing.{IsMet, all_held}
use Rattle.device_service.specs.Nodes.{refs_at}
use Rattle.device_service.specs.Parts.{MayDrop, connect_in, connect_left, count_of, doing_of, dom_of, held_of, joined_of, kind_in, kind_of, site_in}
use Rattle.device_service.proofs.Connects.{came_rung, connect_next, connect_on, connect_over, joins_once, leads_as, leads_from, left_of, may_as, may_connect, may_first, never_connects, none_of, refused_at_once, refused_by, refused_on, undoing_is}
use Rattle.device_service.proofs.Holding.Held.{here, in_all}
use Rattle.device_service.proofs.Lists.{get_set_other, got}
use Rattle.device_service.proofs.Wholes.{connecting_fits, connecting_in, held_refused, whole_mapping, whole_met, whole_next, whole_refused}
use Rattle.device_service.proofs.parts.Parts.connect_step.Goals as goal

pub undo-requires-clause-undoing : goal.undo-requires-clause-undoing
unfolding doing_of
undo-requires-clause-undoing g c = c.in-Undoing.is

pub undo-requires-clause-may : goal.undo-requires-clause-may
unfolding doing_of
undo-requires-clause-may g c =
    let p = c.args.self.now in
    let site = site_in (g.W.Words.frames_of c.args.words.now) (g.W.Words.grants_of c.args.words.now) p in
    may_first (g.W.Words.may c.args.words.now) (held_of p) (Finished (Err c.in-Undoing.why)) (subst (λ x. MayGo (g.W.Words.may c.args.words.now) x) (undoing_is site c.args.nodes.now p c.in-Undoing.why c.in-Undoing.is) c.requires.may)

pub returns-in-Undoing-clause-stays : goal.returns-in-Undoing-clause-stays
returns-in-Undoing-clause-stays g c = c.undo.ensures.stays (held_of c.args.self.now)

pub unreachable-requires : goal.unreachable-requires
unfolding doing_of
unreachable-requires g c = never_connects c.args.self.now.doing c.requires.connecting c.in_default.not-Connecting c.in_default.not-Undoing

pub connect_step-turn-requires : goal.connect_step-turn-requires
unfolding connect_left dom_of kind_of
connect_step-turn-requires g c =
    let p = c.args.self.now in
    let ls = p.links.items in
    let k = c.in-Connecting.part in
    let e = c.in-Connecting.is in
    let l = c.index_mut.result.now in
    let lt = connecting_in p.dom.0 p.ringed p.doing ls k e p.whole in
    let at = here ls k l _ lt c.index_mut.ensures.value in
    let nodes = c.args.nodes.now in
    let r = refs_at (kind_in p.ringed) nodes k in
    let frames = g.W.Words.frames_of c.args.words.now in
    let grants = g.W.Words.grants_of c.args.words.now in
    let site = site_in frames grants p in
    let fits = connecting_fits p.dom.0 p.ringed p.doing ls k e p.whole k l at in
    may_as (g.W.Words.may c.args.words.now) (frames p.dom.0) (frames (link.dom_of l)) (grants p.dom.0) (grants (link.dom_of l)) r.ring (link.refs_of c.ring_ref-ring.result) r.event c.event_ref-event.result.0 l (ap frames fits.dom_is) (ap grants fits.dom_is) c.ring_ref-ring.ensures c.event_ref-event.ensures
    (may_connect site (kind_in p.ringed) nodes ls k p.doing l e at (g.W.Words.may c.args.words.now) c.requires.may)

pub invariant_of-self : goal.invariant_of-self
unfolding dom_of kind_of
invariant_of-self g c =
    let p = c.args.self.now in
    let ls = p.links.items in
    let k = c.in-Connecting.part in
    let e = c.in-Connecting.is in
    let l = c.index_mut.result.now in
    let lt = connecting_in p.dom.0 p.ringed p.doing ls k e p.whole in
    let at = here ls k l _ lt c.index_mut.ensures.value in
    let turn = c.connect_step-turn in
    let new = turn.new.self in
    let nodes = c.args.nodes.now in
    let r = refs_at (kind_in p.ringed) nodes k in
    let frames = g.W.Words.frames_of c.args.words.now in
    let grants = g.W.Words.grants_of c.args.words.now in
    let site = site_in frames grants p in
    let fits = connecting_fits p.dom.0 p.ringed p.doing ls k e p.whole k l at in
    let came = subst (λ x. CameBy x (link.rings l) turn.result.done new) c.ring_ref-ring.ensures turn.ensures.came in
    let ends = rw c.in_default-done.is at turn.ensures.ends in
    let rung : p.ringed ≡ true → link.rings new ≡ true = λ b. rw c.in_default-done.is at (came_rung p.ringed nodes k (link.rings l) turn.result.done new came b (fits.ring refl b)) in
    record { whole = whole_mapping p.dom.0 p.ringed p.doing ls k e p.whole l new at turn.ensures.dom rung ends.0 }

pub returns-in_default-done-clause-leads : goal.returns-in_default-done-clause-leads
unfolding connect_left count_of doing_of dom_of joined_of kind_of
returns-in_default-done-clause-leads g c =
    let p = c.args.self.now in
    let ls = p.links.items in
    let k = c.in-Connecting.part in
    let e = c.in-Connecting.is in
    let l = c.index_mut.result.now in
    let lt = connecting_in p.dom.0 p.ringed p.doing ls k e p.whole in
    let at = here ls k l _ lt c.index_mut.ensures.value in
    let turn = c.connect_step-turn in
    let new = turn.new.self in
    let nodes = c.args.nodes.now in
    let r = refs_at (kind_in p.ringed) nodes k in
    let frames = g.W.Words.frames_of c.args.words.now in
    let grants = g.W.Words.grants_of c.args.words.now in
    let site = site_in frames grants p in
    let fits = connecting_fits p.dom.0 p.ringed p.doing ls k e p.whole k l at in
    let leads = leads_as (frames p.dom.0) (frames (link.dom_of l)) (grants p.dom.0) (grants (link.dom_of l)) r.ring (link.refs_of c.ring_ref-ring.result) r.event c.event_ref-event.result.0 l new turn.result.access (link.ending_of new turn.result.done) (ap frames fits.dom_is) (ap grants fits.dom_is) c.ring_ref-ring.ensures c.event_ref-event.ensures turn.ensures.leads in
    connect_on site (kind_in p.ringed) nodes ls k p.doing l e at new turn.result.access (rw c.in_default-done.is at leads)

pub returns-in_default-done-clause-stays : goal.returns-in_default-done-clause-stays
unfolding held_of
returns-in_default-done-clause-stays g c =
    let p = c.args.self.now in
    let ls = p.links.items in
    let k = c.in-Connecting.part in
    let e = c.in-Connecting.is in
    let l = c.index_mut.result.now in
    let lt = connecting_in p.dom.0 p.ringed p.doing ls k e p.whole in
    let at = here ls k l _ lt c.index_mut.ensures.value in
    in_all c.connect_step-turn.result.access ls k l at c.connect_step-turn.ensures.stays

pub returns-in_default-done-clause-connected : goal.returns-in_default-done-clause-connected
unfolding doing_of
returns-in_default-done-clause-connected g c =
    c.requires.connecting

pub returns-in_default-done-clause-same : goal.returns-in_default-done-clause-same
unfolding count_of dom_of kind_of
returns-in_default-done-clause-same g c =
    record { dom = refl; count = length-set c.args.self.now.links.items c.in-Connecting.part c.connect_step-turn.new.self; kind = refl }

pub invariant_of-self-in-Err : goal.invariant_of-self-in-Err
unfolding dom_of kind_of
invariant_of-self-in-Err g c =
    let p = c.args.self.now in
    let ls = p.links.items in
    let k = c.in-Connecting.part in
    let e = c.in-Connecting.is in
    let l = c.index_mut.result.now in
    let lt = connecting_in p.dom.0 p.ringed p.doing ls k e p.whole in
    let at = here ls k l _ lt c.index_mut.ensures.value in
    let turn = c.connect_step-turn in
    let new = turn.new.self in
    let why = c.in-Err.why in
    let err : turn.result.done ≡ Some (Err why) = c.in-Some.is ∙ ap Some c.in-Err.is in
    let ends = rw err at turn.ensures.ends in
    record { whole = whole_refused p.dom.0 p.ringed p.doing ls k e p.whole l new at turn.ensures.dom why ends.0 }

pub undo-requires-then-is_none-clause-undoing : goal.undo-requires-then-is_none-clause-undoing
unfolding doing_of
undo-requires-then-is_none-clause-undoing g c =
    refl

pub undo-requires-then-is_none-clause-may : goal.undo-requires-then-is_none-clause-may
unfolding connect_left dom_of held_of kind_of
undo-requires-then-is_none-clause-may g c =
    let p = c.args.self.now in
    let ls = p.links.items in
    let k = c.in-Connecting.part in
    let e = c.in-Connecting.is in
    let l = c.index_mut.result.now in
    let lt = connecting_in p.dom.0 p.ringed p.doing ls k e p.whole in
    let at = here ls k l _ lt c.index_mut.ensures.value in
    let turn = c.connect_step-turn in
    let new = turn.new.self in
    let nodes = c.args.nodes.now in
    let r = refs_at (kind_in p.ringed) nodes k in
    let frames = g.W.Words.frames_of c.args.words.now in
    let grants = g.W.Words.grants_of c.args.words.now in
    let site = site_in frames grants p in
    let fits = connecting_fits p.dom.0 p.ringed p.doing ls k e p.whole k l at in
    let leads = leads_as (frames p.dom.0) (frames (link.dom_of l)) (grants p.dom.0) (grants (link.dom_of l)) r.ring (link.refs_of c.ring_ref-ring.result) r.event c.event_ref-event.result.0 l new turn.result.access (link.ending_of new turn.result.done) (ap frames fits.dom_is) (ap grants fits.dom_is) c.ring_ref-ring.ensures c.event_ref-event.ensures turn.ensures.leads in
    let why = c.in-Err.why in
    let err : turn.result.done ≡ Some (Err why) = c.in-Some.is ∙ ap Some c.in-Err.is in
    let held = held_refused p.dom.0 p.ringed p.doing ls k e p.whole l new at turn.ensures.dom in
    let hs = link.held_of new in
    let rest = all_held (slice_set ls k new) in
    let t : Leads (left_of site (kind_in p.ringed) nodes ls k p.doing l e at l) turn.result.access (Some (Refuses hs why)) (left_of site (kind_in p.ringed) nodes ls k p.doing l e at new) = rw err at leads in
    let none = none_of turn.result.access (c.is_none.ensures ∙ ap not c.if-is_none.true) in
    let once = refused_at_once site (kind_in p.ringed) nodes ls k p.doing l e at turn.result.access hs why (left_of site (kind_in p.ringed) nodes ls k p.doing l e at new) none t in
    let plan : connect_in site (kind_in p.ringed) nodes ls p.doing ≡ unmaps rest (Finished (Err why)) = once ∙ ap (λ x. unmaps x (Finished (Err why))) (sym held) in
    let still : turn.new.words ≡ c.args.words.now = rw none at turn.ensures.made in
    subst (λ x. MayDrop (g.W.Words.may x) rest) (sym still) (may_first (g.W.Words.may c.args.words.now) rest (Finished (Err why)) (subst (λ x. MayGo (g.W.Words.may c.args.words.now) x) plan c.requires.may))

pub returns-then-is_none-clause-leads : goal.returns-then-is_none-clause-leads
unfolding connect_left count_of doing_of dom_of joined_of kind_of
returns-then-is_none-clause-leads g c =
    let p = c.args.self.now in
    let ls = p.links.items in
    let k = c.in-Connecting.part in
    let e = c.in-Connecting.is in
    let l = c.index_mut.result.now in
    let lt = connecting_in p.dom.0 p.ringed p.doing ls k e p.whole in
    let at = here ls k l _ lt c.index_mut.ensures.value in
    let turn = c.connect_step-turn in
    let new = turn.new.self in
    let nodes = c.args.nodes.now in
    let r = refs_at (kind_in p.ringed) nodes k in
    let frames = g.W.Words.frames_of c.args.words.now in
    let grants = g.W.Words.grants_of c.args.words.now in
    let site = site_in frames grants p in
    let fits = connecting_fits p.dom.0 p.ringed p.doing ls k e p.whole k l at in
    let leads = leads_as (frames p.dom.0) (frames (link.dom_of l)) (grants p.dom.0) (grants (link.dom_of l)) r.ring (link.refs_of c.ring_ref-ring.result) r.event c.event_ref-event.result.0 l new turn.result.access (link.ending_of new turn.result.done) (ap frames fits.dom_is) (ap grants fits.dom_is) c.ring_ref-ring.ensures c.event_ref-event.ensures turn.ensures.leads in
    let why = c.in-Err.why in
    let err : turn.result.done ≡ Some (Err why) = c.in-Some.is ∙ ap Some c.in-Err.is in
    let held = held_refused p.dom.0 p.ringed p.doing ls k e p.whole l new at turn.ensures.dom in
    let hs = link.held_of new in
    let rest = all_held (slice_set ls k new) in
    let t : Leads (left_of site (kind_in p.ringed) nodes ls k p.doing l e at l) turn.result.access (Some (Refuses hs why)) (left_of site (kind_in p.ringed) nodes ls k p.doing l e at new) = rw err at leads in
    let none = none_of turn.result.access (c.is_none.ensures ∙ ap not c.if-is_none.true) in
    let once = refused_at_once site (kind_in p.ringed) nodes ls k p.doing l e at turn.result.access hs why (left_of site (kind_in p.ringed) nodes ls k p.doing l e at new) none t in
    let plan : connect_in site (kind_in p.ringed) nodes ls p.doing ≡ unmaps rest (Finished (Err why)) = once ∙ ap (λ x. unmaps x (Finished (Err why))) (sym held) in
    leads_from (connect_in site (kind_in p.ringed) nodes ls p.doing) (unmaps rest (Finished (Err why))) _ _ _ plan (c.undo-then-is_none.ensures.leads site nodes)

pub returns-then-is_none-clause-stays : goal.returns-then-is_none-clause-stays
returns-then-is_none-clause-stays g c =
    c.undo-then-is_none.ensures.stays (held_of c.args.self.now)

pub returns-then-is_none-clause-same : goal.returns-then-is_none-clause-same
unfolding count_of dom_of kind_of
returns-then-is_none-clause-same g c =
    let s = c.undo-then-is_none.ensures.same in
    record { dom = s.dom; count = s.count ∙ length-set c.args.self.now.links.items c.in-Connecting.part c.connect_step-turn.new.self; kind = s.kind }

pub undone-done-requires : goal.undone-done-requires
unfolding doing_of
undone-done-requires g c =
    refl

pub returns-in-Err-clause-leads : goal.returns-in-Err-clause-leads
unfolding connect_left dom_of held_of kind_of
returns-in-Err-clause-leads g c =
    let p = c.args.self.now in
    let ls = p.links.items in
    let k = c.in-Connecting.part in
    let e = c.in-Connecting.is in
    let l = c.index_mut.result.now in
    let lt = connecting_in p.dom.0 p.ringed p.doing ls k e p.whole in
    let at = here ls k l _ lt c.index_mut.ensures.value in
    let turn = c.connect_step-turn in
    let new = turn.new.self in
    let nodes = c.args.nodes.now in
    let r = refs_at (kind_in p.ringed) nodes k in
    let frames = g.W.Words.frames_of c.args.words.now in
    let grants = g.W.Words.grants_of c.args.words.now in
    let site = site_in frames grants p in
    let fits = connecting_fits p.dom.0 p.ringed p.doing ls k e p.whole k l at in
    let leads = leads_as (frames p.dom.0) (frames (link.dom_of l)) (grants p.dom.0) (grants (link.dom_of l)) r.ring (link.refs_of c.ring_ref-ring.result) r.event c.event_ref-event.result.0 l new turn.result.access (link.ending_of new turn.result.done) (ap frames fits.dom_is) (ap grants fits.dom_is) c.ring_ref-ring.ensures c.event_ref-event.ensures turn.ensures.leads in
    let why = c.in-Err.why in
    let err : turn.result.done ≡ Some (Err why) = c.in-Some.is ∙ ap Some c.in-Err.is in
    let held = held_refused p.dom.0 p.ringed p.doing ls k e p.whole l new at turn.ensures.dom in
    let hs = link.held_of new in
    let rest = all_held (slice_set ls k new) in
    let t : Leads (left_of site (kind_in p.ringed) nodes ls k p.doing l e at l) turn.result.access (Some (Refuses hs why)) (left_of site (kind_in p.ringed) nodes ls k p.doing l e at new) = rw err at leads in
    let some : is_some turn.result.access ≡ true = c.is_none.ensures ∙ ap not c.if-is_none.false in
    let goes : (a : Access) → turn.result.access ≡ Some a → Goes (connect_in site (kind_in p.ringed) nodes ls p.doing) a (unmaps rest (Finished (Err why))) = λ a is.
    subst (λ (x : List Hold). Goes (connect_in site (kind_in p.ringed) nodes ls p.doing) a (unmaps x (Finished (Err why)))) (sym held)
    (refused_by site (kind_in p.ringed) nodes ls k p.doing l e at a hs why (left_of site (kind_in p.ringed) nodes ls k p.doing l e at new) (subst (λ x. Leads (left_of site (kind_in p.ringed) nodes ls k p.doing l e at l) x (Some (Refuses hs why)) (left_of site (kind_in p.ringed) nodes ls k p.doing l e at new)) is t)) in
    refused_on site nodes c.undone-done.new.self (connect_in site (kind_in p.ringed) nodes ls p.doing) turn.result.access rest why c.undone-done.result some goes c.undone-done.ensures.ends c.undone-done.ensures.left c.undone-done.ensures.held

pub returns-in-Err-clause-stays : goal.returns-in-Err-clause-stays
unfolding held_of
returns-in-Err-clause-stays g c =
    let p = c.args.self.now in
    let ls = p.links.items in
    let k = c.in-Connecting.part in
    let e = c.in-Connecting.is in
    let l = c.index_mut.result.now in
    let lt = connecting_in p.dom.0 p.ringed p.doing ls k e p.whole in
    let at = here ls k l _ lt c.index_mut.ensures.value in
    in_all c.connect_step-turn.result.access ls k l at c.connect_step-turn.ensures.stays

pub returns-in-Err-clause-same : goal.returns-in-Err-clause-same
unfolding count_of dom_of kind_of
returns-in-Err-clause-same g c =
    let s = c.undone-done.ensures.same in
    record { dom = s.dom; count = s.count ∙ length-set c.args.self.now.links.items c.in-Connecting.part c.connect_step-turn.new.self; kind = s.kind }

pub invariant_of-self-then-following-len : goal.invariant_of-self-then-following-len
unfolding dom_of kind_of
invariant_of-self-then-following-len g c =
    let p = c.args.self.now in
    let ls = p.links.items in
    let k = c.in-Connecting.part in
    let e = c.in-Connecting.is in
    let l = c.index_mut.result.now in
    let lt = connecting_in p.dom.0 p.ringed p.doing ls k e p.whole in
    let at = here ls k l _ lt c.index_mut.ensures.value in
    let turn = c.connect_step-turn in
    let new = turn.new.self in
    let nodes = c.args.nodes.now in
    let r = refs_at (kind_in p.ringed) nodes k in
    let frames = g.W.Words.frames_of c.args.words.now in
    let grants = g.W.Words.grants_of c.args.words.now in
    let site = site_in frames grants p in
    let fits = connecting_fits p.dom.0 p.ringed p.doing ls k e p.whole k l at in
    let ok : turn.result.done ≡ Some (Ok tt) = c.in-Some.is ∙ ap Some c.in_default-end.is in
    let came = subst (λ x. CameBy x (link.rings l) turn.result.done new) c.ring_ref-ring.ensures turn.ensures.came in
    let ends = rw ok at turn.ensures.ends in
    let met : IsMet p.ringed new = record { holds = ends.2; both = λ b. rw ok at (came_rung p.ringed nodes k (link.rings l) turn.result.done new came b (fits.ring refl b)) } in
    let further : k + 1 < length ls = omega (arith, length-set ls k new, c.if-following-len.true) in
    record { whole = whole_next p.dom.0 p.ringed p.doing ls k e p.whole l new at turn.ensures.dom met ends.0 further }

pub returns-then-following-len-clause-leads : goal.returns-then-following-len-clause-leads
unfolding connect_left count_of doing_of dom_of joined_of kind_of
returns-then-following-len-clause-leads g c =
    let p = c.args.self.now in
    let ls = p.links.items in
    let k = c.in-Connecting.part in
    let e = c.in-Connecting.is in
    let l = c.index_mut.result.now in
    let lt = connecting_in p.dom.0 p.ringed p.doing ls k e p.whole in
    let at = here ls k l _ lt c.index_mut.ensures.value in
    let turn = c.connect_step-turn in
    let new = turn.new.self in
    let nodes = c.args.nodes.now in
    let r = refs_at (kind_in p.ringed) nodes k in
    let frames = g.W.Words.frames_of c.args.words.now in
    let grants = g.W.Words.grants_of c.args.words.now in
    let site = site_in frames grants p in
    let fits = connecting_fits p.dom.0 p.ringed p.doing ls k e p.whole k l at in
    let leads = leads_as (frames p.dom.0) (frames (link.dom_of l)) (grants p.dom.0) (grants (link.dom_of l)) r.ring (link.refs_of c.ring_ref-ring.result) r.event c.event_ref-event.result.0 l new turn.result.access (link.ending_of new turn.result.done) (ap frames fits.dom_is) (ap grants fits.dom_is) c.ring_ref-ring.ensures c.event_ref-event.ensures turn.ensures.leads in
    let ok : turn.result.done ≡ Some (Ok tt) = c.in-Some.is ∙ ap Some c.in_default-end.is in
    let t : Leads (left_of site (kind_in p.ringed) nodes ls k p.doing l e at l) turn.result.access (Some (Joins (link.joined_of new))) (left_of site (kind_in p.ringed) nodes ls k p.doing l e at new) = rw ok at leads in
    let further : k + 1 < length ls = omega (arith, length-set ls k new, c.if-following-len.true) in
    let next = got ls (k + 1) further in
    let there : slice_get (slice_set ls k new) (k + 1) ≡ Some next.0 = get_set_other ls k (k + 1) new (omega arith) ∙ next.1 in
    let rests = (connecting_fits p.dom.0 p.ringed p.doing ls k e p.whole (k + 1) next.0 next.1) in
    connect_next site (kind_in p.ringed) nodes ls k p.doing l e at new next.0 turn.result.access (left_of site (kind_in p.ringed) nodes ls k p.doing l e at new) there (rests.rests (omega arith)) rests.dom_is further t

pub returns-then-following-len-clause-stays : goal.returns-then-following-len-clause-stays
unfolding held_of
returns-then-following-len-clause-stays g c =
    let p = c.args.self.now in
    let ls = p.links.items in
    let k = c.in-Connecting.part in
    let e = c.in-Connecting.is in
    let l = c.index_mut.result.now in
    let lt = connecting_in p.dom.0 p.ringed p.doing ls k e p.whole in
    let at = here ls k l _ lt c.index_mut.ensures.value in
    in_all c.connect_step-turn.result.access ls k l at c.connect_step-turn.ensures.stays

pub returns-then-following-len-clause-connected : goal.returns-then-following-len-clause-connected
unfolding doing_of
returns-then-following-len-clause-connected g c =
    refl

pub returns-then-following-len-clause-same : goal.returns-then-following-len-clause-same
unfolding count_of dom_of kind_of
returns-then-following-len-clause-same g c =
    record { dom = refl; count = length-set c.args.self.now.links.items c.in-Connecting.part c.connect_step-turn.new.self; kind = refl }

pub invariant_of-self-2 : goal.invariant_of-self-2
unfolding dom_of kind_of
invariant_of-self-2 g c =
    let p = c.args.self.now in
    let ls = p.links.items in
    let k = c.in-Connecting.part in
    let e = c.in-Connecting.is in
    let l = c.index_mut.result.now in
    let lt = connecting_in p.dom.0 p.ringed p.doing ls k e p.whole in
    let at = here ls k l _ lt c.index_mut.ensures.value in
    let turn = c.connect_step-turn in
    let new = turn.new.self in
    let nodes = c.args.nodes.now in
    let r = refs_at (kind_in p.ringed) nodes k in
    let frames = g.W.Words.frames_of c.args.words.now in
    let grants = g.W.Words.grants_of c.args.words.now in
    let site = site_in frames grants p in
    let fits = connecting_fits p.dom.0 p.ringed p.doing ls k e p.whole k l at in
    let ok : turn.result.done ≡ Some (Ok tt) = c.in-Some.is ∙ ap Some c.in_default-end.is in
    let came = subst (λ x. CameBy x (link.rings l) turn.result.done new) c.ring_ref-ring.ensures turn.ensures.came in
    let ends = rw ok at turn.ensures.ends in
    let met : IsMet p.ringed new = record { holds = ends.2; both = λ b. rw ok at (came_rung p.ringed nodes k (link.rings l) turn.result.done new came b (fits.ring refl b)) } in
    let past : length ls ≤ k + 1 = omega (arith, length-set ls k new, c.if-following-len.false) in
    record { whole = whole_met p.dom.0 p.ringed p.doing ls k e p.whole l new at turn.ensures.dom met ends.0 past }

pub returns-clause-leads : goal.returns-clause-leads
unfolding connect_left count_of doing_of dom_of joined_of kind_of
returns-clause-leads g c =
    let p = c.args.self.now in
    let ls = p.links.items in
    let k = c.in-Connecting.part in
    let e = c.in-Connecting.is in
    let l = c.index_mut.result.now in
    let lt = connecting_in p.dom.0 p.ringed p.doing ls k e p.whole in
    let at = here ls k l _ lt c.index_mut.ensures.value in
    let turn = c.connect_step-turn in
    let new = turn.new.self in
    let nodes = c.args.nodes.now in
    let r = refs_at (kind_in p.ringed) nodes k in
    let frames = g.W.Words.frames_of c.args.words.now in
    let grants = g.W.Words.grants_of c.args.words.now in
    let site = site_in frames grants p in
    let fits = connecting_fits p.dom.0 p.ringed p.doing ls k e p.whole k l at in
    let leads = leads_as (frames p.dom.0) (frames (link.dom_of l)) (grants p.dom.0) (grants (link.dom_of l)) r.ring (link.refs_of c.ring_ref-ring.result) r.event c.event_ref-event.result.0 l new turn.result.access (link.ending_of new turn.result.done) (ap frames fits.dom_is) (ap grants fits.dom_is) c.ring_ref-ring.ensures c.event_ref-event.ensures turn.ensures.leads in
    let ok : turn.result.done ≡ Some (Ok tt) = c.in-Some.is ∙ ap Some c.in_default-end.is in
    let t : Leads (left_of site (kind_in p.ringed) nodes ls k p.doing l e at l) turn.result.access (Some (Joins (link.joined_of new))) (left_of site (kind_in p.ringed) nodes ls k p.doing l e at new) = rw ok at leads in
    let past : length ls ≤ k + 1 = omega (arith, length-set ls k new, c.if-following-len.false) in
    connect_over site (kind_in p.ringed) nodes ls k p.doing l e at new turn.result.access (left_of site (kind_in p.ringed) nodes ls k p.doing l e at new) _ past past t

pub returns-clause-stays : goal.returns-clause-stays
unfolding held_of
returns-clause-stays g c =
    let p = c.args.self.now in
    let ls = p.links.items in
    let k = c.in-Connecting.part in
    let e = c.in-Connecting.is in
    let l = c.index_mut.result.now in
    let lt = connecting_in p.dom.0 p.ringed p.doing ls k e p.whole in
    let at = here ls k l _ lt c.index_mut.ensures.value in
    in_all c.connect_step-turn.result.access ls k l at c.connect_step-turn.ensures.stays

pub returns-clause-connected : goal.returns-clause-connected
unfolding doing_of
returns-clause-connected g c =
    refl

pub returns-clause-joins : goal.returns-clause-joins
unfolding dom_of kind_of
returns-clause-joins g c =
    let p = c.args.self.now in
    let ls = p.links.items in
    let k = c.in-Connecting.part in
    let e = c.in-Connecting.is in
    let l = c.index_mut.result.now in
    let lt = connecting_in p.dom.0 p.ringed p.doing ls k e p.whole in
    let at = here ls k l _ lt c.index_mut.ensures.value in
    let turn = c.connect_step-turn in
    let new = turn.new.self in
    let nodes = c.args.nodes.now in
    let r = refs_at (kind_in p.ringed) nodes k in
    let frames = g.W.Words.frames_of c.args.words.now in
    let grants = g.W.Words.grants_of c.args.words.now in
    let site = site_in frames grants p in
    let fits = connecting_fits p.dom.0 p.ringed p.doing ls k e p.whole k l at in
    let leads = leads_as (frames p.dom.0) (frames (link.dom_of l)) (grants p.dom.0) (grants (link.dom_of l)) r.ring (link.refs_of c.ring_ref-ring.result) r.event c.event_ref-event.result.0 l new turn.result.access (link.ending_of new turn.result.done) (ap frames fits.dom_is) (ap grants fits.dom_is) c.ring_ref-ring.ensures c.event_ref-event.ensures turn.ensures.leads in
    let ok : turn.result.done ≡ Some (Ok tt) = c.in-Some.is ∙ ap Some c.in_default-end.is in
    let t : Leads (left_of site (kind_in p.ringed) nodes ls k p.doing l e at l) turn.result.access (Some (Joins (link.joined_of new))) (left_of site (kind_in p.ringed) nodes ls k p.doing l e at new) = rw ok at leads in
    joins_once site.frames site.grants r.ring r.event l (link.joined_of new) turn.result.access (left_of site (kind_in p.ringed) nodes ls k p.doing l e at new) (Some (Ok tt)) t

pub returns-clause-same : goal.returns-clause-same
unfolding count_of dom_of kind_of
returns-clause-same g c =
    record { dom = refl; count = length-set c.args.self.now.links.items c.in-Connecting.part c.connect_step-turn.new.self; kind = refl }
