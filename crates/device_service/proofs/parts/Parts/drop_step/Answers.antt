use Rattle.std.proofs.Common.{◌≡◌, inl, inr, ◌<◌, Some, length, slice_set, refl, sym, ap, subst, ◌∙◌, arith}
use Rattle.std.proofs.lemmas.List.{length-set}
use Rattle.pv_words.specs.Plan.{wanted}
use Rattle.pv_words.specs.Mapping.{unmap_want}
use Rattle.link_core.specs.Link.{drop_left, held_of as link_held, rest_of}
use Rattle.device_service.specs.Doing.{all_held}
use Rattle.device_service.specs.Parts.{count_of, doing_of, dom_of, held_of, kind_of}
use Rattle.device_service.proofs.Holding.Held.{cons_of, drop_clears, drops_as, first_drop, held_here, in_unmap, may_drop, same_access, within_held}
use Rattle.device_service.proofs.Wholes.{given_idle, whole_dropped}
use Rattle.device_service.proofs.parts.Parts.drop_step.Goals as goal

pub index_mut-requires : goal.index_mut-requires
unfolding held_of
index_mut-requires g c =
    let ls = c.args.self.now.links.items in
    let k = c.first_held-part.result in
    elim (within_held ls k c.first_held-part.ensures.before) [
      | inl lt ↦ let lt' : k < length ls = lt in omega arith
      | inr bare ↦ absurd (omega (arith, c.requires.some, ap length bare))
    ]

pub drop_step-turn-requires-clause-idle : goal.drop_step-turn-requires-clause-idle
unfolding doing_of held_of
drop_step-turn-requires-clause-idle g c =
    let p = c.args.self.now in
    let k = c.first_held-part.result in
    let l = c.index_mut.result.now in
    let at = held_here p.links.items k l _ c.requires.some c.first_held-part.ensures.before c.index_mut.ensures.value in
    given_idle p.dom.0 p.ringed p.doing p.links.items k l p.whole (inl c.requires.dropping) at

pub drop_step-turn-requires-clause-may : goal.drop_step-turn-requires-clause-may
unfolding held_of
drop_step-turn-requires-clause-may g c =
    let ls = c.args.self.now.links.items in
    let k = c.first_held-part.result in
    let l = c.index_mut.result.now in
    let at = held_here ls k l _ c.requires.some c.first_held-part.ensures.before c.index_mut.ensures.value in
    may_drop (g.W.Words.may c.args.words.now) ls k l at c.first_held-part.ensures.before (c.first_held-part.ensures.here l at) c.requires.may

pub invariant_of-self : goal.invariant_of-self
unfolding doing_of held_of
invariant_of-self g c =
    let p = c.args.self.now in
    let k = c.first_held-part.result in
    let l = c.index_mut.result.now in
    let turn = c.drop_step-turn in
    let at = held_here p.links.items k l _ c.requires.some c.first_held-part.ensures.before c.index_mut.ensures.value in
    record { whole = whole_dropped p.dom.0 p.ringed p.doing p.links.items k l turn.new.self p.whole (inl c.requires.dropping) at turn.ensures.dom turn.ensures.idle }

pub unreachable-requires : goal.unreachable-requires
unfolding held_of
unreachable-requires g c =
    let ls = c.args.self.now.links.items in
    let k = c.first_held-part.result in
    let l = c.index_mut.result.now in
    let turn = c.drop_step-turn in
    let at = held_here ls k l _ c.requires.some c.first_held-part.ensures.before c.index_mut.ensures.value in
    let pages = cons_of (link_held l) (c.first_held-part.ensures.here l at) in
    let made = drop_clears l turn.result.access turn.result.done (drop_left turn.new.self) pages.0 pages.1 pages.2 turn.ensures.leads in
    let is = c.in-None.is in
    let some = made.1 in
    cc

pub returns-clause-drops : goal.returns-clause-drops
unfolding held_of
returns-clause-drops g c =
    let ls = c.args.self.now.links.items in
    let k = c.first_held-part.result in
    let l = c.index_mut.result.now in
    let turn = c.drop_step-turn in
    let new = turn.new.self in
    let at = held_here ls k l _ c.requires.some c.first_held-part.ensures.before c.index_mut.ensures.value in
    let pages = cons_of (link_held l) (c.first_held-part.ensures.here l at) in
    let made = drop_clears l turn.result.access turn.result.done (drop_left new) pages.0 pages.1 pages.2 turn.ensures.leads in
    let is : made.0 ≡ c.in-Some.access = same_access (sym made.1 ∙ c.in-Some.is) in
    let all = first_drop ls k l new pages.0 pages.1 at c.first_held-part.ensures.before pages.2 (turn.ensures.held ∙ ap rest_of pages.2) in
    drops_as (all_held ls) pages.0 (all_held (slice_set ls k new)) c.in-Some.access all (subst (λ a. wanted a ≡ unmap_want pages.0) is made.2)

pub returns-clause-stays : goal.returns-clause-stays
unfolding held_of
returns-clause-stays g c =
    let ls = c.args.self.now.links.items in
    let k = c.first_held-part.result in
    let l = c.index_mut.result.now in
    let turn = c.drop_step-turn in
    let at = held_here ls k l _ c.requires.some c.first_held-part.ensures.before c.index_mut.ensures.value in
    let pages = cons_of (link_held l) (c.first_held-part.ensures.here l at) in
    let made = drop_clears l turn.result.access turn.result.done (drop_left turn.new.self) pages.0 pages.1 pages.2 turn.ensures.leads in
    let is : made.0 ≡ c.in-Some.access = same_access (sym made.1 ∙ c.in-Some.is) in
    λ held. in_unmap held (Some c.in-Some.access) c.in-Some.access pages.0 refl (subst (λ a. wanted a ≡ unmap_want pages.0) is made.2)

pub returns-clause-doing : goal.returns-clause-doing
unfolding doing_of
returns-clause-doing g c = c.requires.dropping

pub returns-clause-same : goal.returns-clause-same
unfolding count_of dom_of kind_of
returns-clause-same g c =
    record { dom = refl; count = length-set c.args.self.now.links.items c.first_held-part.result c.drop_step-turn.new.self; kind = refl }
