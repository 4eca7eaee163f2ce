use Rattle.std.proofs.Common.{◌≡◌, ◌+◌, ◌<◌, ◌≤◌, Bool, Some, None, true, length, slice_set, refl, sym, ap, subst, ◌∙◌, arith}
use Rattle.std.proofs.lemmas.Bool.{false≢true}
use Rattle.std.proofs.lemmas.List.{length-set}
use Rattle.pv_words.specs.Plan.{MayGo, Turns}
use Rattle.link_core.specs.Activities.{pages_of}
use Rattle.link_core.specs.Link.{idle, sleep_left as link_left}
use Rattle.device_service.specs.declared.parts.Doing.TheVariants as doing
use Rattle.device_service.specs.Doing.{is_open}
use Rattle.device_service.specs.Parts.{count_of, doing_of, dom_of, held_of, joined_of, kind_of, sleep_left, sleeping}
use Rattle.device_service.proofs.Holding.Held.{held_set, here, in_all}
use Rattle.device_service.proofs.Lists.{get_set_other, got}
use Rattle.device_service.proofs.Opened.{joined_set, rung_by}
use Rattle.device_service.proofs.Sleeps.{may_sleep, sleep_next, sleep_on, sleep_over}
use Rattle.device_service.proofs.Wholes.{all_idle, all_met, served, sleeping_busy, sleeping_in, sleeping_open}
use Rattle.device_service.proofs.parts.Parts.sleep_step.Goals as goal
use Rattle.device_service.proofs.parts.Parts.sleep_step.Goals.{else-quiet-via-then-quiet+else-following-len, else-quiet-via-else-quiet}

pub index_mut-requires : goal.index_mut-requires
unfolding doing_of
index_mut-requires g c =
    let p = c.args.self.now in
    let lt : c.slept_to-part.result < length p.links.items = rw c.slept_to-part.ensures (sleeping_in p.doing (length p.links.items) c.requires.serving p.whole.some p.whole.come_to) in
    omega arith

pub sleep_step-turn-requires : goal.sleep_step-turn-requires
unfolding doing_of sleep_left
sleep_step-turn-requires g c =
    let p = c.args.self.now in
    let ls = p.links.items in
    let k = c.slept_to-part.result in
    let l = c.index_mut.result.now in
    let lt : k < length ls = rw c.slept_to-part.ensures (sleeping_in p.doing (length ls) c.requires.serving p.whole.some p.whole.come_to) in
    let at = here ls k l _ lt c.index_mut.ensures.value in
    may_sleep ls k l at (g.W.Words.may c.args.words.now) (subst (λ j. MayGo (g.W.Words.may c.args.words.now) (sleeping j ls)) (sym c.slept_to-part.ensures) c.requires.may)

pub invariant_of-self : goal.invariant_of-self
unfolding doing_of kind_of
invariant_of-self g c =
    let p = c.args.self.now in
    let ls = p.links.items in
    let k = c.slept_to-part.result in
    let l = c.index_mut.result.now in
    let lt : k < length ls = rw c.slept_to-part.ensures (sleeping_in p.doing (length ls) c.requires.serving p.whole.some p.whole.come_to) in
    let at = here ls k l _ lt c.index_mut.ensures.value in
    let turn = c.sleep_step-turn in
    let new = turn.new.self in
    let opened = sleeping_open p.doing c.requires.serving in
    let busy = rw (sym c.slept_to-part.ensures) at (sleeping_busy p.doing (length ls) c.requires.serving) in
    record { whole = served p.dom.0 p.ringed p.doing ls p.whole opened (doing.Sleeping k) k l new refl at busy turn.ensures.keeps.dom turn.ensures.keeps.held (ap pages_of turn.ensures.joined) (λ n. absurd (n refl)) lt (λ _. rung_by p.ringed c.requires.ringed) }

pub invariant_of-self-then-following-len : goal.invariant_of-self-then-following-len
unfolding doing_of kind_of
invariant_of-self-then-following-len g c =
    let p = c.args.self.now in
    let ls = p.links.items in
    let k = c.slept_to-part.result in
    let l = c.index_mut.result.now in
    let lt : k < length ls = rw c.slept_to-part.ensures (sleeping_in p.doing (length ls) c.requires.serving p.whole.some p.whole.come_to) in
    let at = here ls k l _ lt c.index_mut.ensures.value in
    let turn = c.sleep_step-turn in
    let new = turn.new.self in
    let rests : idle new ≡ true = rw c.in-Some.is at turn.ensures.rests in
    let further : k + 1 < length ls = omega (arith, length-set ls k new, c.if-following-len.true) in
    let opened = sleeping_open p.doing c.requires.serving in
    let busy = rw (sym c.slept_to-part.ensures) at (sleeping_busy p.doing (length ls) c.requires.serving) in
    record { whole = served p.dom.0 p.ringed p.doing ls p.whole opened (doing.Sleeping (k + 1)) k l new refl at busy turn.ensures.keeps.dom turn.ensures.keeps.held (ap pages_of turn.ensures.joined) (λ _. rests) further (λ _. rung_by p.ringed c.requires.ringed) }

pub invariant_of-self-2 : goal.invariant_of-self-2
unfolding doing_of kind_of
invariant_of-self-2 g c =
    let p = c.args.self.now in
    let ls = p.links.items in
    let k = c.slept_to-part.result in
    let l = c.index_mut.result.now in
    let lt : k < length ls = rw c.slept_to-part.ensures (sleeping_in p.doing (length ls) c.requires.serving p.whole.some p.whole.come_to) in
    let at = here ls k l _ lt c.index_mut.ensures.value in
    let turn = c.sleep_step-turn in
    let new = turn.new.self in
    let rests : idle new ≡ true = rw c.in-Some.is at turn.ensures.rests in
    let opened = sleeping_open p.doing c.requires.serving in
    let busy = rw (sym c.slept_to-part.ensures) at (sleeping_busy p.doing (length ls) c.requires.serving) in
    record { whole = served p.dom.0 p.ringed p.doing ls p.whole opened (doing.Open) k l new refl at busy turn.ensures.keeps.dom turn.ensures.keeps.held (ap pages_of turn.ensures.joined) (λ _. rests) p.whole.some (λ _. rung_by p.ringed c.requires.ringed) }

pub returns-in_default-clause-turns : goal.returns-in_default-clause-turns
unfolding doing_of kind_of sleep_left
returns-in_default-clause-turns g c =
    let p = c.args.self.now in
    let ls = p.links.items in
    let k = c.slept_to-part.result in
    let l = c.index_mut.result.now in
    let lt : k < length ls = rw c.slept_to-part.ensures (sleeping_in p.doing (length ls) c.requires.serving p.whole.some p.whole.come_to) in
    let at = here ls k l _ lt c.index_mut.ensures.value in
    let turn = c.sleep_step-turn in
    let new = turn.new.self in
    subst (λ j. Turns (sleeping j ls) turn.result.access None (sleeping k (slice_set ls k new))) c.slept_to-part.ensures
    (sleep_on ls k l at new turn.result.access (rw c.in_default.is at turn.ensures.turns))

pub returns-in_default-clause-stays : goal.returns-in_default-clause-stays
unfolding doing_of held_of kind_of
returns-in_default-clause-stays g c =
    let p = c.args.self.now in
    let ls = p.links.items in
    let k = c.slept_to-part.result in
    let l = c.index_mut.result.now in
    let lt : k < length ls = rw c.slept_to-part.ensures (sleeping_in p.doing (length ls) c.requires.serving p.whole.some p.whole.come_to) in
    let at = here ls k l _ lt c.index_mut.ensures.value in
    let turn = c.sleep_step-turn in
    let new = turn.new.self in
    let opened = sleeping_open p.doing c.requires.serving in
    let met = all_met p.dom.0 p.ringed p.doing ls p.whole opened k l at in
    in_all turn.result.access ls k l at (turn.ensures.stays (met.both (rung_by p.ringed c.requires.ringed)))

pub returns-in_default-clause-doing : goal.returns-in_default-clause-doing
unfolding doing_of
returns-in_default-clause-doing g c =
    refl

pub returns-in_default-clause-keeps : goal.returns-in_default-clause-keeps
unfolding count_of doing_of dom_of held_of joined_of kind_of
returns-in_default-clause-keeps g c =
    let p = c.args.self.now in
    let ls = p.links.items in
    let k = c.slept_to-part.result in
    let l = c.index_mut.result.now in
    let lt : k < length ls = rw c.slept_to-part.ensures (sleeping_in p.doing (length ls) c.requires.serving p.whole.some p.whole.come_to) in
    let at = here ls k l _ lt c.index_mut.ensures.value in
    let turn = c.sleep_step-turn in
    let new = turn.new.self in
    let opened = sleeping_open p.doing c.requires.serving in
    record {
      same = record { dom = refl; count = length-set ls k new; kind = refl };
      held = held_set ls k l new at turn.ensures.keeps.held;
      stays = joined_set (is_open p.doing) true ls k l new opened refl at turn.ensures.joined;
    }

pub returns-then-following-len-clause-turns : goal.returns-then-following-len-clause-turns
unfolding doing_of kind_of sleep_left
returns-then-following-len-clause-turns g c =
    let p = c.args.self.now in
    let ls = p.links.items in
    let k = c.slept_to-part.result in
    let l = c.index_mut.result.now in
    let lt : k < length ls = rw c.slept_to-part.ensures (sleeping_in p.doing (length ls) c.requires.serving p.whole.some p.whole.come_to) in
    let at = here ls k l _ lt c.index_mut.ensures.value in
    let turn = c.sleep_step-turn in
    let new = turn.new.self in
    let further : k + 1 < length ls = omega (arith, length-set ls k new, c.if-following-len.true) in
    let opened = sleeping_open p.doing c.requires.serving in
    let busy = rw (sym c.slept_to-part.ensures) at (sleeping_busy p.doing (length ls) c.requires.serving) in
    let next = got ls (k + 1) further in
    let met = all_met p.dom.0 p.ringed p.doing ls p.whole opened (k + 1) next.0 next.1 in
    let rests = all_idle p.dom.0 p.ringed p.doing ls p.whole opened k busy (k + 1) next.0 next.1 (omega arith) in
    let t : Turns (link_left l) turn.result.access (Some c.in-Some.quiet) (link_left new) = rw c.in-Some.is at turn.ensures.turns in
    subst (λ j. Turns (sleeping j ls) turn.result.access None (sleeping (k + 1) (slice_set ls k new))) c.slept_to-part.ensures
    (sleep_next ls k l at new next.0 turn.result.access (link_left new) (get_set_other ls k (k + 1) new (omega arith) ∙ next.1) rests (met.both (rung_by p.ringed c.requires.ringed))
    (subst (λ (b : Bool). Turns (link_left l) turn.result.access (Some b) (link_left new)) c.if-quiet.true t))

pub returns-then-following-len-clause-stays : goal.returns-then-following-len-clause-stays
unfolding doing_of held_of kind_of
returns-then-following-len-clause-stays g c =
    let p = c.args.self.now in
    let ls = p.links.items in
    let k = c.slept_to-part.result in
    let l = c.index_mut.result.now in
    let lt : k < length ls = rw c.slept_to-part.ensures (sleeping_in p.doing (length ls) c.requires.serving p.whole.some p.whole.come_to) in
    let at = here ls k l _ lt c.index_mut.ensures.value in
    let turn = c.sleep_step-turn in
    let new = turn.new.self in
    let opened = sleeping_open p.doing c.requires.serving in
    let met = all_met p.dom.0 p.ringed p.doing ls p.whole opened k l at in
    in_all turn.result.access ls k l at (turn.ensures.stays (met.both (rung_by p.ringed c.requires.ringed)))

pub returns-then-following-len-clause-doing : goal.returns-then-following-len-clause-doing
unfolding doing_of
returns-then-following-len-clause-doing g c =
    refl

pub returns-then-following-len-clause-keeps : goal.returns-then-following-len-clause-keeps
unfolding count_of doing_of dom_of held_of joined_of kind_of
returns-then-following-len-clause-keeps g c =
    let p = c.args.self.now in
    let ls = p.links.items in
    let k = c.slept_to-part.result in
    let l = c.index_mut.result.now in
    let lt : k < length ls = rw c.slept_to-part.ensures (sleeping_in p.doing (length ls) c.requires.serving p.whole.some p.whole.come_to) in
    let at = here ls k l _ lt c.index_mut.ensures.value in
    let turn = c.sleep_step-turn in
    let new = turn.new.self in
    let opened = sleeping_open p.doing c.requires.serving in
    record {
      same = record { dom = refl; count = length-set ls k new; kind = refl };
      held = held_set ls k l new at turn.ensures.keeps.held;
      stays = joined_set (is_open p.doing) true ls k l new opened refl at turn.ensures.joined;
    }

pub returns-clause-turns : goal.returns-clause-turns
unfolding doing_of kind_of sleep_left
returns-clause-turns g c =
    let p = c.args.self.now in
    let ls = p.links.items in
    let k = c.slept_to-part.result in
    let l = c.index_mut.result.now in
    let lt : k < length ls = rw c.slept_to-part.ensures (sleeping_in p.doing (length ls) c.requires.serving p.whole.some p.whole.come_to) in
    let at = here ls k l _ lt c.index_mut.ensures.value in
    let turn = c.sleep_step-turn in
    let new = turn.new.self in
    let t : Turns (link_left l) turn.result.access (Some c.in-Some.quiet) (link_left new) = rw c.in-Some.is at turn.ensures.turns in
    let last : c.in-Some.quiet ≡ true → length ls ≤ k + 1 = elim c.else-quiet.branch [
      | else-quiet-via-then-quiet+else-following-len w ↦ λ _. omega (arith, length-set ls k new, w.if-following-len.false)
      | else-quiet-via-else-quiet w ↦ λ e. absurd (false≢true (sym w.if-quiet.false ∙ e))
    ] in
    subst (λ j. Turns (sleeping j ls) turn.result.access (Some c.in-Some.quiet) (sleeping 0 (slice_set ls k new))) c.slept_to-part.ensures
    (sleep_over ls k l at turn.result.access c.in-Some.quiet (link_left new) (sleeping 0 (slice_set ls k new)) last t)

pub returns-clause-stays : goal.returns-clause-stays
unfolding doing_of held_of kind_of
returns-clause-stays g c =
    let p = c.args.self.now in
    let ls = p.links.items in
    let k = c.slept_to-part.result in
    let l = c.index_mut.result.now in
    let lt : k < length ls = rw c.slept_to-part.ensures (sleeping_in p.doing (length ls) c.requires.serving p.whole.some p.whole.come_to) in
    let at = here ls k l _ lt c.index_mut.ensures.value in
    let turn = c.sleep_step-turn in
    let new = turn.new.self in
    let opened = sleeping_open p.doing c.requires.serving in
    let met = all_met p.dom.0 p.ringed p.doing ls p.whole opened k l at in
    in_all turn.result.access ls k l at (turn.ensures.stays (met.both (rung_by p.ringed c.requires.ringed)))

pub returns-clause-doing : goal.returns-clause-doing
unfolding doing_of
returns-clause-doing g c =
    refl

pub returns-clause-keeps : goal.returns-clause-keeps
unfolding count_of doing_of dom_of held_of joined_of kind_of
returns-clause-keeps g c =
    let p = c.args.self.now in
    let ls = p.links.items in
    let k = c.slept_to-part.result in
    let l = c.index_mut.result.now in
    let lt : k < length ls = rw c.slept_to-part.ensures (sleeping_in p.doing (length ls) c.requires.serving p.whole.some p.whole.come_to) in
    let at = here ls k l _ lt c.index_mut.ensures.value in
    let turn = c.sleep_step-turn in
    let new = turn.new.self in
    let opened = sleeping_open p.doing c.requires.serving in
    record {
      same = record { dom = refl; count = length-set ls k new; kind = refl };
      held = held_set ls k l new at turn.ensures.keeps.held;
      stays = joined_set (is_open p.doing) true ls k l new opened refl at turn.ensures.joined;
    }

pub overflow_add-following : goal.overflow_add-following
unfolding doing_of
overflow_add-following g c =
    let p = c.args.self.now in
    let lt : c.slept_to-part.result < length p.links.items = rw c.slept_to-part.ensures (sleeping_in p.doing (length p.links.items) c.requires.serving p.whole.some p.whole.come_to) in
    let few = p.whole.few in
    omega arith
