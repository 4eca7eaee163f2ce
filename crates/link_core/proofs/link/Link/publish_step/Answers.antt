use Rattle.std.proofs.Common.{◌≤◌, ap, arith, length, subst, sym}
use Rattle.std.specs.List.{flat_map}
use Rattle.pv_words.specs.Plan.{MayGo}
use Rattle.link_core.specs.Activities.{page_at}
use Rattle.link_core.specs.Link.{Leads, publish_left, put_left, puts, whole_put}
use Rattle.link_core.specs.Raise.{input_layout}
use Rattle.link_core.specs.Stage.{is_raise}
use Rattle.link_core.proofs.Raises.{whole}
use Rattle.link_core.proofs.link.Link.publish_step.Goals as goal

pub store_step-requires-clause-room : goal.store_step-requires-clause-room
unfolding puts
store_step-requires-clause-room g c = c.requires.room (ap is_raise c.in-Raise.is)

pub store_step-requires-clause-short : goal.store_step-requires-clause-short
unfolding puts
store_step-requires-clause-short g c =
    let few : length c.args.group.now ≤ 51 = c.requires.room (ap is_raise c.in-Raise.is) in
    omega (arith, c.as_flattened-w.ensures.len)

pub store_step-requires-clause-may : goal.store_step-requires-clause-may
unfolding publish_left
store_step-requires-clause-may g c =
    subst (λ w. MayGo (g.W.Words.may c.args.words.now) (put_left input_layout (length c.args.group.now) w c.args.self.now)) (sym c.as_flattened-w.ensures.value) c.requires.may

pub returns-in-Raise-clause-leads : goal.returns-in-Raise-clause-leads
unfolding publish_left
returns-in-Raise-clause-leads g c =
    let n = length c.args.group.now in
    subst (λ w. Leads (put_left input_layout n w c.args.self.now) c.store_step.result.access c.store_step.result.done (put_left input_layout n w c.store_step.new.self)) c.as_flattened-w.ensures.value c.store_step.ensures.leads

pub returns-in-Raise-clause-room : goal.returns-in-Raise-clause-room
unfolding puts
returns-in-Raise-clause-room g c = λ h. c.requires.room (ap is_raise c.in-Raise.is)

pub room_step-requires-clause-may : goal.room_step-requires-clause-may
unfolding publish_left
room_step-requires-clause-may g c =
    let l = c.args.self.now in
    let n = length c.args.group.now in
    let all = flat_map (λ e. e) c.args.group.now in
    let begins = subst (λ p. MayGo (g.W.Words.may c.args.words.now) p) (whole input_layout (page_at l.event_page) l.prod l.stored n all l.stage c.in_default.not-Raise) c.requires.may in
    subst (λ w. MayGo (g.W.Words.may c.args.words.now) (whole_put input_layout n w l)) (sym c.as_flattened-w.ensures.value) begins

pub returns-in_default-clause-leads : goal.returns-in_default-clause-leads
unfolding publish_left
returns-in_default-clause-leads g c =
    let l = c.args.self.now in
    let now = c.room_step.new.self in
    let n = length c.args.group.now in
    let all = flat_map (λ e. e) c.args.group.now in
    let leads = subst (λ w. Leads (whole_put input_layout n w l) c.room_step.result.access c.room_step.result.done (put_left input_layout n w now)) c.as_flattened-w.ensures.value c.room_step.ensures.leads in
    subst (λ p. Leads p c.room_step.result.access c.room_step.result.done (put_left input_layout n all now)) (sym (whole input_layout (page_at l.event_page) l.prod l.stored n all l.stage c.in_default.not-Raise)) leads
