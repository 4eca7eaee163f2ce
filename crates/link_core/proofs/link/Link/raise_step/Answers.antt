use Rattle.std.proofs.Common.{subst, sym}
use Rattle.pv_words.specs.Plan.{MayGo}
use Rattle.link_core.specs.Activities.{page_at}
use Rattle.link_core.specs.Link.{Leads, raise_left}
use Rattle.link_core.specs.Raise.{event_layout}
use Rattle.link_core.proofs.Raises.{whole}
use Rattle.link_core.proofs.link.Link.raise_step.Goals as goal

pub store_step-requires-clause-may : goal.store_step-requires-clause-may
unfolding raise_left
store_step-requires-clause-may g c = c.requires

pub room_step-requires-clause-may : goal.room_step-requires-clause-may
unfolding raise_left
room_step-requires-clause-may g c =
    let l = c.args.self.now in
    subst (λ p. MayGo (g.W.Words.may c.args.words.now) p) (whole event_layout (page_at l.event_page) l.prod l.stored 1 c.args.w.now l.stage c.in_default.not-Raise) c.requires

pub returns-in-Raise-clause-leads : goal.returns-in-Raise-clause-leads
unfolding raise_left
returns-in-Raise-clause-leads g c = c.store_step.ensures.leads

pub returns-in_default-clause-leads : goal.returns-in_default-clause-leads
unfolding raise_left
returns-in_default-clause-leads g c =
    let l = c.args.self.now in
    let now = c.room_step.new.self in
    subst (λ p. Leads p c.room_step.result.access c.room_step.result.done (raise_left now c.args.w.now)) (sym (whole event_layout (page_at l.event_page) l.prod l.stored 1 c.args.w.now l.stage c.in_default.not-Raise)) c.room_step.ensures.leads
