use Rattle.std.proofs.Common.{List, ap, refl, subst, sym, ◌∙◌}
use Rattle.link_core.specs.Activities.{Joined}
use Rattle.device_service.specs.declared.backend.Activity.TheVariants as activity
use Rattle.device_service.specs.Parts as of_parts
use Rattle.device_service.specs.Stand.{dom_of, held_of, parts_of, stand_of, work_of}
use Rattle.device_service.specs.Waits.{WaitAt}
use Rattle.device_service.specs.Work.{Took}
use Rattle.device_service.proofs.Serving.{in_parts}
use Rattle.device_service.proofs.Works.{goes_on, goes_out, serving_at, serving_is, serving_work, settled_take, took_said}
use Rattle.device_service.proofs.backend.Backend.take.Goals as goal

pub take_step-turn-requires-clause-ringed : goal.take_step-turn-requires-clause-ringed
take_step-turn-requires-clause-ringed g c = c.args.self.now.kind_is ∙ c.requires.ringed

pub returns-in_default-clause-goes : goal.returns-in_default-clause-goes
unfolding stand_of work_of
returns-in_default-clause-goes g c = λ site.
    let d = c.args.self.now in
    let turn = c.take_step-turn in
    let w = serving_work d in
    goes_on g.S.Serve.service site (λ x. Took x) (work_of d) w _ (of_parts.take_left d.at d.parts) turn.result.access (of_parts.take_left d.at turn.new.self)
    (serving_is d (serving_at d.activity activity.Taking refl c.requires.serving))
    (ap (λ (js : List Joined). record w { parts = js }) turn.ensures.keeps.stays)
    (rw c.in_default.is at turn.ensures.turns)

pub returns-in_default-clause-stays : goal.returns-in_default-clause-stays
unfolding held_of
returns-in_default-clause-stays g c = in_parts _ _ c.take_step-turn.result.access c.take_step-turn.ensures.stays

pub returns-in_default-clause-same : goal.returns-in_default-clause-same
unfolding dom_of parts_of
returns-in_default-clause-same g c = (refl, refl, c.take_step-turn.ensures.keeps.same.count)

pub invariant_of-self-2-clause-rung : goal.invariant_of-self-2-clause-rung
invariant_of-self-2-clause-rung g c = λ _. c.requires.ringed

pub returns-clause-goes : goal.returns-clause-goes
unfolding stand_of work_of
returns-clause-goes g c = λ site.
    let d = c.args.self.now in
    let turn = c.take_step-turn in
    let s = g.S.Serve.service in
    let w = serving_work d in
    let words = c.in-Some.taken in
    goes_out s site (λ x. Took x) (work_of d) w _ (of_parts.take_left d.at d.parts) turn.result.access words (of_parts.take_left d.at turn.new.self) _
    (serving_is d (serving_at d.activity activity.Taking refl c.requires.serving))
    (rw c.in-Some.is at turn.ensures.turns)
    (took_said s site w words _ c.hand_of-hand.ensures)
    (settled_take s site w words _ _ _ _ turn.ensures.keeps.stays c.hand_of-hand.ensures c.saturating_sub-self.ensures c.take.ensures.knows)

pub returns-clause-stays : goal.returns-clause-stays
unfolding held_of
returns-clause-stays g c = in_parts _ _ c.take_step-turn.result.access c.take_step-turn.ensures.stays

pub returns-clause-same : goal.returns-clause-same
unfolding dom_of parts_of
returns-clause-same g c = (refl, refl, c.take_step-turn.ensures.keeps.same.count)

pub invariant_of-self-2-clause-waits : goal.invariant_of-self-2-clause-waits
invariant_of-self-2-clause-waits g c =
    let d = c.args.self.now in
    subst (λ n. WaitAt g.S.Serve.service.at n d.waiting) (sym c.take_step-turn.ensures.keeps.same.count) d.waits
