use Rattle.std.proofs.Common.{◌≡◌, None, List, ap, refl, ◌∙◌}
use Rattle.link_core.specs.Activities.{Joined}
use Rattle.device_service.specs.declared.backend.Activity.TheVariants as activity
use Rattle.device_service.specs.Parts as of_parts
use Rattle.device_service.specs.Stand.{dom_of, held_of, parts_of, stand_of, work_of}
use Rattle.device_service.specs.Work.{Slept, after_sleep}
use Rattle.device_service.proofs.Serving.{in_parts}
use Rattle.device_service.proofs.Works.{goes_on, goes_out, serving_at, serving_is, serving_work, settled_slept, slept_loud, slept_quiet, slept_said}
use Rattle.device_service.proofs.backend.Backend.sleep.Goals as goal
use Rattle.device_service.proofs.backend.Backend.sleep.Goals.{then-quiet, else-quiet}

pub sleep_step-turn-requires-clause-ringed : goal.sleep_step-turn-requires-clause-ringed
sleep_step-turn-requires-clause-ringed g c = c.args.self.now.kind_is ∙ c.requires.ringed

pub returns-in_default-clause-goes : goal.returns-in_default-clause-goes
unfolding stand_of work_of
returns-in_default-clause-goes g c = λ site.
    let d = c.args.self.now in
    let turn = c.sleep_step-turn in
    let w = serving_work d in
    goes_on g.S.Serve.service site (λ x. Slept x) (work_of d) w _ (of_parts.sleep_left d.parts) turn.result.access (of_parts.sleep_left turn.new.self)
    (serving_is d (serving_at d.activity activity.Sleeping refl c.requires.serving))
    (ap (λ (js : List Joined). record w { parts = js }) turn.ensures.keeps.stays)
    (rw c.in_default.is at turn.ensures.turns)

pub returns-in_default-clause-stays : goal.returns-in_default-clause-stays
unfolding held_of
returns-in_default-clause-stays g c = in_parts _ _ c.sleep_step-turn.result.access c.sleep_step-turn.ensures.stays

pub returns-in_default-clause-same : goal.returns-in_default-clause-same
unfolding dom_of parts_of
returns-in_default-clause-same g c = (refl, refl, c.sleep_step-turn.ensures.keeps.same.count)

pub returns-clause-goes : goal.returns-clause-goes
unfolding stand_of work_of
returns-clause-goes g c = λ site.
    let d = c.args.self.now in
    let turn = c.sleep_step-turn in
    let s = g.S.Serve.service in
    let w = serving_work d in
    let quiet = c.in-Some.quiet in
    let after : record w { round = c.if-quiet.self } ≡ after_sleep s w quiet = elim c.if-quiet.branch [
      | then-quiet b ↦ slept_quiet s site w quiet c.if-quiet.self b.if-quiet.true b.self-is
      | else-quiet b ↦ slept_loud s site w quiet c.if-quiet.self b.if-quiet.false b.self-is
    ] in
    goes_out s site (λ x. Slept x) (work_of d) w _ (of_parts.sleep_left d.parts) turn.result.access quiet (of_parts.sleep_left turn.new.self) None
    (serving_is d (serving_at d.activity activity.Sleeping refl c.requires.serving))
    (rw c.in-Some.is at turn.ensures.turns)
    (slept_said s site w quiet)
    (settled_slept s site w quiet c.if-quiet.self _ turn.ensures.keeps.stays after)

pub returns-clause-stays : goal.returns-clause-stays
unfolding held_of
returns-clause-stays g c = in_parts _ _ c.sleep_step-turn.result.access c.sleep_step-turn.ensures.stays

pub returns-clause-same : goal.returns-clause-same
unfolding dom_of parts_of
returns-clause-same g c = (refl, refl, c.sleep_step-turn.ensures.keeps.same.count)
