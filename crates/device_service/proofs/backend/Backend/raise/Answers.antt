use Rattle.std.proofs.Common.{List, None, Some, ap, refl, subst, sym, ◌∙◌}
use Rattle.link_core.specs.Activities.{Joined}
use Rattle.device_core.specs.Order.{GoesOn, Stand}
use Rattle.pv_words.specs.Plan.{mapped}
use Rattle.device_service.specs.declared.backend.Activity.TheVariants as activity
use Rattle.device_service.specs.Parts as of_parts
use Rattle.device_service.specs.Stand.{dom_of, held_of, parts_of, stand_of, work_of}
use Rattle.device_service.specs.Waits.{WaitAt}
use Rattle.device_service.specs.Work.{End, Raised, Work, device}
use Rattle.device_service.proofs.Raising.{left_on, raised_said, settled_raise, turns_left}
use Rattle.device_service.proofs.Serving.{in_parts}
use Rattle.device_service.proofs.Works.{between_as, goes_on, goes_out, serving_at, serving_is, serving_work}
use Rattle.device_service.proofs.backend.Backend.raise.Goals as goal

pub invariant_of-self-clause-raises : goal.invariant_of-self-clause-raises
invariant_of-self-clause-raises g c =
    let d = c.args.self.now in
    let turn = c.raise_step-turn in
    left_on (of_parts.raise_left c.args.part d.outgoing d.parts) turn.result.access (of_parts.raise_left c.args.part d.outgoing turn.new.self) (rw c.in_default.is at turn.ensures.leads)

pub invariant_of-self-clause-waits : goal.invariant_of-self-clause-waits
invariant_of-self-clause-waits g c =
    let d = c.args.self.now in
    subst (λ n. WaitAt g.S.Serve.service.at n d.waiting) (sym c.raise_step-turn.ensures.same.count) d.waits

pub returns-in_default-clause-goes : goal.returns-in_default-clause-goes
unfolding stand_of work_of
returns-in_default-clause-goes g c = λ site.
    let d = c.args.self.now in
    let turn = c.raise_step-turn in
    let w = serving_work d in
    let part = c.args.part in
    let p = of_parts.raise_left part d.outgoing d.parts in
    let q = of_parts.raise_left part d.outgoing turn.new.self in
    goes_on g.S.Serve.service site (Raised part d.cause) (work_of d) w _ p turn.result.access q
    (serving_is d (serving_at d.activity (activity.Raising part) refl c.requires.serving))
    (ap (λ (js : List Joined). record w { parts = js }) (rw c.in_default.is at turn.ensures.joined))
    (turns_left p turn.result.access None q c.requires.begun (rw c.in_default.is at turn.ensures.leads))

pub returns-in_default-clause-stays : goal.returns-in_default-clause-stays
unfolding held_of
returns-in_default-clause-stays g c = in_parts _ _ c.raise_step-turn.result.access c.raise_step-turn.ensures.stays

pub returns-in_default-clause-same : goal.returns-in_default-clause-same
unfolding dom_of parts_of
returns-in_default-clause-same g c = (refl, refl, c.raise_step-turn.ensures.same.count)

pub returns-clause-goes : goal.returns-clause-goes
unfolding work_of
returns-clause-goes g c = λ site.
    let d = c.args.self.now in
    let turn = c.raise_step-turn in
    let s = g.S.Serve.service in
    let w = serving_work d in
    let part = c.args.part in
    let end = c.in-Some.put in
    let after = c.raised-said in
    let p = of_parts.raise_left part d.outgoing d.parts in
    let q = of_parts.raise_left part d.outgoing turn.new.self in
    subst (λ (x : Stand (Work g.S.Serve.Known g.row.S-Event.Denot) (End g.S.Serve.End g.row.S-Event.Denot)). GoesOn (device s site) (work_of d) (mapped (Raised part d.cause) p) turn.result.access after.result x)
    (sym (between_as site after.new.self after.ensures.between))
    (goes_out s site (Raised part d.cause) (work_of d) w (work_of after.new.self) p turn.result.access end q after.result
    (serving_is d (serving_at d.activity (activity.Raising part) refl c.requires.serving))
    (turns_left p turn.result.access (Some end) q c.requires.begun (rw c.in-Some.is at turn.ensures.leads))
    (after.ensures.said ∙ raised_said s site w (of_parts.joined_of turn.new.self) part d.cause end)
    (after.ensures.work ∙ settled_raise s site w (of_parts.joined_of turn.new.self) part d.cause end (rw c.in-Some.is at turn.ensures.joined)))

pub returns-clause-stays : goal.returns-clause-stays
unfolding held_of
returns-clause-stays g c = in_parts _ _ c.raise_step-turn.result.access c.raise_step-turn.ensures.stays

pub returns-clause-same : goal.returns-clause-same
unfolding dom_of parts_of
returns-clause-same g c =
    let same = c.raised-said.ensures.same in
    (same.0, same.1, same.2 ∙ c.raise_step-turn.ensures.same.count)
