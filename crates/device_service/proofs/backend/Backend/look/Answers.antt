use Rattle.std.proofs.Common.{None, Option, Some, ap, refl, slice_get, subst, sym, true, ◌∙◌}
use Rattle.pv_words.specs.Plan.{Turns}
use Rattle.ring_words.specs.declared.Looked.{Looked}
use Rattle.ring_words.specs.declared.Looked.TheVariants as looked
use Rattle.device_service.specs.Activity.{is_serving, resting}
use Rattle.device_service.specs.Parts as of_parts
use Rattle.device_service.specs.Stand.{dom_of, held_of, parts_of, work_of}
use Rattle.device_service.specs.Work.{Saw, next_look}
use Rattle.device_service.proofs.Leaving.{rests_between}
use Rattle.device_service.proofs.Serving.{in_parts}
use Rattle.device_service.proofs.Works.{ends_between, saw_said, serving_work, settled_nothing, settled_overrun, settled_ready}
use Rattle.device_service.proofs.backend.Backend.look.Goals as goal

pub look_step-turn-requires-clause-ringed : goal.look_step-turn-requires-clause-ringed
look_step-turn-requires-clause-ringed g c = c.args.self.now.kind_is ∙ c.requires.ringed

pub look_step-turn-requires-clause-rests : goal.look_step-turn-requires-clause-rests
look_step-turn-requires-clause-rests g c =
    let d = c.args.self.now in
    rests_between d.activity _ (of_parts.doing_of d.parts) d.at d.hand c.requires.between d.stands ∙ ap resting c.requires.opened

pub returns-in-Nothing-clause-goes : goal.returns-in-Nothing-clause-goes
unfolding work_of parts_of
returns-in-Nothing-clause-goes g c = λ site same.
    let d = c.args.self.now in
    let turn = c.look_step-turn in
    let s = g.S.Serve.service in
    let w = serving_work d in
    let p = of_parts.look_of (slice_get (of_parts.joined_of d.parts) c.args.part) in
    ends_between site (λ x. Saw x) d _ p turn.result.access (looked.Nothing) p None (ap is_serving c.requires.between) c.requires.between
    (subst (λ (o : Option Looked). Turns p turn.result.access o p) (c.in-Some.is ∙ ap Some c.in-Nothing.is) (turn.ensures.turns p))
    (saw_said s site w (looked.Nothing))
    (settled_nothing s site w c.args.part c.args.served _ _ turn.ensures.keeps.stays c.requires.round (c.next_look-self.ensures.exact ∙ ap (λ k. next_look k c.args.part c.args.served) (c.len.ensures.exact ∙ turn.ensures.keeps.same.count ∙ sym same)))

pub returns-in-Nothing-clause-stays : goal.returns-in-Nothing-clause-stays
unfolding held_of
returns-in-Nothing-clause-stays g c = in_parts _ _ c.look_step-turn.result.access c.look_step-turn.ensures.stays

pub returns-in-Nothing-clause-same : goal.returns-in-Nothing-clause-same
unfolding dom_of parts_of
returns-in-Nothing-clause-same g c = (refl, refl, c.look_step-turn.ensures.keeps.same.count)

pub returns-in-Ready-clause-goes : goal.returns-in-Ready-clause-goes
unfolding work_of parts_of
returns-in-Ready-clause-goes g c = λ site same.
    let d = c.args.self.now in
    let turn = c.look_step-turn in
    let s = g.S.Serve.service in
    let w = serving_work d in
    let p = of_parts.look_of (slice_get (of_parts.joined_of d.parts) c.args.part) in
    ends_between site (λ x. Saw x) d _ p turn.result.access (looked.Ready c.in-Ready.requests) p None (ap is_serving c.requires.between) c.requires.between
    (subst (λ (o : Option Looked). Turns p turn.result.access o p) (c.in-Some.is ∙ ap Some c.in-Ready.is) (turn.ensures.turns p))
    (saw_said s site w (looked.Ready c.in-Ready.requests))
    (settled_ready s site w c.args.part c.args.served c.in-Ready.requests _ _ turn.ensures.keeps.stays c.requires.round (c.next_look-self-in-Ready.ensures.exact ∙ ap (λ k. next_look k c.args.part true) (c.len-in-Ready.ensures.exact ∙ turn.ensures.keeps.same.count ∙ sym same)))

pub returns-in-Ready-clause-stays : goal.returns-in-Ready-clause-stays
unfolding held_of
returns-in-Ready-clause-stays g c = in_parts _ _ c.look_step-turn.result.access c.look_step-turn.ensures.stays

pub returns-in-Ready-clause-same : goal.returns-in-Ready-clause-same
unfolding dom_of parts_of
returns-in-Ready-clause-same g c = (refl, refl, c.look_step-turn.ensures.keeps.same.count)

pub returns-in-Overrun-clause-goes : goal.returns-in-Overrun-clause-goes
unfolding work_of parts_of
returns-in-Overrun-clause-goes g c = λ site same.
    let d = c.args.self.now in
    let turn = c.look_step-turn in
    let s = g.S.Serve.service in
    let w = serving_work d in
    let p = of_parts.look_of (slice_get (of_parts.joined_of d.parts) c.args.part) in
    ends_between site (λ x. Saw x) d _ p turn.result.access (looked.Overrun c.in-Overrun.prod c.in-Overrun.rsp) p None (ap is_serving c.requires.between) c.requires.between
    (subst (λ (o : Option Looked). Turns p turn.result.access o p) (c.in-Some.is ∙ ap Some c.in-Overrun.is) (turn.ensures.turns p))
    (saw_said s site w (looked.Overrun c.in-Overrun.prod c.in-Overrun.rsp))
    (settled_overrun s site w c.in-Overrun.prod c.in-Overrun.rsp _ turn.ensures.keeps.stays)

pub returns-in-Overrun-clause-stays : goal.returns-in-Overrun-clause-stays
unfolding held_of
returns-in-Overrun-clause-stays g c = in_parts _ _ c.look_step-turn.result.access c.look_step-turn.ensures.stays

pub returns-in-Overrun-clause-same : goal.returns-in-Overrun-clause-same
unfolding dom_of parts_of
returns-in-Overrun-clause-same g c = (refl, refl, c.look_step-turn.ensures.keeps.same.count)
