use Rattle.std.proofs.Common.{rules, ◌≡◌, List, None, Some, ap, refl, subst, sym, ◌∙◌}
use mir.Syntax.{w32}
use mir.Val.{SFits}
use Rattle.std.proofs.lemmas.Int.{to_z-of_z}
use Rattle.pv_words.specs.Plan.{Turns}
use Rattle.link_core.specs.Activities.{Joined}
use Rattle.device_service.specs.declared.backend.Activity.TheVariants as activity
use Rattle.device_service.specs.Activity.{hand_part}
use Rattle.device_service.specs.Parts as of_parts
use Rattle.device_service.specs.Stand.{dom_of, parts_of, stand_of, work_of}
use Rattle.device_service.specs.Work.{Answered}
use Rattle.device_service.proofs.Works.{answered_said, goes_on, goes_out, serving_at, serving_is, serving_work, settled_answer}
use Rattle.device_service.proofs.backend.Backend.answer.Goals as goal

pub returns-in_default-done-clause-goes : goal.returns-in_default-done-clause-goes
unfolding stand_of work_of
returns-in_default-done-clause-goes g c = λ site.
    let d = c.args.self.now in
    let turn = c.answer_step-turn in
    let w = serving_work d in
    let part : c.in-Some.hand.part ≡ hand_part d.hand = ap hand_part (sym c.in-Some.is) in
    goes_on g.S.Serve.service site (λ x. Answered x) (work_of d) w _ (of_parts.answer_left (hand_part d.hand) d.outgoing d.parts) turn.result.access (of_parts.answer_left (hand_part d.hand) d.outgoing turn.new.self)
    (serving_is d (serving_at d.activity activity.Answering refl c.requires.serving))
    (ap (λ (js : List Joined). record w { parts = js }) (rw c.in_default-done.is at turn.ensures.joined))
    (subst (λ k. Turns (of_parts.answer_left k d.outgoing d.parts) turn.result.access None (of_parts.answer_left k d.outgoing turn.new.self)) part (rw c.in_default-done.is at turn.ensures.turns))

pub returns-in_default-done-clause-stays : goal.returns-in_default-done-clause-stays
returns-in_default-done-clause-stays g c = c.answer_step-turn.ensures.stays

pub returns-in_default-done-clause-same : goal.returns-in_default-done-clause-same
unfolding dom_of parts_of
returns-in_default-done-clause-same g c = (refl, refl, c.answer_step-turn.ensures.same.count)

pub returns-clause-goes : goal.returns-clause-goes
unfolding stand_of work_of
returns-clause-goes g c = λ site.
    let d = c.args.self.now in
    let turn = c.answer_step-turn in
    let s = g.S.Serve.service in
    let w = serving_work d in
    let h = c.in-Some.hand in
    let n = c.in-Some-done.notified in
    let part : h.part ≡ hand_part d.hand = ap hand_part (sym c.in-Some.is) in
    let status = c.answered-status.result in
    let fits_in : SFits w32 status = search rules in
    let told = to_z-of_z w32 status fits_in in
    goes_out s site (λ x. Answered x) (work_of d) w _ (of_parts.answer_left (hand_part d.hand) d.outgoing d.parts) turn.result.access n (of_parts.answer_left (hand_part d.hand) d.outgoing turn.new.self) _
    (serving_is d (serving_at d.activity activity.Answering refl c.requires.serving))
    (subst (λ k. Turns (of_parts.answer_left k d.outgoing d.parts) turn.result.access (Some n) (of_parts.answer_left k d.outgoing turn.new.self)) part (rw c.in-Some-done.is at turn.ensures.turns))
    (answered_said s site w h _ n c.in-Some.is (told ∙ c.answered-status.ensures.status))
    (settled_answer s site w h n _ _ c.in-Some.is (rw c.in-Some-done.is at turn.ensures.joined) c.answered-status.ensures.knows)

pub returns-clause-stays : goal.returns-clause-stays
returns-clause-stays g c = c.answer_step-turn.ensures.stays

pub returns-clause-same : goal.returns-clause-same
unfolding dom_of parts_of
returns-clause-same g c = (refl, refl, c.answer_step-turn.ensures.same.count)
