use Rattle.std.proofs.Common.{ℕ, Bool, List, ap, slice_get, subst, sym, ◌∙◌}
use Rattle.pv_words.specs.Plan.{MayGo, Plan, mapped}
use Rattle.device_core.specs.Order.{GoesOn}
use Rattle.device_service.specs.Activity.{hand_part, is_open}
use Rattle.device_service.specs.Parts as of_parts
use Rattle.device_service.specs.Stand.{dom_of, parts_of, stand_of, work_of}
use Rattle.device_service.specs.Work.{Answered, device}
use Rattle.device_service.proofs.PartsLaws.{answer_begins}
use Rattle.device_service.proofs.Serving.{hand_within, open_between}
use Rattle.device_service.proofs.backend.Backend.reply.Goals as goal

pub answer-requires-clause-may : goal.answer-requires-clause-may
answer-requires-clause-may g c =
    let d = c.args.self.now in
    let opened = open_between d.activity (is_open d.activity d.closing d.connection.back) (of_parts.doing_of d.parts) d.at d.hand c.requires.between c.requires.opened d.stands in
    let begins = answer_begins d.parts opened (d.kind_is ∙ d.rung c.requires.hand) (hand_part d.hand) c.reply-self.result (hand_within d.hand (of_parts.count_of d.parts) c.requires.hand d.hand_in) in
    let is = begins ∙ ap (λ (r : List ℕ). of_parts.answer_of r (slice_get (of_parts.joined_of d.parts) (hand_part d.hand))) c.reply-self.ensures in
    subst (λ (p : Plan Bool). MayGo (g.W.Words.may c.args.words.now) p) (sym is) c.requires.may

pub returns-clause-goes : goal.returns-clause-goes
unfolding work_of
returns-clause-goes g c = λ site.
    let d = c.args.self.now in
    let opened = open_between d.activity (is_open d.activity d.closing d.connection.back) (of_parts.doing_of d.parts) d.at d.hand c.requires.between c.requires.opened d.stands in
    let begins = answer_begins d.parts opened (d.kind_is ∙ d.rung c.requires.hand) (hand_part d.hand) c.reply-self.result (hand_within d.hand (of_parts.count_of d.parts) c.requires.hand d.hand_in) in
    let is = begins ∙ ap (λ (r : List ℕ). of_parts.answer_of r (slice_get (of_parts.joined_of d.parts) (hand_part d.hand))) c.reply-self.ensures in
    subst (λ (p : Plan Bool). GoesOn (device g.S.Serve.service site) (work_of d) (mapped (λ x. Answered x) p) c.answer.result.access c.answer.result.said (stand_of site c.answer.new.self)) is (c.answer.ensures.goes site)

pub returns-clause-same : goal.returns-clause-same
unfolding dom_of parts_of
returns-clause-same g c = c.answer.ensures.same
