use Rattle.std.proofs.Common.{◌≡◌, [], true, inr, ap, refl, subst, sym, ◌∙◌}
use Rattle.pv_words.specs.Plan.{mapped}
use Rattle.device_core.specs.Site.{Site}
use Rattle.device_service.specs.declared.backend.Activity.{Activity}
use Rattle.device_service.specs.declared.backend.Activity.TheVariants as activity
use Rattle.device_service.specs.Activity.{StandsAs, hand_part, is_answering, is_leaving, is_open, may_hold}
use Rattle.device_service.specs.Claims.{site_of}
use Rattle.device_service.specs.Doing.{uses_ring}
use Rattle.device_service.specs.Parts as of_parts
use Rattle.device_service.specs.Raising.{raises_on}
use Rattle.device_service.specs.Stand.{dom_of, given_up, held_of, leaving_plan, parts_of, work_of}
use Rattle.device_service.specs.Work.{Answered, Done, Own, Raised, Slept, Took, choice, connected}
use Rattle.device_service.proofs.Deeds.{may_mapped}
use Rattle.device_service.proofs.Out.{known_left, known_out, leaves_bare, may_first, may_in, may_out, steps_begin, steps_in, steps_on, steps_out}
use Rattle.device_service.proofs.Raising.{raising_there}
use Rattle.device_service.proofs.Serving.{in_parts, rings_asleep, rings_in_use}
use Rattle.device_service.proofs.backend.Backend.step.Goals as goal

pub begin-requires-clause-may : goal.begin-requires-clause-may
begin-requires-clause-may g c =
    let d = c.args.self.now in
    let s = g.S.Serve.service in
    let site : Site = site_of (g.W.Words.frames_of c.args.words.now) (g.W.Words.grants_of c.args.words.now) (dom_of d) (parts_of d) in
    may_in site d (g.W.Words.may c.args.words.now) activity.Between c.in-Between.is c.requires

pub returns-in-Between-clause-steps : goal.returns-in-Between-clause-steps
returns-in-Between-clause-steps g c =
    let d = c.args.self.now in
    let s = g.S.Serve.service in
    let site : Site = site_of (g.W.Words.frames_of c.args.words.now) (g.W.Words.grants_of c.args.words.now) (dom_of d) (parts_of d) in
    steps_in site d activity.Between c.begin.result.access c.begin.result.said _ c.in-Between.is
    (steps_begin s site (work_of d) (choice s site (work_of d)) c.begin.result.access c.begin.result.said _ refl c.begin.ensures.begins)

pub connect-requires-clause-may : goal.connect-requires-clause-may
connect-requires-clause-may g c =
    let d = c.args.self.now in
    let s = g.S.Serve.service in
    let site : Site = site_of (g.W.Words.frames_of c.args.words.now) (g.W.Words.grants_of c.args.words.now) (dom_of d) (parts_of d) in
    let p = of_parts.connect_left site d.read d.parts in
    may_mapped (g.W.Words.may c.args.words.now) p connected (may_out s site (g.W.Words.may c.args.words.now) (work_of d) (mapped connected p) (may_in site d (g.W.Words.may c.args.words.now) activity.Connecting c.in-Connecting.is c.requires))

pub returns-in-Connecting-clause-steps : goal.returns-in-Connecting-clause-steps
unfolding work_of
returns-in-Connecting-clause-steps g c =
    let d = c.args.self.now in
    let s = g.S.Serve.service in
    let site : Site = site_of (g.W.Words.frames_of c.args.words.now) (g.W.Words.grants_of c.args.words.now) (dom_of d) (parts_of d) in
    let x = g.S.Serve.knows d.service in
    let knows : (work_of d).service ≡ x = known_out s.stripped (is_leaving d.activity) x (ap is_leaving c.in-Connecting.is) in
    let apart = ap (λ (a : Activity). may_hold a (is_open a d.closing d.connection.back)) c.in-Connecting.is in
    let bare : s.pages (work_of d).service ≡ [] = ap s.pages knows ∙ d.bare apart in
    steps_in site d activity.Connecting c.connect.result.access c.connect.result.said _ c.in-Connecting.is
    (steps_out s site (work_of d) (mapped connected (of_parts.connect_left site d.read d.parts)) c.connect.result.access c.connect.result.said _ (λ end over. bare) (g.S.Serve.stays_bare (work_of d).service) c.connect.ensures.goes)

pub leave-requires-clause-may : goal.leave-requires-clause-may
leave-requires-clause-may g c =
    let d = c.args.self.now in
    let s = g.S.Serve.service in
    let site : Site = site_of (g.W.Words.frames_of c.args.words.now) (g.W.Words.grants_of c.args.words.now) (dom_of d) (parts_of d) in
    may_first (g.W.Words.may c.args.words.now) (given_up d) _ (may_out s site (g.W.Words.may c.args.words.now) (work_of d) (leaving_plan c.in-Leaving.why (given_up d)) (may_in site d (g.W.Words.may c.args.words.now) (activity.Leaving c.in-Leaving.why) c.in-Leaving.is c.requires))

pub returns-in-Leaving-clause-steps : goal.returns-in-Leaving-clause-steps
unfolding work_of given_up
returns-in-Leaving-clause-steps g c =
    let d = c.args.self.now in
    let s = g.S.Serve.service in
    let site : Site = site_of (g.W.Words.frames_of c.args.words.now) (g.W.Words.grants_of c.args.words.now) (dom_of d) (parts_of d) in
    let x = g.S.Serve.knows d.service in
    let leaves : is_leaving d.activity ≡ true = ap is_leaving c.in-Leaving.is in
    steps_in site d (activity.Leaving c.in-Leaving.why) c.leave.result.access c.leave.result.said _ c.in-Leaving.is
    (steps_out s site (work_of d) (leaving_plan c.in-Leaving.why (given_up d)) c.leave.result.access c.leave.result.said _
    (λ end over. let none : s.pages x ≡ [] = leaves_bare (s.pages x) (of_parts.held_of d.parts) c.in-Leaving.why end over in ap s.pages (known_left s.stripped (is_leaving d.activity) x leaves (g.S.Serve.stays_bare x none)) ∙ none)
    (g.S.Serve.stays_bare (work_of d).service) (c.leave.ensures.goes site))

pub returns-in-Leaving-clause-stays : goal.returns-in-Leaving-clause-stays
returns-in-Leaving-clause-stays g c =
    c.leave.ensures.stays (held_of c.args.self.now)

pub take-requires-clause-may : goal.take-requires-clause-may
take-requires-clause-may g c =
    let d = c.args.self.now in
    let s = g.S.Serve.service in
    let site : Site = site_of (g.W.Words.frames_of c.args.words.now) (g.W.Words.grants_of c.args.words.now) (dom_of d) (parts_of d) in
    may_mapped (g.W.Words.may c.args.words.now) (of_parts.take_left d.at d.parts) (λ x. Took x) (may_in site d (g.W.Words.may c.args.words.now) activity.Taking c.in-Taking.is c.requires)

pub returns-in-Taking-clause-steps : goal.returns-in-Taking-clause-steps
returns-in-Taking-clause-steps g c =
    let d = c.args.self.now in
    let s = g.S.Serve.service in
    let site : Site = site_of (g.W.Words.frames_of c.args.words.now) (g.W.Words.grants_of c.args.words.now) (dom_of d) (parts_of d) in
    steps_on site d (λ x. Took x) activity.Taking (of_parts.take_left d.at d.parts) c.take.result.access c.take.result.said _ c.in-Taking.is refl (c.take.ensures.goes site)

pub take-requires-clause-serving : goal.take-requires-clause-serving
take-requires-clause-serving g c =
    inr c.in-Taking.is

pub take-requires-clause-opened : goal.take-requires-clause-opened
take-requires-clause-opened g c =
    let d = c.args.self.now in
    let stands = subst (λ (a : Activity). StandsAs a (is_open d.activity d.closing d.connection.back) (of_parts.doing_of d.parts) d.at d.hand) c.in-Taking.is d.stands in
    stands.0

pub take-requires-clause-hand : goal.take-requires-clause-hand
take-requires-clause-hand g c =
    let d = c.args.self.now in
    let stands = subst (λ (a : Activity). StandsAs a (is_open d.activity d.closing d.connection.back) (of_parts.doing_of d.parts) d.at d.hand) c.in-Taking.is d.stands in
    stands.2

pub take-requires-clause-ringed : goal.take-requires-clause-ringed
take-requires-clause-ringed g c =
    let d = c.args.self.now in
    let stands = subst (λ (a : Activity). StandsAs a (is_open d.activity d.closing d.connection.back) (of_parts.doing_of d.parts) d.at d.hand) c.in-Taking.is d.stands in
    sym d.kind_is ∙ rings_in_use d.parts (ap uses_ring stands.1)

pub work-requires-clause-may : goal.work-requires-clause-may
work-requires-clause-may g c =
    let d = c.args.self.now in
    let s = g.S.Serve.service in
    let site : Site = site_of (g.W.Words.frames_of c.args.words.now) (g.W.Words.grants_of c.args.words.now) (dom_of d) (parts_of d) in
    may_mapped (g.W.Words.may c.args.words.now) (g.S.Serve.left site d.service) (λ x. Own x) (may_in site d (g.W.Words.may c.args.words.now) activity.Working c.in-Working.is c.requires)

pub returns-in-Working-clause-steps : goal.returns-in-Working-clause-steps
returns-in-Working-clause-steps g c =
    let d = c.args.self.now in
    let s = g.S.Serve.service in
    let site : Site = site_of (g.W.Words.frames_of c.args.words.now) (g.W.Words.grants_of c.args.words.now) (dom_of d) (parts_of d) in
    steps_on site d (λ x. Own x) activity.Working (g.S.Serve.left site d.service) c.work.result.access c.work.result.said _ c.in-Working.is refl c.work.ensures.goes

pub go_on_serving-requires-clause-may : goal.go_on_serving-requires-clause-may
go_on_serving-requires-clause-may g c =
    let d = c.args.self.now in
    let s = g.S.Serve.service in
    let site : Site = site_of (g.W.Words.frames_of c.args.words.now) (g.W.Words.grants_of c.args.words.now) (dom_of d) (parts_of d) in
    may_mapped (g.W.Words.may c.args.words.now) (g.S.Serve.left site d.service) (λ x. Done x) (may_in site d (g.W.Words.may c.args.words.now) activity.Serving c.in-Serving.is c.requires)

pub returns-in-Serving-clause-steps : goal.returns-in-Serving-clause-steps
returns-in-Serving-clause-steps g c =
    let d = c.args.self.now in
    let s = g.S.Serve.service in
    let site : Site = site_of (g.W.Words.frames_of c.args.words.now) (g.W.Words.grants_of c.args.words.now) (dom_of d) (parts_of d) in
    steps_on site d (λ x. Done x) activity.Serving (g.S.Serve.left site d.service) c.go_on_serving.result.access c.go_on_serving.result.said _ c.in-Serving.is refl c.go_on_serving.ensures.goes

pub answer-requires-clause-may : goal.answer-requires-clause-may
answer-requires-clause-may g c =
    let d = c.args.self.now in
    let s = g.S.Serve.service in
    let site : Site = site_of (g.W.Words.frames_of c.args.words.now) (g.W.Words.grants_of c.args.words.now) (dom_of d) (parts_of d) in
    may_mapped (g.W.Words.may c.args.words.now) (of_parts.answer_left (hand_part d.hand) d.outgoing d.parts) (λ x. Answered x) (may_in site d (g.W.Words.may c.args.words.now) activity.Answering c.in-Answering.is c.requires)

pub returns-in-Answering-clause-steps : goal.returns-in-Answering-clause-steps
returns-in-Answering-clause-steps g c =
    let d = c.args.self.now in
    let s = g.S.Serve.service in
    let site : Site = site_of (g.W.Words.frames_of c.args.words.now) (g.W.Words.grants_of c.args.words.now) (dom_of d) (parts_of d) in
    steps_on site d (λ x. Answered x) activity.Answering (of_parts.answer_left (hand_part d.hand) d.outgoing d.parts) c.answer.result.access c.answer.result.said _ c.in-Answering.is refl (c.answer.ensures.goes site)

pub answer-requires-clause-serving : goal.answer-requires-clause-serving
answer-requires-clause-serving g c =
    inr c.in-Answering.is

pub answer-requires-clause-opened : goal.answer-requires-clause-opened
answer-requires-clause-opened g c =
    let d = c.args.self.now in
    let stands = subst (λ (a : Activity). StandsAs a (is_open d.activity d.closing d.connection.back) (of_parts.doing_of d.parts) d.at d.hand) c.in-Answering.is d.stands in
    stands.0

pub answer-requires-clause-hand : goal.answer-requires-clause-hand
answer-requires-clause-hand g c =
    let d = c.args.self.now in
    let stands = subst (λ (a : Activity). StandsAs a (is_open d.activity d.closing d.connection.back) (of_parts.doing_of d.parts) d.at d.hand) c.in-Answering.is d.stands in
    stands.2

pub answer-requires-clause-ready : goal.answer-requires-clause-ready
answer-requires-clause-ready g c =
    c.args.self.now.ready (ap is_answering c.in-Answering.is)

pub returns-in-Answering-clause-stays : goal.returns-in-Answering-clause-stays
unfolding held_of
returns-in-Answering-clause-stays g c =
    in_parts _ _ c.answer.result.access c.answer.ensures.stays

pub sleep-requires-clause-may : goal.sleep-requires-clause-may
sleep-requires-clause-may g c =
    let d = c.args.self.now in
    let s = g.S.Serve.service in
    let site : Site = site_of (g.W.Words.frames_of c.args.words.now) (g.W.Words.grants_of c.args.words.now) (dom_of d) (parts_of d) in
    may_mapped (g.W.Words.may c.args.words.now) (of_parts.sleep_left d.parts) (λ x. Slept x) (may_in site d (g.W.Words.may c.args.words.now) activity.Sleeping c.in-Sleeping.is c.requires)

pub returns-in-Sleeping-clause-steps : goal.returns-in-Sleeping-clause-steps
returns-in-Sleeping-clause-steps g c =
    let d = c.args.self.now in
    let s = g.S.Serve.service in
    let site : Site = site_of (g.W.Words.frames_of c.args.words.now) (g.W.Words.grants_of c.args.words.now) (dom_of d) (parts_of d) in
    steps_on site d (λ x. Slept x) activity.Sleeping (of_parts.sleep_left d.parts) c.sleep.result.access c.sleep.result.said _ c.in-Sleeping.is refl (c.sleep.ensures.goes site)

pub sleep-requires-clause-serving : goal.sleep-requires-clause-serving
sleep-requires-clause-serving g c =
    inr c.in-Sleeping.is

pub sleep-requires-clause-opened : goal.sleep-requires-clause-opened
sleep-requires-clause-opened g c =
    let d = c.args.self.now in
    let stands = subst (λ (a : Activity). StandsAs a (is_open d.activity d.closing d.connection.back) (of_parts.doing_of d.parts) d.at d.hand) c.in-Sleeping.is d.stands in
    stands.0

pub sleep-requires-clause-hand : goal.sleep-requires-clause-hand
sleep-requires-clause-hand g c =
    let d = c.args.self.now in
    let stands = subst (λ (a : Activity). StandsAs a (is_open d.activity d.closing d.connection.back) (of_parts.doing_of d.parts) d.at d.hand) c.in-Sleeping.is d.stands in
    stands.2

pub sleep-requires-clause-ringed : goal.sleep-requires-clause-ringed
sleep-requires-clause-ringed g c =
    let d = c.args.self.now in
    let stands = subst (λ (a : Activity). StandsAs a (is_open d.activity d.closing d.connection.back) (of_parts.doing_of d.parts) d.at d.hand) c.in-Sleeping.is d.stands in
    sym d.kind_is ∙ rings_in_use d.parts (rings_asleep (of_parts.doing_of d.parts) stands.1)

pub raise-requires-clause-may : goal.raise-requires-clause-may
raise-requires-clause-may g c =
    let d = c.args.self.now in
    let part = c.in-Raising.part in
    let site : Site = site_of (g.W.Words.frames_of c.args.words.now) (g.W.Words.grants_of c.args.words.now) (dom_of d) (parts_of d) in
    may_mapped (g.W.Words.may c.args.words.now) (of_parts.raise_left part d.outgoing d.parts) (Raised part d.cause) (may_in site d (g.W.Words.may c.args.words.now) (activity.Raising part) c.in-Raising.is c.requires)

pub returns-in-Raising-clause-steps : goal.returns-in-Raising-clause-steps
returns-in-Raising-clause-steps g c =
    let d = c.args.self.now in
    let part = c.in-Raising.part in
    let site : Site = site_of (g.W.Words.frames_of c.args.words.now) (g.W.Words.grants_of c.args.words.now) (dom_of d) (parts_of d) in
    steps_on site d (Raised part d.cause) (activity.Raising part) (of_parts.raise_left part d.outgoing d.parts) c.raise.result.access c.raise.result.said _ c.in-Raising.is refl (c.raise.ensures.goes site)

pub raise-requires-clause-serving : goal.raise-requires-clause-serving
raise-requires-clause-serving g c =
    inr c.in-Raising.is

pub raise-requires-clause-opened : goal.raise-requires-clause-opened
raise-requires-clause-opened g c =
    let d = c.args.self.now in
    let stands = subst (λ (a : Activity). StandsAs a (is_open d.activity d.closing d.connection.back) (of_parts.doing_of d.parts) d.at d.hand) c.in-Raising.is d.stands in
    stands.0

pub raise-requires-clause-part : goal.raise-requires-clause-part
raise-requires-clause-part g c =
    let d = c.args.self.now in
    let stands = subst (λ (a : Activity). StandsAs a (is_open d.activity d.closing d.connection.back) (of_parts.doing_of d.parts) d.at d.hand) c.in-Raising.is d.stands in
    raising_there d.parts c.in-Raising.part stands.1

pub raise-requires-clause-begun : goal.raise-requires-clause-begun
raise-requires-clause-begun g c =
    let d = c.args.self.now in
    subst (λ (a : Activity). raises_on a d.outgoing d.parts ≡ true) c.in-Raising.is d.raises
