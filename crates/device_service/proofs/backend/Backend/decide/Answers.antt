use Rattle.std.proofs.Common.{◌≡◌, ◌∙◌, ℕ, Option, Some, ap, refl, slice_get, subst, sym}
use Rattle.link_core.specs.Activities.{Joined}
use Rattle.pv_words.specs.Plan.{MayGo}
use Rattle.device_core.specs.Site.{Site}
use Rattle.device_service.specs.Activity.{hand_part, is_open, is_serving}
use Rattle.device_service.specs.Claims.{site_of}
use Rattle.device_service.specs.Operating as op
use Rattle.device_service.specs.Parts as of_parts
use Rattle.device_service.specs.Stand.{dom_of, held_of, parts_of, work_of}
use Rattle.device_service.proofs.Deeds.{decides_on, decides_over, decides_starved, may_decide, may_job, may_starved, still, wanting}
use Rattle.device_service.proofs.Serving.{in_parts, in_service, joined_at, open_between, open_in}
use Rattle.device_service.proofs.Works.{serving_with, serving_work}
use Rattle.device_service.proofs.backend.Backend.decide.Goals as goal

pub begin-deed-requires-clause-may : goal.begin-deed-requires-clause-may
unfolding dom_of parts_of
begin-deed-requires-clause-may g c =
    let d = c.args.self.now in
    let s = g.S.Serve.service in
    let x = g.S.Serve.knows d.service in
    let rest = open_between d.activity (is_open d.activity d.closing d.connection.back) (of_parts.doing_of d.parts) d.at d.hand c.requires.between c.requires.opened d.stands in
    let j = joined_at d.parts c.args.hand.part (open_in d.parts rest) (d.hand_in c.args.hand c.requires.hand) in
    let site : ℕ → Site = λ n. site_of (g.W.Words.frames_of c.args.words.now) (g.W.Words.grants_of c.args.words.now) d.dom.0 n in
    let job = may_job s (site (parts_of d)) (g.W.Words.may c.args.words.now) (serving_work d) (s.job (site (parts_of d)) x) j.0 (may_decide (site (parts_of d)) d (g.W.Words.may c.args.words.now) (slice_get (of_parts.joined_of d.parts) c.args.hand.part) j.0 j.1 c.requires.between c.requires.works c.requires.may) in
    subst (λ n. op.MayJob (g.W.Words.may c.args.words.now) (s.job (site n) x)) (sym c.len.ensures.exact) job

pub reply-requires-clause-may : goal.reply-requires-clause-may
unfolding dom_of parts_of
reply-requires-clause-may g c =
    let d = c.args.self.now in
    let s = g.S.Serve.service in
    let x = g.S.Serve.knows d.service in
    let rest = open_between d.activity (is_open d.activity d.closing d.connection.back) (of_parts.doing_of d.parts) d.at d.hand c.requires.between c.requires.opened d.stands in
    let j = joined_at d.parts c.args.hand.part (open_in d.parts rest) (d.hand_in c.args.hand c.requires.hand) in
    let site : ℕ → Site = λ n. site_of (g.W.Words.frames_of c.args.words.now) (g.W.Words.grants_of c.args.words.now) d.dom.0 n in
    let deed = c.begin-deed in
    let begins = subst (λ n. op.Begins s (s.job (site n) x) deed.result.access deed.result.now deed.result.said (g.S.Serve.knows deed.new.self) (g.S.Serve.left (site n) deed.new.self)) c.len.ensures.exact deed.ensures.begins in
    let b = wanting s (site (parts_of d)) (s.job (site (parts_of d)) x) _ _ _ _ _ begins c.in-Answers.is in
    let same = still g.W.Words.makes c.args.words.now deed.new.words deed.result.access b.access_is deed.ensures.made in
    let job = may_decide (site (parts_of d)) d (g.W.Words.may c.args.words.now) (slice_get (of_parts.joined_of d.parts) c.args.hand.part) j.0 j.1 c.requires.between c.requires.works c.requires.may in
    let answers = may_starved s (site (parts_of d)) (g.W.Words.may c.args.words.now) (serving_work d) (s.job (site (parts_of d)) x) j.0 _ _ _ b job in
    let there : Some j.0 ≡ slice_get (of_parts.joined_of d.parts) (hand_part d.hand) = sym (ap (λ h. slice_get (of_parts.joined_of d.parts) (hand_part h)) c.requires.hand ∙ j.1) in
    subst (λ (ws : g.row.W.Denot). MayGo (g.W.Words.may ws) (of_parts.answer_of (s.reply (g.S.Serve.knows deed.new.self)) (slice_get (of_parts.joined_of d.parts) (hand_part d.hand)))) (sym same)
    (subst (λ (k : Option Joined). MayGo (g.W.Words.may c.args.words.now) (of_parts.answer_of (s.reply (g.S.Serve.knows deed.new.self)) k)) there answers)

pub returns-in-Answers-clause-begins : goal.returns-in-Answers-clause-begins
unfolding work_of dom_of parts_of
returns-in-Answers-clause-begins g c =
    let d = c.args.self.now in
    let s = g.S.Serve.service in
    let x = g.S.Serve.knows d.service in
    let rest = open_between d.activity (is_open d.activity d.closing d.connection.back) (of_parts.doing_of d.parts) d.at d.hand c.requires.between c.requires.opened d.stands in
    let j = joined_at d.parts c.args.hand.part (open_in d.parts rest) (d.hand_in c.args.hand c.requires.hand) in
    let site : ℕ → Site = λ n. site_of (g.W.Words.frames_of c.args.words.now) (g.W.Words.grants_of c.args.words.now) d.dom.0 n in
    let deed = c.begin-deed in
    let begins = subst (λ n. op.Begins s (s.job (site n) x) deed.result.access deed.result.now deed.result.said (g.S.Serve.knows deed.new.self) (g.S.Serve.left (site n) deed.new.self)) c.len.ensures.exact deed.ensures.begins in
    let b = wanting s (site (parts_of d)) (s.job (site (parts_of d)) x) _ _ _ _ _ begins c.in-Answers.is in
    let there : slice_get (of_parts.joined_of d.parts) (hand_part d.hand) ≡ (slice_get (of_parts.joined_of d.parts) c.args.hand.part) = ap (λ h. slice_get (of_parts.joined_of d.parts) (hand_part h)) c.requires.hand in
    let goes = c.reply.ensures.goes (site (parts_of d)) in
    decides_starved (site (parts_of d)) d d c.reply.result.access deed.result.now c.reply.result.said (slice_get (of_parts.joined_of d.parts) c.args.hand.part) j.0 j.1 c.requires.between _ (g.S.Serve.knows deed.new.self) _ deed.result.access deed.result.said c.requires.works (serving_with d (g.S.Serve.knows deed.new.self) (ap is_serving c.requires.between)) b (rw there at goes)

pub returns-in-Answers-clause-stays : goal.returns-in-Answers-clause-stays
unfolding held_of
returns-in-Answers-clause-stays g c =
    in_parts _ _ c.reply.result.access c.reply.ensures.stays

pub returns-in-Answers-clause-same : goal.returns-in-Answers-clause-same
unfolding dom_of parts_of
returns-in-Answers-clause-same g c =
    c.reply.ensures.same

pub returns-in-GoesOn-clause-begins : goal.returns-in-GoesOn-clause-begins
unfolding work_of dom_of parts_of
returns-in-GoesOn-clause-begins g c =
    let d = c.args.self.now in
    let s = g.S.Serve.service in
    let x = g.S.Serve.knows d.service in
    let rest = open_between d.activity (is_open d.activity d.closing d.connection.back) (of_parts.doing_of d.parts) d.at d.hand c.requires.between c.requires.opened d.stands in
    let j = joined_at d.parts c.args.hand.part (open_in d.parts rest) (d.hand_in c.args.hand c.requires.hand) in
    let site : ℕ → Site = λ n. site_of (g.W.Words.frames_of c.args.words.now) (g.W.Words.grants_of c.args.words.now) d.dom.0 n in
    let deed = c.begin-deed in
    let begins = subst (λ n. op.Begins s (s.job (site n) x) deed.result.access deed.result.now deed.result.said (g.S.Serve.knows deed.new.self) (g.S.Serve.left (site n) deed.new.self)) c.len.ensures.exact deed.ensures.begins in
    decides_on (site (parts_of d)) d _ deed.result.access deed.result.now deed.result.said (slice_get (of_parts.joined_of d.parts) c.args.hand.part) j.0 j.1 c.requires.between c.requires.works refl refl begins c.in-GoesOn.is

pub returns-in-GoesOn-clause-stays : goal.returns-in-GoesOn-clause-stays
unfolding held_of
returns-in-GoesOn-clause-stays g c =
    in_service _ _ c.begin-deed.result.access c.begin-deed.ensures.stays

pub returns-in-GoesOn-clause-same : goal.returns-in-GoesOn-clause-same
unfolding dom_of parts_of
returns-in-GoesOn-clause-same g c =
    (refl, refl, refl)

pub returns-in-Over-clause-begins : goal.returns-in-Over-clause-begins
unfolding work_of dom_of parts_of
returns-in-Over-clause-begins g c =
    let d = c.args.self.now in
    let s = g.S.Serve.service in
    let x = g.S.Serve.knows d.service in
    let rest = open_between d.activity (is_open d.activity d.closing d.connection.back) (of_parts.doing_of d.parts) d.at d.hand c.requires.between c.requires.opened d.stands in
    let j = joined_at d.parts c.args.hand.part (open_in d.parts rest) (d.hand_in c.args.hand c.requires.hand) in
    let site : ℕ → Site = λ n. site_of (g.W.Words.frames_of c.args.words.now) (g.W.Words.grants_of c.args.words.now) d.dom.0 n in
    let deed = c.begin-deed in
    let begins = subst (λ n. op.Begins s (s.job (site n) x) deed.result.access deed.result.now deed.result.said (g.S.Serve.knows deed.new.self) (g.S.Serve.left (site n) deed.new.self)) c.len.ensures.exact deed.ensures.begins in
    decides_over (site (parts_of d)) d _ deed.result.access deed.result.now deed.result.said (slice_get (of_parts.joined_of d.parts) c.args.hand.part) j.0 j.1 c.requires.between c.requires.works c.requires.between refl begins c.in-Over.is

pub returns-in-Over-clause-stays : goal.returns-in-Over-clause-stays
unfolding held_of
returns-in-Over-clause-stays g c =
    in_service _ _ c.begin-deed.result.access c.begin-deed.ensures.stays

pub returns-in-Over-clause-same : goal.returns-in-Over-clause-same
unfolding dom_of parts_of
returns-in-Over-clause-same g c =
    (refl, refl, refl)
