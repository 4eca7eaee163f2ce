use Rattle.std.proofs.Common.{ap, inl, slice_get, subst, sym, ◌∙◌}
use Rattle.pv_words.specs.Plan.{MayGo, Plan, mapped}
use Rattle.link_core.specs.declared.link.Put.{Put}
use Rattle.device_core.specs.Order.{Act}
use Rattle.device_core.specs.Site.{Site}
use Rattle.device_service.specs.declared.backend.Activity.{Activity}
use Rattle.device_service.specs.Activity.{is_open}
use Rattle.device_service.specs.Claims.{site_of}
use Rattle.device_service.specs.Parts as of_parts
use Rattle.device_service.specs.Raising.{has_left, raises_in, raises_on}
use Rattle.device_service.specs.Stand.{dom_of, held_of, parts_of, work_of}
use Rattle.device_service.specs.Work.{Raised}
use Rattle.device_service.proofs.Choices.{begins_act, may_act}
use Rattle.device_service.proofs.Deeds.{begins_as, may_as}
use Rattle.device_service.proofs.PartsLaws.{raise_begins}
use Rattle.device_service.proofs.Raising.{puts_is, puts_left, spent_is}
use Rattle.device_service.proofs.Serving.{joined_at, open_between, open_in}
use Rattle.device_service.proofs.backend.Backend.begin_raise.Goals as goal

pub in_prod-prod-requires : goal.in_prod-prod-requires
in_prod-prod-requires g c =
    let d = c.args.self.now in
    let rest = open_between d.activity (is_open d.activity d.closing d.connection.back) (of_parts.doing_of d.parts) d.at d.hand c.requires.between c.requires.opened d.stands in
    (c.requires.part, open_in d.parts rest)

pub close-requires-clause-may : goal.close-requires-clause-may
unfolding work_of
close-requires-clause-may g c =
    let d = c.args.self.now in
    let s = g.S.Serve.service in
    let rest = open_between d.activity (is_open d.activity d.closing d.connection.back) (of_parts.doing_of d.parts) d.at d.hand c.requires.between c.requires.opened d.stands in
    let j = joined_at d.parts c.args.part (open_in d.parts rest) c.requires.part in
    let site : Site = site_of (g.W.Words.frames_of c.args.words.now) (g.W.Words.grants_of c.args.words.now) (dom_of d) (parts_of d) in
    let is = spent_is s (work_of d) c.args.cause c.args.part c.args.outgoing (slice_get (of_parts.joined_of d.parts) c.args.part) j.0 c.in_prod-prod.result j.1 (c.in_prod-prod.ensures j.0 j.1) c.if-prod-ge-EVENT_LIMIT.true in
    may_as s site (g.W.Words.may c.args.words.now) _ _ is c.requires.may

pub returns-then-prod-ge-EVENT_LIMIT-clause-begins : goal.returns-then-prod-ge-EVENT_LIMIT-clause-begins
unfolding work_of
returns-then-prod-ge-EVENT_LIMIT-clause-begins g c = λ site.
    let d = c.args.self.now in
    let s = g.S.Serve.service in
    let rest = open_between d.activity (is_open d.activity d.closing d.connection.back) (of_parts.doing_of d.parts) d.at d.hand c.requires.between c.requires.opened d.stands in
    let j = joined_at d.parts c.args.part (open_in d.parts rest) c.requires.part in
    let is = spent_is s (work_of d) c.args.cause c.args.part c.args.outgoing (slice_get (of_parts.joined_of d.parts) c.args.part) j.0 c.in_prod-prod.result j.1 (c.in_prod-prod.ensures j.0 j.1) c.if-prod-ge-EVENT_LIMIT.true in
    begins_as s site _ _ c.close.result.access c.close.result.said _ is (c.close.ensures.begins site)

pub returns-then-prod-ge-EVENT_LIMIT-clause-stays : goal.returns-then-prod-ge-EVENT_LIMIT-clause-stays
returns-then-prod-ge-EVENT_LIMIT-clause-stays g c = c.close.ensures.stays (held_of c.args.self.now)

pub invariant_of-self-clause-raises : goal.invariant_of-self-clause-raises
invariant_of-self-clause-raises g c =
    let d = c.args.self.now in
    ap (λ (a : Activity). raises_on a c.args.outgoing d.parts) c.requires.between

pub raise-requires-clause-serving : goal.raise-requires-clause-serving
raise-requires-clause-serving g c = inl c.requires.between

pub raise-requires-clause-begun : goal.raise-requires-clause-begun
raise-requires-clause-begun g c =
    let d = c.args.self.now in
    let s = g.S.Serve.service in
    let rest = open_between d.activity (is_open d.activity d.closing d.connection.back) (of_parts.doing_of d.parts) d.at d.hand c.requires.between c.requires.opened d.stands in
    let j = joined_at d.parts c.args.part (open_in d.parts rest) c.requires.part in
    let o = slice_get (of_parts.joined_of d.parts) c.args.part in
    ap (λ (p : Plan Put). has_left p) (raise_begins d.parts rest c.args.part c.args.outgoing c.requires.part)
    ∙ puts_left s (work_of d) c.args.cause c.args.part c.args.outgoing o j.0 c.in_prod-prod.result j.1 (c.in_prod-prod.ensures j.0 j.1) c.if-prod-ge-EVENT_LIMIT.false

pub raise-requires-clause-may : goal.raise-requires-clause-may
unfolding work_of
raise-requires-clause-may g c =
    let d = c.args.self.now in
    let s = g.S.Serve.service in
    let rest = open_between d.activity (is_open d.activity d.closing d.connection.back) (of_parts.doing_of d.parts) d.at d.hand c.requires.between c.requires.opened d.stands in
    let j = joined_at d.parts c.args.part (open_in d.parts rest) c.requires.part in
    let o = slice_get (of_parts.joined_of d.parts) c.args.part in
    let site : Site = site_of (g.W.Words.frames_of c.args.words.now) (g.W.Words.grants_of c.args.words.now) (dom_of d) (parts_of d) in
    let is = puts_is s (work_of d) c.args.cause c.args.part c.args.outgoing o j.0 c.in_prod-prod.result j.1 (c.in_prod-prod.ensures j.0 j.1) c.if-prod-ge-EVENT_LIMIT.false in
    subst (λ (p : Plan Put). MayGo (g.W.Words.may c.args.words.now) p) (sym (raise_begins d.parts rest c.args.part c.args.outgoing c.requires.part))
    (may_act s site (Raised c.args.part c.args.cause) (g.W.Words.may c.args.words.now) (raises_in s (work_of d) c.args.cause c.args.part c.args.outgoing o) (work_of d) (of_parts.raise_of c.args.outgoing o) is c.requires.may)

pub returns-clause-begins : goal.returns-clause-begins
unfolding work_of
returns-clause-begins g c = λ site.
    let d = c.args.self.now in
    let s = g.S.Serve.service in
    let w = work_of d in
    let rest = open_between d.activity (is_open d.activity d.closing d.connection.back) (of_parts.doing_of d.parts) d.at d.hand c.requires.between c.requires.opened d.stands in
    let j = joined_at d.parts c.args.part (open_in d.parts rest) c.requires.part in
    let o = slice_get (of_parts.joined_of d.parts) c.args.part in
    let is = puts_is s w c.args.cause c.args.part c.args.outgoing o j.0 c.in_prod-prod.result j.1 (c.in_prod-prod.ensures j.0 j.1) c.if-prod-ge-EVENT_LIMIT.false in
    let begins = raise_begins d.parts rest c.args.part c.args.outgoing c.requires.part in
    begins_act s site (Raised c.args.part c.args.cause) (raises_in s w c.args.cause c.args.part c.args.outgoing o) w (of_parts.raise_left c.args.part c.args.outgoing d.parts) c.raise.result.access c.raise.result.said _
    (is ∙ ap (λ (p : Plan Put). Act w (mapped (Raised c.args.part c.args.cause) p)) (sym begins)) (c.raise.ensures.goes site)

pub returns-clause-stays : goal.returns-clause-stays
unfolding held_of
returns-clause-stays g c = c.raise.ensures.stays

pub returns-clause-same : goal.returns-clause-same
unfolding dom_of parts_of
returns-clause-same g c = c.raise.ensures.same
