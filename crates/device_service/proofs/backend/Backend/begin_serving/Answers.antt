use Rattle.std.proofs.Common.{ℕ, ◌<◌, List, ap, refl, slice_get, subst, sym, ◌∙◌}
use Rattle.device_core.specs.Site.{Site}
use Rattle.device_service.specs.Activity.{is_open}
use Rattle.device_service.specs.Claims.{site_of}
use Rattle.device_service.specs.Operating.{Serves}
use Rattle.device_service.specs.Parts as of_parts
use Rattle.device_service.specs.Stand.{dom_of, held_of, parts_of, work_of}
use Rattle.device_service.proofs.Deeds.{begins_as, may_as, may_wait, waits_on, waits_over}
use Rattle.device_service.proofs.Leaving.{known_between}
use Rattle.device_service.proofs.Raising.{raises_deed, runs_deed, serves_raise}
use Rattle.device_service.proofs.Serving.{in_service, joined_at, open_between, open_in, waits_first}
use Rattle.device_service.proofs.Works.{serving_work}
use Rattle.device_service.proofs.backend.Backend.begin_serving.Goals as goal

pub serve-deed-requires-clause-may : goal.serve-deed-requires-clause-may
serve-deed-requires-clause-may g c =
    let d = c.args.self.now in
    let v = c.args.event in
    let s = g.S.Serve.service in
    let rest = open_between d.activity (is_open d.activity d.closing d.connection.back) (of_parts.doing_of d.parts) d.at d.hand c.requires.between c.requires.opened d.stands in
    let j = joined_at d.parts (s.at v) (open_in d.parts rest) (waits_first s.at (of_parts.count_of d.parts) d.waiting v d.waits c.requires.oldest) in
    let site : Site = site_of (g.W.Words.frames_of c.args.words.now) (g.W.Words.grants_of c.args.words.now) (dom_of d) (parts_of d) in
    may_wait site d (g.W.Words.may c.args.words.now) _ j.0 j.1 c.requires.between v (runs_deed (s.event (g.S.Serve.knows d.service) v) _ (sym c.event_words.ensures ∙ c.in_default.is)) c.requires.may

pub returns-in-GoesOn-clause-begins : goal.returns-in-GoesOn-clause-begins
unfolding work_of dom_of parts_of
returns-in-GoesOn-clause-begins g c =
    let d = c.args.self.now in
    let v = c.args.event in
    let s = g.S.Serve.service in
    let deed = c.serve-deed in
    let rest = open_between d.activity (is_open d.activity d.closing d.connection.back) (of_parts.doing_of d.parts) d.at d.hand c.requires.between c.requires.opened d.stands in
    let j = joined_at d.parts (s.at v) (open_in d.parts rest) (waits_first s.at (of_parts.count_of d.parts) d.waiting v d.waits c.requires.oldest) in
    let site : ℕ → Site = λ n. site_of (g.W.Words.frames_of c.args.words.now) (g.W.Words.grants_of c.args.words.now) d.dom.0 n in
    let serves = subst (λ n. Serves s (g.S.Serve.knows d.service) (s.event (g.S.Serve.knows d.service) v) deed.result.access deed.result.now deed.result.said (g.S.Serve.knows deed.new.self) (g.S.Serve.left (site n) deed.new.self)) c.len.ensures.exact deed.ensures.serves in
    waits_on (site (parts_of d)) d _ deed.result.access deed.result.now deed.result.said _ j.0 j.1 c.requires.between v (runs_deed (s.event (g.S.Serve.knows d.service) v) _ (sym c.event_words.ensures ∙ c.in_default.is)) refl refl serves c.in-GoesOn.is

pub returns-in-GoesOn-clause-stays : goal.returns-in-GoesOn-clause-stays
unfolding held_of
returns-in-GoesOn-clause-stays g c = in_service _ _ c.serve-deed.result.access c.serve-deed.ensures.stays

pub returns-in-GoesOn-clause-same : goal.returns-in-GoesOn-clause-same
unfolding dom_of parts_of
returns-in-GoesOn-clause-same g c = (refl, refl, refl)

pub returns-in_default-now : goal.returns-in_default-now
unfolding work_of dom_of parts_of held_of
returns-in_default-now g c =
    let d = c.args.self.now in
    let v = c.args.event in
    let s = g.S.Serve.service in
    let deed = c.serve-deed in
    let rest = open_between d.activity (is_open d.activity d.closing d.connection.back) (of_parts.doing_of d.parts) d.at d.hand c.requires.between c.requires.opened d.stands in
    let j = joined_at d.parts (s.at v) (open_in d.parts rest) (waits_first s.at (of_parts.count_of d.parts) d.waiting v d.waits c.requires.oldest) in
    let site : ℕ → Site = λ n. site_of (g.W.Words.frames_of c.args.words.now) (g.W.Words.grants_of c.args.words.now) d.dom.0 n in
    let serves = subst (λ n. Serves s (g.S.Serve.knows d.service) (s.event (g.S.Serve.knows d.service) v) deed.result.access deed.result.now deed.result.said (g.S.Serve.knows deed.new.self) (g.S.Serve.left (site n) deed.new.self)) c.len.ensures.exact deed.ensures.serves in
    record {
      begins = waits_over (site (parts_of d)) d _ deed.result.access deed.result.now deed.result.said _ j.0 j.1 c.requires.between v (runs_deed (s.event (g.S.Serve.knows d.service) v) _ (sym c.event_words.ensures ∙ c.in_default.is)) c.requires.between (ap (λ (vs : List g.row.S-Event.Denot). record (serving_work d) { waiting = vs; service = g.S.Serve.knows deed.new.self }) c.drop_oldest.ensures) serves c.in_default-now.not-GoesOn;
      made = deed.ensures.made;
      stays = in_service _ _ deed.result.access deed.ensures.stays;
      same = (refl, refl, refl);
    }

pub serve-deed-requires-clause-runs : goal.serve-deed-requires-clause-runs
serve-deed-requires-clause-runs g c =
    let d = c.args.self.now in
    runs_deed (g.S.Serve.service.event (g.S.Serve.knows d.service) c.args.event) _ (sym c.event_words.ensures ∙ c.in_default.is)

pub in_prod-prod-requires : goal.in_prod-prod-requires
in_prod-prod-requires g c =
    let d = c.args.self.now in
    let s = g.S.Serve.service in
    let rest = open_between d.activity (is_open d.activity d.closing d.connection.back) (of_parts.doing_of d.parts) d.at d.hand c.requires.between c.requires.opened d.stands in
    let lt = waits_first s.at (of_parts.count_of d.parts) d.waiting c.args.event d.waits c.requires.oldest in
    (subst (λ n. n < of_parts.count_of d.parts) (sym c.part_of-part.ensures) lt, open_in d.parts rest)

pub begin_raise-requires-clause-part : goal.begin_raise-requires-clause-part
begin_raise-requires-clause-part g c =
    let d = c.args.self.now in
    let s = g.S.Serve.service in
    subst (λ n. n < of_parts.count_of d.parts) (sym c.part_of-part.ensures) (waits_first s.at (of_parts.count_of d.parts) d.waiting c.args.event d.waits c.requires.oldest)

pub begin_raise-requires-clause-may : goal.begin_raise-requires-clause-may
unfolding work_of
begin_raise-requires-clause-may g c =
    let d = c.args.self.now in
    let v = c.args.event in
    let s = g.S.Serve.service in
    let x = g.S.Serve.knows d.service in
    let rest = open_between d.activity (is_open d.activity d.closing d.connection.back) (of_parts.doing_of d.parts) d.at d.hand c.requires.between c.requires.opened d.stands in
    let j = joined_at d.parts (s.at v) (open_in d.parts rest) (waits_first s.at (of_parts.count_of d.parts) d.waiting v d.waits c.requires.oldest) in
    let deed = raises_deed (s.event x v) c.in_prod-prod.result c.in-Some.outgoing (sym c.event_words.ensures ∙ c.in-Some.is) in
    let prod = c.in_prod-prod.ensures j.0 (ap (slice_get (of_parts.joined_of d.parts)) c.part_of-part.ensures ∙ j.1) in
    let site : Site = site_of (g.W.Words.frames_of c.args.words.now) (g.W.Words.grants_of c.args.words.now) (dom_of d) (parts_of d) in
    let known = ap (λ (y : g.S.Serve.Known). s.event y v) (known_between s.stripped d.activity x c.requires.between) in
    let is = serves_raise s (work_of d) v c.part_of-part.result c.in_prod-prod.result c.in-Some.outgoing deed.0 j.0 (known ∙ deed.1) c.part_of-part.ensures j.1 prod deed.2 in
    may_as s site (g.W.Words.may c.args.words.now) _ _ is c.requires.may

pub returns-in-Some-clause-begins : goal.returns-in-Some-clause-begins
unfolding work_of dom_of parts_of
returns-in-Some-clause-begins g c =
    let d = c.args.self.now in
    let v = c.args.event in
    let s = g.S.Serve.service in
    let x = g.S.Serve.knows d.service in
    let rest = open_between d.activity (is_open d.activity d.closing d.connection.back) (of_parts.doing_of d.parts) d.at d.hand c.requires.between c.requires.opened d.stands in
    let j = joined_at d.parts (s.at v) (open_in d.parts rest) (waits_first s.at (of_parts.count_of d.parts) d.waiting v d.waits c.requires.oldest) in
    let deed = raises_deed (s.event x v) c.in_prod-prod.result c.in-Some.outgoing (sym c.event_words.ensures ∙ c.in-Some.is) in
    let prod = c.in_prod-prod.ensures j.0 (ap (slice_get (of_parts.joined_of d.parts)) c.part_of-part.ensures ∙ j.1) in
    let site : Site = site_of (g.W.Words.frames_of c.args.words.now) (g.W.Words.grants_of c.args.words.now) (dom_of d) (parts_of d) in
    let known = ap (λ (y : g.S.Serve.Known). s.event y v) (known_between s.stripped d.activity x c.requires.between) in
    let is = serves_raise s (work_of d) v c.part_of-part.result c.in_prod-prod.result c.in-Some.outgoing deed.0 j.0 (known ∙ deed.1) c.part_of-part.ensures j.1 prod deed.2 in
    begins_as s site _ _ c.begin_raise.result.access c.begin_raise.result.said _ is (c.begin_raise.ensures.begins site)

pub returns-in-Some-clause-stays : goal.returns-in-Some-clause-stays
unfolding held_of
returns-in-Some-clause-stays g c = c.begin_raise.ensures.stays

pub returns-in-Some-clause-same : goal.returns-in-Some-clause-same
unfolding dom_of parts_of
returns-in-Some-clause-same g c = c.begin_raise.ensures.same
