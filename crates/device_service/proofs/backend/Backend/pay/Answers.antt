use Rattle.device_core.specs.Site.{Site}
use Rattle.device_service.specs.Claims.{site_of}
use Rattle.device_service.specs.Stand.{dom_of, parts_of, work_of}
use Rattle.device_service.proofs.Deeds.{begins_as, may_as}
use Rattle.device_service.proofs.Raising.{owed_in, pays_is}
use Rattle.device_service.proofs.Serving.{joined_at}
use Rattle.device_service.proofs.backend.Backend.pay.Goals as goal

pub in_prod-prod-requires : goal.in_prod-prod-requires
in_prod-prod-requires g c = (c.requires.owed.there, c.requires.owed.connected)

pub begin_raise-requires-clause-part : goal.begin_raise-requires-clause-part
begin_raise-requires-clause-part g c = c.requires.owed.there

pub begin_raise-requires-clause-may : goal.begin_raise-requires-clause-may
unfolding work_of
begin_raise-requires-clause-may g c =
    let d = c.args.self.now in
    let s = g.S.Serve.service in
    let owed = c.requires.owed in
    let o = s.owes (g.S.Serve.knows d.service) in
    let x = owed_in o c.args.part owed.part_is in
    let j = joined_at d.parts c.args.part owed.connected owed.there in
    let site : Site = site_of (g.W.Words.frames_of c.args.words.now) (g.W.Words.grants_of c.args.words.now) (dom_of d) (parts_of d) in
    let is = pays_is s site (work_of d) o x.0 c.args.part c.in_prod-prod.result c.owed_words-outgoing.result j.0 x.1 x.2 j.1 (c.in_prod-prod.ensures j.0 j.1) (c.owed_words-outgoing.ensures x.0 x.1) in
    may_as s site (g.W.Words.may c.args.words.now) _ _ is c.requires.may

pub returns-clause-begins : goal.returns-clause-begins
unfolding work_of
returns-clause-begins g c = λ site.
    let d = c.args.self.now in
    let s = g.S.Serve.service in
    let owed = c.requires.owed in
    let o = s.owes (g.S.Serve.knows d.service) in
    let x = owed_in o c.args.part owed.part_is in
    let j = joined_at d.parts c.args.part owed.connected owed.there in
    let is = pays_is s site (work_of d) o x.0 c.args.part c.in_prod-prod.result c.owed_words-outgoing.result j.0 x.1 x.2 j.1 (c.in_prod-prod.ensures j.0 j.1) (c.owed_words-outgoing.ensures x.0 x.1) in
    begins_as s site _ _ c.begin_raise.result.access c.begin_raise.result.said _ is (c.begin_raise.ensures.begins site)
