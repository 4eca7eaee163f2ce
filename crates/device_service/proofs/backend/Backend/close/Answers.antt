use Rattle.std.proofs.Common.{sym, ap, subst, ◌∙◌}
use Rattle.device_service.specs.Activity.{is_connecting}
use Rattle.device_service.specs.Dropping.{MayDrop}
use Rattle.device_service.specs.Parts.{joined_of}
use Rattle.device_service.specs.Stand.{dom_of, given_up, leaving_plan, parts_of, stand_of, work_of}
use Rattle.device_service.proofs.Leaving.{closing_pages, comes_as, dropping_joins, known_between, leaving_as, may_leave, rests_between, rests_of}
use Rattle.device_service.proofs.backend.Backend.close.Goals as goal

pub give_up-requires : goal.give_up-requires
give_up-requires g c =
    let d = c.args.self.now in
    rests_of _ _ (rests_between d.activity _ _ d.at d.hand c.requires.between d.stands)

pub returns-clause-begins : goal.returns-clause-begins
unfolding work_of given_up
returns-clause-begins g c = λ site.
    let d = c.args.self.now in
    let s = g.S.Serve.service in
    let x = g.S.Serve.knows d.service in
    let left = c.give_up.new.self in
    let rests = rests_between d.activity _ _ d.at d.hand c.requires.between d.stands in
    let known = known_between s.stripped d.activity x c.requires.between in
    let same = leaving_as s (work_of d) (joined_of left) (s.stripped x) (ap is_connecting c.requires.between) (dropping_joins left c.give_up.ensures.doing) (ap s.stripped (sym known)) in
    let pages = closing_pages s.pages d.parts left _ _ x rests known c.give_up.ensures.held in
    comes_as s site _ _ _ _ c.leave.result.access c.leave.result.said (stand_of site c.leave.new.self) same (ap (leaving_plan c.args.why) (sym pages)) (c.leave.ensures.goes site)

pub leave-requires-clause-may : goal.leave-requires-clause-may
unfolding work_of given_up
leave-requires-clause-may g c =
    let d = c.args.self.now in
    let s = g.S.Serve.service in
    let x = g.S.Serve.knows d.service in
    let rests = rests_between d.activity _ _ d.at d.hand c.requires.between d.stands in
    let known = known_between s.stripped d.activity x c.requires.between in
    let pages = closing_pages s.pages d.parts c.give_up.new.self _ _ x rests known c.give_up.ensures.held in
    subst (MayDrop (g.W.Words.may c.args.words.now)) pages (may_leave g.S.Serve.End g.row.S-Event.Denot (g.W.Words.may c.args.words.now) c.args.why _ c.requires.may)

pub returns-clause-same : goal.returns-clause-same
unfolding dom_of parts_of
returns-clause-same g c =
    let same = c.leave.ensures.same in
    (same.0, same.1, same.2 ∙ c.give_up.ensures.same.count)
