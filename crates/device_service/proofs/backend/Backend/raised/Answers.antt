use Rattle.std.proofs.Common.{ap, refl, sym, ◌∙◌}
use Rattle.device_service.specs.Stand.{dom_of, parts_of, work_of}
use Rattle.device_service.proofs.Leaving.{known_between}
use Rattle.device_service.proofs.Raising.{bad_as, done_as, done_said, full_as, spent_as}
use Rattle.device_service.proofs.backend.Backend.raised.Goals as goal

pub returns-in-Done-clause-said : goal.returns-in-Done-clause-said
unfolding work_of
returns-in-Done-clause-said g c =
    let d = c.args.self.now in
    let s = g.S.Serve.service in
    let x = g.S.Serve.knows d.service in
    done_said s (work_of d) c.args.part d.cause c.args.put c.put-said.result c.in-Done.is
    (c.put-said.ensures.said ∙ ap (λ (y : g.S.Serve.Known). s.put y d.cause) (sym (known_between s.stripped d.activity x c.requires.between)))

pub returns-in-Done-clause-work : goal.returns-in-Done-clause-work
unfolding work_of
returns-in-Done-clause-work g c =
    let d = c.args.self.now in
    let s = g.S.Serve.service in
    let x = g.S.Serve.knows d.service in
    let y = g.S.Serve.knows c.put-said.new.self in
    done_as s (work_of d) c.args.part d.cause c.args.put _ _ c.in-Done.is c.drop_done.ensures
    (known_between s.stripped d.activity y c.requires.between ∙ (c.put-said.ensures.knows ∙ ap (λ (z : g.S.Serve.Known). s.after_put z d.cause) (sym (known_between s.stripped d.activity x c.requires.between))))

pub returns-in-Done-clause-same : goal.returns-in-Done-clause-same
unfolding dom_of parts_of
returns-in-Done-clause-same g c = (refl, refl, refl)

pub returns-in-Full-clause-work : goal.returns-in-Full-clause-work
unfolding work_of
returns-in-Full-clause-work g c =
    let d = c.args.self.now in
    let s = g.S.Serve.service in
    let x = g.S.Serve.knows d.service in
    let y = g.S.Serve.knows c.found_full.new.self in
    full_as s (work_of d) c.args.part d.cause c.args.put _ _ c.in-Full.is c.drop_done-in-Full.ensures
    (known_between s.stripped d.activity y c.requires.between ∙ (c.found_full.ensures.knows ∙ ap (λ (z : g.S.Serve.Known). s.after_full z d.cause) (sym (known_between s.stripped d.activity x c.requires.between))))

pub returns-in-Full-clause-same : goal.returns-in-Full-clause-same
unfolding dom_of parts_of
returns-in-Full-clause-same g c = (refl, refl, refl)

pub returns-in-BadCons-clause-work : goal.returns-in-BadCons-clause-work
unfolding work_of
returns-in-BadCons-clause-work g c =
    let d = c.args.self.now in
    bad_as g.S.Serve.service (work_of d) c.args.part d.cause c.args.put c.in-BadCons.prod c.in-BadCons.cons c.in-BadCons.is

pub returns-in-BadCons-clause-same : goal.returns-in-BadCons-clause-same
unfolding dom_of parts_of
returns-in-BadCons-clause-same g c = (refl, refl, refl)

pub returns-in-Spent-clause-work : goal.returns-in-Spent-clause-work
unfolding work_of
returns-in-Spent-clause-work g c =
    let d = c.args.self.now in
    spent_as g.S.Serve.service (work_of d) c.args.part d.cause c.args.put c.in-Spent.prod c.in-Spent.is

pub returns-in-Spent-clause-same : goal.returns-in-Spent-clause-same
unfolding dom_of parts_of
returns-in-Spent-clause-same g c = (refl, refl, refl)
