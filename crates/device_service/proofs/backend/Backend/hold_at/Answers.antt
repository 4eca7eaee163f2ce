use Rattle.device_service.specs.Parts.{held_of as parts_held}
use Rattle.device_service.specs.Stand.{held_of}
use Rattle.device_service.proofs.Holding.All.{at_first, at_second, within_second}
use Rattle.device_service.proofs.Throughout.{one_held}
use Rattle.device_service.proofs.backend.Backend.hold_at.Goals as goal

pub returns-then-i-served-clause-place : goal.returns-then-i-served-clause-place
unfolding held_of
returns-then-i-served-clause-place g c =
    let d = c.args.self.now in
    at_first (g.S.Serve.holds d.service) (parts_held d.parts) c.held-served.result c.held-served.ensures.count c.args.i c.hold_at.result c.hold_at.ensures

pub hold_at-requires-2 : goal.hold_at-requires-2
unfolding held_of
hold_at-requires-2 g c =
    let d = c.args.self.now in
    within_second (g.S.Serve.holds d.service) (parts_held d.parts) c.held-served.result c.held-served.ensures.count c.args.i c.if-i-served.false c.requires

pub returns-clause-place : goal.returns-clause-place
unfolding held_of
returns-clause-place g c =
    let d = c.args.self.now in
    at_second (g.S.Serve.holds d.service) (parts_held d.parts) c.held-served.result c.held-served.ensures.count c.args.i c.hold_at-2.result c.if-i-served.false c.hold_at-2.ensures

pub returns-then-i-served-clause-holds : goal.returns-then-i-served-clause-holds
returns-then-i-served-clause-holds g c =
    one_held c.keeps_laws.ensures c.tells_held.ensures c.args.self.now c.args.i c.hold_at.result (returns-then-i-served-clause-place g c)

pub returns-clause-holds : goal.returns-clause-holds
returns-clause-holds g c =
    one_held c.keeps_laws.ensures c.tells_held.ensures c.args.self.now c.args.i c.hold_at-2.result (returns-clause-place g c)
