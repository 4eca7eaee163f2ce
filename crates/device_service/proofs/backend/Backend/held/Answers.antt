use Rattle.device_service.specs.Parts.{held_of as parts_held}
use Rattle.device_service.specs.Stand.{held_of}
use Rattle.device_service.proofs.Holding.All.{count_both}
use Rattle.device_service.proofs.Throughout.{counts_held}
use Rattle.device_service.proofs.backend.Backend.held.Goals as goal

pub returns-clause-count : goal.returns-clause-count
unfolding held_of
returns-clause-count g c =
    let d = c.args.self.now in
    count_both (g.S.Serve.holds d.service) (parts_held d.parts) c.held.result c.held.ensures.count c.held-2.result c.held-2.ensures.count

pub returns-clause-holds : goal.returns-clause-holds
returns-clause-holds g c =
    counts_held c.keeps_laws.ensures c.tells_held.ensures c.args.self.now _ (returns-clause-count g c)
