use Rattle.display_backend.specs.Known.{held_of}
use Rattle.display_backend.proofs.service.ServiceServe.begin.Goals as goal

pub returns-in-Create-clause-stays : goal.returns-in-Create-clause-stays
returns-in-Create-clause-stays g c = c.map.ensures.stays (held_of c.args.self.now)

pub returns-in-Destroy-clause-stays : goal.returns-in-Destroy-clause-stays
returns-in-Destroy-clause-stays g c = c.free.ensures.stays (held_of c.args.self.now)
