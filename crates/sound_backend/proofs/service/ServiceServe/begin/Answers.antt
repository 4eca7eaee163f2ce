use Rattle.sound_backend.specs.Known.{held_of}
use Rattle.sound_backend.proofs.service.ServiceServe.begin.Goals as goal

pub returns-in-Open-clause-stays : goal.returns-in-Open-clause-stays
returns-in-Open-clause-stays g c = c.map.ensures.stays (held_of c.args.self.now)

pub returns-in-Close-clause-stays : goal.returns-in-Close-clause-stays
returns-in-Close-clause-stays g c = c.free.ensures.stays (held_of c.args.self.now)
