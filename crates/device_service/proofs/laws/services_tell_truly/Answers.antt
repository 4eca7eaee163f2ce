use Rattle.device_service.proofs.Truth as truth
use Rattle.device_service.proofs.laws.services_tell_truly.Goals as goal

pub returns : goal.returns
returns g c = truth.services_tell_truly g.S.Serve.service g.S.Serve.table g.S.Serve.shows g.S.Serve.known c.keeps_laws.ensures
