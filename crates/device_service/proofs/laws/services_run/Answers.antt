use Rattle.device_service.proofs.Claims.{services_keep, services_run}
use Rattle.device_service.proofs.Resting.{rests_asleep}
use Rattle.device_service.proofs.Telling.{readings_tell}
use Rattle.device_service.proofs.laws.services_run.Goals as goal

pub returns-clause-runs : goal.returns-clause-runs
returns-clause-runs g c = services_run g.S.Serve.service g.S.Serve.table g.S.Serve.shows g.S.Serve.known c.keeps_laws.ensures

pub returns-clause-keeps : goal.returns-clause-keeps
returns-clause-keeps g c = services_keep g.S.Serve.service g.S.Serve.table g.S.Serve.shows g.S.Serve.known c.keeps_laws.ensures

pub returns-clause-tells : goal.returns-clause-tells
returns-clause-tells g c = readings_tell g.S.Serve.service g.S.Serve.table g.S.Serve.shows

pub returns-clause-rests : goal.returns-clause-rests
returns-clause-rests g c = rests_asleep g.S.Serve.service
