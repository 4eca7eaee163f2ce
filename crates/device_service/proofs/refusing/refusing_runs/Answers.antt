use Rattle.device_service.specs.Refusing.{facts, refused, refusing, shows_none}
use Rattle.device_service.proofs.Claims.{services_keep, services_run}
use Rattle.device_service.proofs.RefusingKept.{keeps_laws}
use Rattle.device_service.proofs.Resting.{rests_asleep}
use Rattle.device_service.proofs.Telling.{readings_tell}
use Rattle.device_service.proofs.refusing.refusing_runs.Goals as goal

pub returns-clause-runs : goal.returns-clause-runs
returns-clause-runs c = services_run refusing refused shows_none (λ frames grants dom parts. facts) keeps_laws

pub returns-clause-keeps : goal.returns-clause-keeps
returns-clause-keeps c = services_keep refusing refused shows_none (λ frames grants dom parts. facts) keeps_laws

pub returns-clause-tells : goal.returns-clause-tells
returns-clause-tells c = readings_tell refusing refused shows_none

pub returns-clause-rests : goal.returns-clause-rests
returns-clause-rests c = rests_asleep refusing
