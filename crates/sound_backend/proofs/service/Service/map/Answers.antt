use Rattle.page_directory.specs.WalkLeft.{held_by}
use Rattle.device_service.proofs.Mapping.Steps.{in_none}
use Rattle.sound_backend.proofs.service.Service.map.Goals as goal

pub returns-in-Ok-clause-stays : goal.returns-in-Ok-clause-stays
returns-in-Ok-clause-stays g c = λ pages. in_none c.walk.result.access (held_by c.in-Ok.walk) pages c.in-Ok.ensures.walk.bare c.walk.ensures.stays
