use Rattle.device_service.specs.Stand.{parts_of}
use Rattle.device_service.proofs.backend.Backend.parts.Goals as goal

pub returns : goal.returns
unfolding parts_of
returns g c = c.len.ensures.exact
