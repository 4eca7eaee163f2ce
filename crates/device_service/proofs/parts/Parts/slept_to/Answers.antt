use Rattle.std.proofs.Common.{ap, sym}
use Rattle.device_service.specs.Parts.{doing_of, slept_to}
use Rattle.device_service.proofs.Sleeps.{none_slept}
use Rattle.device_service.proofs.parts.Parts.slept_to.Goals as goal

pub returns-in-Sleeping : goal.returns-in-Sleeping
unfolding doing_of
returns-in-Sleeping c = sym (ap slept_to c.in-Sleeping.is)

pub returns-in_default : goal.returns-in_default
unfolding doing_of
returns-in_default c = none_slept c.args.self.now.doing c.in_default.not-Sleeping
