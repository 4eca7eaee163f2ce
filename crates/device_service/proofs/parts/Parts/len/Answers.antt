use Rattle.std.proofs.Common.{arith}
use Rattle.device_service.specs.Parts.{count_of}
use Rattle.device_service.proofs.parts.Parts.len.Goals as goal

pub returns-clause-exact : goal.returns-clause-exact
unfolding count_of
returns-clause-exact c =
    let few = c.args.self.now.whole.few in
    let len = c.len.ensures in
    omega arith
