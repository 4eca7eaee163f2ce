use Rattle.pv_world.proofs.Devices.{found_at}
use Rattle.pv_world.proofs.world.World.position.Goals as goal

pub returns : goal.returns
returns g c = found_at c.args.self.now.devices.items c.finding.i c.index.result.now c.args.dev c.finding.invariant c.index.ensures c.finding-test.false
