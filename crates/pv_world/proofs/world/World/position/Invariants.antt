use Rattle.std.proofs.Common.{◌≡◌, ◌-◌, length, true, drop}
use Rattle.backend_core.specs.History.{is_declared}
use Rattle.pv_world.specs.World.{setups}
use Rattle.pv_world.proofs.world.World.position.Given as goal

-- the device stands further on
abbrev pub invariant-finding : goal.invariant-finding
invariant-finding g l = is_declared (setups (drop l.i l.fn.self.devices.items)) l.dev.0 ≡ true

abbrev pub decreases-finding : goal.decreases-finding
decreases-finding g l = length l.fn.self.devices.items - l.i
