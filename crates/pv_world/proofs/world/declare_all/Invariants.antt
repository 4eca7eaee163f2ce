use Rattle.std.proofs.Common.{take}
use Rattle.pv_world.specs.World.{AreDeclaredAs}
use Rattle.pv_world.proofs.world.declare_all.Given as goal

-- the devices so far are as declared
abbrev pub invariant-loop-setup : goal.invariant-loop-setup
invariant-loop-setup l = AreDeclaredAs (take l.setup-index l.fn.setups) l.devices.items
