use Rattle.std.proofs.Common.{List, subst}
use Rattle.pv_words.specs.declared.setup.DeviceSetup.{DeviceSetup}
use Rattle.pv_world.specs.World.{AreDeclaredAs}
use Rattle.pv_world.proofs.Seen.{seen}
use Rattle.pv_world.proofs.Beginnings.{new_stands}
use Rattle.pv_world.proofs.Devices.{setups_as}
use Rattle.pv_world.proofs.world.World.new.Goals as goal

pub returns-clause-stands : goal.returns-clause-stands
returns-clause-stands g c = λ frames grants n.
    let declared = subst (λ (ss : List DeviceSetup). AreDeclaredAs ss c.in_ok-devices.devices.items) c.as_slice.ensures c.in_ok-devices.ensures in
    new_stands (seen g.W.Words g.W.Machine) frames grants c.args.memory c.args.setup.now.devices c.in_ok-devices.devices.items n declared

pub returns-clause-devices : goal.returns-clause-devices
returns-clause-devices g c =
    let declared = subst (λ (ss : List DeviceSetup). AreDeclaredAs ss c.in_ok-devices.devices.items) c.as_slice.ensures c.in_ok-devices.ensures in
    setups_as c.args.setup.now.devices c.in_ok-devices.devices.items declared
