use Rattle.std.proofs.Common.{◌++◌, ◌∷◌, [], List, take, sym, subst, ◌+◌}
use Rattle.std.proofs.lemmas.List.{take_more}
use Rattle.pv_words.specs.declared.setup.DeviceSetup.{DeviceSetup}
use Rattle.pv_world.specs.declared.world.Placed.{Placed}
use Rattle.pv_world.specs.World.{AreDeclaredAs}
use Rattle.pv_world.proofs.Devices.{declared_push}
use Rattle.pv_world.proofs.world.declare_all.Goals as goal

pub loop-setup-preserved : goal.loop-setup-preserved
loop-setup-preserved c =
    let i = c.loop-setup.setup-index in
    let more = take_more c.args.setups.now i _ c.loop-setup-test.true in
    let pushed = declared_push (take i c.args.setups.now) c.loop-setup.devices.items _ c.in_ok-device.device c.loop-setup.invariant c.in_ok-device.ensures in
    subst (λ (ps : List Placed). AreDeclaredAs (take (i + 1) c.args.setups.now) ps) (sym c.in_ok-push.ensures.items) (subst (λ (ss : List DeviceSetup). AreDeclaredAs ss (c.loop-setup.devices.items ++ c.in_ok-device.device ∷ [])) (sym more) pushed)
