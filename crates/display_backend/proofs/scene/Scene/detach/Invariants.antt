use Rattle.std.proofs.Common.{◌≡◌, ◌++◌, drop, map, take}
use Rattle.connectors.specs.Connectors.{after_detach}
use Rattle.display_backend.proofs.scene.Scene.detach.Given as goal

-- the connectors before this one are through
abbrev pub invariant-loop-connector : goal.invariant-loop-connector
invariant-loop-connector l =
    l.connector-items ≡ map (after_detach l.fb) (take l.connector-index l.fn.self.connectors) ++ drop l.connector-index l.fn.self.connectors
