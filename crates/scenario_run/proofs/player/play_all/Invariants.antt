use Rattle.std.proofs.Common.{◌≡◌, List, [], take}
use Rattle.pv_words.specs.Port.{KeepsNone}
use Rattle.pv_words.specs.Sizes.{frames_by, grants_by}
use Rattle.backend_core.specs.Marked.{Item, entries}
use Rattle.pv_world.specs.World.{Stands, devices_of, memory_of, setups}
use Rattle.pv_world.proofs.Seen.{seen}
use Rattle.scenario_run.specs.Follows.{Follows}
use Rattle.scenario_run.proofs.player.play_all.Given as goal

-- the journal follows the statements so far, and the world stands for it
abbrev pub invariant-loop-statement : goal.invariant-loop-statement
invariant-loop-statement g l =
    (followed : List Item) × Follows (frames_by l.script.sizes) (grants_by l.script.sizes) l.script.devices (take l.statement-index l.script.statements) [] followed
    × Stands (seen g.W.Words g.W.Machine) (frames_by l.script.sizes) (grants_by l.script.sizes) (memory_of l.world) (devices_of l.world) followed
    × (entries followed ≡ l.journal.entries) × (setups (devices_of l.world) ≡ l.script.devices)
    × KeepsNone (g.W.Words.port (memory_of l.world))
