use Rattle.std.proofs.Common.{◌≡◌, ℕ, List}
use Rattle.pv_words.specs.Port.{KeepsSame}
use Rattle.backend_core.specs.Marked.{Item, entries}
use Rattle.pv_world.specs.World.{Stands, devices_of, memory_of, setups}
use Rattle.pv_world.proofs.Seen.{seen}
use Rattle.scenario_run.specs.Follows.{opening}
use Rattle.scenario_run.proofs.Grants.{SoFar}
use Rattle.scenario_run.proofs.player.open.Given as goal

-- the grants so far are done, and the world stands for it
abbrev pub invariant-loop-k : goal.invariant-loop-k
invariant-loop-k g l = record {
  grants : g.W.Words.grants_of (memory_of l.world) l.opening.dom.0 ≡ g.W.Words.grants_of (memory_of l.fn.world) l.opening.dom.0;
  devices : setups (devices_of l.world) ≡ setups (devices_of l.fn.world);
  keeps : KeepsSame (g.W.Words.port (memory_of l.fn.world)) (g.W.Words.port (memory_of l.world));
  steps : (frames grants : ℕ → ℕ) (m : List Item) → Stands (seen g.W.Words g.W.Machine) frames grants (memory_of l.fn.world) (devices_of l.fn.world) m → entries m ≡ l.fn.journal.entries → SoFar (seen g.W.Words g.W.Machine) frames grants (memory_of l.world) (devices_of l.world) l.opening.dom l.opening.gref (opening l.opening) l.k l.journal.entries m;
}
