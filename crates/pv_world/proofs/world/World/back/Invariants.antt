use Rattle.std.proofs.Common.{◌≡◌, ℕ, ◌-◌, ◌<◌, ◌≤◌, length, List, Some}
use Rattle.pv_words.specs.Port.{KeepsSame}
use Rattle.backend_core.specs.Marked.{Item, entries}
use Rattle.pv_world.specs.World.{IsAt, Standing, Stands, devices_of, memory_of, setups}
use Rattle.pv_world.proofs.Seen.{seen}
use Rattle.pv_world.proofs.Serving.{HasStepped}
use Rattle.pv_world.proofs.world.World.back.Given as goal

-- the world stands, and from every history before, so many accesses led here, fewer than were asked for
abbrev pub invariant-stepping : goal.invariant-stepping
invariant-stepping g l = record {
  standing : Standing (seen g.W.Words g.W.Machine) (memory_of l.self) (devices_of l.self) l.journal.entries;
  at : IsAt (devices_of l.self) l.i l.dev;
  devices : setups (devices_of l.self) ≡ setups (devices_of l.fn.self);
  keeps : KeepsSame (g.W.Words.port (memory_of l.fn.self)) (g.W.Words.port (memory_of l.self));
  fewer : (n : ℕ) → l.most ≡ Some n → l.made < n;
  counted : l.made ≤ length l.journal.entries;
  steps : (frames grants : ℕ → ℕ) (m : List Item) → Stands (seen g.W.Words g.W.Machine) frames grants (memory_of l.fn.self) (devices_of l.fn.self) m → entries m ≡ l.fn.journal.entries → HasStepped (seen g.W.Words g.W.Machine) frames grants (memory_of l.self) (devices_of l.self) l.dev.0 l.made l.journal.entries m;
}

abbrev pub decreases-stepping : goal.decreases-stepping
decreases-stepping g l = 8388608 - length l.journal.entries
