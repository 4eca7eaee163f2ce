use Rattle.std.proofs.Common.{◌≡◌, ℕ, ◌-◌, length, List, Ok, true}
use Rattle.pv_words.specs.Keeping.{MayGoOn}
use Rattle.pv_words.specs.Plan.{IsUnfinished}
use Rattle.pv_words.specs.Port.{KeepsSame}
use Rattle.backend_core.specs.Marked.{Item, entries}
use Rattle.pv_world.specs.Owner.{OwnsOn, left_of}
use Rattle.pv_world.specs.World.{Standing, Stands, devices_of, memory_of}
use Rattle.pv_world.proofs.Seen.{seen}
use Rattle.pv_world.proofs.world.World.own.Given as goal

-- from every history before, accesses alone led here, and something is left
abbrev pub invariant-owning : goal.invariant-owning
invariant-owning g l = record {
  standing : Standing (seen g.W.Words g.W.Machine) (memory_of l.self) (devices_of l.self) l.journal.entries;
  live : IsUnfinished (left_of l.owning);
  goes : MayGoOn (g.W.Words.port (memory_of l.self)) l.dom.0 l.gref.0 (left_of l.owning);
  grants : g.W.Words.grants_of (memory_of l.self) l.dom.0 ≡ g.W.Words.grants_of (memory_of l.fn.self) l.dom.0;
  same : devices_of l.self ≡ devices_of l.fn.self;
  keeps : KeepsSame (g.W.Words.port (memory_of l.fn.self)) (g.W.Words.port (memory_of l.self));
  steps : (frames grants : ℕ → ℕ) (m : List Item) → Stands (seen g.W.Words g.W.Machine) frames grants (memory_of l.fn.self) (devices_of l.fn.self) m → entries m ≡ l.fn.journal.entries → OwnsOn (seen g.W.Words g.W.Machine) frames grants (memory_of l.self) (devices_of l.self) l.dom l.gref (left_of l.fn.owning) (left_of l.owning) l.journal.entries m (Ok true);
}

abbrev pub decreases-owning : goal.decreases-owning
decreases-owning g l = 8388608 - length l.journal.entries
