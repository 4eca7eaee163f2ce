use Rattle.std.proofs.Common.{◌≡◌, ◌≤◌, vec_len, vec_capacity}
use Rattle.std.specs.List.{AllByRecursion}
use Rattle.slab.specs.Slab.{slab_len}
use Rattle.cookie_table.specs.Cookies.{AreDistinct}
use Rattle.cookie_table.specs.Entries.{IsUnused}
use Rattle.cookie_table.proofs.entries.unused_entries.Given as goal

-- so many entries stand, all of them empty, and there is room for the others
abbrev pub invariant-loop : goal.invariant-loop
invariant-loop g l = record {
  unused : AllByRecursion (IsUnused l.entries) l.keys.items;
  distinct : AreDistinct l.keys.items;
  number : vec_len l.keys ≡ l.counter;
  standing : slab_len l.entries ≡ l.counter;
  entries_room : 64 ≤ l.entries.capacity;
  keys_room : 64 ≤ vec_capacity l.keys;
}
