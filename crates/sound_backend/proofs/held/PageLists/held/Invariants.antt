use Rattle.std.proofs.Common.{◌≡◌, ◌*◌, ◌≤◌, length, take}
use Rattle.sound_backend.specs.Held.{pages_in}
use Rattle.sound_backend.proofs.held.PageLists.held.Given as goal

-- the pages of the lists before are counted
abbrev pub invariant-loop-k : goal.invariant-loop-k
invariant-loop-k l = record {
  count : l.held ≡ length (pages_in (take l.k l.self));
  few : l.held ≤ l.k * 8192;
}
