use Rattle.std.proofs.Common.{◌≡◌, ◌+◌, length, take}
use Rattle.sound_backend.specs.Held.{pages_in}
use Rattle.sound_backend.proofs.held.PageLists.find.Given as goal

-- the page comes so far behind the pages of the lists before
abbrev pub invariant-loop-k : goal.invariant-loop-k
invariant-loop-k l = length (pages_in (take l.k l.self)) + l.rest ≡ l.i
