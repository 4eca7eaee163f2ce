use Rattle.std.proofs.Common.{◌≡◌, ◌+◌, length, take}
use Rattle.display_buffers.specs.Stock.{buffer_pages}
use Rattle.display_buffers.proofs.left.LeftBuffers.find.Given as goal

-- the page comes so far behind the pages of the buffers before
abbrev pub invariant-loop-k : goal.invariant-loop-k
invariant-loop-k l = length (buffer_pages (take l.k l.self)) + l.rest ≡ l.i
