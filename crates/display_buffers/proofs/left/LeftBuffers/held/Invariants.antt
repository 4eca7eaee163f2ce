use Rattle.std.proofs.Common.{◌≡◌, ◌*◌, ◌≤◌, length, take}
use Rattle.display_buffers.specs.Stock.{buffer_pages}
use Rattle.display_buffers.proofs.left.LeftBuffers.held.Given as goal

-- the pages of the buffers before are counted
abbrev pub invariant-loop-k : goal.invariant-loop-k
invariant-loop-k l = record {
  count : l.held ≡ length (buffer_pages (take l.k l.self));
  few : l.held ≤ l.k * 8192;
}
