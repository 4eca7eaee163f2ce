use Rattle.std.proofs.Common.{◌≡◌, [], replicate}
use Rattle.sound_backend.proofs.held.PageLists.new.Given as goal

-- so many lists without a page are there
abbrev pub invariant-loop-k : goal.invariant-loop-k
invariant-loop-k l = l.lists.items ≡ replicate l.k []
