use Rattle.std.proofs.Common.{◌≡◌, false, take}
use Rattle.std.specs.List.{AllByRecursion}
use Rattle.display_buffers.specs.Buffers.{has_cookie}
use Rattle.display_buffers.proofs.left.LeftBuffers.place_of.Given as goal

-- none of the buffers before has the cookie
abbrev pub invariant-loop-k : goal.invariant-loop-k
invariant-loop-k l = AllByRecursion (λ b. has_cookie l.cookie b ≡ false) (take l.k l.self)
