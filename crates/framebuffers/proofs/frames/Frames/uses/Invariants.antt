use Rattle.std.proofs.Common.{◌≡◌, drop}
use Rattle.framebuffers.specs.Frames.{is_used}
use Rattle.framebuffers.proofs.frames.Frames.uses.Given as goal

-- what is left of the framebuffers has one of that display buffer, if there is one
abbrev pub invariant-loop-k : goal.invariant-loop-k
invariant-loop-k l = is_used l.cookie (drop l.k l.self-inside.table) ≡ is_used l.cookie l.self-inside.table
