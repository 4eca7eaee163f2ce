use Rattle.std.proofs.Common.{◌≡◌, [], ◌++◌, drop, map, take}
use Rattle.sound_backend.proofs.held.PageLists.clear.Given as goal

-- the lists before this one have no page
abbrev pub invariant-loop-list : goal.invariant-loop-list
invariant-loop-list l = l.list-items ≡ map (λ _. []) (take l.list-index l.fn.self) ++ drop l.list-index l.fn.self
