use Rattle.std.proofs.Common.{◌≡◌, map, take}
use Rattle.pcm_stream.specs.Stream.{closed}
use Rattle.sound_backend.proofs.store.Store.new.Given as goal

-- a closed stream of each kind before this one is there
abbrev pub invariant-loop-kind : goal.invariant-loop-kind
invariant-loop-kind l = l.streams.items ≡ map closed (take l.kind-index l.kinds)
