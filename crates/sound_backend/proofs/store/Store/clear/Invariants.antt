use Rattle.std.proofs.Common.{◌≡◌, ◌++◌, drop, map, take}
use Rattle.pcm_stream.specs.Stream.{Pcm, closed}
use Rattle.sound_backend.proofs.store.Store.clear.Given as goal

-- the streams before this one are closed
abbrev pub invariant-loop-stream : goal.invariant-loop-stream
invariant-loop-stream l =
    l.stream-items ≡ map (λ (s : Pcm). closed s.kind) (take l.stream-index l.fn.self.streams.items) ++ drop l.stream-index l.fn.self.streams.items
