-- How the queue of a stream is kept: a ring with room for twice the buffer, where the stream is open.
use Rattle.std.specs.Prelude.{◌≡◌, ℕ, ◌*◌, true, false, List, [], Option, Some, None}
use Rattle.circular_buffer.specs.Buffer.{Buffer, buffer}
use Rattle.pcm_params.specs.declared.params.Params.{Params}
use Rattle.pcm_stream.specs.declared.state.StreamState.{StreamState}
use Rattle.pcm_params.specs.Params.{is_accepted}
use Rattle.pcm_stream.specs.State.{is_closed}

-- the empty queue of a stream with these parameters
abbrev pub queue_for : Params → Buffer ℕ
queue_for p = buffer [] (2 * p.buffer_sz)

-- the octets in it
abbrev pub queued : Option (Buffer ℕ) → List ℕ
queued None = []
queued (Some q) = q.items

-- a closed stream has none, and an open one has room for twice its buffer
abbrev pub HasRoom : StreamState → Params → Option (Buffer ℕ) → Type 0
HasRoom state p None = (is_closed state ≡ true) × (p.buffer_sz ≡ 0)
HasRoom state p (Some q) = (is_closed state ≡ false) × (q.capacity ≡ 2 * p.buffer_sz) × (is_accepted p ≡ true)
