-- What a store holds.
use Rattle.std.specs.Prelude.{◌≡◌, ℕ, false, List, [], Option, Some}
use Rattle.circular_buffer.specs.Buffer.{Buffer}
use Rattle.snd_wire.specs.declared.types.Asked.{Asked}
use Rattle.snd_wire.specs.declared.types.Asked.TheVariants as asked
use Rattle.pcm_params.specs.declared.params.Params.{Params}
use Rattle.pcm_stream.specs.Queue.{queue_for}
use Rattle.pcm_stream.specs.Stream.{Pcm}
use Rattle.page_directory.specs.declared.walk.Walk.{Walk}
use Rattle.page_directory.specs.WalkLeft as walk
use Rattle.page_directory.specs.WalkSteps.{BeginsWalk}
use Rattle.page_directory.specs.Walking.{pages_of}
use Rattle.sound_backend.specs.declared.store.Store.{Store}
use Rattle.sound_backend.specs.Stock.{Stock}
use Rattle.sound_backend.specs.Verdict.{mode_at}

abbrev pub stock_of : Store → Stock
stock_of s = record { mapped = s.mapped; held = s.held; streams = s.streams.items }

-- the queue of an OPEN that isn't answered
abbrev pub queue_of : Store → Option (Buffer ℕ)
queue_of s = s.queue

-- an OPEN is answered with the queue of its stream
abbrev pub NeedsQueue : Asked → Option (Buffer ℕ) → Type 0
NeedsQueue (asked.Open p) queue = queue ≡ Some (queue_for p)
NeedsQueue asks queue = Unit {0}

-- the walk of an OPEN by this part, before its first access
pub record BeginsFor (dom : ℕ) (streams : List Pcm) (part : ℕ) (p : Params) (w : Walk) : Type 0 where
  pub whole : BeginsWalk dom p.gref_directory (mode_at streams part) (pages_of p.buffer_sz) w
  pub home : walk.dom_of w ≡ dom
  pub going : walk.is_over w ≡ false
  pub bare : walk.held_by w ≡ []
