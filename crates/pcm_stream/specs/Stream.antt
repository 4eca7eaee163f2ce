-- A sound stream and the rows of its requests (operations of sndif.h; the checks, their order and the queue of twice the
-- buffer are this project's own). It knows no page, and of its queue the octets alone.
use Rattle.std.specs.Prelude.{ℕ, ◌+◌, ◌*◌, ◌-◌, Bool, true, false, not, ◌||◌, nat_lt, if◌then◌else◌, List, [], ◌++◌, ◌∷◌, length, drop, Option, Some, None, Result, Ok, Err}
use Rattle.pv_words.specs.declared.device.StreamKind.{StreamKind}
use Rattle.pv_words.specs.declared.device.StreamKind.TheVariants.{Playback, Capture}
use Rattle.pcm_params.specs.declared.params.Params.{Params}
use Rattle.pcm_params.specs.Params.{is_accepted}
use Rattle.pcm_stream.specs.declared.state.StreamRefusal.{StreamRefusal}
use Rattle.pcm_stream.specs.declared.state.StreamRefusal.TheVariants.{WrongState, Invalid, NoRoom, TooLittle}
use Rattle.pcm_stream.specs.declared.state.StreamState.{StreamState}
use Rattle.pcm_stream.specs.declared.state.StreamState.TheVariants.{Closed, Opened}
use Rattle.pcm_stream.specs.declared.state.Trigger.{Trigger}
use Rattle.pcm_stream.specs.declared.state.Trigger.TheVariants.{Stop}
use Rattle.pcm_stream.specs.State.{is_closed, leads, trigger_at}

pub record Pcm : Type 0 where
  pub kind : StreamKind
  pub state : StreamState
  pub params : Params
  -- the octets that wait, oldest first
  pub queue : List ℕ
  -- the octets moved since the stream was opened, modulo 2 ^ 64
  pub position : ℕ
  -- the octets moved since the last bound of a period
  pub phase : ℕ
  -- the octets captured since the stream was opened, modulo 251
  pub captured : ℕ
  -- the position that an event is still to tell
  pub owed : Option ℕ

-- a closed stream has nothing
abbrev pub closed : StreamKind → Pcm
closed kind = record {
  kind = kind;
  state = Closed;
  params = record {
    pcm_rate = 0;
    pcm_format = 0;
    pcm_channels = 0;
    buffer_sz = 0;
    gref_directory = 0;
    period_sz = 0;
  };
  queue = [];
  position = 0;
  phase = 0;
  captured = 0;
  owed = None;
}

-- a stream that was just opened
abbrev pub opened : StreamKind → Params → Pcm
opened kind p = let s = closed kind in record s { state = Opened; params = p }

-- how many octets the queue has room for: it holds twice the buffer
abbrev pub room : Pcm → ℕ
room s = 2 * s.params.buffer_sz - length s.queue

abbrev pub is_playback : StreamKind → Bool
is_playback Playback = true
is_playback Capture = false

-- OPEN: not where the stream is open; its parameters are acceptable
abbrev pub open_check : Pcm → Params → Result (Unit {0}) StreamRefusal
open_check s p =
    if is_closed s.state
    then (if is_accepted p then Ok tt else Err Invalid)
    else Err (WrongState s.state)

-- CLOSE: not where it is closed
abbrev pub close_check : Pcm → Result (Unit {0}) StreamRefusal
close_check s = if is_closed s.state then Err (WrongState s.state) else Ok tt

-- whether octets from this one on, so many, reach beyond the buffer
abbrev pub reaches_beyond : Pcm → ℕ → ℕ → Bool
reaches_beyond s offset size = nat_lt s.params.buffer_sz (offset + size)

-- READ: not where it is closed; only of a capture stream, and within the buffer; so many octets are queued
abbrev pub read_check : Pcm → ℕ → ℕ → Result (Unit {0}) StreamRefusal
read_check s offset size =
    if is_closed s.state
    then Err (WrongState s.state)
    else if is_playback s.kind || reaches_beyond s offset size
    then Err Invalid
    else if nat_lt (length s.queue) size
    then Err (TooLittle (length s.queue))
    else Ok tt

-- WRITE: not where it is closed; only of a playback stream, and within the buffer; there is room for so many octets
abbrev pub write_check : Pcm → ℕ → ℕ → Result (Unit {0}) StreamRefusal
write_check s offset size =
    if is_closed s.state
    then Err (WrongState s.state)
    else if not (is_playback s.kind) || reaches_beyond s offset size
    then Err Invalid
    else if nat_lt (room s) size
    then Err (NoRoom (room s))
    else Ok tt

-- TRIGGER: not where it is closed; the trigger is known; it leads from this state to another one
abbrev pub lead_check : StreamState → Option StreamState → Result (Unit {0}) StreamRefusal
lead_check state None = Err (WrongState state)
lead_check state (Some next) = Ok tt

abbrev pub known_check : StreamState → Option Trigger → Result (Unit {0}) StreamRefusal
known_check state None = Err Invalid
known_check state (Some trigger) = lead_check state (leads trigger state)

abbrev pub trigger_check : Pcm → ℕ → Result (Unit {0}) StreamRefusal
trigger_check s n = if is_closed s.state then Err (WrongState s.state) else known_check s.state (trigger_at n)

-- a trigger that leads nowhere changes nothing; STOP empties the queue
abbrev pub led : Pcm → Trigger → Option StreamState → Pcm
led s trigger None = s
led s Stop (Some next) = record s { state = next; queue = [] }
led s trigger (Some next) = record s { state = next }

abbrev pub pulled : Pcm → Option Trigger → Pcm
pulled s None = s
pulled s (Some trigger) = led s trigger (leads trigger s.state)

abbrev pub triggered : Pcm → ℕ → Pcm
triggered s n = pulled s (trigger_at n)

-- an octet of a WRITE is appended; so many octets of a READ are removed
abbrev pub pushed : Pcm → ℕ → Pcm
pushed s octet = record s { queue = s.queue ++ octet ∷ [] }

abbrev pub popped : Pcm → ℕ → Pcm
popped s count = record s { queue = drop count s.queue }

-- the event that was owed is told
abbrev pub told : Pcm → Pcm
told s = record s { owed = None }
