-- States of a stream and triggers. The numbers of triggers are those of sndif.h (XENSND_OP_TRIGGER_START, PAUSE, STOP and
-- RESUME); the states, and which trigger leads where, are this project's own.
use Rattle.std.specs.Prelude.{ℕ, Bool, true, false, ◌==◌, if◌then◌else◌, Option, Some, None}
use Rattle.pcm_stream.specs.declared.state.StreamState.{StreamState}
use Rattle.pcm_stream.specs.declared.state.StreamState.TheVariants.{Closed, Opened, Running, Paused}
use Rattle.pcm_stream.specs.declared.state.Trigger.{Trigger}
use Rattle.pcm_stream.specs.declared.state.Trigger.TheVariants.{Start, Pause, Stop, Resume}

abbrev pub is_closed : StreamState → Bool
is_closed Closed = true
is_closed other = false

abbrev pub is_running : StreamState → Bool
is_running Running = true
is_running other = false

-- the trigger of a number
abbrev pub trigger_at : ℕ → Option Trigger
trigger_at n =
    if n == 0
    then Some Start
    else if n == 1
    then Some Pause
    else if n == 2
    then Some Stop
    else if n == 3
    then Some Resume
    else None

-- START takes Opened to Running, PAUSE takes Running to Paused, RESUME takes Paused to Running, and STOP takes each open
-- state to Opened
abbrev pub leads : Trigger → StreamState → Option StreamState
leads Start Opened = Some Running
leads Pause Running = Some Paused
leads Resume Paused = Some Running
leads Stop Opened = Some Opened
leads Stop Running = Some Opened
leads Stop Paused = Some Opened
leads trigger other = None
