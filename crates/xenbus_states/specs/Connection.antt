-- A device's connection: the states of its two ends (enum xenbus_state of xenbus.h), and what the backend is to do.
-- When it does what is this project's own choice.
use Rattle.std.specs.Prelude.{◌≡◌, Bool, true, false, ◌||◌, List, Option, Some, None, find, if◌then◌else◌}
use Rattle.std.specs.List.{list_any}
use Rattle.pv_words.specs.declared.device.State.{State}
use Rattle.pv_words.specs.declared.device.State.TheVariants.{Unknown, Initialising, InitWait, Initialised, Connected, Closing, Closed, Reconfiguring, Reconfigured}
use Rattle.pv_words.specs.Along.{after}
use Rattle.xenbus_states.specs.declared.back.Action.{Action}
use Rattle.xenbus_states.specs.declared.back.Action.TheVariants.{Stay, Connect, Close, Renew}

-- the states of both ends, the first ending state that the frontend set since the last connect began, and whether it
-- set Initialising since then
pub record Connection : Type 0 where
  pub back : State
  pub front : State
  pub ending : Option State
  pub again : Bool

-- a device that was declared: it waits for a frontend that starts
abbrev pub first_connection : Connection
first_connection = record { back = InitWait; front = Initialising; ending = None; again = false }

-- the frontend of a connection ends it by this state
abbrev pub is_ending : State → Bool
is_ending Unknown = true
is_ending Initialising = true
is_ending InitWait = false
is_ending Initialised = false
is_ending Connected = false
is_ending Closing = true
is_ending Closed = true
is_ending Reconfiguring = true
is_ending Reconfigured = false

-- the frontend starts anew
abbrev pub is_start : State → Bool
is_start Unknown = false
is_start Initialising = true
is_start InitWait = false
is_start Initialised = false
is_start Connected = false
is_start Closing = false
is_start Closed = false
is_start Reconfiguring = false
is_start Reconfigured = false

-- the frontend is ready for a backend that waits for it
abbrev pub may_connect : State → Bool
may_connect Unknown = false
may_connect Initialising = false
may_connect InitWait = false
may_connect Initialised = true
may_connect Connected = true
may_connect Closing = false
may_connect Closed = false
may_connect Reconfiguring = false
may_connect Reconfigured = false

-- the first ending state, after one more state of the frontend
abbrev pub first_ending : Option State → State → Option State
first_ending (Some ending) s = Some ending
first_ending None s = if is_ending s then Some s else None

-- the frontend set its state
abbrev pub heard : Connection → State → Connection
heard c s = record { back = c.back; front = s; ending = first_ending c.ending s; again = c.again || is_start s }

-- what a connected backend is to do where the frontend set this ending state, if any
abbrev pub asked_of : Option State → Action
asked_of None = Stay
asked_of (Some s) = Close s

-- what a backend in this state is to do: one that waits connects as soon as the frontend is ready, one that is connected
-- closes once the frontend set an ending state, one that closed waits again once the frontend started anew
abbrev pub action_from : State → Connection → Action
action_from Unknown c = Stay
action_from Initialising c = Stay
action_from InitWait c = if may_connect c.front then Connect else Stay
action_from Initialised c = Stay
action_from Connected c = asked_of c.ending
action_from Closing c = Stay
action_from Closed c = if c.again then Renew else Stay
action_from Reconfiguring c = Stay
action_from Reconfigured c = Stay

-- what the backend is to do
abbrev pub action_of : Connection → Action
action_of c = action_from c.back c

-- Connect begins: what the frontend set before is forgotten
abbrev pub begun : Connection → Connection
begun c = record { back = c.back; front = c.front; ending = None; again = false }

-- the backend took this state
abbrev pub moved_to : Connection → State → Connection
moved_to c s = record { back = s; front = c.front; ending = c.ending; again = c.again }

-- What a connection remembers of the states that the frontend set since Connect began: the first ending one of them, and
-- whether Initialising is one of them.
abbrev pub RemembersWhatItHeard : Type 0
RemembersWhatItHeard =
    (c : Connection) (states : List State)
    → ((after heard (begun c) states).ending ≡ find is_ending states)
    × ((after heard (begun c) states).again ≡ list_any is_start states)
