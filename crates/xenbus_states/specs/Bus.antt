-- A device's xenbus as rows: its connection, the nodes that it saw and read, and how connecting, closing and renewing change them
-- (the states of xenbus.h). When a backend does what is this project's own choice.
use Rattle.std.specs.Prelude.{◌≡◌, Bool, true, false, List, Option, Some, None}
use Rattle.pv_words.specs.declared.device.NodeValue.{NodeValue}
use Rattle.pv_words.specs.declared.device.Reason.{Reason}
use Rattle.pv_words.specs.declared.device.Reason.TheVariants as reason
use Rattle.pv_words.specs.declared.device.State.{State}
use Rattle.pv_words.specs.declared.device.State.TheVariants as state
use Rattle.xenbus_states.specs.declared.back.Action.TheVariants.{Connect, Close, Renew}
use Rattle.xenbus_states.specs.Connection.{Connection, first_connection, heard, action_of, begun, moved_to}
use Rattle.xenbus_states.specs.Nodes.{no_nodes}
use Rattle.xenbus_states.specs.Needs.{Need, first_fault}

-- The states of both ends; the nodes as they stood when the frontend last set its state, and those that the last Connect read;
-- whether a Connect is under way, and whether the connection is closed and the state is due.
pub record Bus : Type 0 where
  pub connection : Connection
  pub seen : List NodeValue
  pub read : List NodeValue
  pub connecting : Bool
  pub closing : Bool

-- a device that was declared
abbrev pub first_bus : Bus
first_bus = record { connection = first_connection; seen = no_nodes; read = no_nodes; connecting = false; closing = false }

-- the frontend set its state, while the nodes stood so
abbrev pub bus_heard : Bus → State → List NodeValue → Bus
bus_heard bus front nodes = record bus { connection = heard bus.connection front; seen = nodes }

-- a Connect may begin: the backend waits, and its frontend is ready
abbrev pub MayConnect : Bus → Type 0
MayConnect bus = (bus.closing ≡ false) × (action_of bus.connection ≡ Connect)

-- it begins, and reads the nodes as they were seen last
abbrev pub bus_begun : Bus → Bus
bus_begun bus = record bus { connection = begun bus.connection; read = bus.seen; connecting = true }

-- A connection is closed for a cause. Two are its own: the frontend of a connected backend set this ending state first; and, in a
-- Connect, this is the first fault among the nodes that the device needs. The others are the device's.
abbrev pub IsCause : List Need → (Reason → Type 0) → Bus → Reason → Type 0
IsCause needs others bus (reason.Asked s) = (bus.connection.back ≡ state.Connected) × (bus.connection.ending ≡ Some s)
IsCause needs others bus (reason.Node part key fault) =
    (bus.connecting ≡ true) × (first_fault bus.read needs ≡ Some (record { part = part; key = key; fault = fault }))
IsCause needs others bus other = others other

-- it may be closed for this reason, once
abbrev pub MayClose : List Need → (Reason → Type 0) → Bus → Reason → Type 0
MayClose needs others bus why = IsCause needs others bus why × (bus.closing ≡ false)

-- it is closed, and the state is due
abbrev pub bus_closed : Bus → Bus
bus_closed bus = record bus { connecting = false; closing = true }

-- The backend may take this state: Connected at the end of a Connect, where all needed nodes hold numbers; Closed once the
-- connection is closed; and InitWait again where the frontend of a closed one started anew.
abbrev pub MayEnter : List Need → Bus → State → Type 0
MayEnter needs bus state.Connected = (bus.connecting ≡ true) × (first_fault bus.read needs ≡ None)
MayEnter needs bus state.Closed = bus.closing ≡ true
MayEnter needs bus state.InitWait = (bus.closing ≡ false) × (action_of bus.connection ≡ Renew)
MayEnter needs bus other = ⊥

-- it took this state
abbrev pub bus_entered : Bus → State → Bus
bus_entered bus s = record bus { connection = moved_to bus.connection s; connecting = false; closing = false }

-- where the device has no other cause
abbrev pub no_others : Reason → Type 0
no_others why = ⊥

-- The rows are those of what the backend is to do: a Connect begins where it waits; the frontend's ending state is a cause exactly
-- where the backend is to close for it; and only a closed one waits again.
pub record FollowsActions (needs : List Need) (bus : Bus) : Type 0 where
  pub begins : MayConnect bus → bus.connection.back ≡ state.InitWait
  pub closes : (s : State) → action_of bus.connection ≡ Close s → IsCause needs no_others bus (reason.Asked s)
  pub asked : (s : State) → IsCause needs no_others bus (reason.Asked s) → action_of bus.connection ≡ Close s
  pub renews : MayEnter needs bus state.InitWait → bus.connection.back ≡ state.Closed

abbrev pub RowsFollowActions : Type 0
RowsFollowActions = (needs : List Need) (bus : Bus) → FollowsActions needs bus

-- a cause stays one, whatever the frontend sets
abbrev pub CausesStay : Type 0
CausesStay =
    (needs : List Need) (bus : Bus) (front : State) (nodes : List NodeValue) (why : Reason)
    → IsCause needs no_others bus why → IsCause needs no_others (bus_heard bus front nodes) why
