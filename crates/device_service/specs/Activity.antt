-- Which activity a backend is in, and what that says of its parts and its service.
use Rattle.std.specs.Prelude.{◌≡◌, ◌⊎◌, ℕ, ◌&&◌, Bool, true, false, not, Option, Some, None, is_some}
use Rattle.pv_words.specs.declared.device.State.{State}
use Rattle.pv_words.specs.declared.device.State.TheVariants as state
use Rattle.device_service.specs.declared.backend.Activity.{Activity}
use Rattle.device_service.specs.declared.backend.Activity.TheVariants as activity
use Rattle.device_service.specs.declared.parts.Doing.{Doing}
use Rattle.device_service.specs.declared.parts.Doing.TheVariants as doing
use Rattle.device_service.specs.declared.round.Hand.{Hand}
use Rattle.device_service.specs.Moves.{connects, is_asleep}

abbrev pub is_connected : State → Bool
is_connected state.Connected = true
is_connected other = false

-- a Connect is under way
abbrev pub is_connecting : Activity → Bool
is_connecting activity.Connecting = true
is_connecting other = false

-- a Close is
abbrev pub is_leaving : Activity → Bool
is_leaving (activity.Leaving why) = true
is_leaving other = false

-- neither is
abbrev pub is_serving : Activity → Bool
is_serving activity.Connecting = false
is_serving (activity.Leaving why) = false
is_serving other = true

-- the parts are connected
abbrev pub is_open : Activity → Bool → State → Bool
is_open activity closing back = is_serving activity && (not closing && is_connected back)

-- an activity of the service is under way
abbrev pub is_working : Activity → Bool
is_working activity.Working = true
is_working activity.Serving = true
is_working other = false

abbrev pub is_answering : Activity → Bool
is_answering activity.Answering = true
is_answering other = false

-- pages may be held for the service
abbrev pub may_hold : Activity → Bool → Bool
may_hold (activity.Leaving why) opened = true
may_hold other opened = opened

-- all parts are joined, or none is
abbrev pub resting : Bool → Doing
resting true = doing.Open
resting false = doing.Bare

-- the part of the request in hand
abbrev pub hand_part : Option Hand → ℕ
hand_part None = 0
hand_part (Some h) = h.part

-- what the parts do then, and the request in hand
abbrev pub StandsAs : Activity → Bool → Doing → ℕ → Option Hand → Type 0
StandsAs activity.Between opened d at hand = d ≡ resting opened
StandsAs activity.Connecting opened d at hand = connects d ≡ true
StandsAs (activity.Leaving why) opened d at hand = d ≡ doing.Dropping
StandsAs activity.Taking opened d at hand = (opened ≡ true) × (d ≡ doing.Taking at) × (hand ≡ None)
StandsAs activity.Working opened d at hand = (opened ≡ true) × (d ≡ doing.Open) × (is_some hand ≡ true)
StandsAs activity.Serving opened d at hand = (opened ≡ true) × (d ≡ doing.Open) × (hand ≡ None)
StandsAs activity.Answering opened d at hand = (opened ≡ true) × (d ≡ doing.Answering (hand_part hand)) × (is_some hand ≡ true)
StandsAs (activity.Raising part) opened d at hand = (opened ≡ true) × (d ≡ doing.Raising part)
StandsAs activity.Sleeping opened d at hand = (opened ≡ true) × (is_asleep d ≡ true) × (hand ≡ None)

-- so it is of a backend in this state
abbrev pub StandsIn : Activity → (closing : Bool) → State → Doing → ℕ → Option Hand → Type 0
StandsIn activity closing back d at hand = StandsAs activity (is_open activity closing back) d at hand

-- the activity begins, or it is under way
abbrev pub MayServe : Activity → Activity → Type 0
MayServe old new = (old ≡ activity.Between) ⊎ (old ≡ new)
