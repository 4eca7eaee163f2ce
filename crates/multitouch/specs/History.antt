-- What can happen to what a device knows, one after another, and what always holds of it.
use Rattle.std.specs.Prelude.{◌≡◌, ℕ, Bool, true, false, List, [], ◌∷◌, ◌++◌, length, Option, Some, None, is_none, if◌then◌else◌, ◌&&◌, ◌==◌}
use Rattle.std.specs.Bool.{MatchBool}
use Rattle.kbd_wire.specs.declared.Event.{Event}
use Rattle.kbd_wire.specs.declared.Event.TheVariants.{Motion, Key, Position, Down, Up, Move as Moved, Syn}
use Rattle.multitouch.specs.Known.{Known, at_rest, begun, given_up, heard, is_due, published}
use Rattle.multitouch.specs.Pressed.{Pressed, nothing, after, Accepts}
use Rattle.multitouch.specs.Repair.{is_told}
use Rattle.multitouch.specs.Sound.{events_of, IsSound}

-- a host tells an event; a Publish begins, and ends with its group published, or without that; a connection is closed
pub data Move : Type 0 where
  Hears : Event → Move
  Begins : Move
  Publishes : Move
  GivesUp : Move
  Closes : Move

-- what is known, and three things more: what was real when the gap began, just before the first event whose group was dropped,
-- or, where a repair was published under this gap, when the last such Publish began; what was real when the last Publish
-- began; and what was published since the connection was made
pub record History : Type 0 where
  pub known : Known
  pub since : Pressed
  pub began : Pressed
  pub said : List Event

abbrev pub start : History
start = record { known = at_rest; since = nothing; began = nothing; said = [] }

-- the group that was published is the oldest that waited, or closed a gap
abbrev pub since_after : History → Pressed
since_after h = if length h.known.queue == 0 then h.began else h.since

abbrev pub closed_by : History → Option (List Event) → History
closed_by h None = h
closed_by h (Some group) = record { known = published h.known; since = since_after h; began = h.began; said = h.said ++ group }

-- a Publish begins only where something is due and none is under way, and ends only where one is
abbrev pub followed : History → Move → History
followed h (Hears e) = record h { known = heard h.known e; since = if h.known.gap then h.since else h.known.real }
followed h Begins = if is_due h.known && is_none h.known.under_way then record h { known = begun h.known; began = h.known.real } else h
followed h Publishes = closed_by h h.known.under_way
followed h GivesUp = record h { known = given_up h.known }
followed h Closes = start

abbrev pub history_from : History → List Move → History
history_from h [] = h
history_from h (m ∷ ms) = history_from (followed h m) ms

-- a repair that is being published takes what was told to what was real when its Publish began
abbrev pub IsAimed : Option (List Event) → List (List Event) → Pressed → Pressed → Type 0
IsAimed None queue told began = Unit {0}
IsAimed (Some group) [] told began = after told group ≡ began
IsAimed (Some group) (oldest ∷ groups) told began = Unit {0}

pub record IsKept (h : History) : Type 0 where
  pub sound : IsSound h.known
  -- with a gap, the groups that wait take what was told to what was real then
  pub gap : h.known.gap ≡ true → after h.known.told (events_of h.known.queue) ≡ h.since
  pub aimed : IsAimed h.known.under_way h.known.queue h.known.told h.began
  -- where a gap is to be closed, there is something to say
  pub differs : h.known.gap ≡ true → h.known.queue ≡ [] → h.known.under_way ≡ None → is_told h.known.told h.known.real ≡ false
  -- what was published can be, one after another, and is what was told
  pub in_turn : Accepts nothing h.said
  pub told : after nothing h.said ≡ h.known.told

-- all of it holds, whatever happens
abbrev pub AreKept : Type 0
AreKept = (moves : List Move) → IsKept (history_from start moves)

-- the events of one contact are DOWN and UP in turn, with MOTION only in between; down says whether it is down before them
abbrev pub TakeTurns : ℕ → Bool → List Event → Type 0
TakeTurns id down [] = Unit {0}
TakeTurns id down (Down other x y ∷ es) = MatchBool (other == id) ((down ≡ false) × TakeTurns id true es) (TakeTurns id down es)
TakeTurns id down (Up other ∷ es) = MatchBool (other == id) ((down ≡ true) × TakeTurns id false es) (TakeTurns id down es)
TakeTurns id down (Moved other x y ∷ es) = MatchBool (other == id) ((down ≡ true) × TakeTurns id true es) (TakeTurns id down es)
TakeTurns id down (Key pressed code ∷ es) = TakeTurns id down es
TakeTurns id down (Motion x y z ∷ es) = TakeTurns id down es
TakeTurns id down (Position x y z ∷ es) = TakeTurns id down es
TakeTurns id down (Syn ∷ es) = TakeTurns id down es

-- so it is with what was published since the connection was made, beginning with DOWN
abbrev pub ContactsTakeTurns : Type 0
ContactsTakeTurns = (moves : List Move) (id : ℕ) → TakeTurns id false (history_from start moves).said
