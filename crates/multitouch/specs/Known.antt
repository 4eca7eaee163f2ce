-- What a device of contacts and keys knows: what is real and what was told, the groups of events that wait, and whether there
-- is a gap, since some group was dropped.
use Rattle.std.specs.Prelude.{nat_lt, Bool, true, false, not, List, [], ◌∷◌, ◌++◌, map, length, Option, Some, None, is_none, Result, Ok, Err, if◌then◌else◌, refl, ◌&&◌, ◌||◌, ◌==◌}
use Rattle.std.specs.Coded.{Coded, code_by, coded×, coded_bool, coded_list, coded_option}
use Rattle.kbd_wire.specs.declared.Event.{Event}
use Rattle.kbd_wire.specs.declared.Event.TheVariants.{Motion, Key, Position, Down, Up, Move, Syn}
use Rattle.kbd_wire.specs.contracts.Event as event
use Rattle.pv_words.specs.declared.device.HostRefusal.{HostRefusal}
use Rattle.pv_words.specs.declared.device.Touch.{Touch}
use Rattle.pv_words.specs.declared.device.Touch.TheVariants as touch
use Rattle.multitouch.specs.Pressed.{Pressed, pressed_code, nothing, after, after_event, refusal_of}
use Rattle.multitouch.specs.Repair.{repair_of, is_told}

-- the event that tells a touch
abbrev pub event_of : Touch → Event
event_of (touch.Down id x y) = Down id x y
event_of (touch.Up id) = Up id
event_of (touch.Move id x y) = Move id x y

-- the group of an event that a host tells: a touch is followed by a SYN
abbrev pub group_of : Event → List Event
group_of (Down id x y) = Down id x y ∷ Syn ∷ []
group_of (Up id) = Up id ∷ Syn ∷ []
group_of (Move id x y) = Move id x y ∷ Syn ∷ []
group_of (Key pressed code) = Key pressed code ∷ []
group_of (Motion x y z) = Motion x y z ∷ []
group_of (Position x y z) = Position x y z ∷ []
group_of Syn = Syn ∷ []

-- what is real by the host, what was told to the frontend, the groups that wait, oldest first, whether there is a gap, and
-- the group that is being published
pub record Known : Type 0 where
  pub real : Pressed
  pub told : Pressed
  pub queue : List (List Event)
  pub gap : Bool
  pub under_way : Option (List Event)

abbrev pub known_code : Coded Known
known_code =
    let events = coded_list event.the_row.coded in
    code_by ((Pressed × Pressed) × ((List (List Event) × Bool) × Option (List Event)))
    (coded× (coded× pressed_code pressed_code) (coded× (coded× (coded_list events) coded_bool) (coded_option events)))
    (λ k. ((k.real, k.told), ((k.queue, k.gap), k.under_way)))
    (λ p. record { real = p.0.0; told = p.0.1; queue = p.1.0.0; gap = p.1.0.1; under_way = p.1.1 }) (λ _. refl)

-- what is known, where of each group that waits the first event is kept
abbrev pub known_of : Pressed → Pressed → List Event → Bool → Option (List Event) → Known
known_of real told first gap under_way = record { real = real; told = told; queue = map group_of first; gap = gap; under_way = under_way }

-- nothing is down, and nothing waits
abbrev pub at_rest : Known
at_rest = record { real = nothing; told = nothing; queue = []; gap = false; under_way = None }

-- the gap is gone as soon as no group waits, what is real was told, and no group is being published
abbrev pub is_caught_up : Known → Bool
is_caught_up k = is_none k.under_way && ((length k.queue == 0) && is_told k.told k.real)

abbrev pub settled : Known → Known
settled k = record k { gap = k.gap && not (is_caught_up k) }

-- a group joins the queue, unless there is a gap or 16 groups wait: then it is dropped, and there is a gap
abbrev pub joined : Known → List Event → Known
joined k group =
    if not k.gap && nat_lt (length k.queue) 16 then record k { queue = k.queue ++ group ∷ [] } else record k { gap = true }

-- a host told an event: unless it is refused, it is real from then on, and its group joins the queue
abbrev pub accepted : Known → Event → Known
accepted k e = settled (joined (record k { real = after_event k.real e }) (group_of e))

abbrev pub unless : Option HostRefusal → Known → Known → Known
unless None k next = next
unless (Some why) k next = k

abbrev pub heard : Known → Event → Known
heard k e = unless (refusal_of k.real e) k (accepted k e)

-- the refusal in an answer to the host, if it is one
abbrev pub refusal_in : Result (Unit {0}) HostRefusal → Option HostRefusal
refusal_in (Ok done) = None
refusal_in (Err why) = Some why

-- whether something is to be published
abbrev pub is_due : Known → Bool
is_due k = not (length k.queue == 0) || k.gap

-- the group that is to be published next: the oldest that waits, or else the repair
abbrev pub oldest_or : List (List Event) → List Event → List Event
oldest_or [] repair = repair
oldest_or (group ∷ groups) repair = group

abbrev pub next_group : Known → List Event
next_group k = oldest_or k.queue (repair_of k.told k.real)

-- the groups behind the oldest
abbrev pub behind : List (List Event) → List (List Event)
behind [] = []
behind (group ∷ groups) = groups

-- a Publish begins: its group is chosen, and stays what it is to its end
abbrev pub begun : Known → Known
begun k = record k { under_way = Some (next_group k) }

-- a Publish ends with its group published: it was told, and waits no longer
abbrev pub told_after : Pressed → Option (List Event) → Pressed
told_after told None = told
told_after told (Some group) = after told group

abbrev pub let_go : Known → Known
let_go k = record k { told = told_after k.told k.under_way; queue = behind k.queue; under_way = None }

abbrev pub published : Known → Known
published k = settled (let_go k)

-- a Publish ends without that
abbrev pub given_up : Known → Known
given_up k = settled (record k { under_way = None })
