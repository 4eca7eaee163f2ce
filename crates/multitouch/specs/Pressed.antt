-- What is down: contacts, each with what is known of it, and keys. What an event makes of that, and why one is refused.
use Rattle.std.specs.Prelude.{◌≡◌, ℕ, ◌≤◌, nat_lt, Bool, true, false, List, [], ◌∷◌, Option, Some, None, if◌then◌else◌, refl}
use Rattle.std.specs.Ordering.{nat_cmp}
use Rattle.std.specs.FinMap as map
use Rattle.std.specs.FinSet as set
use Rattle.std.specs.Coded.{Coded, code_by, coded×, coded_ℕ}
use Rattle.kbd_wire.specs.declared.Event.{Event}
use Rattle.kbd_wire.specs.declared.Event.TheVariants.{Motion, Key, Position, Down, Up, Move, Syn}
use Rattle.pv_words.specs.declared.device.HostRefusal.{HostRefusal}
use Rattle.pv_words.specs.declared.device.HostRefusal.TheVariants.{AlreadyDown, NotDown, TooMany, KeyIsDown, KeyIsUp, TooManyKeys}
use Rattle.multitouch.specs.declared.contact.Contact.{Contact}
use Rattle.multitouch.specs.contracts.contact.Contact as contact

-- the contacts that are down, by their numbers
abbrev pub ContactMap : Type 0
ContactMap = map.FinMap nat_cmp Contact

-- the keys that are down: a set of their codes, which is a map with nothing at each
abbrev pub KeySet : Type 0
KeySet = map.FinMap nat_cmp (Unit {0})

pub record Pressed : Type 0 where
  pub contacts : ContactMap
  pub keys : KeySet

abbrev pub pressed_code : Coded Pressed
pressed_code =
    code_by (ContactMap × KeySet) (coded× (map.code coded_ℕ contact.the_row.coded) (set.code coded_ℕ)) (λ p. (p.contacts, p.keys))
    (λ p. record { contacts = p.0; keys = p.1 }) (λ _. refl)

abbrev pub nothing : Pressed
nothing = record { contacts = map.empty; keys = map.empty }

abbrev pub is_down : Pressed → ℕ → Bool
is_down p id = map.contains_key p.contacts id

abbrev pub is_key_down : Pressed → ℕ → Bool
is_key_down p code = map.contains_key p.keys code

-- what is down after an event
abbrev pub after_event : Pressed → Event → Pressed
after_event p (Down id x y) = record p { contacts = map.insert p.contacts id (record { x = x; y = y }) }
after_event p (Move id x y) = record p { contacts = map.insert p.contacts id (record { x = x; y = y }) }
after_event p (Up id) = record p { contacts = map.remove p.contacts id }
after_event p (Key true code) = record p { keys = map.insert p.keys code tt }
after_event p (Key false code) = record p { keys = map.remove p.keys code }
after_event p (Motion x y z) = p
after_event p (Position x y z) = p
after_event p Syn = p

-- and after several, one after another
abbrev pub after : Pressed → List Event → Pressed
after p [] = p
after p (e ∷ es) = after (after_event p e) es

-- a contact has a number below 16, and is down or not as it must be
abbrev pub down_refusal : Pressed → ℕ → Option HostRefusal
down_refusal p id = if nat_lt id 16 then (if is_down p id then Some (AlreadyDown id) else None) else Some (TooMany id)

abbrev pub lift_refusal : Pressed → ℕ → Option HostRefusal
lift_refusal p id = if nat_lt id 16 then (if is_down p id then None else Some (NotDown id)) else Some (TooMany id)

-- at most 16 keys are down
abbrev pub press_refusal : Pressed → ℕ → Option HostRefusal
press_refusal p code =
    if is_key_down p code then Some (KeyIsDown code) else (if nat_lt (map.len p.keys) 16 then None else Some (TooManyKeys code))

abbrev pub release_refusal : Pressed → ℕ → Option HostRefusal
release_refusal p code = if is_key_down p code then None else Some (KeyIsUp code)

-- why an event can't be, if it can't, by the first cause that applies
abbrev pub refusal_of : Pressed → Event → Option HostRefusal
refusal_of p (Down id x y) = down_refusal p id
refusal_of p (Move id x y) = lift_refusal p id
refusal_of p (Up id) = lift_refusal p id
refusal_of p (Key true code) = press_refusal p code
refusal_of p (Key false code) = release_refusal p code
refusal_of p (Motion x y z) = None
refusal_of p (Position x y z) = None
refusal_of p Syn = None

-- events that can be, one after another: each DOWN is of a contact that isn't down, each UP and each MOTION of one that is,
-- and the same with keys
abbrev pub Accepts : Pressed → List Event → Type 0
Accepts p [] = Unit {0}
Accepts p (e ∷ es) = (refusal_of p e ≡ None) × Accepts (after_event p e) es

-- only contacts below 16 are down, and at most 16 keys
pub record IsBounded (p : Pressed) : Type 0 where
  pub contacts : (id : ℕ) → 16 ≤ id → map.get p.contacts id ≡ None
  pub keys : map.len p.keys ≤ 16
