-- The fields of what a host tells a device, and of its refusals.
use Rattle.std.specs.Prelude.{ℕ, Bool, true, false, List, [], ◌∷◌, codes}
use Rattle.std.specs.Fmt.{decimal, signed_decimal}
use Rattle.pv_words.specs.declared.device.HostEvent.{HostEvent}
use Rattle.pv_words.specs.declared.device.HostEvent.TheVariants as host
use Rattle.pv_words.specs.declared.device.HostRefusal.{HostRefusal}
use Rattle.pv_words.specs.declared.device.HostRefusal.TheVariants as refused
use Rattle.pv_words.specs.declared.device.Touch.{Touch}
use Rattle.pv_words.specs.declared.device.Touch.TheVariants as touch

-- why a host event was refused
abbrev pub host_refusal_fields : HostRefusal → List (List ℕ)
host_refusal_fields refused.NotConnected = codes "notconnected" ∷ []
host_refusal_fields refused.Full = codes "full" ∷ []
host_refusal_fields (refused.AlreadyDown contact) = codes "alreadydown" ∷ decimal contact ∷ []
host_refusal_fields (refused.NotDown contact) = codes "notdown" ∷ decimal contact ∷ []
host_refusal_fields (refused.TooMany contact) = codes "toomany" ∷ decimal contact ∷ []
host_refusal_fields (refused.KeyIsDown code) = codes "keyisdown" ∷ decimal code ∷ []
host_refusal_fields (refused.KeyIsUp code) = codes "keyisup" ∷ decimal code ∷ []
host_refusal_fields (refused.TooManyKeys code) = codes "toomanykeys" ∷ decimal code ∷ []

-- what a host does to a contact
abbrev pub touch_fields : Touch → List (List ℕ)
touch_fields (touch.Down contact x y) =
    codes "touch" ∷ codes "down" ∷ decimal contact ∷ signed_decimal x ∷ signed_decimal y ∷ []
touch_fields (touch.Up contact) = codes "touch" ∷ codes "up" ∷ decimal contact ∷ []
touch_fields (touch.Move contact x y) =
    codes "touch" ∷ codes "move" ∷ decimal contact ∷ signed_decimal x ∷ signed_decimal y ∷ []

-- 1 for a key that is pressed, 0 for one that is let go
abbrev pub pressed_number : Bool → ℕ
pressed_number true = 1
pressed_number false = 0

-- what a host tells a device
abbrev pub event_fields : HostEvent → List (List ℕ)
event_fields (host.Blank connector) = codes "blank" ∷ decimal connector ∷ []
event_fields (host.Show connector) = codes "show" ∷ decimal connector ∷ []
event_fields (host.Tick stream frames) = codes "tick" ∷ decimal stream ∷ decimal frames ∷ []
event_fields (host.Touch touched) = touch_fields touched
event_fields (host.Key code pressed) = codes "key" ∷ decimal code ∷ decimal (pressed_number pressed) ∷ []
event_fields (host.Motion x y z) =
    codes "motion" ∷ signed_decimal x ∷ signed_decimal y ∷ signed_decimal z ∷ []
event_fields (host.Position x y z) =
    codes "position" ∷ signed_decimal x ∷ signed_decimal y ∷ signed_decimal z ∷ []
