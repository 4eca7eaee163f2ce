-- The events of a host that a display takes, and what it says of them.
use Rattle.std.specs.Prelude.{ℕ, nat_lt, Bool, false, Option, Some, None}
use Rattle.pv_words.specs.declared.device.HostEvent.{HostEvent}
use Rattle.pv_words.specs.declared.device.HostEvent.TheVariants as host
use Rattle.pv_words.specs.declared.device.Said.{Said}
use Rattle.pv_words.specs.declared.device.Said.TheVariants as said
use Rattle.display_backend.specs.declared.waiting.Waiting.{Waiting}
use Rattle.display_backend.specs.declared.waiting.Waiting.TheVariants as waiting

-- a host tells a display of so many connectors of a blank of one of them, or that one is to show its picture
abbrev pub is_for : ℕ → HostEvent → Bool
is_for connectors (host.Blank c) = nat_lt c connectors
is_for connectors (host.Show c) = nat_lt c connectors
is_for connectors (host.Tick s n) = false
is_for connectors (host.Touch t) = false
is_for connectors (host.Key code pressed) = false
is_for connectors (host.Motion x y z) = false
is_for connectors (host.Position x y z) = false

-- what of these events waits
abbrev pub waiting_of : HostEvent → Option Waiting
waiting_of (host.Blank c) = Some (waiting.Blank c)
waiting_of (host.Show c) = Some (waiting.Show c)
waiting_of (host.Tick s n) = None
waiting_of (host.Touch t) = None
waiting_of (host.Key code pressed) = None
waiting_of (host.Motion x y z) = None
waiting_of (host.Position x y z) = None

-- A blank of a connector on which no flip is pending is only told; a connector without a picture shows no pixel, whose mark is 0.
abbrev pub said_of : Waiting → Said
said_of (waiting.Blank part) = said.Blank part
said_of (waiting.Show part) = said.Shown part 0 0
