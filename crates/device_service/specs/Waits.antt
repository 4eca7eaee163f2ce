-- The host's events that wait, each of a part that is there.
use Rattle.std.specs.Prelude.{◌≡◌, ℕ, ◌<◌, List, [], ◌∷◌, Some}
use Rattle.pv_words.specs.declared.device.HostEvent.{HostEvent}
use Rattle.device_service.specs.Service.{Service}

-- each is of one of so many parts
abbrev pub WaitAt : {V : Type 0} → (V → ℕ) → ℕ → List V → Type 0
WaitAt at n [] = Unit {0}
WaitAt at n (e ∷ es) = (at e < n) × WaitAt at n es

-- an event of the host is one that waits, of one of so many parts
abbrev pub IsFor : {X A V : Type 0} → Service X A V → ℕ → HostEvent → Type 0
IsFor {X} {A} {V} s n e = (v : V) × (s.waits e ≡ Some v) × (s.at v < n)
