-- What always holds of what a device knows.
use Rattle.std.specs.Prelude.{◌≡◌, ◌≤◌, Bool, true, false, List, [], ◌∷◌, ◌++◌, length, Option, Some, None}
use Rattle.kbd_wire.specs.declared.Event.{Event}
use Rattle.multitouch.specs.Known.{Known}
use Rattle.multitouch.specs.Pressed.{Pressed, after, Accepts, IsBounded}

-- the events of groups, one after another
abbrev pub events_of : List (List Event) → List Event
events_of [] = []
events_of (group ∷ groups) = group ++ events_of groups

-- the group that is being published is the oldest that waits; or, where none does, it closes a gap, and can be told
abbrev pub IsChosen : Option (List Event) → List (List Event) → Bool → Pressed → Type 0
IsChosen None queue gap told = Unit {0}
IsChosen (Some group) [] gap told = (gap ≡ true) × Accepts told group
IsChosen (Some group) (oldest ∷ groups) gap told = group ≡ oldest

pub record IsSound (k : Known) : Type 0 where
  pub real : IsBounded k.real
  pub told : IsBounded k.told
  -- at most 16 groups wait
  pub few : length k.queue ≤ 16
  -- they can be told, one after another
  pub acceptable : Accepts k.told (events_of k.queue)
  -- without a gap they take what was told to what is real
  pub joined : k.gap ≡ false → after k.told (events_of k.queue) ≡ k.real
  pub chosen : IsChosen k.under_way k.queue k.gap k.told
