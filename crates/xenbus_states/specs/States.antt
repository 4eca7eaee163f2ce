-- The states of a split device's end and their numbers (enum xenbus_state of xenbus.h).
use Rattle.std.specs.Prelude.{◌≡◌, ℕ, ◌==◌, List, [], ◌∷◌, Option, Some, find}
use Rattle.pv_words.specs.declared.device.State.{State}
use Rattle.pv_words.specs.declared.device.State.TheVariants.{Unknown, Initialising, InitWait, Initialised, Connected, Closing, Closed, Reconfiguring, Reconfigured}

-- the number of a state
abbrev pub number_of : State → ℕ
number_of Unknown = 0
number_of Initialising = 1
number_of InitWait = 2
number_of Initialised = 3
number_of Connected = 4
number_of Closing = 5
number_of Closed = 6
number_of Reconfiguring = 7
number_of Reconfigured = 8

-- all states
abbrev pub states : List State
states =
    Unknown ∷ Initialising ∷ InitWait ∷ Initialised ∷ Connected ∷ Closing ∷ Closed ∷ Reconfiguring ∷ Reconfigured ∷ []

-- the state of a number, where there is one
abbrev pub state_of : ℕ → Option State
state_of n = find (λ s. number_of s == n) states

-- each state comes back from its number
abbrev pub StatesReadBack : Type 0
StatesReadBack = (s : State) → state_of (number_of s) ≡ Some s

-- and each number from its state
abbrev pub NumbersReadBack : Type 0
NumbersReadBack = (n : ℕ) (s : State) → state_of n ≡ Some s → number_of s ≡ n
