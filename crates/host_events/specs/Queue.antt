-- The events of a host that wait for a device, oldest first, and why one is refused.
use Rattle.std.specs.Prelude.{nat_lt, List, [], ◌∷◌, ◌++◌, length, Option, Some, None, Result, Ok, Err, if◌then◌else◌}
use Rattle.pv_words.specs.declared.device.HostRefusal.{HostRefusal}
use Rattle.pv_words.specs.declared.device.HostRefusal.TheVariants.{NotConnected, Full}
use Rattle.pv_words.specs.declared.device.State.{State}
use Rattle.pv_words.specs.declared.device.State.TheVariants as state

-- why an event is refused: the backend isn't Connected, or else 64 events wait
abbrev pub full_at : {E : Type 0} → List E → Option HostRefusal
full_at es = if nat_lt (length es) 64 then None else Some Full

abbrev pub refusal_of : {E : Type 0} → State → List E → Option HostRefusal
refusal_of state.Connected es = full_at es
refusal_of other es = Some NotConnected

-- the refusal in an answer to the host, if it is one
abbrev pub refusal_in : Result (Unit {0}) HostRefusal → Option HostRefusal
refusal_in (Ok done) = None
refusal_in (Err why) = Some why

-- one more waits, last
abbrev pub queued : {E : Type 0} → List E → Option E → List E
queued es None = es
queued es (Some e) = es ++ e ∷ []

-- what waits once a host told an event: unless it is refused, it waits last
abbrev pub unless : {E : Type 0} → Option HostRefusal → List E → Option E → List E
unless None es e = queued es e
unless (Some why) es e = es

-- what waits behind the oldest
abbrev pub behind : {E : Type 0} → List E → List E
behind [] = []
behind (e ∷ es) = es
