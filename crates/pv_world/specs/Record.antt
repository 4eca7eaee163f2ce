-- What one step of a device enters.
use Rattle.std.specs.Prelude.{◌≡◌, ℕ, ◌-◌, ◌<◌, ◌≤◌, min, Bool, List, [], ◌∷◌, ◌++◌, length, Option, Some, None, Result, Ok, Err}
use Rattle.pv_words.specs.declared.access.Access.{Access}
use Rattle.pv_words.specs.declared.device.HostEvent.{HostEvent}
use Rattle.pv_words.specs.declared.device.HostRefusal.{HostRefusal}
use Rattle.pv_words.specs.declared.device.Said.{Said}
use Rattle.pv_words.specs.declared.entry.Entry.{Entry}
use Rattle.pv_words.specs.declared.entry.Entry.TheVariants as entry
use Rattle.pv_words.specs.declared.journal.Stop.{Stop}
use Rattle.pv_words.specs.declared.place.DevId.{DevId}
use Rattle.pv_words.specs.declared.journal.Stop.TheVariants.{JournalFull, OutOfMemory}
use Rattle.pv_words.specs.Room.{Book}
use Rattle.device_core.specs.declared.step.Step.{Step}
use Rattle.backend_core.specs.Marked.{Item, Entered, entries, host_items, items_of, progress}
use Rattle.host_events.specs.Queue.{refusal_in}

-- what a stop shows of the journal: it is at its limit, or memory was wanting below it
abbrev pub Shows : Stop → List Entry → Type 0
Shows JournalFull es = length es ≡ 8388608
Shows OutOfMemory es = length es < 8388608

-- so many further entries have room, as far as the journal may have them
abbrev pub HasRoom : ℕ → Book → Type 0
HasRoom n j = min n (8388608 - length j.entries) ≤ j.spare

-- the items were entered up to one of them, at which the journal was full
pub record EntersFront (items : List Item) (stop : Stop) (old new : List Entry) : Type 0 where
  pub done : List Item
  pub due : Entry
  pub rest : List Item
  pub split : items ≡ done ++ Entered due ∷ rest
  pub entered : new ≡ old ++ entries done
  pub full : stop ≡ JournalFull
  pub limit : length new ≡ 8388608

-- the items of a step were entered, or some of them
abbrev pub Records : List Item → Option Access → Option Said → List Entry → List Entry → Result (Option Bool) Stop → Type 0
Records items a s old new (Ok did) = (new ≡ old ++ entries items) × (did ≡ progress a s)
Records items a s old new (Err stop) = EntersFront items stop old new

-- what a step of this device did was entered
abbrev pub RecordsStep : DevId → Step → List Entry → List Entry → Result (Option Bool) Stop → Type 0
RecordsStep dev step old new r = Records (items_of dev step.access step.said) step.access step.said old new r

-- it has become longer, and wasn't at its limit
pub record IsLonger (old new : List Entry) : Type 0 where
  pub room : length old < 8388608
  pub longer : length old < length new

-- a step that wasn't idle made it longer
abbrev pub Grows : Result (Option Bool) Stop → List Entry → List Entry → Type 0
Grows (Ok (Some accessed)) old new = IsLonger old new
Grows (Ok None) old new = Unit {0}
Grows (Err stop) old new = Unit {0}

-- an event of a host was entered, and then its refusal, where it is refused; or the journal was full before that
abbrev pub EntersHost : DevId → HostEvent → Result (Unit {0}) HostRefusal → List Entry → List Entry → {A : Type 0} → Result A Stop → Type 0
EntersHost dev e answer old new (Ok x) = new ≡ old ++ entries (host_items dev e (refusal_in answer))
EntersHost dev e answer old new (Err stop) =
    (why : HostRefusal) × (refusal_in answer ≡ Some why) × (new ≡ old ++ entry.Host dev e ∷ [])
    × (stop ≡ JournalFull) × (length new ≡ 8388608)
