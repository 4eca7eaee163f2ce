-- What one statement makes of a world.
use Rattle.std.specs.Prelude.{◌≡◌, ℕ, ◌+◌, ◌*◌, ◌<◌, ◌≤◌, true, ◌⊎◌, List, [], ◌∷◌, ◌++◌, length, Result, Ok, Err}
use Rattle.std.specs.List.{AllByRecursion}
use Rattle.pv_words.specs.declared.entry.Entry.{Entry}
use Rattle.pv_words.specs.declared.journal.Stop.{Stop}
use Rattle.pv_words.specs.declared.journal.Stop.TheVariants.{JournalFull, OutOfMemory}
use Rattle.pv_words.specs.declared.setup.DeviceSetup.{DeviceSetup}
use Rattle.pv_words.specs.Sizes.{frames_by, grants_by}
use Rattle.scenario_text.specs.declared.statement.Statement.{Statement}
use Rattle.scenario_text.specs.Scenario.{Scenario}
use Rattle.pv_world.specs.declared.world.Placed.{Placed}
use Rattle.pv_world.specs.declared.world.World.{World}
use Rattle.backend_core.specs.Marked.{Item, Entered, entries}
use Rattle.pv_words.specs.Place.{InRange}
use Rattle.pv_words.specs.Port.{IsUnkept, Port}
use Rattle.pv_words.specs.Room.{Book}
use Rattle.scenario_text.specs.declared.statement.Statement.TheVariants.{Put, Fill, Swap, Open, End, Node, Bus, Wake, Host, Back, Serve}
use Rattle.backend_core.specs.History.{IsHistory, IsPromptIn, is_declared, parts_by, takes_by}
use Rattle.pv_world.specs.World.{FromEach, Sight, Stands, devices_of, memory_of, setups}
use Rattle.scenario_run.specs.Follows.{AreSettled, IsRow, IsPartOf, rides_in}

-- a history in which devices say and refuse without delay
abbrev pub IsPromptHistory : (frames grants : ℕ → ℕ) → List DeviceSetup → List Item → Type 0
IsPromptHistory frames grants devices m = IsHistory frames grants devices m × AllByRecursion (IsPromptIn frames grants m) devices

-- how a statement was played in part, behind these items
module _ (frames grants : ℕ → ℕ) (devices : List DeviceSetup) (s : Statement) where
  -- the journal is full, and with one entry more it would be a further part of the statement, or the whole of it
  pub record IsFullIn (m part : List Item) (es : List Entry) : Type 0 where
    pub length_is : length es ≡ 8388608
    pub due : Entry
    pub goes_on : IsPromptHistory frames grants devices (m ++ (part ++ Entered due ∷ []))
    pub next : IsPartOf s (part ++ Entered due ∷ []) ⊎ IsRow (rides_in frames grants devices m) s (part ++ Entered due ∷ [])

  -- or memory was wanting below its limit, and the journal stands at whole steps: no device owes the rest of one
  abbrev pub HasCauseIn : (m part : List Item) (es : List Entry) → Stop → Type 0
  HasCauseIn m part es JournalFull = IsFullIn m part es
  HasCauseIn m part es OutOfMemory = (length es < 8388608) × AreSettled frames grants devices (m ++ part)

  -- the statement was played in part
  pub record StopsAt (stop : Stop) (m : List Item) (es : List Entry) : Type 0 where
    pub part : List Item
    pub of : IsPartOf s part
    pub so_far : IsPromptHistory frames grants devices (m ++ part)
    pub entered : entries (m ++ part) ≡ es
    pub cause : HasCauseIn m part es stop

-- the statement was played, in the world of this memory and these devices, or in part
module _ {W : Type 0} (g : Sight W) (frames grants : ℕ → ℕ) (memory : W) (devices : List Placed) (s : Statement) where
  abbrev pub Played : (es : List Entry) (m : List Item) {A : Type 0} → Result A Stop → Type 0
  Played es m (Ok x) =
      (here : List Item) × IsRow (rides_in frames grants (setups devices) m) s here
      × Stands g frames grants memory devices (m ++ here) × (entries (m ++ here) ≡ es)
  Played es m (Err stop) = StopsAt frames grants (setups devices) s stop m es

-- A statement may be played: its place, its words and its grants are in range, and it stores and exchanges no half of a
-- grant entry that the memory's port keeps; its device is declared, has the part that it names, and takes the event; and it
-- asks for an access at least.
abbrev pub CanPlay : (frames grants : ℕ → ℕ) → Port → List DeviceSetup → Statement → Type 0
CanPlay frames grants port devices (Put at v) = InRange frames grants at × IsUnkept port at
CanPlay frames grants port devices (Fill f) =
    (1024 * f.frame.0 + f.word + f.count ≤ 1024 * frames f.dom.0) × (1024 * f.frame.0 + f.word + f.count ≤ 1024 * 16384)
CanPlay frames grants port devices (Swap at old new) = InRange frames grants at × IsUnkept port at
CanPlay frames grants port devices (Open o) =
    (o.gref.0 + o.count ≤ grants o.dom.0) × (o.gref.0 + o.count ≤ 16384) × (o.frame.0 + o.count ≤ 16384)
CanPlay frames grants port devices (End e) = (e.gref.0 + e.count ≤ grants e.dom.0) × (e.gref.0 + e.count ≤ 16384)
CanPlay frames grants port devices (Node dev part key v) =
    (is_declared devices dev.0 ≡ true) × (part < parts_by devices dev.0) × (part < 4) × (key < 4)
CanPlay frames grants port devices (Bus dev state) = is_declared devices dev.0 ≡ true
CanPlay frames grants port devices (Wake dev) = is_declared devices dev.0 ≡ true
CanPlay frames grants port devices (Host dev e) = (is_declared devices dev.0 ≡ true) × (takes_by devices dev.0 e ≡ true)
CanPlay frames grants port devices (Back dev count) = (is_declared devices dev.0 ≡ true) × (1 ≤ count)
CanPlay frames grants port devices (Serve dev) = is_declared devices dev.0 ≡ true

-- the world stands for no entry yet, with as many frames and grants as the scenario declares
abbrev pub StartsIn : {W : Type 0} → Sight W → Scenario → World W → Type 0
StartsIn g s w = Stands g (frames_by s.sizes) (grants_by s.sizes) (memory_of w) (devices_of w) []

-- a statement may be played in this world
abbrev pub CanPlayIn : {W : Type 0} → Sight W → World W → Statement → Type 0
CanPlayIn g w s = CanPlay (g.frames (memory_of w)) (g.grants (memory_of w)) (g.port (memory_of w)) (setups (devices_of w)) s

-- what it made of a world and its journal, from each of its histories
module _ {W : Type 0} (g : Sight W) (old : World W) (before : Book) where
  abbrev pub PlaysFrom : Statement → World W → Book → {A : Type 0} → Result A Stop → Type 0
  PlaysFrom s new behind r =
      FromEach g old before.entries (λ frames grants m. Played g frames grants (memory_of new) (devices_of new) s behind.entries m r)
