-- What a world stands for, and what each of its calls enters.
use Rattle.std.specs.Prelude.{◌≡◌, ◌⊎◌, ℕ, ◌+◌, ◌<◌, ◌≤◌, Bool, List, [], ◌∷◌, ◌++◌, length, slice_get, Option, Some, None, Result, Ok, Err}
use Rattle.std.specs.List.{AllByRecursion}
use Rattle.pv_words.specs.declared.access.Access.{Access}
use Rattle.pv_words.specs.declared.access.Access.TheVariants as access
use Rattle.pv_words.specs.declared.entry.Entry.{Entry}
use Rattle.pv_words.specs.declared.entry.Entry.TheVariants as entry
use Rattle.pv_words.specs.declared.device.HostEvent.{HostEvent}
use Rattle.pv_words.specs.declared.device.HostRefusal.{HostRefusal}
use Rattle.pv_words.specs.declared.journal.Stop.{Stop}
use Rattle.pv_words.specs.declared.journal.Stop.TheVariants.{JournalFull, OutOfMemory}
use Rattle.pv_words.specs.declared.place.DevId.{DevId}
use Rattle.pv_words.specs.declared.place.Place.{Place}
use Rattle.pv_words.specs.declared.device.Said.{Said}
use Rattle.pv_words.specs.declared.setup.DeviceSetup.{DeviceSetup}
use Rattle.pv_words.specs.Memory.{memory_after, place_of}
use Rattle.pv_words.specs.Place.{InRange, domain_of}
use Rattle.pv_words.specs.Plan.{Want}
use Rattle.pv_words.specs.Room.{Book}
use Rattle.pv_words.specs.Port.{Port, IsFree, IsListed, no_listing}
use Rattle.backend_core.specs.Device.{StandsFor}
use Rattle.pv_world.specs.declared.world.Placed.{Placed}
use Rattle.pv_world.specs.declared.world.World.{World}
use Rattle.pv_world.specs.Record.{Shows}
use Rattle.backend_core.specs.Marked.{Item, Entered, Idle, entries, host_items, nodes_in, items_of, own, accesses_in, AreSteps, progress}
use Rattle.xenbus_states.specs.Nodes.{no_nodes}
use Rattle.backend_core.specs.History.{IsHistory, IsPromptIn, IsSettledIn, AreApart, due_by, site_of, held_in}
use Rattle.backend_core.specs.Kinds.{parts_of}

-- what a machine shows of itself
pub record Sight (W : Type 0) : Type 1 where
  pub word : W → Place → ℕ
  pub frames : W → ℕ → ℕ
  pub grants : W → ℕ → ℕ
  pub port : W → Port
  pub whole : W → Type 0
  pub knows_device : W → ℕ → ℕ → Type 0
  pub knows_domain : W → ℕ → Type 0

abbrev pub sight : {W : Type 0} → (word : W → Place → ℕ) (frames grants : W → ℕ → ℕ) (port : W → Port) (whole : W → Type 0)
    (knows_device : W → ℕ → ℕ → Type 0) (knows_domain : W → ℕ → Type 0) → Sight W
sight word frames grants port whole device domain =
    record { word = word; frames = frames; grants = grants; port = port; whole = whole; knows_device = device; knows_domain = domain }

-- the members of a machine, which a clause names all together by `W.Machine`
abbrev pub Members : Type 0 → Type 1
Members W = record {
  frames_of : W → ℕ → ℕ;
  grants_of : W → ℕ → ℕ;
  port : W → Port;
  may : W → Want → Type 0;
  makes : W → Access → W → Type 0;
  word : W → Place → ℕ;
  whole : W → Type 0;
  knows_device : W → ℕ → ℕ → Type 0;
  knows_domain : W → ℕ → Type 0;
}

-- what a machine of these members shows of itself
abbrev pub sight_of : {W : Type 0} → Members W → Sight W
sight_of m = sight m.word m.frames_of m.grants_of m.port m.whole m.knows_device m.knows_domain

-- the devices of a world
abbrev pub setups : List Placed → List DeviceSetup
setups [] = []
setups (p ∷ ps) = p.setup ∷ setups ps

-- A device stands for its entries, none of which is still due, with the nodes as they were set; the memory knows it as one of
-- its domain, and lists what it mapped.
pub record IsPlaced {W : Type 0} (g : Sight W) (frames grants : ℕ → ℕ) (memory : W) (m : List Item) (p : Placed) : Type 0 where
  pub stands : StandsFor p.setup.kind (site_of frames grants p.setup) p.device (own p.setup.dev.0 m)
  pub settled : IsSettledIn frames grants m p.setup
  pub nodes_are : p.nodes ≡ nodes_in p.setup.dev.0 m
  pub known : g.knows_device memory p.setup.dev.0 p.setup.dom.0
  pub listed : IsListed (g.port memory) p.setup.dev.0 (held_in frames grants m p.setup)

-- at most so many accesses, where a number is asked for
abbrev pub AtMost : Option ℕ → ℕ → Type 0
AtMost None n = Unit {0}
AtMost (Some most) n = n ≤ most

-- Behind what was entered of a device, this is the rest of one step of it: its one entry, or its access and what is said on
-- it, or that alone, where the access was entered. What rides on the last of some items is `rides`.
pub record IsCutAt (rides : List Item → Option Said) (dev : DevId) (here due : List Item) : Type 0 where
  pub before : List Item
  pub front : List Item
  pub access : Option Access
  pub said : Option Said
  pub behind : here ≡ before ++ front
  pub one_step : items_of dev access said ≡ front ++ due
  pub ride : (a : Access) → access ≡ Some a → said ≡ rides (before ++ Entered (entry.Back dev a) ∷ [])
  pub further : Entry
  pub later : List Item
  pub due_is : due ≡ Entered further ∷ later

-- Why a device was stopped: the journal is full, and the rest of one step is due, beyond which the device didn't go; or memory
-- was wanting below that, before a step, and nothing is due.
abbrev pub Lacks : (rides : List Item → Option Said) → Stop → DevId → (here due : List Item) → List Entry → Type 0
Lacks rides JournalFull dev here due es = (length es ≡ 8388608) × IsCutAt rides dev here due
Lacks rides OutOfMemory dev here due es = (length es < 8388608) × (due ≡ [])

-- With an access just the event is said that rides on it.
abbrev pub Rides : (frames grants : ℕ → ℕ) → List DeviceSetup → DevId → List Item → Option Access → Option Said → Type 0
Rides frames grants devices dev m a s =
    (x : Access) → a ≡ Some x → s ≡ due_by frames grants devices dev.0 (m ++ Entered (entry.Back dev x) ∷ [])

-- a device's steps until it was idle, with fewer accesses than were asked for
pub record ComesToRest (d : ℕ) (most : Option ℕ) (here : List Item) : Type 0 where
  pub steps : List Item
  pub are_steps : AreSteps d steps
  pub rests : here ≡ steps ++ Idle d ∷ []
  pub fewer : (n : ℕ) → most ≡ Some n → accesses_in steps < n

-- A device's steps up to the one with the last access that was asked for, with the event that rides on it. What rides on the
-- last of some items is `due`.
pub record MakesAll (due : List Item → Option Said) (dev : DevId) (most : Option ℕ) (here : List Item) : Type 0 where
  pub steps : List Item
  pub last : Access
  pub said : Option Said
  pub are_steps : AreSteps dev.0 steps
  pub ends : here ≡ steps ++ items_of dev (Some last) said
  pub rides : said ≡ due (steps ++ Entered (entry.Back dev last) ∷ [])
  pub all : most ≡ Some (accesses_in steps + 1)

-- a device was stepped: until it was idle, or, where a number of accesses was asked for, until it had made as many
abbrev pub IsStepped : (due : List Item → Option Said) → DevId → Option ℕ → List Item → Type 0
IsStepped due dev most here = ComesToRest dev.0 most here ⊎ MakesAll due dev most here

-- The memory of a new world: whole, with as many frames and grants as declared, knowing the domains and each device as one
-- of its domain; all its words are 0, and it lists no mapping.
pub record IsNew {W : Type 0} (g : Sight W) (frames grants : ℕ → ℕ) (memory : W) (devices : List DeviceSetup) : Type 0 where
  pub frames_are : (d : ℕ) → g.frames memory d ≡ frames d
  pub grants_are : (d : ℕ) → g.grants memory d ≡ grants d
  pub words_are : (q : Place) → g.word memory q ≡ 0
  pub whole : g.whole memory
  pub domains : (d : ℕ) → 0 < frames d + grants d → g.knows_domain memory d
  pub known : AllByRecursion (λ s. g.knows_device memory s.dev.0 s.dom.0) devices
  pub listed : (d : ℕ) → IsFree (g.port memory) ⊎ ((g.port memory).listed d ≡ no_listing)
  pub apart : AreApart devices

-- what a domain enters where it makes an access
abbrev pub front_entry : Access → Entry
front_entry a = entry.Front (record { 0 = domain_of (place_of a) }) a

abbrev pub front_access : Access → Item
front_access a = Entered (front_entry a)

-- where it stores a word
abbrev pub store_entry : Place → ℕ → Entry
store_entry at v = front_entry (access.Store at v)

abbrev pub front_store : Place → ℕ → Item
front_store at v = Entered (store_entry at v)

-- where it exchanges one
abbrev pub front_swap : Place → ℕ → ℕ → ℕ → Item
front_swap at old new seen = front_access (access.Cas at old new seen)

-- Over a machine of this sight and domains of so many frames and grant entries: the world of this memory and these devices.
module _ {W : Type 0} (g : Sight W) (frames grants : ℕ → ℕ) (memory : W) (devices : List Placed) where
  -- The memory is whole, knows all domains, holds what the journal's entries left, and has frames and grants of these
  -- numbers; the devices, of which no two have one number, stand for their entries. What devices say and refuse stands directly
  -- behind that on which it is said.
  pub record Stands (m : List Item) : Type 0 where
    pub frames_are : (d : ℕ) → g.frames memory d ≡ frames d
    pub grants_are : (d : ℕ) → g.grants memory d ≡ grants d
    pub words_are : (q : Place) → InRange frames grants q → g.word memory q ≡ memory_after (entries m) q
    pub whole : g.whole memory
    pub domains : (d : ℕ) → 0 < frames d + grants d → g.knows_domain memory d
    pub apart : AreApart (setups devices)
    pub placed : AllByRecursion (IsPlaced g frames grants memory m) devices
    pub so_far : IsHistory frames grants (setups devices) m
    pub prompt : AllByRecursion (IsPromptIn frames grants m) (setups devices)

  -- What a call made of the world that stood for the items `m`, where the journal has the entries `es` then. One entry was entered;
  -- or it found no room, and the world stands for what it stood for, with which it would be a history.
  abbrev pub Enters : (due : Item) (es : List Entry) (m : List Item) {A : Type 0} → Result A Stop → Type 0
  Enters due es m (Ok x) = Stands (m ++ due ∷ []) × (entries (m ++ due ∷ []) ≡ es)
  Enters due es m (Err stop) =
      Stands m × (entries m ≡ es) × IsHistory frames grants (setups devices) (m ++ due ∷ []) × Shows stop es

  -- a word was exchanged where it was `old`, or there was no room for the entry
  abbrev pub Exchanged : (at : Place) (old new : ℕ) (es : List Entry) (m : List Item) {A : Type 0} → Result A Stop → Type 0
  Exchanged at old new es m r = (seen : ℕ) × Enters (front_swap at old new seen) es m r

  -- an event of the host stands in the journal, which is full, and its refusal is due
  pub record IsCut (dev : DevId) (e : HostEvent) (es : List Entry) (m : List Item) (stop : Stop) : Type 0 where
    pub why : HostRefusal
    pub stands : Stands (m ++ host_items dev e (Some why))
    pub entered : entries (m ++ Entered (entry.Host dev e) ∷ []) ≡ es
    pub full : stop ≡ JournalFull
    pub limit : length es ≡ 8388608

  -- A host told a device an event, which is refused or not: the entry, and then that of its refusal, if there is one; or there
  -- was no room for the event, of which the device wasn't told, or for its refusal.
  abbrev pub Hosted : (dev : DevId) (e : HostEvent) (es : List Entry) (m : List Item) {A : Type 0} → Result A Stop → Type 0
  Hosted dev e es m (Ok x) =
      (answer : Option HostRefusal) × Stands (m ++ host_items dev e answer) × (entries (m ++ host_items dev e answer) ≡ es)
  Hosted dev e es m (Err stop) =
      Enters (Entered (entry.Host dev e)) es m {A = Unit {0}} (Err stop) ⊎ IsCut dev e es m stop

  -- The device was stopped after some of its steps. The world stands for what was entered, and, where the journal is full, for
  -- what of the last step found no room.
  pub record StopsIn (dev : DevId) (most : Option ℕ) (stop : Stop) (m : List Item) (es : List Entry) : Type 0 where
    pub here : List Item
    pub due : List Item
    pub steps : AreSteps dev.0 (here ++ due)
    pub within : AtMost most (accesses_in (here ++ due))
    pub stands : Stands (m ++ (here ++ due))
    pub entered : entries (m ++ here) ≡ es
    pub cause : Lacks (λ x. due_by frames grants (setups devices) dev.0 (m ++ x)) stop dev here due es

  -- One step of a device: it made an access or said something (true where it made an access), or was idle (None), or was
  -- stopped.
  abbrev pub Advanced : (dev : DevId) (es : List Entry) (m : List Item) → Result (Option Bool) Stop → Type 0
  Advanced dev es m (Ok did) =
      (a : Option Access) × (s : Option Said) × (did ≡ progress a s)
      × Stands (m ++ items_of dev a s) × (entries (m ++ items_of dev a s) ≡ es)
      × Rides frames grants (setups devices) dev m a s
  Advanced dev es m (Err stop) = StopsIn dev (Some 1) stop m es

  -- the device was stepped so, or was stopped before
  abbrev pub SteppedBy : (dev : DevId) (most : Option ℕ) (es : List Entry) (m : List Item) {A : Type 0} → Result A Stop → Type 0
  SteppedBy dev most es m (Ok x) =
      (here : List Item) × IsStepped (λ x. due_by frames grants (setups devices) dev.0 (m ++ x)) dev most here
      × Stands (m ++ here) × (entries (m ++ here) ≡ es)
  SteppedBy dev most es m (Err stop) = StopsIn dev most stop m es

-- some history of the world's has these entries
abbrev pub Standing : {W : Type 0} → Sight W → W → List Placed → List Entry → Type 0
Standing g memory devices es =
    (frames : ℕ → ℕ) × (grants : ℕ → ℕ) × (m : List Item) × Stands g frames grants memory devices m × (entries m ≡ es)

-- a device that was just declared: it stands for nothing yet
pub record IsDeclaredAs (s : DeviceSetup) (p : Placed) : Type 0 where
  pub setup_is : p.setup ≡ s
  pub stands : (frames grants : ℕ → ℕ) → StandsFor s.kind (site_of frames grants s) p.device []
  pub nodes_are : p.nodes ≡ no_nodes

abbrev pub AreDeclaredAs : List DeviceSetup → List Placed → Type 0
AreDeclaredAs [] [] = Unit {0}
AreDeclaredAs [] (p ∷ ps) = ⊥
AreDeclaredAs (s ∷ ss) [] = ⊥
AreDeclaredAs (s ∷ ss) (p ∷ ps) = IsDeclaredAs s p × AreDeclaredAs ss ps

-- a device has 1 to 4 parts
abbrev pub HasParts : DeviceSetup → Type 0
HasParts s = (1 ≤ parts_of s.kind) × (parts_of s.kind ≤ 4)

-- the device of this number stands there
abbrev pub IsAt : List Placed → ℕ → DevId → Type 0
IsAt devices i dev = (p : Placed) × (slice_get devices i ≡ Some p) × (p.setup.dev ≡ dev)

-- a world's memory and its devices
abbrev pub memory_of : {W : Type 0} → World W → W
memory_of w = w.memory

abbrev pub devices_of : {W : Type 0} → World W → List Placed
devices_of w = w.devices.items

-- a world that was just made over a new memory stands for nothing yet
abbrev pub StandsForNothing : {W : Type 0} → Sight W → (memory : W) → List DeviceSetup → World W → Type 0
StandsForNothing g memory devices w =
    (frames grants : ℕ → ℕ) → IsNew g frames grants memory devices → Stands g frames grants (memory_of w) (devices_of w) []

-- some history of this world's has these entries
abbrev pub StandingAt : {W : Type 0} → Sight W → World W → List Entry → Type 0
StandingAt g w es = Standing g (memory_of w) (devices_of w) es

-- so it is from each history of the old world's that has these entries
abbrev pub FromEach : {W : Type 0} → Sight W → World W → List Entry → ((frames grants : ℕ → ℕ) → List Item → Type 0) → Type 0
FromEach g old es leads =
    (frames grants : ℕ → ℕ) (m : List Item)
    → Stands g frames grants (memory_of old) (devices_of old) m → entries m ≡ es → leads frames grants m

-- What a call made of a world and its journal, from each of its histories.
module _ {W : Type 0} (g : Sight W) (old : World W) (before : Book) where
  -- one entry was entered
  abbrev pub EntersFrom : Entry → World W → Book → {A : Type 0} → Result A Stop → Type 0
  EntersFrom due new behind r =
      FromEach g old before.entries (λ frames grants m.
      Enters g frames grants (memory_of new) (devices_of new) (Entered due) behind.entries m r)

  -- a word was exchanged
  abbrev pub ExchangesFrom : Place → (from to : ℕ) → World W → Book → {A : Type 0} → Result A Stop → Type 0
  ExchangesFrom at from to new behind r =
      FromEach g old before.entries (λ frames grants m.
      Exchanged g frames grants (memory_of new) (devices_of new) at from to behind.entries m r)

  -- an event was told by the host
  abbrev pub HostsFrom : DevId → HostEvent → World W → Book → {A : Type 0} → Result A Stop → Type 0
  HostsFrom dev e new behind r =
      FromEach g old before.entries (λ frames grants m. Hosted g frames grants (memory_of new) (devices_of new) dev e behind.entries m r)

  -- one step was made
  abbrev pub AdvancesFrom : DevId → World W → Book → Result (Option Bool) Stop → Type 0
  AdvancesFrom dev new behind r =
      FromEach g old before.entries (λ frames grants m. Advanced g frames grants (memory_of new) (devices_of new) dev behind.entries m r)

  -- a device was stepped
  abbrev pub StepsFrom : DevId → Option ℕ → World W → Book → {A : Type 0} → Result A Stop → Type 0
  StepsFrom dev most new behind r =
      FromEach g old before.entries (λ frames grants m.
      SteppedBy g frames grants (memory_of new) (devices_of new) dev most behind.entries m r)
