-- What a domain enters for a grant entry of its own: the accesses of a permit or an end, and then what it is told.
use Rattle.std.specs.Prelude.{◌≡◌, ◌<◌, ℕ, ◌⊎◌, Bool, true, false, List, [], ◌∷◌, ◌++◌, length}
use Rattle.std.specs.Prelude.{Option, Some, None, Result, Ok, Err, is_none}
use Rattle.pv_words.specs.declared.access.Access.{Access}
use Rattle.pv_words.specs.declared.entry.Entry.{Entry}
use Rattle.pv_words.specs.declared.entry.Entry.TheVariants as entry
use Rattle.pv_words.specs.declared.entry.Told.{Told}
use Rattle.pv_words.specs.declared.entry.Told.TheVariants as told
use Rattle.pv_words.specs.declared.journal.Stop.{Stop}
use Rattle.pv_words.specs.declared.journal.Stop.TheVariants.{JournalFull, OutOfMemory}
use Rattle.pv_words.specs.declared.grant.Mode.{Mode}
use Rattle.pv_words.specs.declared.place.DomId.{DomId}
use Rattle.pv_words.specs.declared.place.Frame.{Frame}
use Rattle.pv_words.specs.declared.place.GrantRef.{GrantRef}
use Rattle.pv_words.specs.declared.setup.DeviceSetup.{DeviceSetup}
use Rattle.pv_words.specs.Keeping.{MayGoOn}
use Rattle.pv_words.specs.Port.{Port}
use Rattle.pv_words.specs.Room.{Book}
use Rattle.pv_words.specs.Plan.{Plan, Finished, Goes, IsUnfinished}
use Rattle.grant_table.specs.declared.owner.Owned.{Owned}
use Rattle.grant_table.specs.declared.owner.Owned.TheVariants as owned
use Rattle.grant_table.specs.OwnerLeft.{permit_left, end_left}
use Rattle.grant_table.specs.Owning.{permit_plan, end_plan}
use Rattle.pv_world.specs.declared.owner.Owning.{Owning}
use Rattle.pv_world.specs.declared.owner.Owning.TheVariants as owning
use Rattle.pv_world.specs.declared.world.Placed.{Placed}
use Rattle.pv_world.specs.declared.world.World.{World}
use Rattle.backend_core.specs.Marked.{Item, Entered, entries}
use Rattle.backend_core.specs.History.{IsHistory}
use Rattle.pv_world.specs.World.{FromEach, Sight, Stands, devices_of, front_access, memory_of, setups}

-- what is left of a permit or an end
abbrev pub left_of : Owning → Plan Owned
left_of (owning.Permits o) = permit_left o
left_of (owning.Ends o) = end_left o

-- more is left of it, and its next access may be made through a port
abbrev pub MayOwnOn : Port → DomId → GrantRef → Owning → Type 0
MayOwnOn port dom gref owning = IsUnfinished (left_of owning) × MayGoOn port dom.0 gref.0 (left_of owning)

-- what the domain is told: nothing where the entry was opened
abbrev pub told_of : GrantRef → Owned → Option Told
told_of gref owned.Opened = None
told_of gref (owned.AlreadyOpen word) = Some (told.OpenRefused gref word)
told_of gref owned.Ended = Some (told.Ended gref)
told_of gref (owned.Busy word) = Some (told.Busy gref word)
told_of gref (owned.Moved word seen) = Some (told.Moved gref word seen)

abbrev pub told_items : DomId → Option Told → List Item
told_items dom None = []
told_items dom (Some t) = Entered (entry.Told dom t) ∷ []

-- accesses of a domain lead from plan to plan
abbrev pub Leads : Plan Owned → List Item → Plan Owned → Type 0
Leads p [] q = p ≡ q
Leads p (i ∷ is) q = (a : Access) × (k : Plan Owned) × (i ≡ front_access a) × Goes p a k × Leads k is q

-- the whole of a permit or an end, of which this was the plan
pub record IsDone (dom : DomId) (gref : GrantRef) (plan : Plan Owned) (here : List Item) : Type 0 where
  pub made : List Item
  pub owned : Owned
  pub leads : Leads plan made (Finished owned)
  pub then_told : here ≡ made ++ told_items dom (told_of gref owned)

-- some of its accesses
pub record IsUnderWay (plan : Plan Owned) (here : List Item) : Type 0 where
  pub left : Plan Owned
  pub leads : Leads plan here left

-- After the items `m` a permit or end of this plan was stopped: this part of it was entered, and this is due; the journal has these
-- entries.
module _ (frames grants : ℕ → ℕ) (devices : List DeviceSetup) (dom : DomId) (gref : GrantRef) (plan : Plan Owned)
    (m part due : List Item) (es : List Entry) where
  -- The journal is full, and with one entry more it would be a further part of the permit or end, or the whole of it. That entry
  -- is what the domain is told of a result, or an access that wasn't made.
  pub record IsFullAt : Type 0 where
    pub length_is : length es ≡ 8388608
    pub further : Entry
    pub goes_on : IsHistory frames grants devices (m ++ (part ++ Entered further ∷ []))
    pub next : IsUnderWay plan (part ++ Entered further ∷ []) ⊎ IsDone dom gref plan (part ++ Entered further ∷ [])
    pub due_is : (due ≡ []) ⊎ (due ≡ Entered further ∷ [])

  -- Why it was stopped behind this part: the journal is full; or memory was wanting below that, and nothing is due.
  abbrev pub HasCauseAt : Stop → Type 0
  HasCauseAt JournalFull = IsFullAt
  HasCauseAt OutOfMemory = (length es < 8388608) × (due ≡ [])

-- Over the world of this memory and these devices, a permit or an end of this plan.
module _ {W : Type 0} (g : Sight W) (frames grants : ℕ → ℕ) (memory : W) (devices : List Placed)
    (dom : DomId) (gref : GrantRef) (plan : Plan Owned) where
  -- It was stopped after some of its accesses. The world stands for these and for what the domain is to be told, if that alone
  -- found no room.
  pub record StopsOwning (stop : Stop) (m : List Item) (es : List Entry) : Type 0 where
    pub part : List Item
    pub due : List Item
    pub of : IsUnderWay plan part
    pub stands : Stands g frames grants memory devices (m ++ (part ++ due))
    pub entered : entries (m ++ part) ≡ es
    pub cause : HasCauseAt frames grants (setups devices) dom gref plan m part due es stop

  -- a permit or an end was made, or was stopped
  abbrev pub Owns : (es : List Entry) (m : List Item) {A : Type 0} → Result A Stop → Type 0
  Owns es m (Ok x) =
      (here : List Item) × IsDone dom gref plan here × Stands g frames grants memory devices (m ++ here) × (entries (m ++ here) ≡ es)
  Owns es m (Err stop) = StopsOwning stop m es

  -- accesses were made, and this is left; or it was made whole, or was stopped
  abbrev pub OwnsOn : (left : Plan Owned) (es : List Entry) (m : List Item) → Result Bool Stop → Type 0
  OwnsOn left es m (Ok true) =
      (here : List Item) × Leads plan here left × IsUnfinished left
      × Stands g frames grants memory devices (m ++ here) × (entries (m ++ here) ≡ es)
  OwnsOn left es m (Ok false) =
      (here : List Item) × IsDone dom gref plan here × Stands g frames grants memory devices (m ++ here) × (entries (m ++ here) ≡ es)
  OwnsOn left es m (Err stop) = StopsOwning stop m es

-- what is entered of one step: its access, and what is told of its result
abbrev pub access_items : Option Access → List Item
access_items None = []
access_items (Some a) = front_access a ∷ []

abbrev pub news_of : GrantRef → Option Owned → Option Told
news_of gref None = None
news_of gref (Some o) = told_of gref o

-- the access, and what is told of the result, were entered; or what is told found no room
abbrev pub EntersTurn : DomId → GrantRef → Option Access → Option Owned → List Entry → List Entry → Result Bool Stop → Type 0
EntersTurn dom gref a o old new (Ok more) =
    (new ≡ old ++ (entries (access_items a) ++ entries (told_items dom (news_of gref o)))) × (more ≡ is_none o)
EntersTurn dom gref a o old new (Err stop) =
    (t : Told) × (news_of gref o ≡ Some t) × (new ≡ old ++ entries (access_items a)) × (stop ≡ JournalFull) × (length new ≡ 8388608)

-- the same of a world and its journal, from each of its histories
module _ {W : Type 0} (g : Sight W) (old : World W) (before : Book) (dom : DomId) (gref : GrantRef) (plan : Plan Owned) where
  abbrev pub OwnsFrom : World W → Book → {A : Type 0} → Result A Stop → Type 0
  OwnsFrom new behind r =
      FromEach g old before.entries (λ frames grants m.
      Owns g frames grants (memory_of new) (devices_of new) dom gref plan behind.entries m r)

-- of one access of a permit or an end, which is to go on as `left`
module _ {W : Type 0} (g : Sight W) (old : World W) (before : Book) (dom : DomId) (gref : GrantRef) (owning left : Owning) where
  abbrev pub OwnsOnFrom : World W → Book → Result Bool Stop → Type 0
  OwnsOnFrom new behind r =
      FromEach g old before.entries (λ frames grants m.
      OwnsOn g frames grants (memory_of new) (devices_of new) dom gref (left_of owning) (left_of left) behind.entries m r)

-- of a permit of a frame, and of an end
module _ {W : Type 0} (g : Sight W) (old : World W) (before : Book) (dom : DomId) (gref : GrantRef) where
  abbrev pub PermitsFrom : Frame → Mode → World W → Book → {A : Type 0} → Result A Stop → Type 0
  PermitsFrom frame mode = OwnsFrom g old before dom gref (permit_plan dom.0 gref.0 frame.0 mode)

  abbrev pub EndsFrom : World W → Book → {A : Type 0} → Result A Stop → Type 0
  EndsFrom = OwnsFrom g old before dom gref (end_plan dom.0 gref.0)
