-- What entries a statement makes, and that a journal follows statements.
use Rattle.std.specs.Prelude.{◌≡◌, ℕ, zero, suc, ◌+◌, ◌*◌, ◌/◌, ◌%◌, ◌^◌, ◌<◌, ◌≤◌, ◌⊎◌, List, [], ◌∷◌, ◌++◌, Option, Some, None}
use Rattle.std.specs.List.{AllByRecursion}
use Rattle.pv_words.specs.declared.device.HostRefusal.{HostRefusal}
use Rattle.pv_words.specs.declared.device.Said.{Said}
use Rattle.pv_words.specs.declared.entry.Entry.TheVariants as entry
use Rattle.pv_words.specs.declared.entry.End.TheVariants.{Front}
use Rattle.pv_words.specs.declared.place.DevId.{DevId}
use Rattle.pv_words.specs.declared.place.DomId.{DomId}
use Rattle.pv_words.specs.declared.place.GrantRef.{GrantRef}
use Rattle.pv_words.specs.declared.place.Place.{Place}
use Rattle.pv_words.specs.declared.place.Place.TheVariants.{Cell}
use Rattle.pv_words.specs.declared.setup.DeviceSetup.{DeviceSetup}
use Rattle.pv_words.specs.Plan.{Plan}
use Rattle.grant_table.specs.declared.owner.Owned.{Owned}
use Rattle.grant_table.specs.Owning.{permit_plan, end_plan}
use Rattle.scenario_text.specs.declared.statement.Filling.{Filling}
use Rattle.scenario_text.specs.declared.statement.Opening.{Opening}
use Rattle.scenario_text.specs.declared.statement.Closing.{Closing}
use Rattle.scenario_text.specs.declared.statement.Statement.{Statement}
use Rattle.scenario_text.specs.declared.statement.Statement.TheVariants.{Put, Fill, Swap, Open, End, Node, Bus, Wake, Host, Back, Serve}
use Rattle.backend_core.specs.History.{IsSettledIn, due_by}
use Rattle.backend_core.specs.Marked.{Item, Entered, AreSteps, accesses_in, host_items}
use Rattle.pv_world.specs.Owner.{IsDone, IsUnderWay}
use Rattle.pv_world.specs.World.{AtMost, IsStepped, front_store, front_swap}

-- the word of this number in a domain, whose frames lie one after another
abbrev pub word_at : DomId → ℕ → Place
word_at dom n = Cell dom (record { 0 = n / 1024 }) (n % 1024)

-- the store to each word that a statement fills, by number
abbrev pub filling : Filling → ℕ → Item
filling f n = front_store (word_at f.dom (1024 * f.frame.0 + f.word + n)) ((f.value + n * f.step) % 2 ^ 32)

-- the first n of them, one after another
abbrev pub stores_of : Filling → ℕ → List Item
stores_of f zero = []
stores_of f (suc n) = stores_of f n ++ filling f n ∷ []

-- the permit of each grant that a statement opens, and the end of each that it ends, by number
abbrev pub opening : Opening → ℕ → Plan Owned
opening o n = permit_plan o.dom.0 (o.gref.0 + n) (o.frame.0 + n) o.mode

abbrev pub closing : Closing → ℕ → Plan Owned
closing e n = end_plan e.dom.0 (e.gref.0 + n)

-- the first n of them, one after another
abbrev pub EachDone : DomId → GrantRef → (ℕ → Plan Owned) → ℕ → List Item → Type 0
EachDone dom gref plans zero here = here ≡ []
EachDone dom gref plans (suc n) here =
    (front : List Item) × (last : List Item) × (here ≡ front ++ last)
    × EachDone dom gref plans n front × IsDone dom (record { 0 = gref.0 + n }) (plans n) last

-- some of them, and of the next one perhaps a part
pub record EachTo (dom : DomId) (gref : GrantRef) (plans : ℕ → Plan Owned) (count : ℕ) (here : List Item) : Type 0 where
  pub number : ℕ
  pub front : List Item
  pub last : List Item
  pub split : here ≡ front ++ last
  pub done : EachDone dom gref plans number front
  pub under_way : IsUnderWay (plans number) last
  pub within : (number < count) ⊎ ((number ≡ 0) × (last ≡ []))

-- put: one store of the word's domain. fill: one to each word, in order. swap: one exchange of it. open, end: each grant is
-- opened or ended. node: one node is set. bus: the frontend's state. wake: one wake. An event of a host: the event, and its
-- refusal, if the device refuses it. back: the device's steps up to the one with access number `count`, or fewer and a mark
-- where it was idle. serve: its steps, and a mark where it was idle. What rides on a device's last access among some items is
-- `rides`.
abbrev pub IsRow : (rides : DevId → List Item → Option Said) → Statement → List Item → Type 0
IsRow rides (Put at v) here = here ≡ front_store at v ∷ []
IsRow rides (Fill f) here = here ≡ stores_of f f.count
IsRow rides (Swap at old new) here = (seen : ℕ) × (here ≡ front_swap at old new seen ∷ [])
IsRow rides (Open o) here = EachDone o.dom o.gref (opening o) o.count here
IsRow rides (End e) here = EachDone e.dom e.gref (closing e) e.count here
IsRow rides (Node dev part key v) here = here ≡ Entered (entry.Node dev part key v) ∷ []
IsRow rides (Bus dev state) here = here ≡ Entered (entry.Bus dev Front state) ∷ []
IsRow rides (Wake dev) here = here ≡ Entered (entry.Wake dev) ∷ []
IsRow rides (Host dev e) here = (refusal : Option HostRefusal) × (here ≡ host_items dev e refusal)
IsRow rides (Back dev count) here = IsStepped (rides dev) dev (Some count) here
IsRow rides (Serve dev) here = IsStepped (rides dev) dev None here

-- a part of these, from their beginning; of a single entry nothing
abbrev pub IsPartOf : Statement → List Item → Type 0
IsPartOf (Fill f) here = (n : ℕ) × (n ≤ f.count) × (here ≡ stores_of f n)
IsPartOf (Open o) here = EachTo o.dom o.gref (opening o) o.count here
IsPartOf (End e) here = EachTo e.dom e.gref (closing e) e.count here
IsPartOf (Host dev e) here = (here ≡ []) ⊎ (here ≡ host_items dev e None)
IsPartOf (Back dev count) here = AreSteps dev.0 here × AtMost (Some count) (accesses_in here)
IsPartOf (Serve dev) here = AreSteps dev.0 here
IsPartOf other here = here ≡ []

-- the event that rides on the last access of a device, behind what came before
abbrev pub rides_in : (frames grants : ℕ → ℕ) → List DeviceSetup → (before : List Item) → DevId → List Item → Option Said
rides_in frames grants devices before dev here = due_by frames grants devices dev.0 (before ++ here)

-- no device has an event still to say, or a refusal still to tell
abbrev pub AreSettled : (frames grants : ℕ → ℕ) → List DeviceSetup → List Item → Type 0
AreSettled frames grants devices m = AllByRecursion (IsSettledIn frames grants m) devices

-- the entries of each statement, one after another, behind what came before; after each all devices are settled
abbrev pub Follows : (frames grants : ℕ → ℕ) → List DeviceSetup → List Statement → (before m : List Item) → Type 0
Follows frames grants devices [] before m = m ≡ []
Follows frames grants devices (s ∷ ss) before m =
    (here : List Item) × (rest : List Item) × (m ≡ here ++ rest) × IsRow (rides_in frames grants devices before) s here
    × AreSettled frames grants devices (before ++ here) × Follows frames grants devices ss (before ++ here) rest

-- the next statement was begun, if one is left
abbrev pub IsBegun : (rides : DevId → List Item → Option Said) → List Statement → List Item → Type 0
IsBegun rides [] part = part ≡ []
IsBegun rides (s ∷ ss) part = IsPartOf s part ⊎ IsRow rides s part

-- the entries of the statements up to some one, of that one perhaps a part
pub record FollowsTo (frames grants : ℕ → ℕ) (devices : List DeviceSetup) (ss : List Statement) (m : List Item) : Type 0 where
  pub done : List Statement
  pub left : List Statement
  pub followed : List Item
  pub part : List Item
  pub statements : ss ≡ done ++ left
  pub items : m ≡ followed ++ part
  pub follows : Follows frames grants devices done [] followed
  pub begun : IsBegun (rides_in frames grants devices followed) left part
