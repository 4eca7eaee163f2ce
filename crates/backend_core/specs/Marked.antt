-- A journal with marks where a device was idle, and what one device does and hears in it.
use Rattle.std.specs.Prelude.{◌≡◌, ℕ, ◌==◌, ◌+◌, Bool, true, false, List, [], ◌∷◌, ◌++◌, Option, Some, None, if◌then◌else◌}
use Rattle.pv_words.specs.declared.access.Access.{Access}
use Rattle.pv_words.specs.declared.entry.Entry.{Entry}
use Rattle.pv_words.specs.declared.entry.Entry.TheVariants as entry
use Rattle.pv_words.specs.declared.entry.End.TheVariants as end
use Rattle.pv_words.specs.declared.place.DevId.{DevId}
use Rattle.pv_words.specs.declared.device.Said.{Said}
use Rattle.pv_words.specs.declared.device.Said.TheVariants as said
use Rattle.pv_words.specs.declared.device.HostEvent.{HostEvent}
use Rattle.pv_words.specs.declared.device.HostRefusal.{HostRefusal}
use Rattle.pv_words.specs.declared.device.NodeValue.{NodeValue}
use Rattle.pv_words.specs.Along.{after}
use Rattle.device_core.specs.Order.{Sets, Hosts, Own, Did, Spoke, Rested, Heard, Refused, Others}
use Rattle.xenbus_states.specs.Nodes.{no_nodes, with_node}

-- An entry; or a mark: the device of this number was stepped and was idle.
pub data Item : Type 0 where
  Entered : Entry → Item
  Idle : ℕ → Item

-- the journal itself
abbrev pub entries : List Item → List Entry
entries [] = []
entries (Entered e ∷ m) = e ∷ entries m
entries (Idle d ∷ m) = entries m

-- the nodes of the device of this number, after one more entry
abbrev pub node_set : ℕ → List NodeValue → Entry → List NodeValue
node_set d nodes (entry.Node dev part key v) = if dev.0 == d then with_node nodes part key v else nodes
node_set d nodes other = nodes

abbrev pub nodes_next : ℕ → List NodeValue → Item → List NodeValue
nodes_next d nodes (Entered e) = node_set d nodes e
nodes_next d nodes (Idle dev) = nodes

-- the nodes as they were set in the journal
abbrev pub nodes_in : ℕ → List Item → List NodeValue
nodes_in d m = after (nodes_next d) no_nodes m

-- What an entry tells of the device of this number, while its nodes stand so: a state that it says is entered as a state
-- of the bus, and one that its frontend sets is heard, and so is an event of its host, which it may refuse. An access of a
-- domain, or of another device, is another's.
abbrev pub told_by : ℕ → List NodeValue → Entry → List Own
told_by d nodes (entry.Back dev a) = if dev.0 == d then Did a ∷ [] else Others a ∷ []
told_by d nodes (entry.Said dev s) = if dev.0 == d then Spoke s ∷ [] else []
told_by d nodes (entry.Bus dev end.Back s) = if dev.0 == d then Spoke (said.State s) ∷ [] else []
told_by d nodes (entry.Bus dev end.Front s) = if dev.0 == d then Heard (Sets s nodes) ∷ [] else []
told_by d nodes (entry.Host dev e) = if dev.0 == d then Heard (Hosts e) ∷ [] else []
told_by d nodes (entry.Refused dev why) = if dev.0 == d then Refused why ∷ [] else []
told_by d nodes (entry.Front dom a) = Others a ∷ []
told_by d nodes other = []

abbrev pub told_in : ℕ → List NodeValue → Item → List Own
told_in d nodes (Entered e) = told_by d nodes e
told_in d nodes (Idle dev) = if dev == d then Rested ∷ [] else []

-- what the device of this number does and hears, with the accesses of others, in order
abbrev pub own_from : ℕ → List NodeValue → List Item → List Own
own_from d nodes [] = []
own_from d nodes (i ∷ m) = told_in d nodes i ++ own_from d (nodes_next d nodes i) m

abbrev pub own : ℕ → List Item → List Own
own d m = own_from d no_nodes m

-- how what a device says is entered
abbrev pub entry_of : DevId → Said → Entry
entry_of dev (said.State s) = entry.Bus dev end.Back s
entry_of dev other = entry.Said dev other

-- an event of a host, and its refusal, if it is refused
abbrev pub host_items : DevId → HostEvent → Option HostRefusal → List Item
host_items dev e None = Entered (entry.Host dev e) ∷ []
host_items dev e (Some why) = Entered (entry.Host dev e) ∷ Entered (entry.Refused dev why) ∷ []

-- the entries of one step of a device, or the mark where it was idle
abbrev pub items_of : DevId → Option Access → Option Said → List Item
items_of dev None None = Idle dev.0 ∷ []
items_of dev None (Some s) = Entered (entry_of dev s) ∷ []
items_of dev (Some a) None = Entered (entry.Back dev a) ∷ []
items_of dev (Some a) (Some s) = Entered (entry.Back dev a) ∷ Entered (entry_of dev s) ∷ []

-- an entry that a device makes by itself
abbrev pub IsStepOf : ℕ → Entry → Type 0
IsStepOf d (entry.Back dev a) = dev.0 ≡ d
IsStepOf d (entry.Said dev s) = dev.0 ≡ d
IsStepOf d (entry.Bus dev end.Back s) = dev.0 ≡ d
IsStepOf d other = ⊥

-- steps of a device, with no mark
abbrev pub AreSteps : ℕ → List Item → Type 0
AreSteps d [] = Unit {0}
AreSteps d (Entered e ∷ m) = IsStepOf d e × AreSteps d m
AreSteps d (Idle dev ∷ m) = ⊥

-- an access of the device
abbrev pub is_access : Item → Bool
is_access (Entered (entry.Back dev a)) = true
is_access other = false

-- how many accesses of devices there are
abbrev pub accesses_in : List Item → ℕ
accesses_in [] = 0
accesses_in (i ∷ m) = (if is_access i then 1 else 0) + accesses_in m

-- what a step did: it made an access (true), or said something alone (false), or was idle (None)
abbrev pub progress : Option Access → Option Said → Option Bool
progress None None = None
progress None (Some s) = Some false
progress (Some a) s = Some true
