-- The nodes that a device needs, and the references that they give, by the kind of the device (the nodes of displif.h, sndif.h and
-- kbdif.h).
use Rattle.std.specs.Prelude.{◌≡◌, ℕ, zero, suc, ◌+◌, ◌<◌, ◌==◌, ◌||◌, Bool, true, false, List, [], ◌∷◌, Option, Some, None, Ok}
use Rattle.pv_words.specs.declared.device.NodeValue.{NodeValue}
use Rattle.pv_words.specs.declared.device.Reason.{Reason}
use Rattle.pv_words.specs.declared.device.Reason.TheVariants as reason
use Rattle.xenbus_states.specs.Needs.{Need, Problem, needs_from, page_keys, ring_keys}
use Rattle.xenbus_states.specs.Nodes.{node_at, needed, number_at}
use Rattle.device_core.specs.Site.{Site}

-- each part has a request ring's page and an event page, or an event page alone
pub data Kind : Type 0 where
  Ringed : Kind
  Ringless : Kind

-- with a ring, or without
abbrev pub kind_in : Bool → Kind
kind_in true = Ringed
kind_in false = Ringless

abbrev pub keys_of : Kind → List ℕ
keys_of Ringed = ring_keys
keys_of Ringless = page_keys

-- the nodes that a device of this kind needs: the keys of each of its parts
abbrev pub needs_of : Kind → Site → List Need
needs_of kind site = needs_from (keys_of kind) 0 site.parts

-- why nodes are refused
abbrev pub fault_in : Option Problem → Option Reason
fault_in None = None
fault_in (Some problem) = Some (reason.Node problem.part problem.key problem.fault)

-- the references of a part's ring page, if it has a ring, and of its event page
pub record Refs : Type 0 where
  pub ring : Option ℕ
  pub event : ℕ

-- They stand in the nodes of keys 0 and 2, or in that of key 0 alone. The channels must be there, and aren't used further.
abbrev pub refs_at : Kind → List NodeValue → ℕ → Refs
refs_at Ringed nodes part = record { ring = Some (number_at nodes part 0); event = number_at nodes part 2 }
refs_at Ringless nodes part = record { ring = None; event = number_at nodes part 0 }

-- those of n parts from this one on
abbrev pub refs_from : Kind → List NodeValue → ℕ → ℕ → List Refs
refs_from kind nodes part zero = []
refs_from kind nodes part (suc n) = refs_at kind nodes part ∷ refs_from kind nodes (part + 1) n

-- the node of this key holds the reference of a page
abbrev pub names_page : Kind → ℕ → Bool
names_page Ringed key = (key == 0) || (key == 2)
names_page Ringless key = key == 0

-- this reference stands in a node that was read
abbrev pub IsAskedFor : Kind → Site → List NodeValue → ℕ → Type 0
IsAskedFor kind site nodes gref =
    (part : ℕ) × (key : ℕ) × (part < site.parts) × (names_page kind key ≡ true) × (needed (node_at nodes part key) ≡ Ok gref)
