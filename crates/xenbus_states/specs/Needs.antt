-- The nodes that a device needs before it connects, and the first fault among them. The keys and their order are this project's
-- own choice.
use Rattle.std.specs.Prelude.{◌≡◌, ℕ, zero, suc, ◌+◌, List, [], ◌∷◌, ◌++◌, Option, Some, None, Result, Ok, Err}
use Rattle.std.specs.List.{AllByRecursion}
use Rattle.pv_words.specs.declared.device.NodeFault.{NodeFault}
use Rattle.pv_words.specs.declared.device.NodeValue.{NodeValue}
use Rattle.xenbus_states.specs.Nodes.{node_at, needed, number_at}

-- The keys that each part of a device needs, in this order. Of one whose parts have a ring and an event page, a display or a
-- sound device: the ring's reference (0), the requests' event channel (1), the event page's reference (2), the events' event
-- channel (3).
abbrev pub ring_keys : List ℕ
ring_keys = 0 ∷ 1 ∷ 2 ∷ 3 ∷ []

-- of one that has a single page, an input device: the page's reference (0), the event channel (1)
abbrev pub page_keys : List ℕ
page_keys = 0 ∷ 1 ∷ []

-- a node that is needed: its part and its key
pub record Need : Type 0 where
  pub part : ℕ
  pub key : ℕ

-- these keys of a part
abbrev pub needs_at : List ℕ → ℕ → List Need
needs_at [] part = []
needs_at (key ∷ keys) part = record { part = part; key = key } ∷ needs_at keys part

-- these keys of n parts from this one on, part by part
abbrev pub needs_from : List ℕ → ℕ → ℕ → List Need
needs_from keys part zero = []
needs_from keys part (suc n) = needs_at keys part ++ needs_from keys (part + 1) n

-- a node that is missing, or holds no number: its part, its key, and what is wrong with it
pub record Problem : Type 0 where
  pub part : ℕ
  pub key : ℕ
  pub fault : NodeFault

abbrev pub fault_or : Need → Result ℕ NodeFault → Option Problem → Option Problem
fault_or need (Err fault) later = Some (record { part = need.part; key = need.key; fault = fault })
fault_or need (Ok number) later = later

-- what is wrong with the needed nodes, the first of them
abbrev pub first_fault : List NodeValue → List Need → Option Problem
first_fault nodes [] = None
first_fault nodes (need ∷ later) = fault_or need (needed (node_at nodes need.part need.key)) (first_fault nodes later)

-- a needed node holds a number
abbrev pub HoldsNumber : List NodeValue → Need → Type 0
HoldsNumber nodes need = needed (node_at nodes need.part need.key) ≡ Ok (number_at nodes need.part need.key)

-- this node is needed and faulty, and each needed one before it holds a number
pub record IsFirstFault (nodes : List NodeValue) (needs : List Need) (problem : Problem) : Type 0 where
  pub before : List Need
  pub later : List Need
  pub stands : needs ≡ before ++ (record { part = problem.part; key = problem.key }) ∷ later
  pub numbers : AllByRecursion (HoldsNumber nodes) before
  pub faulty : needed (node_at nodes problem.part problem.key) ≡ Err problem.fault

-- the fault that is found is the first
abbrev pub FindsFirstFault : Type 0
FindsFirstFault =
    (nodes : List NodeValue) (needs : List Need) (problem : Problem)
    → first_fault nodes needs ≡ Some problem → IsFirstFault nodes needs problem

-- and none is found exactly where all needed nodes hold numbers
abbrev pub FindsNoFault : Type 0
FindsNoFault =
    (nodes : List NodeValue) (needs : List Need)
    → (first_fault nodes needs ≡ None → AllByRecursion (HoldsNumber nodes) needs)
    × (AllByRecursion (HoldsNumber nodes) needs → first_fault nodes needs ≡ None)
