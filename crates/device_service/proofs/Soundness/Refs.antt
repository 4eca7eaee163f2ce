-- The references that a Connect maps stand in the nodes that it read.
use Rattle.std.proofs.Common.{◌≡◌, ℕ, zero, suc, ◌+◌, ◌<◌, ◌≤◌, List, [], ◌∷◌, ◌++◌, Option, Some, None, refl, arith, length}
use Rattle.pv_words.specs.declared.device.NodeValue.{NodeValue}
use Rattle.xenbus_states.specs.Needs.{Need, first_fault, needs_at, needs_from}
use Rattle.xenbus_states.specs.Nodes.{node_at, needed}
use Rattle.xenbus_states.proofs.Faults.{none_or}
use Rattle.device_core.specs.Site.{Site}
use Rattle.device_service.specs.Nodes.{Kind, Ringed, Ringless, Refs, IsAskedFor, keys_of, refs_at, refs_from}

abbrev at_key : ℕ → ℕ → Need
at_key part key = record { part = part; key = key }

module _ (kind : Kind) (site : Site) (nodes : List NodeValue) where
  -- the reference of a ring, if there is one
  abbrev pub IsRingAsked : Option ℕ → Type 0
  IsRingAsked None = Unit {0}
  IsRingAsked (Some gref) = IsAskedFor kind site nodes gref

  abbrev pub AreAskedFor : Refs → Type 0
  AreAskedFor r = IsRingAsked r.ring × IsAskedFor kind site nodes r.event

  abbrev pub AllAsked : List Refs → Type 0
  AllAsked [] = Unit {0}
  AllAsked (r ∷ rs) = AreAskedFor r × AllAsked rs

  -- so many references, of the nodes
  abbrev pub AreAsked : ℕ → List Refs → Type 0
  AreAsked n refs = AllAsked refs × (length refs ≡ n)

-- the needed nodes of a part, of which none is faulty
part_asked : (kind : Kind) (site : Site) (nodes : List NodeValue) (part : ℕ) (later : List Need) → part < site.parts → first_fault nodes (needs_at (keys_of kind) part ++ later) ≡ None → AreAskedFor kind site nodes (refs_at kind nodes part) × (first_fault nodes later ≡ None)
part_asked Ringed site nodes part later small e =
    let a = none_or (at_key part 0) (needed (node_at nodes part 0)) (first_fault nodes (needs_at (1 ∷ 2 ∷ 3 ∷ []) part ++ later)) e in
    let b = none_or (at_key part 1) (needed (node_at nodes part 1)) (first_fault nodes (needs_at (2 ∷ 3 ∷ []) part ++ later)) a.1 in
    let c = none_or (at_key part 2) (needed (node_at nodes part 2)) (first_fault nodes (needs_at (3 ∷ []) part ++ later)) b.1 in
    let d = none_or (at_key part 3) (needed (node_at nodes part 3)) (first_fault nodes later) c.1 in
    (((part, 0, small, refl, a.0), (part, 2, small, refl, c.0)), d.1)
part_asked Ringless site nodes part later small e =
    let a = none_or (at_key part 0) (needed (node_at nodes part 0)) (first_fault nodes (needs_at (1 ∷ []) part ++ later)) e in
    let b = none_or (at_key part 1) (needed (node_at nodes part 1)) (first_fault nodes later) a.1 in
    ((tt, (part, 0, small, refl, a.0)), b.1)

module _ (kind : Kind) (site : Site) (nodes : List NodeValue) where
  pub all_asked : (part n : ℕ) → part + n ≤ site.parts → first_fault nodes (needs_from (keys_of kind) part n) ≡ None → AreAsked kind site nodes n (refs_from kind nodes part n)
  all_asked part zero few e = (tt, refl)
  all_asked part (suc n) few e =
      let here = part_asked kind site nodes part (needs_from (keys_of kind) (part + 1) n) (omega (arith, few)) e in
      let more = all_asked (part + 1) n (omega (arith, few)) here.1 in
      ((here.0, more.0), omega (arith, more.1))
