-- In a lawful journal a device's accesses find what stands there, as the device's own entries and the accesses of others tell it.
use Rattle.std.proofs.Common.{ℕ, ◌==◌, Bool, true, false, cond, List, [], ◌∷◌, ◌++◌}
use Rattle.pv_words.specs.declared.access.Access.{Access}
use Rattle.pv_words.specs.declared.device.NodeValue.{NodeValue}
use Rattle.pv_words.specs.declared.device.Said.{Said}
use Rattle.pv_words.specs.declared.device.Said.TheVariants as said
use Rattle.pv_words.specs.declared.device.HostRefusal.{HostRefusal}
use Rattle.pv_words.specs.declared.entry.Entry.TheVariants as entry
use Rattle.pv_words.specs.declared.entry.End.TheVariants as end
use Rattle.pv_words.specs.Along.{Along}
use Rattle.pv_words.specs.Memory.{Memory, Finds, remembered, written}
use Rattle.device_core.specs.Machine.{AreTrueTo}
use Rattle.device_core.specs.Names.{Words}
use Rattle.device_core.specs.Order.{News, Sets, Hosts, Own, Did, Spoke, Rested, Heard, Refused, Others}
use Rattle.backend_core.specs.Marked.{Item, Entered, Idle, entries, node_set, own_from}
use Rattle.backend_core.proofs.Histories.{IsTrueNext}

-- what is said, heard, refused, or left at rest is no access
spoken_true : (b : Bool) (memory : Memory) (t : Said) (rest : List Own) → AreTrueTo (Words memory) rest → AreTrueTo (Words memory) (cond b (Spoke t ∷ []) [] ++ rest)
spoken_true true memory t rest h = (tt, h)
spoken_true false memory t rest h = h

heard_true : (b : Bool) (memory : Memory) (news : News) (rest : List Own) → AreTrueTo (Words memory) rest → AreTrueTo (Words memory) (cond b (Heard news ∷ []) [] ++ rest)
heard_true true memory news rest h = (tt, h)
heard_true false memory news rest h = h

refused_true : (b : Bool) (memory : Memory) (why : HostRefusal) (rest : List Own) → AreTrueTo (Words memory) rest → AreTrueTo (Words memory) (cond b (Refused why ∷ []) [] ++ rest)
refused_true true memory why rest h = (tt, h)
refused_true false memory why rest h = h

rested_true : (b : Bool) (memory : Memory) (rest : List Own) → AreTrueTo (Words memory) rest → AreTrueTo (Words memory) (cond b (Rested ∷ []) [] ++ rest)
rested_true true memory rest h = (tt, h)
rested_true false memory rest h = h

made_true : (b : Bool) (memory : Memory) (a : Access) (rest : List Own) → Finds memory a → AreTrueTo (Words (written memory a)) rest → AreTrueTo (Words memory) (cond b (Did a ∷ []) (Others a ∷ []) ++ rest)
made_true true memory a rest f h = (f, h)
made_true false memory a rest f h = (tt, h)

module _ (frames grants : ℕ → ℕ) (d : ℕ) where
  pub own_true : (nodes : List NodeValue) (m : List Item) (memory : Memory) → Along remembered (IsTrueNext frames grants) memory (entries m) → AreTrueTo (Words memory) (own_from d nodes m)
  own_true nodes [] memory h = tt
  own_true nodes (Idle k ∷ m) memory h = rested_true (k == d) memory (own_from d nodes m) (own_true nodes m memory h)
  own_true nodes (Entered (entry.Back dev a) ∷ m) memory h = made_true (dev.0 == d) memory a (own_from d nodes m) h.0.1 (own_true nodes m (written memory a) h.1)
  own_true nodes (Entered (entry.Said dev s) ∷ m) memory h = spoken_true (dev.0 == d) memory s (own_from d nodes m) (own_true nodes m memory h.1)
  own_true nodes (Entered (entry.Bus dev end.Back s) ∷ m) memory h = spoken_true (dev.0 == d) memory (said.State s) (own_from d nodes m) (own_true nodes m memory h.1)
  own_true nodes (Entered (entry.Bus dev end.Front s) ∷ m) memory h = heard_true (dev.0 == d) memory (Sets s nodes) (own_from d nodes m) (own_true nodes m memory h.1)
  own_true nodes (Entered (entry.Host dev e) ∷ m) memory h = heard_true (dev.0 == d) memory (Hosts e) (own_from d nodes m) (own_true nodes m memory h.1)
  own_true nodes (Entered (entry.Refused dev why) ∷ m) memory h = refused_true (dev.0 == d) memory why (own_from d nodes m) (own_true nodes m memory h.1)
  own_true nodes (Entered (entry.Front dom a) ∷ m) memory h = (tt, own_true nodes m (written memory a) h.1)
  own_true nodes (Entered (entry.Wake dev) ∷ m) memory h = own_true nodes m memory h.1
  own_true nodes (Entered (entry.Node dev part key v) ∷ m) memory h = own_true (node_set d nodes (entry.Node dev part key v)) m memory h.1
  own_true nodes (Entered (entry.Told dom t) ∷ m) memory h = own_true nodes m memory h.1
