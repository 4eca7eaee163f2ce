-- The first fault among needed nodes, and causes that stay.
use Rattle.std.proofs.Common.{◌≡◌, ℕ, List, [], ◌∷◌, ◌++◌, Option, Some, None, Result, Ok, Err, refl, sym, ◌∙◌, ap, subst}
use Rattle.std.specs.List.{AllByRecursion}
use Rattle.pv_words.specs.declared.device.NodeFault.{NodeFault}
use Rattle.pv_words.specs.declared.device.NodeValue.{NodeValue}
use Rattle.pv_words.specs.declared.device.Reason.{Reason}
use Rattle.pv_words.specs.declared.device.Reason.TheVariants as reason
use Rattle.pv_words.specs.declared.device.State.{State}
use Rattle.xenbus_states.specs.Bus.{Bus, CausesStay, IsCause, bus_heard, no_others}
use Rattle.xenbus_states.specs.Connection.{first_ending}
use Rattle.xenbus_states.specs.Needs.{HoldsNumber, IsFirstFault, Need, Problem, fault_or, first_fault}
use Rattle.xenbus_states.specs.Nodes.{node_at, needed, number_in}

-- no fault of the first: it holds a number, and the others have none
pub none_or : (need : Need) (r : Result ℕ NodeFault) (later : Option Problem) → fault_or need r later ≡ None → (r ≡ Ok (number_in r)) × (later ≡ None)
none_or need (Err fault) later e = let wrong : ⊥ = cc in absurd wrong
none_or need (Ok n) later e = (refl, e)

module _ (nodes : List NodeValue) where
  pub all_numbers : (needs : List Need) → first_fault nodes needs ≡ None → AllByRecursion (HoldsNumber nodes) needs
  all_numbers [] e = tt
  all_numbers (n ∷ ns) e =
      let both = none_or n (needed (node_at nodes n.part n.key)) (first_fault nodes ns) e in
      (both.0, all_numbers ns both.1)

  pub none_among : (needs : List Need) → AllByRecursion (HoldsNumber nodes) needs → first_fault nodes needs ≡ None
  none_among [] all = refl
  none_among (n ∷ ns) all = ap (λ r. fault_or n r (first_fault nodes ns)) all.0 ∙ none_among ns all.1

  -- the first of them, or one of the others
  module _ (n : Need) (ns : List Need) (p : Problem) (rest : first_fault nodes ns ≡ Some p → IsFirstFault nodes ns p) where
    first_or : (r : Result ℕ NodeFault) → needed (node_at nodes n.part n.key) ≡ r → fault_or n r (first_fault nodes ns) ≡ Some p → IsFirstFault nodes (n ∷ ns) p
    first_or (Err fault) is e =
        let same : ◌≡◌ {A = Problem} (record { part = n.part; key = n.key; fault = fault }) p = cc in
        subst (λ q. IsFirstFault nodes (n ∷ ns) q) same (record { before = []; later = ns; stands = refl; numbers = tt; faulty = is })
    first_or (Ok x) is e =
        let more = rest e in
        record {
          before = n ∷ more.before;
          later = more.later;
          stands = ap (λ xs. n ∷ xs) more.stands;
          numbers = (is ∙ ap (λ r. Ok (number_in r)) (sym is), more.numbers);
          faulty = more.faulty;
        }

  pub first_is : (needs : List Need) (p : Problem) → first_fault nodes needs ≡ Some p → IsFirstFault nodes needs p
  first_is [] p e = let wrong : ⊥ = cc in absurd wrong
  first_is (n ∷ ns) p e = first_or n ns p (λ h. first_is ns p h) (needed (node_at nodes n.part n.key)) refl e

  -- behind needed nodes without a fault
  pub faults_on : (xs ys : List Need) → first_fault nodes xs ≡ None → first_fault nodes (xs ++ ys) ≡ first_fault nodes ys
  faults_on [] ys e = refl
  faults_on (x ∷ xs) ys e =
      let both = none_or x (needed (node_at nodes x.part x.key)) (first_fault nodes xs) e in
      ap (λ r. fault_or x r (first_fault nodes (xs ++ ys))) both.0 ∙ faults_on xs ys both.1

  stays_or : (need : Need) (r : Result ℕ NodeFault) (a b : Option Problem) (p : Problem) → (a ≡ Some p → b ≡ Some p) → fault_or need r a ≡ Some p → fault_or need r b ≡ Some p
  stays_or need (Err fault) a b p h e = e
  stays_or need (Ok n) a b p h e = h e

  -- a fault stays the first, whatever comes behind it
  pub fault_stays : (xs ys : List Need) (p : Problem) → first_fault nodes xs ≡ Some p → first_fault nodes (xs ++ ys) ≡ Some p
  fault_stays [] ys p e = let wrong : ⊥ = cc in absurd wrong
  fault_stays (x ∷ xs) ys p e =
      stays_or x (needed (node_at nodes x.part x.key)) (first_fault nodes xs) (first_fault nodes (xs ++ ys)) p (λ h. fault_stays xs ys p h) e

-- a cause stays one, whatever the frontend sets, where the device's others do
pub cause_heard : (needs : List Need) (p q : Reason → Type 0) (bus : Bus) (front : State) (seen : List NodeValue) → ((why : Reason) → p why → q why) → (why : Reason) → IsCause needs p bus why → IsCause needs q (bus_heard bus front seen) why
cause_heard needs p q bus front seen h (reason.Asked s) c = (c.0, ap (λ e. first_ending e front) c.1)
cause_heard needs p q bus front seen h (reason.Node part key fault) c = c
cause_heard needs p q bus front seen h (reason.Overrun a b) c = h (reason.Overrun a b) c
cause_heard needs p q bus front seen h (reason.BadCons a b) c = h (reason.BadCons a b) c
cause_heard needs p q bus front seen h (reason.Spent a) c = h (reason.Spent a) c
cause_heard needs p q bus front seen h (reason.Refused why) c = h (reason.Refused why) c

pub causes_stay : CausesStay
causes_stay needs bus front nodes why c = cause_heard needs no_others no_others bus front nodes (λ y h. h) why c
