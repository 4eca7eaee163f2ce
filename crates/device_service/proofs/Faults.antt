-- What is wrong with the nodes of several parts.
use Rattle.std.proofs.Common.{◌≡◌, List, ◌++◌, Option, Some, None, refl, ◌∙◌, ap}
use Rattle.pv_words.specs.declared.device.NodeValue.{NodeValue}
use Rattle.pv_words.specs.declared.device.Reason.{Reason}
use Rattle.xenbus_states.specs.Needs.{Need, Problem, first_fault}
use Rattle.xenbus_states.proofs.Faults.{fault_stays, faults_on}
use Rattle.device_service.specs.Nodes.{fault_in}

pub no_fault : (x : Option Problem) → fault_in x ≡ None → x ≡ None
no_fault None e = refl
no_fault (Some p) e = let wrong : ⊥ = cc in absurd wrong

some_fault : (x y : Option Problem) (why : Reason) → ((p : Problem) → x ≡ Some p → y ≡ Some p) → fault_in x ≡ Some why → fault_in y ≡ Some why
some_fault None y why h e = let wrong : ⊥ = cc in absurd wrong
some_fault (Some p) y why h e = ap fault_in (h p refl) ∙ e

pub fault_more : (nodes : List NodeValue) (xs ys : List Need) → fault_in (first_fault nodes xs) ≡ None → fault_in (first_fault nodes (xs ++ ys)) ≡ fault_in (first_fault nodes ys)
fault_more nodes xs ys e = ap fault_in (faults_on nodes xs ys (no_fault (first_fault nodes xs) e))

pub fault_here : (nodes : List NodeValue) (xs ys : List Need) (why : Reason) → fault_in (first_fault nodes xs) ≡ Some why → fault_in (first_fault nodes (xs ++ ys)) ≡ Some why
fault_here nodes xs ys why e =
    some_fault (first_fault nodes xs) (first_fault nodes (xs ++ ys)) why (λ p h. fault_stays nodes xs ys p h) e
