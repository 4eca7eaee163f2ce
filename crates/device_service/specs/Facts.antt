-- What is always true of a backend's activity, and of the events that wait, are facts.
use Rattle.std.proofs.Common.{ℕ, Bool, List, [], ◌∷◌, Option}
use Rattle.std.proofs.Props.{props}
use Rattle.device_service.specs.declared.backend.Activity.{Activity}
use Rattle.device_service.specs.declared.backend.Activity.TheVariants as activity
use Rattle.device_service.specs.declared.parts.Doing.{Doing}
use Rattle.device_service.specs.declared.round.Hand.{Hand}
use Rattle.device_service.specs.Activity.{StandsAs}
use Rattle.device_service.specs.Waits.{WaitAt}

pub stands_prop : (a : Activity) (opened : Bool) (d : Doing) (at : ℕ) (hand : Option Hand) → IsProp (StandsAs a opened d at hand)
stands_prop activity.Between opened d at hand = hlevel props
stands_prop activity.Connecting opened d at hand = hlevel props
stands_prop (activity.Leaving why) opened d at hand = hlevel props
stands_prop activity.Taking opened d at hand = hlevel props
stands_prop activity.Working opened d at hand = hlevel props
stands_prop activity.Serving opened d at hand = hlevel props
stands_prop activity.Answering opened d at hand = hlevel props
stands_prop (activity.Raising part) opened d at hand = hlevel props
stands_prop activity.Sleeping opened d at hand = hlevel props

pub wait_prop : {V : Type 0} (at : V → ℕ) (n : ℕ) (es : List V) → IsProp (WaitAt at n es)
wait_prop at n [] = hlevel props
wait_prop at n (e ∷ es) = let later = wait_prop at n es in hlevel (props, later)
