-- A walk of which an access is still to be made, and that this is a fact.
use Rattle.std.specs.Prelude.{◌≡◌, ℕ, false}
use Rattle.std.proofs.Props.{props}
use Rattle.pv_words.specs.Plan.{Plan, Finished, Make, IsUnfinished}
use Rattle.page_directory.specs.declared.walk.Walk.{Walk}
use Rattle.page_directory.specs.WalkLeft.{is_over, walk_left}

pub record Goes (w : Walk) : Type 0 where
  pub going : is_over w ≡ false
  pub further : (frames grants : ℕ) → IsUnfinished (walk_left frames grants w)

further_prop : {A : Type 0} (p : Plan A) → IsProp (IsUnfinished p)
further_prop (Finished x) = hlevel props
further_prop (Make want note more) = hlevel props

pub goes_prop : (w : Walk) → IsProp (Goes w)
goes_prop w = hlevel (props, further_prop)
