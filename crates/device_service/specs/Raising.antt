-- A Raise of a connected backend: what of it is left, where it begins, and which event is owed.
use Rattle.std.specs.Prelude.{◌≡◌, ◌<◌, ℕ, Bool, true, false, List, Option, Some, None}
use Rattle.pv_words.specs.Plan.{Plan, Finished, Make}
use Rattle.link_core.specs.declared.link.Put.{Put}
use Rattle.link_core.specs.Activities.{Joined}
use Rattle.device_core.specs.Order.{Order}
use Rattle.device_core.specs.Site.{Site}
use Rattle.xenbus_states.specs.Connection.{action_of}
use Rattle.device_service.specs.declared.backend.Activity.{Activity}
use Rattle.device_service.specs.declared.backend.Activity.TheVariants as activity
use Rattle.device_service.specs.declared.parts.Parts.{Parts}
use Rattle.device_service.specs.Operating.{part_owed}
use Rattle.device_service.specs.Parts.{count_of, is_open, doing_of, raise_left}
use Rattle.device_service.specs.Service.{Service}
use Rattle.device_service.specs.Work.{End, Work, after_raise, nothing, raises, with_action, with_owed}

-- an access of it is left
abbrev pub has_left : {A : Type 0} → Plan A → Bool
has_left (Finished x) = false
has_left (Make want note more) = true

-- of a Raise that is under way an access is left
abbrev pub raises_on : Activity → List ℕ → Parts → Bool
raises_on (activity.Raising part) words p = has_left (raise_left part words p)
raises_on other words p = true

module _ {X A V : Type 0} (s : Service X A V) where
  -- a Raise of these words, for this event, in the page of this part; nothing comes of one that isn't there
  abbrev pub raises_in : Work X V → Option V → ℕ → List ℕ → Option Joined → Order (Work X V) (End A V)
  raises_in w e part words None = nothing s w
  raises_in w e part words (Some j) = raises s w e part (λ _. words) j

  -- what it makes of the work, of which the part counts the event already
  abbrev pub raised_in : Work X V → ℕ → Option V → Put → Work X V
  raised_in w part e p = record (after_raise s w part e p) { parts = w.parts }

  -- no event is owed to a part that is connected: the order of work goes on with the frontend's state
  abbrev pub OwesNothing : Work X V → Type 0
  OwesNothing w = (site : Site) → with_owed s site w (s.owes w.service) ≡ with_action s site w (action_of w.connection)

  -- an event is owed to this part, and it is connected
  pub record IsOwed (x : X) (p : Parts) (part : ℕ) : Type 0 where
    pub part_is : part_owed (s.owes x) ≡ Some part
    pub there : part < count_of p
    pub connected : is_open (doing_of p) ≡ true
