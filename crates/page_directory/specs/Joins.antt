-- Plans one after another.
use Rattle.std.specs.Prelude.{◌≡◌, Option, Some, None}
use Rattle.pv_words.specs.declared.access.Access.{Access}
use Rattle.pv_words.specs.Plan.{Plan, Finished, Goes, Turns}

-- One step leads from plan to plan, also where nothing is left but the result: then it is done, without an access.
abbrev pub TurnsOrEnds : {A : Type 0} → Plan A → Option Access → Option A → Plan A → Type 0
TurnsOrEnds old None None new = ⊥
TurnsOrEnds old None (Some x) new = old ≡ Finished x
TurnsOrEnds old (Some a) done new = Turns old (Some a) done new

-- an access leads from plan to plan, or without one they are the same
abbrev pub Leads : {A : Type 0} → Plan A → Option Access → Plan A → Type 0
Leads old None new = old ≡ new
Leads old (Some a) new = Goes old a new
