-- How the accesses of a plan change what is held.
use Rattle.std.specs.Prelude.{◌≡◌, ℕ, Bool, true, false, List, [], ◌∷◌, ◌++◌, Option, Some, None, nat_lt}
use Rattle.pv_words.specs.declared.access.Access.{Access}
use Rattle.pv_words.specs.declared.grant.Hold.{Hold}
use Rattle.pv_words.specs.Plan.{Plan, Finished, Make, Note, Frames, Ends, seen_by}
use Rattle.page_directory.specs.declared.walk.Walked.{Walked}
use Rattle.page_directory.specs.declared.walk.Walked.TheVariants.{Pages, Refused}

-- where the domain has the frame, its page is held by this reference, behind the others
abbrev pub Gains : Bool → (gref frame : ℕ) → (old new : List Hold) → Type 0
Gains true gref frame old new = (h : Hold) × (h.gref.0 ≡ gref) × (h.frame.0 ≡ frame) × (new ≡ old ++ h ∷ [])
Gains false gref frame old new = new ≡ old

-- this page is no longer held, and the others stay in their order
abbrev pub Loses : Hold → (old new : List Hold) → Type 0
Loses h old new = (before : List Hold) × (behind : List Hold) × (old ≡ before ++ h ∷ behind) × (new ≡ before ++ behind)

-- what an access that is for this makes of the pages that are held
abbrev pub ChangesBy : (frames : ℕ) → (old : List Hold) → Note → Access → (new : List Hold) → Type 0
ChangesBy frames old (Frames gref) a new = Gains (nat_lt (seen_by a) frames) gref (seen_by a) old new
ChangesBy frames old (Ends h) a new = Loses h old new
ChangesBy frames old other a new = new ≡ old

-- what the next access of a plan makes of them
abbrev pub Changes : {A : Type 0} → (frames : ℕ) → (old : List Hold) → Plan A → Option Access → (new : List Hold) → Type 0
Changes frames old (Finished x) access new = new ≡ old
Changes frames old (Make want note next) None new = ⊥
Changes frames old (Make want note next) (Some a) new = ChangesBy frames old note a new

-- the pages that are held after a step: those that it answers, or else those that the walk holds
abbrev pub held_then : Option Walked → List Hold → List Hold
held_then None held = held
held_then (Some (Pages ps)) held = ps
held_then (Some (Refused r)) held = held

-- the same after an access of a map, or before a step that had none
abbrev pub Stand : {A : Type 0} → (frames : ℕ) → (old : List Hold) → Plan A → Option Access → (new : List Hold) → Type 0
Stand frames old p None new = old ≡ new
Stand frames old p (Some a) new = Changes frames old p (Some a) new
