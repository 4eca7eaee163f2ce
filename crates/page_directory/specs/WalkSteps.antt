-- What a step makes of a walk.
use Rattle.std.specs.Prelude.{◌≡◌, ℕ, List, [], ◌∷◌, ◌++◌, drop, Option}
use Rattle.pv_words.specs.declared.access.Access.{Access}
use Rattle.pv_words.specs.declared.access.Turn.{Turn}
use Rattle.pv_words.specs.declared.grant.GrantRefusal.{GrantRefusal}
use Rattle.pv_words.specs.declared.grant.Hold.{Hold}
use Rattle.pv_words.specs.declared.grant.Mode.{Mode}
use Rattle.pv_words.specs.Plan.{Plan}
use Rattle.page_directory.specs.declared.walk.Walk.{Walk}
use Rattle.page_directory.specs.declared.walk.Walked.{Walked}
use Rattle.page_directory.specs.Changes.{Changes, Stand, held_then}
use Rattle.page_directory.specs.Joins.{Leads, TurnsOrEnds}
use Rattle.page_directory.specs.WalkLeft.{walk_left, dom_of, held_by, Steps}
use Rattle.page_directory.specs.Walking.{walk_plan, undo_plan, rest_plan}

-- no access is made yet of this walk, for so many pages
abbrev pub BeginsWalk : (dom gref : ℕ) → Mode → (count : ℕ) → Walk → Type 0
BeginsWalk dom gref mode count w = (frames grants : ℕ) → walk_left frames grants w ≡ walk_plan frames grants dom gref mode count

-- what is left over a port, each of whose domains has so many frames and grant entries
abbrev pub walk_left_by : (frames grants : ℕ → ℕ) → Walk → Plan Walked
walk_left_by frames grants w = walk_left (frames (dom_of w)) (grants (dom_of w)) w

-- a step over such a port leads from what was left before it to what is left after it
abbrev pub TurnsBy : (frames grants : ℕ → ℕ) → (old : Walk) → Turn Walked → (new : Walk) → Type 0
TurnsBy frames grants old turn new =
    TurnsOrEnds (walk_left_by frames grants old) turn.access turn.done (walk_left (frames (dom_of old)) (grants (dom_of old)) new)

-- by such a step the pages that are held change as the next access of the walk changes them
abbrev pub ChangesHeldBy : (frames grants : ℕ → ℕ) → (old : Walk) → Turn Walked → (new : Walk) → Type 0
ChangesHeldBy frames grants old turn new =
    Changes (frames (dom_of old)) (held_by old) (walk_left_by frames grants old) turn.access (held_then turn.done (held_by new))

-- such a step is one of the walk
abbrev pub StepsBy : (frames grants : ℕ → ℕ) → (old : Walk) → Turn Walked → (new : Walk) → Type 0
StepsBy frames grants old turn new =
    Steps (frames (dom_of old)) (grants (dom_of old)) (dom_of old) (held_by old) (walk_left_by frames grants old) turn.access turn.done new

-- the same, however many frames and grant entries the domain has
abbrev pub StepsWherever : (old : Walk) → Turn Walked → (new : Walk) → Type 0
StepsWherever old turn new =
    (frames grants : ℕ) → Steps frames grants (dom_of old) (held_by old) (walk_left frames grants old) turn.access turn.done new

-- a step of a walk that was refused, of whose pages those from number i on are held yet and to be unmapped
abbrev pub UndoesFrom : (i : ℕ) → GrantRefusal → (old : Walk) → Turn Walked → (new : Walk) → Type 0
UndoesFrom i refusal old turn new =
    (frames grants : ℕ)
    → Steps frames grants (dom_of old) (drop i old.pages.items) (undo_plan (drop i old.pages.items) refusal) turn.access turn.done new

-- a step of any walk that this access, if there was one, brings to the refusal, with these pages held and to be unmapped
abbrev pub UndoesAfter : Option Access → GrantRefusal → (old : Walk) → Turn Walked → (new : Walk) → Type 0
UndoesAfter access refusal old turn new =
    (frames grants : ℕ) (held : List Hold) (before : Plan Walked)
    → Leads before access (undo_plan old.pages.items refusal)
    → Stand frames held before access old.pages.items
    → Steps frames grants (dom_of old) held before turn.access turn.done new

-- the walk goes on at this directory page, with this page more
abbrev pub GoesOnWith : (directory page : Hold) → (old new : Walk) → Type 0
GoesOnWith directory page old new =
    (frames grants : ℕ)
    → walk_left frames grants new ≡ rest_plan frames grants (dom_of old) old.mode old.more directory old.begins (old.pages.items ++ page ∷ [])
