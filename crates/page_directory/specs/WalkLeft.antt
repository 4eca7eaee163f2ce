-- What is left of a walk, and what it holds.
use Rattle.std.specs.Prelude.{◌≡◌, ℕ, Bool, true, false, ◌||◌, nat_lt, List, [], ◌∷◌, ◌++◌, length, drop, Option, Some, None, is_some}
use Rattle.std.specs.List.{insert}
use Rattle.std.specs.Option.{OnSome}
use Rattle.pv_words.specs.declared.place.Place.TheVariants.{Cell, Grant}
use Rattle.pv_words.specs.declared.access.Access.{Access}
use Rattle.pv_words.specs.declared.access.Access.TheVariants as access
use Rattle.pv_words.specs.declared.grant.Hold.{Hold}
use Rattle.pv_words.specs.declared.grant.Mode.{Mode}
use Rattle.pv_words.specs.Held.{Covers, CoversToWrite}
use Rattle.pv_words.specs.Plan.{Plan, Finished}
use Rattle.pv_words.specs.declared.map.MapStep.{MapStep}
use Rattle.pv_words.specs.declared.map.MapStage.{MapStage}
use Rattle.pv_words.specs.declared.map.MapStage.TheVariants as map
use Rattle.pv_words.specs.MapLeft.{map_left}
use Rattle.page_directory.specs.declared.walk.Stage.{Stage}
use Rattle.page_directory.specs.declared.walk.Stage.TheVariants as stage
use Rattle.page_directory.specs.declared.walk.Walk.{Walk}
use Rattle.page_directory.specs.declared.walk.Walked.{Walked}
use Rattle.page_directory.specs.declared.walk.Walked.TheVariants.{Pages, Refused}
use Rattle.pv_words.specs.Held.{Has}
use Rattle.page_directory.specs.Changes.{Changes, held_then}
use Rattle.pv_words.specs.Plan.{joined}
use Rattle.page_directory.specs.Joins.{TurnsOrEnds}
use Rattle.page_directory.specs.Stages.{is_last}
use Rattle.page_directory.specs.Walking.{undo_plan, with_map, entry_plan, enter_plan, leave_plan, next_plan, rest_plan}

-- what a mapped directory page leads to
abbrev pub entered : (frames grants dom : ℕ) → Mode → (more : ℕ) → List Hold → Hold → Plan Walked
entered frames grants dom mode more pages directory =
    entry_plan frames grants dom mode (rest_plan frames grants dom mode more directory (length pages)) directory (length pages) pages

abbrev pub left_in : (frames grants dom : ℕ) → Mode → MapStep → (more begins : ℕ) → List Hold → Stage → Plan Walked
left_in frames grants dom mode m more begins pages stage.Directory =
    joined (map_left frames grants m) (with_map pages (entered frames grants dom mode more pages))
left_in frames grants dom mode m more begins pages (stage.Reference d) =
    entry_plan frames grants dom mode (rest_plan frames grants dom mode more d begins) d begins pages
left_in frames grants dom mode m more begins pages (stage.Page d) =
    joined (map_left frames grants m) (with_map (insert pages begins d) (λ h. rest_plan frames grants dom mode more d begins (pages ++ h ∷ [])))
left_in frames grants dom mode m more begins pages (stage.Next d) =
    next_plan d begins pages (λ gref. enter_plan frames grants dom mode (rest_plan frames grants dom mode more) gref pages)
left_in frames grants dom mode m more begins pages (stage.Further d gref) =
    leave_plan d (enter_plan frames grants dom mode (rest_plan frames grants dom mode more) gref.0 pages)
left_in frames grants dom mode m more begins pages (stage.Leave d) = leave_plan d (Finished (Pages pages))
left_in frames grants dom mode m more begins pages (stage.Undo i refusal) = undo_plan (drop i pages) refusal
left_in frames grants dom mode m more begins pages stage.Over = Finished (Pages pages)

-- what is left, where the domain has so many frames and grant entries
unfoldable pub walk_left : (frames grants : ℕ) → Walk → Plan Walked
walk_left frames grants w = left_in frames grants w.dom.0 w.mode w.map w.more w.begins w.pages.items w.stage

-- whose directory is walked
unfoldable pub dom_of : Walk → ℕ
dom_of w = w.dom.0

-- how many pages it comes to, unless it is refused
unfoldable pub count_of : Walk → ℕ
count_of w = w.count

-- the walk is done
unfoldable pub is_over : Walk → Bool
is_over w = is_last w.stage

-- a map has made an access, and isn't done
abbrev pub is_begun_at : MapStage → Bool
is_begun_at map.Start = false
is_begun_at (map.Begin flags) = true
is_begun_at map.Name = true
is_begun_at (map.Undo frame) = true
is_begun_at (map.Over r) = false

-- a walk has made an access, and isn't done
abbrev pub is_begun : MapStep → List Hold → Stage → Bool
is_begun m pages stage.Directory = is_begun_at m.stage || nat_lt 0 (length pages)
is_begun m pages (stage.Reference d) = true
is_begun m pages (stage.Page d) = true
is_begun m pages (stage.Next d) = true
is_begun m pages (stage.Further d gref) = true
is_begun m pages (stage.Leave d) = true
is_begun m pages (stage.Undo i refusal) = true
is_begun m pages stage.Over = false

-- the pages that are held, in the order of mapping
abbrev pub held_in : (begins : ℕ) → List Hold → Stage → List Hold
held_in begins pages stage.Directory = pages
held_in begins pages (stage.Reference d) = insert pages begins d
held_in begins pages (stage.Page d) = insert pages begins d
held_in begins pages (stage.Next d) = insert pages begins d
held_in begins pages (stage.Further d gref) = insert pages begins d
held_in begins pages (stage.Leave d) = insert pages begins d
held_in begins pages (stage.Undo i refusal) = drop i pages
held_in begins pages stage.Over = pages

unfoldable pub held_by : Walk → List Hold
held_by w = held_in w.begins w.pages.items w.stage

-- the pages are there from an access on, never without one
abbrev pub PagesByAccess : Option Access → Option Walked → Type 0
PagesByAccess (Some a) last = Unit {0}
PagesByAccess None None = Unit {0}
PagesByAccess None (Some (Pages ps)) = ⊥
PagesByAccess None (Some (Refused r)) = Unit {0}

-- where a walk ends with its pages, by an access, they are so many
abbrev pub Counts : ℕ → Option Walked → Option Access → Type 0
Counts n None access = Unit {0}
Counts n (Some (Refused r)) access = Unit {0}
Counts n (Some (Pages ps)) None = Unit {0}
Counts n (Some (Pages ps)) (Some a) = length ps ≡ n

-- an access to a cell lies in the frame of one of these pages, one that may write in one that is held for writing
abbrev pub LiesIn : List Hold → Access → Type 0
LiesIn held (access.Load (Cell d f w) v) = Has (Covers d.0 f.0) held
LiesIn held (access.Store (Cell d f w) v) = Has (CoversToWrite d.0 f.0) held
LiesIn held (access.Cas (Cell d f w) old new seen) = Has (CoversToWrite d.0 f.0) held
LiesIn held (access.Clear (Cell d f w) mask seen) = Has (CoversToWrite d.0 f.0) held
LiesIn held (access.Load (Grant d g h) v) = Unit {0}
LiesIn held (access.Store (Grant d g h) v) = Unit {0}
LiesIn held (access.Cas (Grant d g h) old new seen) = Unit {0}
LiesIn held (access.Clear (Grant d g h) mask seen) = Unit {0}

-- a step of a walk that held these pages, and of which this was left
pub record Steps (frames grants home : ℕ) (held : List Hold) (old : Plan Walked) (access : Option Access) (last : Option Walked) (new : Walk) : Type 0 where
  pub moves : TurnsOrEnds old access last (walk_left frames grants new)
  pub dom : dom_of new ≡ home
  pub over : is_over new ≡ is_some last
  pub holds : Changes frames held old access (held_then last (held_by new))
  pub rests : OnSome last (held_by new ≡ [])
