-- What is left of a map.
use Rattle.std.specs.Prelude.{◌≡◌, ℕ, Bool, true, false, Option, Result}
use Rattle.pv_words.specs.declared.access.Access.{Access}
use Rattle.pv_words.specs.declared.grant.Hold.{Hold}
use Rattle.pv_words.specs.declared.grant.Mode.{Mode}
use Rattle.pv_words.specs.declared.grant.GrantRefusal.{GrantRefusal}
use Rattle.pv_words.specs.Plan.{Plan, Finished}
use Rattle.pv_words.specs.declared.map.MapStep.{MapStep}
use Rattle.pv_words.specs.declared.map.MapStage.{MapStage}
use Rattle.pv_words.specs.declared.map.MapStage.TheVariants as stage
use Rattle.pv_words.specs.Mapping.{map_plan, begin_plan, frame_plan, undo_plan, Advances}

abbrev pub map_rest : (frames grants dom gref : ℕ) → Mode → MapStage → Plan (Result Hold GrantRefusal)
map_rest frames grants dom gref mode stage.Start = map_plan frames grants dom gref mode
map_rest frames grants dom gref mode (stage.Begin flags) = begin_plan frames dom gref mode flags
map_rest frames grants dom gref mode stage.Name = frame_plan frames dom gref mode
map_rest frames grants dom gref mode (stage.Undo frame) = undo_plan dom gref mode frame
map_rest frames grants dom gref mode (stage.Over r) = Finished r

-- what is left, where the domain has so many frames and grant entries
unfoldable pub map_left : (frames grants : ℕ) → MapStep → Plan (Result Hold GrantRefusal)
map_left frames grants m = map_rest frames grants m.dom.0 m.gref.0 m.mode m.stage

-- whose entry is mapped
unfoldable pub dom_of : MapStep → ℕ
dom_of m = m.dom.0

-- nothing is made yet of this map
abbrev pub BeginsMap : (dom gref : ℕ) → Mode → MapStep → Type 0
BeginsMap dom gref mode m = (frames grants : ℕ) → map_left frames grants m ≡ map_plan frames grants dom gref mode

-- what is left over a port, each of whose domains has so many frames and grant entries
abbrev pub map_left_by : (frames grants : ℕ → ℕ) → MapStep → Plan (Result Hold GrantRefusal)
map_left_by frames grants m = map_left (frames (dom_of m)) (grants (dom_of m)) m

-- a step over such a port advances the map: from what was left before it to what is left after it
abbrev pub AdvancesBy : (frames grants : ℕ → ℕ) → (old : MapStep) → Option Access → Option (Result Hold GrantRefusal) → (new : MapStep) → Type 0
AdvancesBy frames grants old access done new =
    Advances (map_left_by frames grants old) access done (map_left (frames (dom_of old)) (grants (dom_of old)) new)

-- by which reference
unfoldable pub gref_of : MapStep → ℕ
gref_of m = m.gref.0

-- and for what
unfoldable pub mode_of : MapStep → Mode
mode_of m = m.mode

abbrev pub is_last : MapStage → Bool
is_last stage.Start = false
is_last (stage.Begin flags) = false
is_last stage.Name = false
is_last (stage.Undo frame) = false
is_last (stage.Over r) = true

-- the map is done
unfoldable pub is_over : MapStep → Bool
is_over m = is_last m.stage
