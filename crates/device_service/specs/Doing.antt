-- Which activity the parts of a device are in, and what that says of their links.
use Rattle.std.specs.Prelude.{◌≡◌, ◌≢◌, ℕ, ◌+◌, ◌<◌, ◌≤◌, Bool, true, false, List, [], ◌∷◌, ◌++◌, Some, length, slice_get}
use Rattle.pv_words.specs.declared.grant.Hold.{Hold}
use Rattle.link_core.specs.declared.link.Link.{Link}
use Rattle.link_core.specs.Activities as activities
use Rattle.link_core.specs.Link.{connects, dom_of, held_of, idle, joined_of, rings}
use Rattle.device_service.specs.declared.parts.Doing.{Doing}
use Rattle.device_service.specs.declared.parts.Doing.TheVariants as doing

-- the pages that these links hold, in order of the parts
abbrev pub all_held : List Link → List Hold
all_held [] = []
all_held (l ∷ ls) = held_of l ++ all_held ls

-- the parts are joined
abbrev pub is_open : Doing → Bool
is_open doing.Bare = false
is_open (doing.Connecting part) = false
is_open (doing.Undoing why) = false
is_open doing.Open = true
is_open (doing.Taking part) = true
is_open (doing.Answering part) = true
is_open (doing.Raising part) = true
is_open (doing.Sleeping part) = true
is_open doing.Dropping = false

-- of so many links, those before this one are joined
abbrev pub met_in : Doing → ℕ → ℕ
met_in doing.Bare n = 0
met_in (doing.Connecting part) n = part
met_in (doing.Undoing why) n = 0
met_in doing.Open n = n
met_in (doing.Taking part) n = n
met_in (doing.Answering part) n = n
met_in (doing.Raising part) n = n
met_in (doing.Sleeping part) n = n
met_in doing.Dropping n = 0

-- those from this one on hold no page
abbrev pub bare_in : Doing → ℕ → ℕ
bare_in doing.Bare n = 0
bare_in (doing.Connecting part) n = part + 1
bare_in other n = n

-- all but this one rest
abbrev pub busy_in : Doing → ℕ → ℕ
busy_in (doing.Connecting part) n = part
busy_in (doing.Taking part) n = part
busy_in (doing.Answering part) n = part
busy_in (doing.Raising part) n = part
busy_in (doing.Sleeping part) n = part
busy_in other n = n

-- the part that the activity has come to
abbrev pub part_in : Doing → ℕ
part_in (doing.Connecting part) = part
part_in (doing.Taking part) = part
part_in (doing.Answering part) = part
part_in (doing.Raising part) = part
part_in (doing.Sleeping part) = part
part_in other = 0

abbrev pub is_mapping : Doing → Bool
is_mapping (doing.Connecting part) = true
is_mapping other = false

-- the activity is one of a ring
abbrev pub uses_ring : Doing → Bool
uses_ring (doing.Taking part) = true
uses_ring (doing.Answering part) = true
uses_ring (doing.Sleeping part) = true
uses_ring other = false

-- a joined link holds just the pages that it is joined to, both if it has a ring
pub record IsMet (ringed : Bool) (l : Link) : Type 0 where
  pub holds : held_of l ≡ activities.pages_of (joined_of l)
  pub both : ringed ≡ true → length (held_of l) ≡ 2

-- the link of part i: those before `met` are joined, those from `bare` on hold none, and all but `busy` rest
pub record Fits (dom : ℕ) (ringed : Bool) (met bare busy : ℕ) (mapping : Bool) (i : ℕ) (l : Link) : Type 0 where
  pub dom_is : dom_of l ≡ dom
  pub meets : i < met → IsMet ringed l
  pub none : bare ≤ i → length (held_of l) ≡ 0
  pub rests : i ≢ busy → idle l ≡ true
  pub ring : mapping ≡ true → ringed ≡ true → rings l ≡ true
  -- one that a Connect has yet to begin on rests, and holds none
  pub fresh : mapping ≡ true → met ≤ i → connects l ≡ false → (idle l ≡ true) × (length (held_of l) ≡ 0)

-- of all parts
pub record Whole (dom : ℕ) (ringed : Bool) (doing : Doing) (links : List Link) : Type 0 where
  pub some : 0 < length links
  pub few : length links ≤ 4
  pub come_to : part_in doing < length links
  pub fits : (i : ℕ) (l : Link) → slice_get links i ≡ Some l → Fits dom ringed (met_in doing (length links)) (bare_in doing (length links)) (busy_in doing (length links)) (is_mapping doing) i l
  pub rung : uses_ring doing ≡ true → ringed ≡ true

-- joined parts rest after a step of this activity, if it is over
abbrev pub rest_if : Bool → Doing → Doing
rest_if true d = doing.Open
rest_if false d = d
