-- What a sound device's service is at, and what that says of the request in hand.
use Rattle.std.specs.Prelude.{◌≡◌, ℕ, ◌<◌, ◌==◌, Bool, true, false, List, [], length, Option, Some, None}
use Rattle.circular_buffer.specs.Buffer.{Buffer}
use Rattle.pv_words.specs.declared.grant.Hold.{Hold}
use Rattle.pv_words.specs.Plan.{Plan, Finished, mapped}
use Rattle.snd_wire.specs.declared.types.Asked.{Asked}
use Rattle.snd_wire.specs.declared.types.Asked.TheVariants as asked
use Rattle.pcm_stream.specs.Queue.{queue_for}
use Rattle.page_directory.specs.Going.{Goes}
use Rattle.page_directory.specs.WalkLeft as walk
use Rattle.page_directory.specs.WalkLeft.{walk_left, held_by}
use Rattle.link_core.specs.Activities.{unmaps}
use Rattle.device_core.specs.Site.{Site}
use Rattle.sound_backend.specs.declared.course.Demand.{Demand}
use Rattle.page_directory.specs.declared.progress.Progress.{Progress}
use Rattle.page_directory.specs.declared.progress.Progress.TheVariants as progress
use Rattle.sound_backend.specs.declared.course.Course.{Course}
use Rattle.sound_backend.specs.declared.course.Course.TheVariants.{Rests, Walks, Frees}
use Rattle.sound_backend.specs.Held.{list_at}
use Rattle.sound_backend.specs.Service.{Ending, Listed, Freed}
use Rattle.sound_backend.specs.Stock.{Stock, bared}

-- an activity is under way
abbrev pub is_under_way : Course → Bool
is_under_way Rests = false
is_under_way (Walks w) = true
is_under_way (Frees part) = true

-- a walk of this domain's page directory, or none
abbrev pub is_walk_of : ℕ → Course → Bool
is_walk_of dom Rests = true
is_walk_of dom (Walks w) = walk.dom_of w == dom
is_walk_of dom (Frees part) = true

-- the pages that a walk holds
abbrev pub pages_walked : Course → List Hold
pages_walked Rests = []
pages_walked (Walks w) = held_by w
pages_walked (Frees part) = []

-- the streams and their pages, less those that a Release gives up
abbrev pub stock_at : Course → Stock → Stock
stock_at Rests s = s
stock_at (Walks w) s = s
stock_at (Frees part) s = bared part s

-- what is left of a walk, and of a Release
abbrev pub left_at : Site → Course → Stock → Plan Ending
left_at site Rests s = Finished Freed
left_at site (Walks w) s = mapped Listed (walk_left site.frames site.grants w)
left_at site (Frees part) s = unmaps (list_at s.held part) (Finished Freed)

-- an OPEN that passed its checks, with a queue for its stream
abbrev pub Opens : Asked → Option (Buffer ℕ) → Type 0
Opens (asked.Open p) queue = queue ≡ Some (queue_for p)
Opens asks queue = ⊥

-- how far a request has come
abbrev pub ComesTo : Progress → Asked → Option (Buffer ℕ) → Type 0
ComesTo progress.Mapped asks queue = Opens asks queue
ComesTo progress.Released asks queue = asks ≡ asked.Close
ComesTo p asks queue = Unit {0}

abbrev pub InHand : Option Demand → Progress → Option (Buffer ℕ) → Type 0
InHand None p queue = Unit {0}
InHand (Some d) p queue = ComesTo p d.request.asked queue

-- the request in hand is an OPEN that has its queue; it is a CLOSE by this part
abbrev pub HasOpen : Option Demand → Option (Buffer ℕ) → Type 0
HasOpen None queue = ⊥
HasOpen (Some d) queue = Opens d.request.asked queue

abbrev pub HasClose : Option Demand → ℕ → Type 0
HasClose None part = ⊥
HasClose (Some d) part = (d.part ≡ part) × (d.request.asked ≡ asked.Close)

-- some page of the stream of a CLOSE is held
pub record Releases (part : ℕ) (hand : Option Demand) (held : List (List Hold)) : Type 0 where
  pub some : 0 < length (list_at held part)
  pub closes : HasClose hand part

-- what is always true of the request in hand
abbrev pub Stands : Course → Option Demand → Progress → List (List Hold) → Option (Buffer ℕ) → Type 0
Stands Rests hand p held queue = InHand hand p queue
Stands (Walks w) hand p held queue = (p ≡ progress.Decided) × HasOpen hand queue × Goes w
Stands (Frees part) hand p held queue = (p ≡ progress.Decided) × Releases part hand held
