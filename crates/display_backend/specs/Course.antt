-- What a display's service is at, and what that says of the request in hand.
use Rattle.std.specs.Prelude.{◌≡◌, ℕ, ◌<◌, ◌==◌, Bool, true, false, List, [], length, Option, Some, None, Ok}
use Rattle.pv_words.specs.declared.grant.Hold.{Hold}
use Rattle.pv_words.specs.Plan.{Plan, Finished, MayGo, Want, mapped}
use Rattle.displ_wire.specs.declared.Asked.{Asked}
use Rattle.displ_wire.specs.declared.Asked.TheVariants as asked
use Rattle.displ_wire.specs.declared.Request.{Request}
use Rattle.display_buffers.specs.Buffers.{check_of}
use Rattle.display_buffers.specs.Pixels.{page_count}
use Rattle.page_directory.specs.Going.{Goes}
use Rattle.page_directory.specs.WalkLeft as walk
use Rattle.page_directory.specs.WalkLeft.{walk_left, held_by, count_of}
use Rattle.link_core.specs.Activities.{unmaps}
use Rattle.device_core.specs.Site.{Site}
use Rattle.page_directory.specs.declared.progress.Progress.{Progress}
use Rattle.page_directory.specs.declared.progress.Progress.TheVariants as progress
use Rattle.display_backend.specs.declared.course.Course.{Course}
use Rattle.display_backend.specs.declared.course.Course.TheVariants.{Rests, Walks, Frees, Reads}
use Rattle.picture_scan.specs.Scan as scan
use Rattle.picture_scan.specs.declared.scan.Shown.{Shown}
use Rattle.display_backend.specs.declared.picture.Reading.{Reading}
use Rattle.display_buffers.specs.Left.{pages_at}
use Rattle.display_backend.specs.Service.{Ending, Listed, Freed, Pictured}
use Rattle.display_buffers.specs.Stock.{Stock, Held, pages_under, bared}

-- an activity is under way
abbrev pub is_under_way : Course → Bool
is_under_way Rests = false
is_under_way (Walks w) = true
is_under_way (Frees cookie) = true
is_under_way (Reads r) = true

-- a walk of this domain's page directory, or none
abbrev pub is_walk_of : ℕ → Course → Bool
is_walk_of dom Rests = true
is_walk_of dom (Walks w) = walk.dom_of w == dom
is_walk_of dom (Frees cookie) = true
is_walk_of dom (Reads r) = true

-- the pages that a walk holds
abbrev pub pages_walked : Course → List Hold
pages_walked Rests = []
pages_walked (Walks w) = held_by w
pages_walked (Frees cookie) = []
pages_walked (Reads r) = []

-- the buffers and their pages, less those that a Release gives up
abbrev pub stock_at : Course → Stock → Stock
stock_at Rests s = s
stock_at (Walks w) s = s
stock_at (Frees cookie) s = record { mapped = s.mapped; buffers = bared cookie s.buffers }
stock_at (Reads r) s = s

-- what is left of the reading of a picture, in the pages of the buffer at its place
abbrev pub scan_left : List Held → Reading → Plan Shown
scan_left bs r = scan.left_of (pages_at bs r.place) r.scan

abbrev pub reading_left : List Held → Reading → Plan Ending
reading_left bs r = mapped (Pictured r.part) (scan_left bs r)

-- a picture is read, and its next load may be made
abbrev pub ReadsPicture : (may : Want → Type 0) → List Held → Course → Type 0
ReadsPicture may bs (Reads r) = MayGo may (scan_left bs r)
ReadsPicture may bs course = ⊥

-- what is left of a walk, of a Release, and of a reading
abbrev pub left_at : Site → Course → Stock → Plan Ending
left_at site Rests s = Finished Freed
left_at site (Walks w) s = mapped Listed (walk_left site.frames site.grants w)
left_at site (Frees cookie) s = unmaps (pages_under cookie s.buffers) (Finished Freed)
left_at site (Reads r) s = reading_left s.buffers r

-- a CREATE that passed its checks, for so many pages
abbrev pub Creates : Asked → List Held → (count : ℕ) → Type 0
Creates (asked.Create c) bs count = (check_of bs c ≡ Ok tt) × (count ≡ page_count c.buffer_sz)
Creates asks bs count = ⊥

-- a DESTROY of a buffer of which no page is held
abbrev pub Destroys : Asked → List Held → Type 0
Destroys (asked.Destroy cookie) bs = pages_under cookie bs ≡ []
Destroys asks bs = ⊥

-- an accepted request may be answered: the pages of a CREATE were mapped, and none is held of a buffer that goes
abbrev pub MayAnswer : Asked → List Held → (count : ℕ) → Type 0
MayAnswer (asked.Create c) bs count = Creates (asked.Create c) bs count
MayAnswer (asked.Destroy cookie) bs count = Destroys (asked.Destroy cookie) bs
MayAnswer asks bs count = Unit {0}

-- how far a request has come, where so many pages were mapped for it
abbrev pub ComesTo : Progress → Asked → List Held → (count : ℕ) → Type 0
ComesTo progress.Mapped asks bs count = Creates asks bs count
ComesTo progress.Released asks bs count = Destroys asks bs
ComesTo p asks bs count = Unit {0}

abbrev pub InHand : Option Request → Progress → List Held → (count : ℕ) → Type 0
InHand None p bs count = Unit {0}
InHand (Some q) p bs count = ComesTo p q.asked bs count

-- the request in hand is a CREATE that passed its checks, for so many pages; it is a DESTROY of this cookie
abbrev pub HasCreate : Option Request → List Held → (count : ℕ) → Type 0
HasCreate None bs count = ⊥
HasCreate (Some q) bs count = Creates q.asked bs count

abbrev pub HasDestroy : Option Request → ℕ → Type 0
HasDestroy None cookie = ⊥
HasDestroy (Some q) cookie = q.asked ≡ asked.Destroy cookie

-- some page of the buffer of a DESTROY is held
pub record Releases (cookie : ℕ) (hand : Option Request) (bs : List Held) : Type 0 where
  pub some : 0 < length (pages_under cookie bs)
  pub destroys : HasDestroy hand cookie

-- a picture of which a word is still to be read, in the pages of its buffer
pub record IsReading (r : Reading) (bs : List Held) : Type 0 where
  pub going : scan.is_over r.scan ≡ false
  pub lies : scan.LiesIn (pages_at bs r.place) (scan.shape_of r.scan)

-- what is always true of the request in hand
abbrev pub Stands : Course → Option Request → Progress → List Held → (count : ℕ) → Type 0
Stands Rests hand p bs count = InHand hand p bs count
Stands (Walks w) hand p bs count = (p ≡ progress.Decided) × HasCreate hand bs (count_of w) × Goes w
Stands (Frees cookie) hand p bs count = (p ≡ progress.Decided) × Releases cookie hand bs
Stands (Reads r) hand p bs count = InHand hand p bs count × IsReading r bs
