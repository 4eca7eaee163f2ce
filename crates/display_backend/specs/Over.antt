-- What a display's service does over words, whose members a clause names all together by `W.Words`.
use Rattle.std.specs.Prelude.{◌≡◌, ℕ, List, length, Option, Some, None}
use Rattle.pv_words.specs.declared.grant.Hold.{Hold}
use Rattle.pv_words.specs.declared.grant.Mode.TheVariants.{Read}
use Rattle.pv_words.specs.declared.words.Words.{Ghosts as Words}
use Rattle.pv_words.specs.Plan.{Plan, Finished}
use Rattle.displ_wire.specs.declared.Asked.TheVariants as asked
use Rattle.displ_wire.specs.declared.Create.{Create}
use Rattle.displ_wire.specs.declared.Request.{Request}
use Rattle.page_directory.specs.declared.walk.Walked.{Walked}
use Rattle.page_directory.specs.declared.walk.Walked.TheVariants as walked
use Rattle.page_directory.specs.Walking as walking
use Rattle.page_directory.specs.Walking.{walk_plan}
use Rattle.device_core.specs.Site.{Site}
use Rattle.device_service.specs.Operating.{Begins, Continues, Serves}
use Rattle.device_service.specs.Service.{Runs}
use Rattle.device_service.specs.declared.deed.Deed.{Deed}
use Rattle.display_backend.specs.declared.service.Service.{Service}
use Rattle.display_backend.specs.declared.picture.Reading.{Reading}
use Rattle.display_backend.specs.declared.waiting.Waiting.TheVariants as waiting
use Rattle.display_buffers.specs.Store.{stock_of}
use Rattle.display_backend.specs.Course.{HasCreate, IsReading, reading_left}
use Rattle.display_backend.specs.Known.{known_of, left_of}
use Rattle.display_backend.specs.Service.{Served, display, event_for, job_of}
use Rattle.display_buffers.specs.Stock.{Held}

-- the request in hand is a CREATE of so many octets; of as many pages as a walk came to
abbrev pub HasCreateOf : Option Request → List Held → (octets : ℕ) → Type 0
HasCreateOf hand bs octets = (count : ℕ) → count ≡ walking.pages_of octets → HasCreate hand bs count

abbrev pub HasCreateFor : Option Request → List Held → Walked → Type 0
HasCreateFor hand bs end = (pages : List Hold) → end ≡ walked.Pages pages → HasCreate hand bs (length pages)

-- The reading of what a connector shows, before its first load; none where a Show of it only is told.
abbrev pub ReadsFor : Service → (part : ℕ) → Option Reading → Type 0
ReadsFor d part None = event_for (known_of d) (waiting.Show part) ≡ Runs (Finished (Served (waiting.Show part)))
ReadsFor d part (Some r) =
    (event_for (known_of d) (waiting.Show part) ≡ Runs (reading_left (stock_of d.store).buffers r)) × IsReading r (stock_of d.store).buffers

module _ (site : Site) (old : Service) where
  -- the first step of a Show
  abbrev pub ShowsFor : (part : ℕ) → Deed → Service → Type 0
  ShowsFor part deed new =
      Serves display (known_of old) (event_for (known_of old) (waiting.Show part)) deed.access deed.now deed.said (known_of new) (left_of site new)

  -- the first step of what a CREATE leads to
  abbrev pub BeginsCreate : Create → Deed → Service → Type 0
  BeginsCreate c deed new =
      Begins display (job_of site (known_of old) (asked.Create c)) deed.access deed.now deed.said (known_of new) (left_of site new)

module _ {W : Type 0} (m : Words W) (words : W) where
  -- the walk of a CREATE
  abbrev pub create_walk : ℕ → Create → Plan Walked
  create_walk dom c =
      walk_plan (m.frames_of words dom) (m.grants_of words dom) dom c.gref_directory Read (walking.pages_of c.buffer_sz)
