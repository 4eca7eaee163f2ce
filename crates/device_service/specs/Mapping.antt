-- What a service tells of a walk, and what is left of one over words, whose members a clause names all together by `W.Words`.
use Rattle.std.specs.Prelude.{ℕ, Option, Some, None}
use Rattle.pv_words.specs.declared.device.Said.{Said}
use Rattle.pv_words.specs.declared.device.Said.TheVariants as said
use Rattle.pv_words.specs.declared.words.Words.{Ghosts as Words}
use Rattle.pv_words.specs.Plan.{Plan, mapped}
use Rattle.page_directory.specs.declared.walk.Walk.{Walk}
use Rattle.page_directory.specs.declared.walk.Walked.{Walked}
use Rattle.page_directory.specs.declared.walk.Walked.TheVariants as walked
use Rattle.page_directory.specs.WalkLeft.{dom_of, walk_left}
use Rattle.device_core.specs.Site.{Site}
use Rattle.device_service.specs.declared.deed.Deed.{Deed}
use Rattle.device_service.specs.Operating.{Comes, site_over}
use Rattle.device_service.specs.Service.{Service}

-- the page that was denied, where a walk was refused
abbrev pub denied_by : Walked → Option Said
denied_by (walked.Pages pages) = None
denied_by (walked.Refused why) = Some (said.Denied why)

-- what is left of a walk over these words
abbrev pub walk_over : {W : Type 0} → Words W → W → Walk → Plan Walked
walk_over m words walk = walk_left (m.frames_of words (dom_of walk)) (m.grants_of words (dom_of walk)) walk

module _ {X A V S W : Type 0} (s : Service X A V) (knows : S → X) (left : Site → S → Plan A) (listed : Walked → A) (m : Words W) (words : W) where
  -- the code of a service made the next step of the walk of a request, whose end the service reads so, however many parts its device has
  abbrev pub WalksBy : S → Walk → Deed → S → Type 0
  WalksBy old walk d new =
      (parts : ℕ) → Comes s (knows old) (mapped listed (walk_over m words walk)) d.access d.now d.said (knows new) (left (site_over m words (dom_of walk) parts) new)
