-- What a sound device's service does over words, whose members a clause names all together by `W.Words`.
use Rattle.std.specs.Prelude.{◌≡◌, ℕ, List, Option, Some}
use Rattle.circular_buffer.specs.Buffer.{Buffer}
use Rattle.pv_words.specs.declared.words.Words.{Ghosts as Words}
use Rattle.pv_words.specs.Plan.{Plan}
use Rattle.snd_wire.specs.declared.types.Asked.TheVariants as asked
use Rattle.pcm_params.specs.declared.params.Params.{Params}
use Rattle.pcm_stream.specs.Queue.{queue_for}
use Rattle.pcm_stream.specs.Stream.{Pcm}
use Rattle.page_directory.specs.declared.walk.Walked.{Walked}
use Rattle.device_core.specs.Site.{Site}
use Rattle.device_service.specs.Operating.{Begins, site_over}
use Rattle.device_service.specs.declared.deed.Deed.{Deed}
use Rattle.sound_backend.specs.declared.course.Demand.{Demand}
use Rattle.sound_backend.specs.declared.service.Service.{Service}
use Rattle.sound_backend.specs.Course.{HasOpen}
use Rattle.sound_backend.specs.Known.{known_of, left_of}
use Rattle.sound_backend.specs.Service.{job_of, open_walk, sound}

-- The request in hand is an OPEN with these parameters, so that with its queue it is one that has it.
abbrev pub OpensBy : Option Demand → Params → Type 0
OpensBy hand p = (queue : Option (Buffer ℕ)) → queue ≡ Some (queue_for p) → HasOpen hand queue

module _ (site : Site) (old : Service) where
  -- the first step of what an OPEN leads to
  abbrev pub BeginsOpen : (part : ℕ) → Params → Deed → Service → Type 0
  BeginsOpen part p deed new =
      Begins sound (job_of site (known_of old) part (asked.Open p)) deed.access deed.now deed.said (known_of new) (left_of site new)

module _ {W : Type 0} (m : Words W) (words : W) where
  -- the walk of an OPEN
  abbrev pub walk_for : ℕ → List Pcm → ℕ → Params → Plan Walked
  walk_for dom streams part p = open_walk (site_over m words dom 0) streams part p
