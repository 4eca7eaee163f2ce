-- While a walk or a Release is under way, a sound device's service tells just the pages that are held.
use Rattle.std.proofs.Common.{◌≡◌, ℕ, ◌++◌, Bool, true, List, [], Option, Some, None, refl, sym, ap, subst, arith}
use Rattle.std.proofs.lemmas.Bool.{false≢true, eqb-true}
use Rattle.circular_buffer.specs.Buffer.{Buffer}
use Rattle.pv_words.specs.declared.grant.Hold.{Hold}
use Rattle.pv_words.specs.Held.{Holds, IsProper, holding}
use Rattle.pv_words.specs.Plan.{FitsFrom}
use Rattle.page_directory.specs.declared.walk.Walked.{Walked}
use Rattle.page_directory.specs.declared.walk.Walked.TheVariants as walked
use Rattle.page_directory.specs.Laws.{pages_in as pages_listed}
use Rattle.page_directory.specs.Same.{AreSame, times}
use Rattle.page_directory.specs.WalkLeft.{dom_of}
use Rattle.page_directory.proofs.Counts.{times_append}
use Rattle.device_service.specs.Claims.{site_of}
use Rattle.device_service.specs.Laws.{AreHeld}
use Rattle.device_service.specs.Throughout.{HoldsThroughout}
use Rattle.device_service.proofs.Mapping.Keeping.{release_told, same_parted, walk_told}
use Rattle.sound_backend.specs.declared.course.Course.{Course}
use Rattle.sound_backend.specs.declared.course.Course.TheVariants.{Rests, Walks, Frees}
use Rattle.sound_backend.specs.declared.course.Demand.{Demand}
use Rattle.page_directory.specs.declared.progress.Progress.{Progress}
use Rattle.page_directory.specs.declared.progress.Progress.TheVariants as progress
use Rattle.sound_backend.specs.Course.{Stands, is_under_way, is_walk_of, left_at, pages_walked, stock_at}
use Rattle.sound_backend.specs.Held.{bared, list_at, pages_in}
use Rattle.sound_backend.specs.Kept.{Come, HasCome, HasComeTo, facts}
use Rattle.sound_backend.specs.Known.{going_of, held_of, is_of, known_of, left_of}
use Rattle.sound_backend.specs.Service.{Ending, Freed, Listed, after_end, sound}
use Rattle.sound_backend.specs.Stock.{Stock, pages_of}
use Rattle.sound_backend.specs.Store.{queue_of, stock_of}
use Rattle.sound_backend.proofs.Lists.{parted}
use Rattle.sound_backend.proofs.Serviced.{knowing}

-- no page is mapped yet for a request that is only decided
none_yet : (s : Stock) (hand : Option Demand) (p : Progress) → p ≡ progress.Decided → Come s p hand → s.mapped ≡ []
none_yet s None p decided come = come.1
none_yet s (Some d) p decided come = subst (λ (x : Progress). HasComeTo s d x) decided come

module _ (frames grants : ℕ → ℕ) (dom parts : ℕ) (hand : Option Demand) (p : Progress) (rest : List Hold) (now : Holds) where
  -- what is left leaves the pages of the streams then, and the others
  abbrev Leaves : Course → Stock → Holds → Ending → Type 0
  Leaves course s h a = AreHeld h (pages_of (after_end (knowing (stock_at course s) hand p) a).stock ++ rest)

  abbrev Goes : Course → Stock → Type 0
  Goes course s = FitsFrom (IsProper frames grants dom) (holding frames) (Leaves course s) now (left_at (site_of frames grants dom parts) course s)

  -- what a walk came to is held beside the pages of the streams
  adds : (s : Stock) → s.mapped ≡ [] → (came : Walked) → AreSame (pages_of (after_end (knowing s hand p) (Listed came)).stock) (pages_listed came ++ pages_of s)
  adds s bare (walked.Pages ps) k = ap (λ hs. times k (ps ++ (hs ++ pages_in s.held))) (sym bare)
  adds s bare (walked.Refused why) k = refl

  release_parts : (part : ℕ) (s : Stock) → Goes (Frees part) s → AreSame now.held (pages_of s ++ rest)
  release_parts part s f k =
      let under = list_at s.held part in
      let others = pages_in (bared s.held part) in
      let split = same_parted s.mapped (pages_in s.held) under others (parted s.held part) in
      omega (arith, release_told frames grants dom sound Freed (knowing (stock_at (Frees part) s) hand p) under rest now f k, split k, times_append k (under ++ (s.mapped ++ others)) rest, times_append k (pages_of s) rest)

  course_told : (b : Bool) (course : Course) (s : Stock) (queue : Option (Buffer ℕ)) → is_under_way course ≡ true → is_walk_of dom course ≡ true → Stands course hand p s.held queue → HasCome b (knowing (stock_at course s) hand p) → Goes course s → AreSame now.held ((pages_walked course ++ pages_of s) ++ rest)
  course_told b Rests s queue going home stands has f = absurd (false≢true going)
  course_told b (Walks w) s queue going home stands has f =
      walk_told frames grants dom sound Listed (knowing s hand p) (adds s (none_yet s hand p stands.0 has.1)) w rest now (eqb-true (dom_of w) dom home) stands.2.going f
  course_told b (Frees part) s queue going home stands has f = release_parts part s f

pub holds_throughout : HoldsThroughout sound facts known_of going_of left_of is_of held_of
holds_throughout frames grants dom parts s b rest now going home sane has f =
    course_told frames grants dom parts s.hand s.progress rest now b s.course (stock_of s.store) (queue_of s.store) going home s.stands has f
