-- While a walk or a Release is under way, a display's service tells just the pages that are held.
use Rattle.std.proofs.Common.{◌≡◌, ℕ, ◌++◌, Bool, true, List, [], Option, Some, None, refl, sym, ap, subst, arith}
use Rattle.std.proofs.lemmas.Bool.{false≢true, eqb-true}
use Rattle.pv_words.specs.declared.grant.Hold.{Hold}
use Rattle.pv_words.specs.Held.{Holds, IsProper, holding}
use Rattle.pv_words.specs.Plan.{FitsFrom}
use Rattle.displ_wire.specs.declared.Request.{Request}
use Rattle.page_directory.specs.declared.walk.Walked.{Walked}
use Rattle.page_directory.specs.declared.walk.Walked.TheVariants as walked
use Rattle.page_directory.specs.Laws.{pages_in}
use Rattle.page_directory.specs.Same.{AreSame, times}
use Rattle.page_directory.specs.WalkLeft.{dom_of}
use Rattle.page_directory.proofs.Counts.{times_append}
use Rattle.device_service.specs.Claims.{site_of}
use Rattle.device_service.specs.Laws.{AreHeld}
use Rattle.device_service.specs.Throughout.{HoldsThroughout}
use Rattle.device_service.proofs.InPages.{fits_before, stays}
use Rattle.display_backend.specs.declared.picture.Reading.{Reading}
use Rattle.display_backend.specs.Course.{scan_left}
use Rattle.display_backend.specs.Service.{Pictured}
use Rattle.display_backend.proofs.Loads.{in_scan}
use Rattle.device_service.proofs.Mapping.Keeping.{release_told, same_parted, walk_told}
use Rattle.display_backend.specs.declared.course.Course.{Course}
use Rattle.display_backend.specs.declared.course.Course.TheVariants.{Rests, Walks, Frees, Reads}
use Rattle.page_directory.specs.declared.progress.Progress.{Progress}
use Rattle.page_directory.specs.declared.progress.Progress.TheVariants as progress
use Rattle.display_backend.specs.Course.{Stands, is_under_way, is_walk_of, left_at, pages_walked, stock_at}
use Rattle.display_backend.specs.Kept.{Come, HasCome, HasComeTo, facts}
use Rattle.display_backend.specs.Known.{going_of, held_of, is_of, known_of, left_of}
use Rattle.display_backend.specs.Scene.{Scene}
use Rattle.display_backend.specs.Showing.{scene_of}
use Rattle.display_backend.specs.Service.{Ending, Freed, Listed, after_end, display}
use Rattle.display_buffers.specs.Stock.{Stock, bared, buffer_pages, pages_of, pages_under}
use Rattle.display_buffers.specs.Store.{count_of, stock_of}
use Rattle.display_buffers.proofs.Order.{parted}
use Rattle.display_backend.proofs.Serviced.{knowing}

-- no page is mapped yet for a request that is only decided
none_yet : (st : Stock) (sc : Scene) (hand : Option Request) (p : Progress) → p ≡ progress.Decided → Come st sc p hand → st.mapped ≡ []
none_yet st sc None p decided come = come.1
none_yet st sc (Some q) p decided come = subst (λ (x : Progress). HasComeTo st sc q x) decided come

module _ (frames grants : ℕ → ℕ) (dom parts : ℕ) (sc : Scene) (hand : Option Request) (p : Progress) (rest : List Hold) (now : Holds) where
  -- what is left leaves the pages of the buffers then, and the others
  abbrev Leaves : Course → Stock → Holds → Ending → Type 0
  Leaves course st h a = AreHeld h (pages_of (after_end (knowing (stock_at course st) sc hand p) a).stock ++ rest)

  abbrev Goes : Course → Stock → Type 0
  Goes course st = FitsFrom (IsProper frames grants dom) (holding frames) (Leaves course st) now (left_at (site_of frames grants dom parts) course st)

  -- what a walk came to is held beside the pages of the buffers
  adds : (st : Stock) → st.mapped ≡ [] → (came : Walked) → AreSame (pages_of (after_end (knowing st sc hand p) (Listed came)).stock) (pages_in came ++ pages_of st)
  adds st none (walked.Pages ps) k = ap (λ hs. times k (ps ++ (hs ++ buffer_pages st.buffers))) (sym none)
  adds st none (walked.Refused why) k = refl

  release_parts : (cookie : ℕ) (st : Stock) → Goes (Frees cookie) st → AreSame now.held (pages_of st ++ rest)
  release_parts cookie st f k =
      let under = pages_under cookie st.buffers in
      let others = buffer_pages (bared cookie st.buffers) in
      let split = same_parted st.mapped (buffer_pages st.buffers) under others (parted cookie st.buffers) in
      omega (arith, release_told frames grants dom display Freed (knowing (stock_at (Frees cookie) st) sc hand p) under rest now f k, split k, times_append k (under ++ (st.mapped ++ others)) rest, times_append k (pages_of st) rest)

  reading_told : (r : Reading) (st : Stock) → Goes (Reads r) st → AreSame now.held (pages_of st ++ rest)
  reading_told r st f k =
      let end = Leaves (Reads r) st in
      let u = stays frames (IsProper frames grants dom) (λ h x. end h (Pictured r.part x)) now (scan_left st.buffers r) (in_scan st.buffers r) (fits_before frames (IsProper frames grants dom) (λ x. Pictured r.part x) end now (scan_left st.buffers r) f) in
      omega (arith, u.2.1 k, ap (times k) u.3)

  course_told : (b : Bool) (course : Course) (st : Stock) (count : ℕ) → is_under_way course ≡ true → is_walk_of dom course ≡ true → Stands course hand p st.buffers count → HasCome b (knowing (stock_at course st) sc hand p) → Goes course st → AreSame now.held ((pages_walked course ++ pages_of st) ++ rest)
  course_told b Rests st count going home stands has f = absurd (false≢true going)
  course_told b (Walks w) st count going home stands has f =
      walk_told frames grants dom display Listed (knowing st sc hand p) (adds st (none_yet st sc hand p stands.0 has.1)) w rest now (eqb-true (dom_of w) dom home) stands.2.going f
  course_told b (Frees cookie) st count going home stands has f = release_parts cookie st f
  course_told b (Reads r) st count going home stands has f = reading_told r st f

pub holds_throughout : HoldsThroughout display facts known_of going_of left_of is_of held_of
holds_throughout frames grants dom parts s b rest now going home sane has f =
    course_told frames grants dom parts (scene_of s.scene) s.hand s.progress rest now b s.course (stock_of s.store) (count_of s.store) going home s.stands has.0 f
