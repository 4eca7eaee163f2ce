-- What a step of a sound device's service comes to.
use Rattle.std.proofs.Common.{◌≡◌, ℕ, ◌++◌, ◌&&◌, true, false, nat_lt, List, [], ◌∷◌, drop, length, Option, Some, None, refl, sym, ap, subst, ◌∙◌}
use Rattle.std.proofs.lemmas.Bool.{true≢false, eqb-true}
use Rattle.circular_buffer.specs.Buffer.{Buffer}
use Rattle.pv_words.specs.declared.access.Access.{Access}
use Rattle.pv_words.specs.declared.device.Said.{Said}
use Rattle.pv_words.specs.declared.grant.Hold.{Hold}
use Rattle.pv_words.specs.Plan.{Plan, mapped}
use Rattle.snd_wire.specs.declared.types.Asked.{Asked}
use Rattle.pcm_stream.specs.Stream.{Pcm}
use Rattle.page_directory.specs.declared.walk.Walk.{Walk}
use Rattle.page_directory.specs.WalkLeft.{walk_left, dom_of, held_by}
use Rattle.link_core.specs.Stays.{AccessIn}
use Rattle.device_core.specs.Site.{Site}
use Rattle.device_service.specs.declared.deed.Now.{Now}
use Rattle.device_service.specs.Claims.{site_of}
use Rattle.device_service.specs.Operating.{Comes, Continues}
use Rattle.device_service.proofs.Mapping.Steps.{walk_on}
use Rattle.device_service.proofs.Serving.{in_service}
use Rattle.sound_backend.specs.declared.course.Course.{Course}
use Rattle.sound_backend.specs.declared.course.Course.TheVariants.{Rests, Walks, Frees}
use Rattle.sound_backend.specs.declared.course.Demand.{Demand}
use Rattle.page_directory.specs.declared.progress.Progress.{Progress}
use Rattle.sound_backend.specs.Course.{HasClose, InHand, Releases, Stands, is_under_way, is_walk_of, left_at, pages_walked, stock_at}
use Rattle.page_directory.specs.Going.{Goes}
use Rattle.sound_backend.specs.Held.{list_at, pages_in}
use Rattle.sound_backend.specs.Held as lists
use Rattle.sound_backend.specs.Service.{Known, Ending, Listed, has_work, ready_for, reply_for, reply_to, sound}
use Rattle.page_directory.specs.Progress.{ready_at}
use Rattle.sound_backend.specs.Stock.{Stock, bared, less_one, pages_of, stripped}
use Rattle.sound_backend.specs.Stock as stock
use Rattle.sound_backend.specs.Verdict.{verdict}
use Rattle.page_directory.specs.Progress.{is_accepted, status_in}
use Rattle.sound_backend.proofs.Lists.{bared_bare, bared_first, bared_less, first_in, list_bared}
use Rattle.page_directory.proofs.Ready.{ready_bare}

abbrev pub knowing : Stock → Option Demand → Progress → Known
knowing s hand p = record { stock = s; demand = hand; progress = p }

-- between two activities nothing is given up
pub at_rest : (course : Course) (s : Stock) → is_under_way course ≡ false → stock_at course s ≡ s
at_rest Rests s e = refl
at_rest (Walks w) s e = refl
at_rest (Frees part) s e = absurd (true≢false e)

module _ (course : Course) (part : ℕ) (s t : Stock) (is : course ≡ Frees part) (less : t ≡ less_one part s) where
  -- what is given up stays the same
  pub stock_less : stock_at course t ≡ stock_at course s
  stock_less =
      ap (λ k. stock_at k t) is
      ∙ (ap (bared part) less
      ∙ (ap (λ (held : List (List Hold)). record s { held = held }) (bared_less s.held part)
      ∙ ap (λ k. stock_at k s) (sym is)))

  pub stock_freed : list_at t.held part ≡ [] → t ≡ stock_at course s
  stock_freed bare =
      let none : list_at (lists.less_one s.held part) part ≡ [] = sym (ap (λ (x : Stock). list_at x.held part) less) ∙ bare in
      less
      ∙ (ap (λ (held : List (List Hold)). record s { held = held }) (sym (bared_bare (lists.less_one s.held part) part none) ∙ bared_less s.held part)
      ∙ ap (λ k. stock_at k s) (sym is))

-- what is known of a Release
pub releases : (course : Course) (part : ℕ) (hand : Option Demand) (p : Progress) (held : List (List Hold)) (queue : Option (Buffer ℕ)) → course ≡ Frees part → Stands course hand p held queue → Releases part hand held
releases course part hand p held queue is st = (subst (λ (k : Course). Stands k hand p held queue) is st).1

-- its request is to be answered
ready_close : (part : ℕ) (hand : Option Demand) (p : Progress) (s : Stock) → HasClose hand part → ready_for (knowing (bared part s) hand p) hand ≡ true
ready_close part None p s h = refl
ready_close part (Some d) p s h =
    let held = lists.bared s.held part in
    let accepted = is_accepted (verdict s.streams d) in
    ap (λ (a : Asked). ready_at p (has_work (bared part s) d a)) h.1
    ∙ (ap (λ n. ready_at p (accepted && nat_lt 0 (length (list_at held n)))) h.0
    ∙ (ap (λ (hs : List Hold). ready_at p (accepted && nat_lt 0 (length hs))) (list_bared s.held part)
    ∙ ready_bare p accepted))

pub ready_freeing : (course : Course) (part : ℕ) (hand : Option Demand) (p : Progress) (s : Stock) (queue : Option (Buffer ℕ)) → course ≡ Frees part → Stands course hand p s.held queue → ready_for (knowing (stock_at course s) hand p) hand ≡ true
ready_freeing course part hand p s queue is st =
    ap (λ k. ready_for (knowing (stock_at k s) hand p) hand) is
    ∙ ready_close part hand p s (releases course part hand p s.held queue is st).closes

-- the first of all pages is given up: what is known of the request in hand stays
pub stands_less : (course : Course) (hand : Option Demand) (p : Progress) (held left : List (List Hold)) (queue now : Option (Buffer ℕ)) → is_under_way course ≡ false → now ≡ queue → Stands course hand p held queue → Stands course hand p left now
stands_less (Walks w) hand p held left queue now idle e st = absurd (true≢false idle)
stands_less (Frees part) hand p held left queue now idle e st = absurd (true≢false idle)
stands_less Rests hand p held left queue now idle e st = subst (λ q. InHand hand p q) (sym e) st

-- and so does what is left once all are
stripped_of : (mapped : List Hold) (s : Stock) → s.mapped ≡ mapped → stripped (stock.without_first_of mapped s.held s.streams) ≡ stripped s
stripped_of [] s e = ap (λ (held : List (List Hold)). let t : Stock = record { mapped = []; held = held; streams = s.streams } in t) (bared_first s.held)
stripped_of (h ∷ hs) s e = refl

pub streams_stay : (s : Stock) → stripped (stock.without_first s) ≡ stripped s
streams_stay s = stripped_of s.mapped s refl

-- the first page that is given up is the first of all
first_of : (mapped : List Hold) (s : Stock) → pages_of (stock.without_first_of mapped s.held s.streams) ≡ drop 1 (mapped ++ pages_in s.held)
first_of [] s = first_in s.held
first_of (h ∷ hs) s = refl

pub first_goes : (s : Stock) → pages_of (stock.without_first s) ≡ drop 1 (pages_of s)
first_goes s = first_of s.mapped s

pub strips_less : (course : Course) (s t : Stock) → is_under_way course ≡ false → t ≡ stock.without_first s → stripped (stock_at course t) ≡ stripped (stock_at course s)
strips_less course s t idle e =
    ap (λ x. stripped x) (at_rest course t idle)
    ∙ (ap (λ x. stripped x) e
    ∙ (streams_stay s
    ∙ ap (λ x. stripped x) (sym (at_rest course s idle))))

-- the walk under way goes on
pub walk_continues : (frames grants : ℕ → ℕ) (dom parts : ℕ) (course mid : Course) (w : Walk) (hand : Option Demand) (p : Progress) (s : Stock) (queue : Option (Buffer ℕ)) (access : Option Access) (now : Now) (told : Option Said) (y : Known) (left : Site → Plan Ending) → course ≡ Walks w → mid ≡ Rests → is_walk_of dom course ≡ true → Stands course hand p s.held queue → ((n : ℕ) → Comes sound (knowing (stock_at mid s) hand p) (mapped Listed (walk_left (frames (dom_of w)) (grants (dom_of w)) w)) access now told y (left (site_of frames grants (dom_of w) n))) → Continues sound (knowing (stock_at course s) hand p) (left_at (site_of frames grants dom parts) course s) access now told y (left (site_of frames grants dom parts))
walk_continues frames grants dom parts course mid w hand p s queue access now told y left is rests of st comes =
    let dom_is : dom_of w ≡ dom = eqb-true _ _ (subst (λ (k : Course). is_walk_of dom k ≡ true) is of) in
    let goes : Goes w = (subst (λ (k : Course). Stands k hand p s.held queue) is st).2 in
    let at : (n : ℕ) → Comes sound (knowing s hand p) (mapped Listed (walk_left (frames (dom_of w)) (grants (dom_of w)) w)) access now told y (left (site_of frames grants (dom_of w) n)) =
    λ n. subst (λ (k : Course). Comes sound (knowing (stock_at k s) hand p) (mapped Listed (walk_left (frames (dom_of w)) (grants (dom_of w)) w)) access now told y (left (site_of frames grants (dom_of w) n))) rests (comes n) in
    subst (λ (k : Course). Continues sound (knowing (stock_at k s) hand p) (left_at (site_of frames grants dom parts) k s) access now told y (left (site_of frames grants dom parts))) (sym is)
    (walk_on sound Listed frames grants dom parts w (knowing s hand p) y access now told left dom_is goes.further at)

-- in a page that it holds
pub in_walked : (access : Option Access) (course : Course) (w : Walk) (s : Stock) → course ≡ Walks w → AccessIn (held_by w) access → AccessIn (pages_walked course ++ pages_of s) access
in_walked access course w s is h =
    subst (λ (k : Course). AccessIn (pages_walked k ++ pages_of s) access) (sym is) (in_service (held_by w) (pages_of s) access h)

-- the streams stay while pages are given up
streams_at : (course : Course) (s : Stock) → (stock_at course s).streams ≡ s.streams
streams_at Rests s = refl
streams_at (Walks w) s = refl
streams_at (Frees part) s = refl

pub reply_is : (course : Course) (d : Demand) (hand : Option Demand) (p : Progress) (s : Stock) → hand ≡ Some d → reply_to s.streams d (status_in p (verdict s.streams d)) ≡ reply_for (knowing (stock_at course s) hand p) hand
reply_is course d hand p s is =
    ap (λ (streams : List Pcm). reply_to streams d (status_in p (verdict streams d))) (sym (streams_at course s))
    ∙ ap (λ (h : Option Demand). reply_for (knowing (stock_at course s) h p) h) (sym is)
