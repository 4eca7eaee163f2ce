-- What a step of a display's service comes to.
use Rattle.std.proofs.Common.{◌≡◌, ℕ, ℤ, ◌++◌, ◌&&◌, true, false, nat_lt, List, [], length, Option, Some, None, refl, sym, ap, subst, ◌∙◌}
use Rattle.std.proofs.lemmas.Bool.{true≢false}
use Rattle.pv_words.specs.declared.access.Access.{Access}
use Rattle.pv_words.specs.declared.device.Said.{Said}
use Rattle.pv_words.specs.declared.grant.Hold.{Hold}
use Rattle.pv_words.specs.Plan.{Plan, mapped}
use Rattle.displ_wire.specs.declared.Asked.{Asked}
use Rattle.displ_wire.specs.declared.Asked.TheVariants as asked
use Rattle.displ_wire.specs.declared.Create.{Create}
use Rattle.displ_wire.specs.declared.Request.{Request}
use Rattle.display_buffers.specs.Buffers.{check_of}
use Rattle.page_directory.specs.declared.walk.Walk.{Walk}
use Rattle.page_directory.specs.WalkLeft.{walk_left, dom_of, held_by}
use Rattle.link_core.specs.Stays.{AccessIn}
use Rattle.device_service.specs.declared.deed.Now.{Now}
use Rattle.device_service.specs.Operating.{Comes, Continues}
use Rattle.display_backend.specs.declared.course.Course.{Course}
use Rattle.display_backend.specs.declared.course.Course.TheVariants.{Rests, Walks, Frees, Reads}
use Rattle.page_directory.specs.declared.progress.Progress.{Progress}
use Rattle.page_directory.specs.declared.progress.Progress.TheVariants as progress
use Rattle.display_backend.specs.Course.{is_under_way, is_walk_of, pages_walked, stock_at, left_at, Creates, Destroys, ComesTo, InHand, HasDestroy, Releases, Stands}
use Rattle.page_directory.specs.Going.{Goes}
use Rattle.display_backend.specs.Service.{Known, Ending, Listed, display, has_work, ready_for, reply_for}
use Rattle.page_directory.specs.Progress.{ready_at}
use Rattle.display_buffers.specs.Stock.{Stock, Held, pages_of, pages_under, less_one, bared, stripped, without_first}
use Rattle.display_backend.specs.Names.{numbered}
use Rattle.display_backend.specs.Reply.{reply_to}
use Rattle.display_backend.specs.Scene.{Scene}
use Rattle.display_backend.specs.Verdict.{verdict}
use Rattle.page_directory.specs.Progress.{is_accepted, status_in}
use Rattle.display_backend.proofs.Freeing.{bare_freed}
use Rattle.display_backend.proofs.Numbered.{AreLike, like_verdict, numbered_all_bared, numbered_bared, same_check}
use Rattle.display_buffers.proofs.Order.{buffers_stay, none_under, others_stay, under_less}
use Rattle.device_service.proofs.Mapping.Steps.{walk_on}
use Rattle.device_service.proofs.Serving.{in_service}
use Rattle.device_core.specs.Site.{Site}
use Rattle.device_service.specs.Claims.{site_of}
use Rattle.std.proofs.lemmas.Bool.{eqb-true}
use Rattle.page_directory.proofs.Ready.{ready_bare}

abbrev stock : List Hold → List Held → Stock
stock mapped buffers = record { mapped = mapped; buffers = buffers }

abbrev pub knowing : Stock → Scene → Option Request → Progress → Known
knowing s sc hand p = record { stock = s; scene = sc; request = hand; progress = p }

-- between two activities nothing is given up
pub at_rest : (course : Course) (s : Stock) → is_under_way course ≡ false → stock_at course s ≡ s
at_rest Rests s e = refl
at_rest (Walks w) s e = refl
at_rest (Reads r) s e = refl
at_rest (Frees cookie) s e = absurd (true≢false e)

module _ (course : Course) (cookie : ℕ) (s t : Stock) (is : course ≡ Frees cookie) (less : t ≡ stock s.mapped (less_one cookie s.buffers)) where
  -- what is given up stays the same
  pub stock_less : stock_at course t ≡ stock_at course s
  stock_less =
      ap (λ k. stock_at k t) is
      ∙ (ap (λ (x : Stock). stock x.mapped (bared cookie x.buffers)) less
      ∙ (ap (stock s.mapped) (others_stay cookie s.buffers)
      ∙ ap (λ k. stock_at k s) (sym is)))

  pub stock_freed : pages_under cookie t.buffers ≡ [] → t ≡ stock_at course s
  stock_freed bare =
      let none : pages_under cookie (less_one cookie s.buffers) ≡ [] = sym (ap (λ (x : Stock). pages_under cookie x.buffers) less) ∙ bare in
      less
      ∙ (ap (stock s.mapped) (sym (bare_freed cookie (less_one cookie s.buffers) none) ∙ others_stay cookie s.buffers)
      ∙ ap (λ k. stock_at k s) (sym is))

-- what is known of a Release
pub releases : (course : Course) (cookie : ℕ) (hand : Option Request) (p : Progress) (bs : List Held) (count : ℕ) → course ≡ Frees cookie → Stands course hand p bs count → Releases cookie hand bs
releases course cookie hand p bs count is st = (subst (λ (k : Course). Stands k hand p bs count) is st).1

-- its request is to be answered
ready_destroy : (cookie : ℕ) (hand : Option Request) (p : Progress) (s : Stock) (sc : Scene) → HasDestroy hand cookie → ready_for (knowing (stock s.mapped (bared cookie s.buffers)) sc hand p) hand ≡ true
ready_destroy cookie None p s sc h = refl
ready_destroy cookie (Some q) p s sc h =
    let accepted = is_accepted (verdict (bared cookie s.buffers) sc (asked.Destroy cookie)) in
    ap (λ (a : Asked). ready_at p (has_work (bared cookie s.buffers) sc a)) h
    ∙ (ap (λ (hs : List Hold). ready_at p (accepted && nat_lt 0 (length hs))) (none_under cookie s.buffers)
    ∙ ready_bare p accepted)

pub ready_freeing : (course : Course) (cookie : ℕ) (hand : Option Request) (p : Progress) (s : Stock) (sc : Scene) (count : ℕ) → course ≡ Frees cookie → Stands course hand p s.buffers count → ready_for (knowing (stock_at course s) sc hand p) hand ≡ true
ready_freeing course cookie hand p s sc count is st =
    ap (λ k. ready_for (knowing (stock_at k s) sc hand p) hand) is
    ∙ ready_destroy cookie hand p s sc (releases course cookie hand p s.buffers count is st).destroys

-- the first of all pages is given up: what is known of the request in hand stays
like_less : (s : Stock) → AreLike (without_first s).buffers s.buffers
like_less s =
    sym (numbered_all_bared (without_first s).buffers [])
    ∙ (ap (λ (x : Stock). numbered x.buffers []) (buffers_stay s)
    ∙ numbered_all_bared s.buffers [])

check_less : (s : Stock) (c : Create) → check_of (without_first s).buffers c ≡ check_of s.buffers c
check_less s c =
    sym (same_check (without_first s).buffers [] c)
    ∙ (ap (λ x. check_of x c) (like_less s)
    ∙ same_check s.buffers [] c)

creates_less : (s : Stock) (asks : Asked) (count : ℕ) → Creates asks s.buffers count → Creates asks (without_first s).buffers count
creates_less s (asked.Create c) count h = (check_less s c ∙ h.0, h.1)
creates_less s (asked.Destroy cookie) count h = absurd h
creates_less s (asked.Config c) count h = absurd h
creates_less s asks count h = absurd h

destroys_less : (s : Stock) (asks : Asked) → Destroys asks s.buffers → Destroys asks (without_first s).buffers
destroys_less s (asked.Create c) h = absurd h
destroys_less s (asked.Destroy cookie) h = under_less cookie s.mapped s.buffers h
destroys_less s (asked.Config c) h = absurd h
destroys_less s asks h = absurd h

comes_less : (s : Stock) (p : Progress) (asks : Asked) (count : ℕ) → ComesTo p asks s.buffers count → ComesTo p asks (without_first s).buffers count
comes_less s progress.Decided asks count h = tt
comes_less s progress.NoMemory asks count h = tt
comes_less s progress.Denied asks count h = tt
comes_less s progress.Mapped asks count h = creates_less s asks count h
comes_less s progress.Released asks count h = destroys_less s asks h

in_hand_less : (s : Stock) (hand : Option Request) (p : Progress) (count : ℕ) → InHand hand p s.buffers count → InHand hand p (without_first s).buffers count
in_hand_less s None p count h = tt
in_hand_less s (Some q) p count h = comes_less s p q.asked count h

pub stands_less : (course : Course) (hand : Option Request) (p : Progress) (s t : Stock) (count more : ℕ) → is_under_way course ≡ false → t ≡ without_first s → more ≡ count → Stands course hand p s.buffers count → Stands course hand p t.buffers more
stands_less (Walks w) hand p s t count more idle e f st = absurd (true≢false idle)
stands_less (Reads r) hand p s t count more idle e f st = absurd (true≢false idle)
stands_less (Frees cookie) hand p s t count more idle e f st = absurd (true≢false idle)
stands_less Rests hand p s t count more idle e f st =
    subst (λ (x : Stock). InHand hand p x.buffers more) (sym e)
    (subst (λ n. InHand hand p (without_first s).buffers n) (sym f) (in_hand_less s hand p count st))

pub strips_less : (course : Course) (s t : Stock) → is_under_way course ≡ false → t ≡ without_first s → stripped (stock_at course t) ≡ stripped (stock_at course s)
strips_less course s t idle e =
    ap (λ x. stripped x) (at_rest course t idle)
    ∙ (ap (λ x. stripped x) e
    ∙ (buffers_stay s
    ∙ ap (λ x. stripped x) (sym (at_rest course s idle))))

-- the walk under way goes on
pub walk_continues : (frames grants : ℕ → ℕ) (dom parts : ℕ) (course mid : Course) (w : Walk) (hand : Option Request) (p : Progress) (s : Stock) (sc : Scene) (count : ℕ) (access : Option Access) (now : Now) (told : Option Said) (y : Known) (left : Site → Plan Ending) → course ≡ Walks w → mid ≡ Rests → is_walk_of dom course ≡ true → Stands course hand p s.buffers count → ((n : ℕ) → Comes display (knowing (stock_at mid s) sc hand p) (mapped Listed (walk_left (frames (dom_of w)) (grants (dom_of w)) w)) access now told y (left (site_of frames grants (dom_of w) n))) → Continues display (knowing (stock_at course s) sc hand p) (left_at (site_of frames grants dom parts) course s) access now told y (left (site_of frames grants dom parts))
walk_continues frames grants dom parts course mid w hand p s sc count access now told y left is rests of st comes =
    let dom_is : dom_of w ≡ dom = eqb-true _ _ (subst (λ (k : Course). is_walk_of dom k ≡ true) is of) in
    let goes : Goes w = (subst (λ (k : Course). Stands k hand p s.buffers count) is st).2 in
    let at : (n : ℕ) → Comes display (knowing s sc hand p) (mapped Listed (walk_left (frames (dom_of w)) (grants (dom_of w)) w)) access now told y (left (site_of frames grants (dom_of w) n)) =
    λ n. subst (λ (k : Course). Comes display (knowing (stock_at k s) sc hand p) (mapped Listed (walk_left (frames (dom_of w)) (grants (dom_of w)) w)) access now told y (left (site_of frames grants (dom_of w) n))) rests (comes n) in
    subst (λ (k : Course). Continues display (knowing (stock_at k s) sc hand p) (left_at (site_of frames grants dom parts) k s) access now told y (left (site_of frames grants dom parts))) (sym is)
    (walk_on display Listed frames grants dom parts w (knowing s sc hand p) y access now told left dom_is goes.further at)

-- in a page that it holds
pub in_walked : (access : Option Access) (course : Course) (w : Walk) (s : Stock) → course ≡ Walks w → AccessIn (held_by w) access → AccessIn (pages_walked course ++ pages_of s) access
in_walked access course w s is h =
    subst (λ (k : Course). AccessIn (pages_walked k ++ pages_of s) access) (sym is) (in_service (held_by w) (pages_of s) access h)

-- the verdict stays while pages are given up
verdict_at : (course : Course) (s : Stock) (sc : Scene) (asks : Asked) → verdict (stock_at course s).buffers sc asks ≡ verdict s.buffers sc asks
verdict_at Rests s sc asks = refl
verdict_at (Walks w) s sc asks = refl
verdict_at (Reads r) s sc asks = refl
verdict_at (Frees cookie) s sc asks = like_verdict (bared cookie s.buffers) s.buffers sc asks (numbered_bared cookie s.buffers [])

pub reply_is : (course : Course) (q : Request) (hand : Option Request) (p : Progress) (s : Stock) (sc : Scene) (status : ℤ) → hand ≡ Some q → status ≡ status_in p (verdict s.buffers sc q.asked) → reply_to q status ≡ reply_for (knowing (stock_at course s) sc hand p) hand
reply_is course q hand p s sc status is e =
    ap (reply_to q) (e ∙ ap (status_in p) (sym (verdict_at course s sc q.asked)))
    ∙ ap (λ (h : Option Request). reply_for (knowing (stock_at course s) sc h p) h) (sym is)
