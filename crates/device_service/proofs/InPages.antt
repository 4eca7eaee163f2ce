-- A Take, an Answer, a Raise and a Sleep access words of pages alone, and so leave what is held.
use Rattle.std.proofs.Common.{◌≡◌, ℕ, zero, suc, ◌+◌, ◌-◌, ◌==◌, ◌++◌, nat_lt, Bool, true, false, if◌then◌else◌, List, [], ◌∷◌, Option, Some, None, map, drop, refl, ◌∙◌}
use Rattle.std.proofs.lemmas.Bool.{false≢true}
use Rattle.pv_words.specs.declared.place.Place.{Place}
use Rattle.pv_words.specs.declared.place.Place.TheVariants.{Cell, Grant}
use Rattle.pv_words.specs.Held.{Holds, holding}
use Rattle.pv_words.specs.Plan as plan
use Rattle.pv_words.specs.Plan.{Plan, Finished, Make, Want, Load, Store, Swap, Clear, Note, FitsFrom, aim_of, found, joined, mapped}
use Rattle.link_core.specs.declared.link.Link.{Link}
use Rattle.link_core.specs.Activities.{Joined, Page, page_at, check_plan, event_plan, loads, publish_plan, sleep_plan, slot_place, stores}
use Rattle.link_core.specs.Link.{answer_left, answer_rest, joined_of, page_of, put_rest, raise_left, rsp_of, sleep_left, sleep_rest, take_left, take_rest}
use Rattle.link_core.specs.declared.link.Put.{Put}
use Rattle.link_core.specs.declared.link.Put.TheVariants as put
use Rattle.link_core.specs.declared.link.Stage.{Stage}
use Rattle.link_core.specs.declared.link.Stage.TheVariants as stage
use Rattle.link_core.specs.declared.link.event.Layout.{Layout}
use Rattle.link_core.specs.Raise.{event_layout, event_place, events_plan, limit, obstacle_of, publish_events, put_events, unless_barred}
use Rattle.ring_words.specs.Ring.{since}
use Rattle.device_core.specs.Order.{is_in_page}
use Rattle.device_service.specs.Parts.{answer_from, raise_from, sleep_from, take_from}
use Rattle.device_service.specs.Work.{ring_page, sleep_all, sleeps_on}

-- all accesses of the plan go to words of pages
abbrev pub StaysInPages : {A : Type 0} → Plan A → Type 0
StaysInPages p = plan.Fits (λ want note. is_in_page (aim_of want) ≡ true) (λ x. Unit {0}) p

in_joined : {A B : Type 0} (p : Plan A) (f : A → Plan B) → StaysInPages p → ((x : A) → StaysInPages (f x)) → StaysInPages (joined p f)
in_joined (Finished x) f h more = more x
in_joined (Make want note next) f h more = (h.0, λ v. in_joined (next v) f (h.1 v) more)

in_either : {A : Type 0} (b : Bool) (p q : Plan A) → StaysInPages p → StaysInPages q → StaysInPages (if b then p else q)
in_either true p q i j = i
in_either false p q i j = j

in_loads : (page : Page) (rsp n i : ℕ) (taken : List ℕ) → StaysInPages (loads (slot_place page rsp) Finished n i taken)
unfolding loads
in_loads page rsp zero i taken = tt
in_loads page rsp (suc n) i taken = (refl, λ v. in_loads page rsp n (i + 1) (taken ++ v ∷ []))

in_stores : {A : Type 0} (at : ℕ → Place) → ((i : ℕ) → is_in_page (at i) ≡ true) → (i : ℕ) (more : Plan A) (vs : List ℕ) → StaysInPages more → StaysInPages (stores at more i vs)
unfolding stores
in_stores at all i more [] h = h
in_stores at all i more (v ∷ vs) h = (all i, λ w. in_stores at all (i + 1) more vs h)

in_take_rest : (page : Page) (rsp n : ℕ) (words : List ℕ) → StaysInPages (take_rest page rsp n words)
in_take_rest page rsp n words = in_loads page rsp (16 - n) n _

in_answer_rest : (page : Page) (rsp n : ℕ) (reply : List ℕ) → StaysInPages (answer_rest page rsp n reply)
in_answer_rest page rsp n reply =
    in_either (n == 17) (event_plan page rsp) (stores (slot_place page rsp) (publish_plan page rsp) n (drop n reply)) (refl, λ v. tt)
    (in_stores (slot_place page rsp) (λ i. refl) n (publish_plan page rsp) (drop n reply) (refl, λ v. (refl, λ w. tt)))

module _ (layout : Layout) (page : Page) (prod n : ℕ) (words : List ℕ) where
  in_puts : (i : ℕ) (left : List ℕ) → StaysInPages (stores (event_place layout page prod) (publish_events page prod n) i left)
  in_puts i left = in_stores (event_place layout page prod) (λ k. refl) i (publish_events page prod n) left (refl, λ v. tt)

  in_bar : (o : Option Put) → StaysInPages (unless_barred o (stores (event_place layout page prod) (publish_events page prod n) 0 words))
  in_bar None = in_puts 0 words
  in_bar (Some end) = tt

  in_events_plan : StaysInPages (events_plan layout page prod n words)
  in_events_plan =
      in_either (nat_lt prod limit) (put_events layout page prod n words) (Finished (put.Spent prod)) (refl, λ cons. in_bar (obstacle_of layout.slots prod n cons (since cons prod))) tt

  in_put_rest : (at : Stage) (stored : ℕ) → StaysInPages (put_rest layout page prod at stored n words)
  in_put_rest stage.Raise stored = in_puts stored (drop stored words)
  in_put_rest stage.Rest stored = in_events_plan
  in_put_rest stage.Take stored = in_events_plan
  in_put_rest stage.Answer stored = in_events_plan
  in_put_rest stage.Sleep stored = in_events_plan
  in_put_rest stage.Ring stored = in_events_plan
  in_put_rest stage.Index stored = in_events_plan
  in_put_rest stage.Event stored = in_events_plan
  in_put_rest stage.Prod stored = in_events_plan

in_sleep_rest : (page : Page) (rsp n : ℕ) → StaysInPages (sleep_rest page rsp n)
in_sleep_rest page rsp n = in_either (n == 1) (check_plan page rsp) (sleep_plan page rsp) (refl, λ v. tt) (refl, λ v. (refl, λ w. tt))

pub in_take : (o : Option Link) → StaysInPages (take_from o)
unfolding take_left
in_take None = tt
in_take (Some l) = in_take_rest (page_of l) (rsp_of l) _ _

pub in_answer : (reply : List ℕ) (o : Option Link) → StaysInPages (answer_from reply o)
unfolding answer_left
in_answer reply None = tt
in_answer reply (Some l) = in_answer_rest (page_of l) (rsp_of l) _ reply

pub in_raise : (words : List ℕ) (o : Option Link) → StaysInPages (raise_from words o)
unfolding raise_left
in_raise words None = tt
in_raise words (Some l) = in_put_rest event_layout (page_at l.event_page) l.prod 1 words l.stage l.stored

in_on : (more : Plan Bool) (b : Bool) → StaysInPages more → StaysInPages (sleeps_on more b)
in_on more true h = h
in_on more false h = tt

in_sleeps : (js : List Joined) → StaysInPages (sleep_all js)
in_sleeps [] = tt
in_sleeps (j ∷ js) = let rest = in_sleeps js in in_joined (sleep_plan (ring_page j) j.rsp) (sleeps_on (sleep_all js)) (refl, λ v. (refl, λ w. tt)) (λ b. in_on (sleep_all js) b rest)

in_sleep : (l : Link) → StaysInPages (sleep_left l)
unfolding sleep_left
in_sleep l = in_sleep_rest (page_of l) (rsp_of l) _

pub in_sleeping : (rest : List Link) (o : Option Link) → StaysInPages (sleep_from rest o)
in_sleeping rest None = tt
in_sleeping rest (Some l) =
    in_joined (sleep_left l) (sleeps_on (sleep_all (map joined_of rest))) (in_sleep l) (λ b. in_on (sleep_all (map joined_of rest)) b (in_sleeps (map joined_of rest)))

-- an access to a word of a page leaves what is held
page_keeps : (frames : ℕ → ℕ) (s : Holds) (want : Want) (note : Note) (v : ℕ) → is_in_page (aim_of want) ≡ true → (holding frames s note (found want v)).held ≡ s.held
page_keeps frames s (Load (Cell d f w)) note v e = refl
page_keeps frames s (Load (Grant d g h)) note v e = absurd (false≢true e)
page_keeps frames s (Store at w) note v e = refl
page_keeps frames s (Swap (Cell d f w) old new) note v e = refl
page_keeps frames s (Swap (Grant d g h) old new) note v e = absurd (false≢true e)
page_keeps frames s (Clear (Cell d f w) mask) note v e = refl
page_keeps frames s (Clear (Grant d g h) mask) note v e = absurd (false≢true e)

module _ (frames : ℕ → ℕ) (May : Holds → Want → Note → Type 0) where
  -- a plan whose result is handed on, as it was before
  pub fits_before : {A B : Type 0} (f : A → B) (Q : Holds → B → Type 0) (s : Holds) (p : Plan A) → FitsFrom May (holding frames) Q s (mapped f p) → FitsFrom May (holding frames) (λ t x. Q t (f x)) s p
  fits_before f Q s (Finished x) h = h
  fits_before f Q s (Make want note next) h = (h.0, λ v. fits_before f Q (holding frames s note (found want v)) (next v) (h.1 v))

  -- one way on it ends, and the same pages are held
  pub stays : {A : Type 0} (Q : Holds → A → Type 0) (s : Holds) (p : Plan A) → StaysInPages p → FitsFrom May (holding frames) Q s p → (t : Holds) × (x : A) × Q t x × (t.held ≡ s.held)
  stays Q s (Finished x) i f = (s, x, f, refl)
  stays Q s (Make want note next) i f =
      let r = stays Q (holding frames s note (found want 0)) (next 0) (i.1 0) (f.1 0) in
      (r.0, r.1, r.2, r.3 ∙ page_keeps frames s want note 0 i.0)
