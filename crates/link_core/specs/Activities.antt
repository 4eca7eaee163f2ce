-- What a device accesses on a request ring page and on an event page, activity by activity (ring.h: the words of the page
-- and the order of stores and loads). Indices are modulo 2 ^ 32; the slot in work is that of the index `rsp`.
use Rattle.std.specs.Prelude.{ℕ, zero, suc, ◌+◌, ◌==◌, Bool, List, [], ◌∷◌, ◌++◌, Option, Some, None, Result, Ok, Err}
use Rattle.pv_words.specs.declared.grant.GrantRefusal.{GrantRefusal}
use Rattle.pv_words.specs.declared.grant.Hold.{Hold}
use Rattle.pv_words.specs.declared.grant.Mode.TheVariants.{Write}
use Rattle.pv_words.specs.declared.place.Place.{Place}
use Rattle.pv_words.specs.declared.place.Place.TheVariants.{Cell}
use Rattle.pv_words.specs.Plan.{Plan, Finished, Make, Load, Store, Plain, joined}
use Rattle.pv_words.specs.Mapping.{map_plan}
pub use Rattle.pv_words.specs.Release.{unmaps}
use Rattle.ring_words.specs.declared.Looked.{Looked}
use Rattle.ring_words.specs.Ring.{looked_of, next_index, notifies, slot_of}

-- a page: whose it is, and its frame
pub record Page : Type 0 where
  pub dom : ℕ
  pub frame : ℕ

-- a word of a page
abbrev pub word_of : Page → ℕ → Place
word_of page w = Cell (record { 0 = page.dom }) (record { 0 = page.frame }) w

-- word i of the slot in work
abbrev pub slot_place : Page → ℕ → ℕ → Place
slot_place page rsp i = word_of page (slot_of rsp i)

-- n loads from place i on, in order, each once, after those that are taken
unfoldable pub loads : {A : Type 0} → (ℕ → Place) → (List ℕ → Plan A) → ℕ → ℕ → List ℕ → Plan A
loads at more zero i taken = more taken
loads at more (suc n) i taken = Make (Load (at i)) Plain (λ v. loads at more n (i + 1) (taken ++ v ∷ []))

-- these words are stored from place i on, in order
unfoldable pub stores : {A : Type 0} → (ℕ → Place) → Plan A → ℕ → List ℕ → Plan A
stores at more i [] = more
stores at more i (v ∷ vs) = Make (Store (at i) v) Plain (λ _. stores at more (i + 1) vs)

-- Look: load req_prod
abbrev pub look_plan : Page → ℕ → Plan Looked
look_plan page rsp = Make (Load (word_of page 0)) Plain (λ prod. Finished (looked_of rsp prod))

-- Take: load the sixteen words of the slot
abbrev pub take_plan : Page → ℕ → Plan (List ℕ)
take_plan page rsp = loads (slot_place page rsp) Finished 16 0 []

-- the end of an Answer: load rsp_event, and notify where the frontend asked for it
abbrev pub event_plan : Page → ℕ → Plan Bool
event_plan page rsp = Make (Load (word_of page 3)) Plain (λ event. Finished (notifies rsp (next_index rsp) event))

-- store rsp_prod, which is one more
abbrev pub publish_plan : Page → ℕ → Plan Bool
publish_plan page rsp = Make (Store (word_of page 2) (next_index rsp)) Plain (λ _. event_plan page rsp)

-- Answer: store the sixteen words of the reply in the slot, then publish it
abbrev pub answer_plan : Page → ℕ → List ℕ → Plan Bool
answer_plan page rsp reply = stores (slot_place page rsp) (publish_plan page rsp) 0 reply

-- the end of a Sleep: load req_prod; the result tells that no request came
abbrev pub check_plan : Page → ℕ → Plan Bool
check_plan page rsp = Make (Load (word_of page 0)) Plain (λ prod. Finished (prod == rsp))

-- Sleep: store req_event, one more than rsp_prod, and look again
abbrev pub sleep_plan : Page → ℕ → Plan Bool
sleep_plan page rsp = Make (Store (word_of page 1) (next_index rsp)) Plain (λ _. check_plan page rsp)

-- the page of a hold
abbrev pub page_at : Hold → Page
page_at h = record { dom = h.dom.0; frame = h.frame.0 }

-- what a link holds once it is connected: the ring's page, if it has a ring, the event page, and the two indices that
-- were loaded
pub record Joined : Type 0 where
  pub ring : Option Hold
  pub event : Hold
  pub rsp : ℕ
  pub prod : ℕ

-- how a Connect ends: the link is joined, or this refusal came while it held these pages
pub data Connected : Type 0 where
  Joins : Joined → Connected
  Refuses : List Hold → GrantRefusal → Connected

abbrev pub hold_list : Option Hold → List Hold
hold_list None = []
hold_list (Some h) = h ∷ []

-- the ring's page before the event page
abbrev pub pages_of : Joined → List Hold
pages_of j = hold_list j.ring ++ j.event ∷ []

-- the end of a Connect: load in_prod from the event page
abbrev pub prod_plan : Option Hold → ℕ → Hold → Plan Connected
prod_plan ring rsp event =
    Make (Load (word_of (page_at event) 1)) Plain (λ prod. Finished (Joins (record { ring = ring; event = event; rsp = rsp; prod = prod })))

-- what follows the map of the event page
abbrev pub with_event : Option Hold → ℕ → Result Hold GrantRefusal → Plan Connected
with_event ring rsp (Ok h) = prod_plan ring rsp h
with_event ring rsp (Err r) = Finished (Refuses (hold_list ring) r)

-- map the event page
abbrev pub event_map_plan : (frames grants dom event : ℕ) → Option Hold → ℕ → Plan Connected
event_map_plan frames grants dom event ring rsp = joined (map_plan frames grants dom event Write) (with_event ring rsp)

-- load rsp_prod from the ring's page
abbrev pub rsp_plan : (frames grants dom event : ℕ) → Hold → Plan Connected
rsp_plan frames grants dom event ring =
    Make (Load (word_of (page_at ring) 2)) Plain (event_map_plan frames grants dom event (Some ring))

-- what follows the map of the ring's page
abbrev pub with_ring : (frames grants dom event : ℕ) → Result Hold GrantRefusal → Plan Connected
with_ring frames grants dom event (Ok h) = rsp_plan frames grants dom event h
with_ring frames grants dom event (Err r) = Finished (Refuses [] r)

-- Connect: map the ring's page and load rsp_prod, if there is a ring; map the event page and load in_prod
abbrev pub connect_plan : (frames grants dom : ℕ) → Option ℕ → ℕ → Plan Connected
connect_plan frames grants dom None event = event_map_plan frames grants dom event None 0
connect_plan frames grants dom (Some ring) event = joined (map_plan frames grants dom ring Write) (with_ring frames grants dom event)
