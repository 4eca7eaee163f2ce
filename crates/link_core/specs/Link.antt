-- What a link holds, and what it has still to do of each activity.
use Rattle.std.specs.Prelude.{◌≡◌, ℕ, ◌-◌, ◌==◌, Bool, true, false, List, [], ◌∷◌, take, drop, if◌then◌else◌, Option, Some, None, Result, Ok, Err, length}
use Rattle.std.specs.List.{flat_map}
use Rattle.pv_words.specs.declared.access.Access.{Access}
use Rattle.pv_words.specs.declared.access.Turn.{Turn}
use Rattle.pv_words.specs.declared.grant.GrantRefusal.{GrantRefusal}
use Rattle.pv_words.specs.declared.grant.Hold.{Hold}
use Rattle.pv_words.specs.declared.place.GrantRef.{GrantRef}
use Rattle.pv_words.specs.Plan.{Plan, Want, Finished, Goes, IsUnfinished, MayGo, joined}
use Rattle.pv_words.specs.MapLeft.{map_left}
use Rattle.event_ring.specs.Events.{index_after}
use Rattle.ring_words.specs.Ring.{next_index}
use Rattle.link_core.specs.declared.link.Link.{Link}
use Rattle.link_core.specs.declared.link.Stage.{Stage}
use Rattle.link_core.specs.declared.link.Stage.TheVariants as stage
use Rattle.link_core.specs.Activities.{Page, Joined, Connected, Joins, Refuses, page_at, slot_place, loads, stores, publish_plan, event_plan, check_plan, sleep_plan, prod_plan, with_event, rsp_plan, with_ring, connect_plan, unmaps, pages_of}
use Rattle.link_core.specs.declared.link.Put.{Put}
use Rattle.link_core.specs.declared.link.Put.TheVariants as put
use Rattle.link_core.specs.declared.link.event.Layout.{Layout}
use Rattle.link_core.specs.Raise.{event_layout, event_place, events_plan, input_layout, publish_events}
use Rattle.link_core.specs.Stage.{taken_in, answered_in, slept_in, held_in, ring_in, ring_comes, is_raise}

-- the domain of its pages
unfoldable pub dom_of : Link → ℕ
dom_of l = l.dom.0

-- the part of its device whose pages they are
abbrev pub part_of : Link → ℕ
part_of l = l.part

-- the pages that it holds: the ring's page before the event page
unfoldable pub held_of : Link → List Hold
held_of l = held_in l.kept l.ring_page l.event_page

-- its last Connect ended with Ok, and it dropped nothing since
unfoldable pub is_joined : Link → Bool
is_joined l = l.joined

-- what it came to; said of a link that is joined
unfoldable pub joined_of : Link → Joined
joined_of l = record { ring = ring_in l.kept l.ring_page; event = l.event_page; rsp = l.ring; prod = l.prod }

-- the ring's page
unfoldable pub page_of : Link → Page
page_of l = page_at l.ring_page

-- the index of the next reply
unfoldable pub rsp_of : Link → ℕ
rsp_of l = l.ring

-- what is left of a Take of which n words are loaded
abbrev pub take_rest : Page → ℕ → ℕ → List ℕ → Plan (List ℕ)
take_rest page rsp n words = loads (slot_place page rsp) Finished (16 - n) n (take n words)

unfoldable pub take_left : Link → Plan (List ℕ)
take_left l = take_rest (page_of l) (rsp_of l) (taken_in l.stage l.count) l.words

-- what is left of an Answer that made n accesses
abbrev pub answer_rest : Page → ℕ → ℕ → List ℕ → Plan Bool
answer_rest page rsp n reply =
    if n == 17 then event_plan page rsp else stores (slot_place page rsp) (publish_plan page rsp) n (drop n reply)

unfoldable pub answer_left : Link → List ℕ → Plan Bool
answer_left l reply = answer_rest (page_of l) (rsp_of l) (answered_in l.stage l.count) reply

-- what is left of a Sleep that made n accesses
abbrev pub sleep_rest : Page → ℕ → ℕ → Plan Bool
sleep_rest page rsp n = if n == 1 then check_plan page rsp else sleep_plan page rsp

unfoldable pub sleep_left : Link → Plan Bool
sleep_left l = sleep_rest (page_of l) (rsp_of l) (slept_in l.stage l.count)

-- no activity is under way
abbrev pub rests : Stage → Bool
rests stage.Rest = true
rests stage.Take = false
rests stage.Answer = false
rests stage.Sleep = false
rests stage.Raise = false
rests stage.Ring = false
rests stage.Index = false
rests stage.Event = false
rests stage.Prod = false

unfoldable pub idle : Link → Bool
idle l = rests l.stage

-- a Connect is under way
abbrev pub is_in_connect : Stage → Bool
is_in_connect stage.Rest = false
is_in_connect stage.Take = false
is_in_connect stage.Answer = false
is_in_connect stage.Sleep = false
is_in_connect stage.Raise = false
is_in_connect stage.Ring = true
is_in_connect stage.Index = true
is_in_connect stage.Event = true
is_in_connect stage.Prod = true

unfoldable pub connects : Link → Bool
connects l = is_in_connect l.stage

-- One step leads from plan to plan, also where nothing is left of it: then it is done, with the result, and makes no
-- access. It is done with the last access.
abbrev pub Leads : {A : Type 0} → Plan A → Option Access → Option A → Plan A → Type 0
Leads old None None new = ⊥
Leads old None (Some x) new = old ≡ Finished x
Leads old (Some a) None new = Goes old a new × IsUnfinished new
Leads old (Some a) (Some x) new = Goes old a (Finished x)

abbrev pub refs_of : Option GrantRef → Option ℕ
refs_of None = None
refs_of (Some g) = Some g.0

-- what is left of a Connect at each of its stages: the map of the ring's page, the load of rsp_prod, the map of the event
-- page, the load of in_prod
abbrev pub connect_rest : (frames grants : ℕ) → Option ℕ → ℕ → Link → Stage → Plan Connected
connect_rest frames grants ring event l stage.Rest = connect_plan frames grants l.dom.0 ring event
connect_rest frames grants ring event l stage.Take = connect_plan frames grants l.dom.0 ring event
connect_rest frames grants ring event l stage.Answer = connect_plan frames grants l.dom.0 ring event
connect_rest frames grants ring event l stage.Sleep = connect_plan frames grants l.dom.0 ring event
connect_rest frames grants ring event l stage.Raise = connect_plan frames grants l.dom.0 ring event
connect_rest frames grants ring event l stage.Ring = joined (map_left frames grants l.map) (with_ring frames grants l.dom.0 event)
connect_rest frames grants ring event l stage.Index = rsp_plan frames grants l.dom.0 event l.ring_page
connect_rest frames grants ring event l stage.Event = joined (map_left frames grants l.map) (with_event (ring_in l.kept l.ring_page) l.ring)
connect_rest frames grants ring event l stage.Prod = prod_plan (ring_in l.kept l.ring_page) l.ring l.event_page

unfoldable pub connect_left : (frames grants : ℕ) → Option ℕ → ℕ → Link → Plan Connected
connect_left frames grants ring event l = connect_rest frames grants ring event l l.stage

-- how a Connect ended that left this link
abbrev pub end_of : Link → Result (Unit {0}) GrantRefusal → Connected
end_of l (Ok u) = Joins (joined_of l)
end_of l (Err r) = Refuses (held_of l) r

abbrev pub ending_of : Link → Option (Result (Unit {0}) GrantRefusal) → Option Connected
ending_of l None = None
ending_of l (Some r) = Some (end_of l r)

-- what is left over a port, each of whose domains has so many frames and grant entries: of a Connect, and of the map that
-- is under way in it
abbrev pub connect_left_by : (frames grants : ℕ → ℕ) → Option ℕ → ℕ → Link → Plan Connected
connect_left_by frames grants ring event l = connect_left (frames (dom_of l)) (grants (dom_of l)) ring event l

abbrev pub connect_map_left : (frames grants : ℕ → ℕ) → Link → Plan (Result Hold GrantRefusal)
connect_map_left frames grants l = map_left (frames (dom_of l)) (grants (dom_of l)) l.map

-- the next access of a Connect may be made through such a port
abbrev pub MayConnectBy : (Want → Type 0) → (frames grants : ℕ → ℕ) → Option ℕ → ℕ → Link → Type 0
MayConnectBy may frames grants ring event l = MayGo may (connect_left_by frames grants ring event l)

-- A step of a Connect leads from what was left of it to what is left of it then, or to its end: where the domain has so
-- many frames and grant entries, over such a port, and the same whatever ring, or ring and event page, the Connect is for.
abbrev pub ConnectsOn : (frames grants : ℕ) → Option ℕ → ℕ → (old : Link) → Turn (Result (Unit {0}) GrantRefusal) → (new : Link) → Type 0
ConnectsOn frames grants ring event old turn new =
    Leads (connect_left frames grants ring event old) turn.access (ending_of new turn.done) (connect_left frames grants ring event new)

abbrev pub ConnectsOnBy : (frames grants : ℕ → ℕ) → Option ℕ → ℕ → (old : Link) → Turn (Result (Unit {0}) GrantRefusal) → (new : Link) → Type 0
ConnectsOnBy frames grants ring event old turn new = ConnectsOn (frames (dom_of old)) (grants (dom_of old)) ring event old turn new

abbrev pub ConnectsAnyRingBy : (frames grants : ℕ → ℕ) → ℕ → (old : Link) → Turn (Result (Unit {0}) GrantRefusal) → (new : Link) → Type 0
ConnectsAnyRingBy frames grants event old turn new = (ring : Option ℕ) → ConnectsOnBy frames grants ring event old turn new

abbrev pub ConnectsAnyBy : (frames grants : ℕ → ℕ) → (old : Link) → Turn (Result (Unit {0}) GrantRefusal) → (new : Link) → Type 0
ConnectsAnyBy frames grants old turn new = (ring : Option ℕ) (event : ℕ) → ConnectsOnBy frames grants ring event old turn new

-- what is left of a Drop: every page that is held is unmapped
unfoldable pub drop_left : Link → Plan (Unit {0})
drop_left l = unmaps (held_of l) (Finished tt)

-- the list without its first element
abbrev pub rest_of : List Hold → List Hold
rest_of [] = []
rest_of (h ∷ hs) = hs

-- one reply more was published
abbrev pub answered_of : Joined → Joined
answered_of j = record { ring = j.ring; event = j.event; rsp = next_index j.rsp; prod = j.prod }

-- an activity on the ring changes nothing of what the link holds
pub record Keeps (old new : Link) : Type 0 where
  pub dom : dom_of new ≡ dom_of old
  pub part : part_of new ≡ part_of old
  pub held : held_of new ≡ held_of old
  pub is_joined : is_joined new ≡ is_joined old
  pub page : page_of new ≡ page_of old

-- what a step of a Connect makes of a link, which isn't joined until it ends with Ok
abbrev pub AfterConnect : Option (Result (Unit {0}) GrantRefusal) → Link → Type 0
AfterConnect None new = (connects new ≡ true) × (is_joined new ≡ false)
AfterConnect (Some (Ok u)) new = (idle new ≡ true) × (is_joined new ≡ true) × (held_of new ≡ pages_of (joined_of new))
AfterConnect (Some (Err r)) new = (idle new ≡ true) × (is_joined new ≡ false)

-- a Connect with a ring that is under way doesn't pass over the ring's page
unfoldable pub rings : Link → Bool
rings l = ring_comes l.stage l.kept

-- it still doesn't, and where it is over with Ok both pages are held
abbrev pub Came : Option (Result (Unit {0}) GrantRefusal) → Link → Type 0
Came None new = rings new ≡ true
Came (Some (Ok u)) new = length (held_of new) ≡ 2
Came (Some (Err r)) new = Unit {0}

abbrev pub CameBy : Option ℕ → Bool → Option (Result (Unit {0}) GrantRefusal) → Link → Type 0
CameBy None rung end new = Unit {0}
CameBy (Some ring) rung end new = rung ≡ true → Came end new

-- the words of events are being stored
unfoldable pub puts : Link → Bool
puts l = is_raise l.stage

-- what is left of putting n events of these words: all of it, or, where they found room and some words are stored, the stores of the
-- others
abbrev pub put_rest : Layout → Page → (prod : ℕ) → Stage → (stored n : ℕ) → List ℕ → Plan Put
put_rest layout page prod stage.Raise stored n words =
    stores (event_place layout page prod) (publish_events page prod n) stored (drop stored words)
put_rest layout page prod other stored n words = events_plan layout page prod n words

-- such an activity of which no access was made
abbrev pub whole_put : Layout → ℕ → List ℕ → Link → Plan Put
whole_put layout n words l = events_plan layout (page_at l.event_page) l.prod n words

abbrev pub put_left : Layout → ℕ → List ℕ → Link → Plan Put
put_left layout n words l = put_rest layout (page_at l.event_page) l.prod l.stage l.stored n words

-- what is left of a Raise of these words, and of a Publish of this group
unfoldable pub raise_left : Link → List ℕ → Plan Put
raise_left l words = put_left event_layout 1 words l

unfoldable pub publish_left : Link → List (List ℕ) → Plan Put
publish_left l group = put_left input_layout (length group) (flat_map (λ e. e) group) l

-- n events more were published
abbrev pub published_of : ℕ → Joined → Joined
published_of n j = record j { prod = index_after j.prod n }

abbrev pub published_if : ℕ → Option Put → Joined → Joined
published_if n (Some put.Done) j = published_of n j
published_if n other j = j

-- one event more was published
abbrev pub raised_of : Joined → Joined
raised_of j = published_of 1 j

abbrev pub raised_if : Option Put → Joined → Joined
raised_if end j = published_if 1 end j
