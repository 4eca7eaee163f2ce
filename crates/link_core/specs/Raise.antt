-- Raise and Publish: events are put into the event page of a part, where there is room for all of them. The page has in_cons and
-- in_prod in its first words; events stand in slots behind, each in that of its index (displif.h, sndif.h and kbdif.h).
use Rattle.std.specs.Prelude.{ℕ, ◌+◌, ◌*◌, ◌/◌, ◌%◌, ◌≤◌, nat_lt, List, length, Option, Some, None, if◌then◌else◌}
use Rattle.std.specs.List.{flat_map}
use Rattle.pv_words.specs.declared.place.Place.{Place}
use Rattle.pv_words.specs.Plan.{Plan, Finished, Make, Load, Store, Plain}
use Rattle.ring_words.specs.Ring.{since}
use Rattle.event_ring.specs.Events.{index_after}
use Rattle.link_core.specs.declared.link.Put.{Put}
use Rattle.link_core.specs.declared.link.Put.TheVariants as put
use Rattle.link_core.specs.declared.link.event.Layout.{Layout}
use Rattle.link_core.specs.Activities.{Page, word_of, stores}

-- the event page of displif.h and sndif.h: from word 16 on 63 slots of 16 words
abbrev pub slots : ℕ
slots = 63

abbrev pub event_layout : Layout
event_layout = record { slots = slots; first = 16; size = 16 }

-- the page of kbdif.h: from word 256 on 51 slots of 10 words
abbrev pub input_layout : Layout
input_layout = record { slots = 51; first = 256; size = 10 }

-- the slots lie in a page
abbrev pub IsInPage : Layout → Type 0
IsInPage layout = (1 ≤ layout.slots) × (1 ≤ layout.size) × (layout.first + layout.size * layout.slots ≤ 1024)

-- in_prod is spent from here on
abbrev pub limit : ℕ
limit = 4294967232

-- where word i of the next events stands, the first of which has the index prod: in the slot of its event's index
abbrev pub word_at : Layout → (prod : ℕ) → ℕ → ℕ
word_at layout prod i = layout.first + layout.size * (index_after prod (i / layout.size) % layout.slots) + i % layout.size

abbrev pub event_place : Layout → Page → (prod : ℕ) → ℕ → Place
event_place layout page prod i = word_of page (word_at layout prod i)

-- store in_prod, which is n more
abbrev pub publish_events : Page → (prod n : ℕ) → Plan Put
publish_events page prod n = Make (Store (word_of page 1) (index_after prod n)) Plain (λ _. Finished put.Done)

-- what stands against n more events where so many aren't consumed yet: those are more than there are slots, or leave too few free
abbrev pub obstacle_of : (slots prod n cons unread : ℕ) → Option Put
obstacle_of slots prod n cons unread =
    if nat_lt slots unread then Some (put.BadCons prod cons) else (if nat_lt slots (unread + n) then Some put.Full else None)

-- else their words are stored
abbrev pub unless_barred : Option Put → Plan Put → Plan Put
unless_barred (Some end) stored = Finished end
unless_barred None stored = stored

abbrev pub put_in : Layout → Page → (prod n : ℕ) → List ℕ → (cons : ℕ) → Plan Put
put_in layout page prod n words cons =
    unless_barred (obstacle_of layout.slots prod n cons (since cons prod)) (stores (event_place layout page prod) (publish_events page prod n) 0 words)

-- load in_cons; store the words of the events, then publish them all
abbrev pub put_events : Layout → Page → (prod n : ℕ) → List ℕ → Plan Put
put_events layout page prod n words = Make (Load (word_of page 0)) Plain (put_in layout page prod n words)

-- a spent in_prod ends it without an access
abbrev pub events_plan : Layout → Page → (prod n : ℕ) → List ℕ → Plan Put
events_plan layout page prod n words = if nat_lt prod limit then put_events layout page prod n words else Finished (put.Spent prod)

-- Raise: one event of these words, and what follows where in_prod isn't spent
abbrev pub put_plan : Page → (prod : ℕ) → List ℕ → Plan Put
put_plan page prod words = put_events event_layout page prod 1 words

abbrev pub raise_plan : Page → (prod : ℕ) → List ℕ → Plan Put
raise_plan page prod words = events_plan event_layout page prod 1 words

-- Publish: a group of events, each a list of its words
abbrev pub group_plan : Page → (prod : ℕ) → List (List ℕ) → Plan Put
group_plan page prod group = events_plan input_layout page prod (length group) (flat_map (λ e. e) group)
