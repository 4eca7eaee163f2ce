-- Which activity a link is in, and which pages it holds.
use Rattle.std.specs.Prelude.{ℕ, nat_lt, Bool, true, false, List, [], ◌∷◌, Option, Some, None}
use Rattle.pv_words.specs.declared.grant.Hold.{Hold}
use Rattle.link_core.specs.declared.link.Kept.{Kept}
use Rattle.link_core.specs.declared.link.Kept.TheVariants as kept
use Rattle.link_core.specs.declared.link.Stage.{Stage}
use Rattle.link_core.specs.declared.link.Stage.TheVariants as stage

-- how many accesses of the activity are counted
abbrev pub length_of : Stage → ℕ
length_of stage.Rest = 1
length_of stage.Take = 16
length_of stage.Answer = 18
length_of stage.Sleep = 2
length_of stage.Raise = 1
length_of stage.Ring = 1
length_of stage.Index = 1
length_of stage.Event = 1
length_of stage.Prod = 1

-- how many of them a link has made of a Take, an Answer, a Sleep
abbrev pub taken_in : Stage → ℕ → ℕ
taken_in stage.Rest n = 0
taken_in stage.Take n = n
taken_in stage.Answer n = 0
taken_in stage.Sleep n = 0
taken_in stage.Raise n = 0
taken_in stage.Ring n = 0
taken_in stage.Index n = 0
taken_in stage.Event n = 0
taken_in stage.Prod n = 0

abbrev pub answered_in : Stage → ℕ → ℕ
answered_in stage.Rest n = 0
answered_in stage.Take n = 0
answered_in stage.Answer n = n
answered_in stage.Sleep n = 0
answered_in stage.Raise n = 0
answered_in stage.Ring n = 0
answered_in stage.Index n = 0
answered_in stage.Event n = 0
answered_in stage.Prod n = 0

abbrev pub slept_in : Stage → ℕ → ℕ
slept_in stage.Rest n = 0
slept_in stage.Take n = 0
slept_in stage.Answer n = 0
slept_in stage.Sleep n = n
slept_in stage.Raise n = 0
slept_in stage.Ring n = 0
slept_in stage.Index n = 0
slept_in stage.Event n = 0
slept_in stage.Prod n = 0

-- the pages that are held, of a ring's page and an event page
abbrev pub held_in : Kept → (ring event : Hold) → List Hold
held_in kept.Nothing ring event = []
held_in kept.Ring ring event = ring ∷ []
held_in kept.Event ring event = event ∷ []
held_in kept.Both ring event = ring ∷ event ∷ []

-- the ring's page, where it is held
abbrev pub ring_in : Kept → Hold → Option Hold
ring_in kept.Nothing ring = None
ring_in kept.Ring ring = Some ring
ring_in kept.Event ring = None
ring_in kept.Both ring = Some ring

-- no page but the ring's is held
abbrev pub lacks_event : Kept → Bool
lacks_event kept.Nothing = true
lacks_event kept.Ring = true
lacks_event kept.Event = false
lacks_event kept.Both = false

abbrev pub has_event : Kept → Bool
has_event kept.Nothing = false
has_event kept.Ring = false
has_event kept.Event = true
has_event kept.Both = true

-- the same, with the event page
abbrev pub and_event : Kept → Kept
and_event kept.Nothing = kept.Event
and_event kept.Ring = kept.Both
and_event kept.Event = kept.Event
and_event kept.Both = kept.Both

abbrev pub has_ring_alone : Kept → Bool
has_ring_alone kept.Nothing = false
has_ring_alone kept.Ring = true
has_ring_alone kept.Event = false
has_ring_alone kept.Both = false

abbrev pub has_nothing : Kept → Bool
has_nothing kept.Nothing = true
has_nothing kept.Ring = false
has_nothing kept.Event = false
has_nothing kept.Both = false

-- a Connect holds what it mapped so far
abbrev pub agrees : Stage → Kept → Bool
agrees stage.Rest k = true
agrees stage.Take k = true
agrees stage.Answer k = true
agrees stage.Sleep k = true
agrees stage.Raise k = true
agrees stage.Ring k = has_nothing k
agrees stage.Index k = has_ring_alone k
agrees stage.Event k = lacks_event k
agrees stage.Prod k = has_event k

abbrev pub has_both : Kept → Bool
has_both kept.Nothing = false
has_both kept.Ring = false
has_both kept.Event = false
has_both kept.Both = true

-- a Connect with a ring doesn't pass over the ring's page: it is held, or comes yet
abbrev pub ring_comes : Stage → Kept → Bool
ring_comes stage.Rest k = true
ring_comes stage.Take k = true
ring_comes stage.Answer k = true
ring_comes stage.Sleep k = true
ring_comes stage.Raise k = true
ring_comes stage.Ring k = true
ring_comes stage.Index k = true
ring_comes stage.Event k = has_ring_alone k
ring_comes stage.Prod k = has_both k

-- the words of events are being stored
abbrev pub is_raise : Stage → Bool
is_raise stage.Raise = true
is_raise other = false

-- they are stored only where in_prod isn't spent
abbrev pub may_raise : Stage → (prod : ℕ) → Bool
may_raise stage.Raise prod = nat_lt prod 4294967232
may_raise other prod = true
