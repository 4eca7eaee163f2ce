-- What a link holds after a Connect, and after a Drop, whatever words it finds.
use Rattle.std.specs.Prelude.{◌≡◌, ◌⊎◌, ℕ, ◌<◌, true, List, [], ◌∷◌, ◌++◌, Option, Some, None}
use Rattle.pv_words.specs.declared.grant.GrantRefusal.{GrantRefusal}
use Rattle.pv_words.specs.declared.grant.Hold.{Hold}
use Rattle.pv_words.specs.declared.grant.Mode.TheVariants.{Write}
use Rattle.pv_words.specs.Found.{Found, finding}
use Rattle.pv_words.specs.Held.{Holds, IsProper, holding, holds_of}
use Rattle.pv_words.specs.Plan.{Finished, FitsFrom, IsUntouched}
use Rattle.pv_words.specs.MapLaws.{IsHold, IsCause, IsShown}
use Rattle.ring_words.specs.Ring.{looked_of}
use Rattle.link_core.specs.declared.link.Link.{Link}
use Rattle.link_core.specs.Activities.{Connected, Joins, Refuses, Page, pages_of, connect_plan, look_plan, unmaps}
use Rattle.link_core.specs.Link.{connect_left, connects, dom_of, held_of}

-- the pages that a Connect leaves held
abbrev pub kept_by : Connected → List Hold
kept_by (Joins j) = pages_of j
kept_by (Refuses held r) = held

-- the ring's page is one of the domain's by the reference that was given, and there is none where none was given
abbrev pub IsRing : (frames grants dom : ℕ) → Option ℕ → Option Hold → Type 0
IsRing frames grants dom None None = Unit {0}
IsRing frames grants dom None (Some h) = ⊥
IsRing frames grants dom (Some gref) None = ⊥
IsRing frames grants dom (Some gref) (Some h) = IsHold frames grants dom gref Write h

-- the map of the event page was refused while the ring's page was held
abbrev pub IsLater : (frames grants dom gref event : ℕ) → List Hold → GrantRefusal → Type 0
IsLater frames grants dom gref event held r =
    (h : Hold) × (held ≡ h ∷ []) × IsHold frames grants dom gref Write h × IsCause frames grants event Write r

-- which map was refused, and what was held then; the refusal shows its cause
abbrev pub IsRefused : (frames grants dom : ℕ) → Option ℕ → ℕ → List Hold → GrantRefusal → Type 0
IsRefused frames grants dom None event held r = (held ≡ []) × IsCause frames grants event Write r
IsRefused frames grants dom (Some gref) event held r =
    ((held ≡ []) × IsCause frames grants gref Write r) ⊎ IsLater frames grants dom gref event held r

abbrev pub IsEnd : (frames grants dom : ℕ) → Option ℕ → ℕ → Connected → Type 0
IsEnd frames grants dom ring event (Joins j) = IsRing frames grants dom ring j.ring × IsHold frames grants dom event Write j.event
IsEnd frames grants dom ring event (Refuses held r) = IsRefused frames grants dom ring event held r

-- By a Connect a device that holds some pages holds the ring's page and the event page more; where a map is refused, it
-- holds what was mapped before. Each access is in range and stays in the pages and grant entries that are the device's.
abbrev pub ConnectsExactly : Type 0
ConnectsExactly =
    (frames grants : ℕ → ℕ) (dom event : ℕ) (ring : Option ℕ) (held : List Hold)
    → FitsFrom (IsProper frames grants dom) (holding frames) (λ h c. (h ≡ holds_of (held ++ kept_by c)) × IsEnd (frames dom) (grants dom) dom ring event c)
    (holds_of held) (connect_plan (frames dom) (grants dom) dom ring event)

-- why a Connect was refused, as the words show that were found last: the map of the ring's page, or of the event page
abbrev pub HasShown : (frames grants : ℕ) → Option ℕ → (event : ℕ) → Found → Connected → Type 0
HasShown frames grants ring event f (Joins j) = Unit {0}
HasShown frames grants ring event f (Refuses held why) = (gref : ℕ) × ((ring ≡ Some gref) ⊎ (event ≡ gref)) × IsShown frames grants gref Write f why

-- Whatever words a Connect finds, its refusal is the one that they show; and it touches no word of a name.
abbrev pub ConnectsShow : Type 0
ConnectsShow =
    (frames grants dom event : ℕ) (ring : Option ℕ) (f : Found)
    → FitsFrom (λ g want note. IsUntouched note) (λ g note a. finding g a) (HasShown frames grants ring event) f (connect_plan frames grants dom ring event)

-- What a Look answers follows from the word that it loads.
abbrev pub LooksShow : Type 0
LooksShow =
    (page : Page) (rsp : ℕ) (f : Found)
    → FitsFrom (λ g want note. IsUntouched note) (λ g note a. finding g a) (λ g l. (prod : ℕ) × (g.word ≡ Some prod) × (l ≡ looked_of rsp prod)) f (look_plan page rsp)

-- pages of this domain, by entries that it has
abbrev pub AreOf : (grants dom : ℕ) → List Hold → Type 0
AreOf grants dom [] = Unit {0}
AreOf grants dom (h ∷ hs) = (h.dom.0 ≡ dom) × (h.gref.0 < grants) × AreOf grants dom hs

-- By the unmaps of pages that it holds, a device holds the others alone; each is a clear of the page's own in-use bits.
abbrev pub DropsExactly : Type 0
DropsExactly =
    (frames grants : ℕ → ℕ) (dom : ℕ) (dropped held : List Hold)
    → AreOf (grants dom) dom dropped
    → FitsFrom (IsProper frames grants dom) (holding frames) (λ h (u : Unit {0}). h ≡ holds_of held) (holds_of (dropped ++ held)) (unmaps dropped (Finished tt))

-- While a Connect is under way, whatever words were found so far, the device holds what it held before, and what the link
-- tells that it holds.
abbrev pub HoldsThroughout : Type 0
HoldsThroughout =
    (frames grants : ℕ → ℕ) (event : ℕ) (ring : Option ℕ) (held : List Hold) (l : Link) (now : Holds)
    → connects l ≡ true
    → FitsFrom (IsProper frames grants (dom_of l)) (holding frames) (λ h c. h ≡ holds_of (held ++ kept_by c)) now (connect_left (frames (dom_of l)) (grants (dom_of l)) ring event l)
    → now.held ≡ held ++ held_of l
