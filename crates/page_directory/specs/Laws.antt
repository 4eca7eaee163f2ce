-- What a walk comes to.
use Rattle.std.specs.Prelude.{◌≡◌, ◌⊎◌, ℕ, false, List, [], ◌++◌, length, Some}
use Rattle.std.specs.List.{AllByRecursion}
use Rattle.pv_words.specs.declared.grant.Hold.{Hold}
use Rattle.pv_words.specs.declared.grant.Mode.{Mode}
use Rattle.pv_words.specs.declared.grant.Mode.TheVariants.{Read}
use Rattle.pv_words.specs.declared.grant.GrantRefusal.{GrantRefusal}
use Rattle.pv_words.specs.declared.grant.GrantRefusal.TheVariants.{NoNext}
use Rattle.page_directory.specs.declared.walk.Walked.{Walked}
use Rattle.page_directory.specs.declared.walk.Walked.TheVariants.{Pages, Refused}
use Rattle.pv_words.specs.Found.{Found, finding}
use Rattle.pv_words.specs.Plan.{FitsFrom, IsUntouched}
use Rattle.pv_words.specs.Held.{Holds, IsProper, holding, holds_of}
use Rattle.pv_words.specs.MapLaws.{IsHold, IsShown}
use Rattle.page_directory.specs.Same.{AreSame}
use Rattle.page_directory.specs.declared.walk.Walk.{Walk}
use Rattle.page_directory.specs.WalkLeft.{dom_of, held_by, is_over, walk_left}
use Rattle.page_directory.specs.Walking.{walk_plan}

-- a page of the domain's, held for this mode
abbrev pub IsPage : (frames grants dom : ℕ) → Mode → Hold → Type 0
IsPage frames grants dom mode h = IsHold frames grants dom h.gref.0 mode h

-- the map was the last of a walk from this first directory page on: that of the first directory page, or of the page, or the next
-- directory page, whose reference was the word of a page that was loaded last
abbrev pub IsLastFound : (first : ℕ) → Mode → Found → (gref : ℕ) → Mode → Type 0
IsLastFound first mode f gref m = ((gref ≡ first) × (m ≡ Read)) ⊎ ((f.word ≡ Some gref) × ((m ≡ Read) ⊎ (m ≡ mode)))

-- Why a walk from this first directory page on is refused, as the words show that were found last: the reference of a next
-- directory page was 0, where one is needed; or its last map was refused.
abbrev pub IsReason : (frames grants first : ℕ) → Mode → Found → GrantRefusal → Type 0
IsReason frames grants first mode f why =
    ((why ≡ NoNext) × (f.word ≡ Some 0)) ⊎ ((gref : ℕ) × (m : Mode) × IsLastFound first mode f gref m × IsShown frames grants gref m f why)

abbrev pub HasShown : (frames grants first : ℕ) → Mode → Found → Walked → Type 0
HasShown frames grants first mode f (Pages ps) = Unit {0}
HasShown frames grants first mode f (Refused why) = IsReason frames grants first mode f why

-- Whatever words a walk finds, its refusal is the one that they show; and it touches no word of a name.
abbrev pub WalksShow : Type 0
WalksShow =
    (frames grants dom first : ℕ) (mode : Mode) (count : ℕ) (f : Found)
    → FitsFrom (λ g want note. IsUntouched note) (λ g note a. finding g a) (HasShown frames grants first mode) f (walk_plan frames grants dom first mode count)

-- What a device holds at the end of a walk, which held some pages before: those of the list, which are so many of the
-- domain's, beside them; or where it is refused just those that it held before.
abbrev pub Leaves : (frames grants dom : ℕ) → Mode → (count : ℕ) (others : List Hold) → Holds → Walked → Type 0
Leaves frames grants dom mode count others h (Pages ps) =
    (h ≡ holds_of h.held) × AreSame h.held (others ++ ps) × AllByRecursion (IsPage frames grants dom mode) ps × (length ps ≡ count)
Leaves frames grants dom mode count others h (Refused r) =
    (h ≡ holds_of h.held) × AreSame h.held others

-- Whatever words a walk finds, each of its accesses is in range; a load of a directory's word lies in a page that the
-- device holds then, each other access in a grant entry of the domain, and each unmap ends a hold that stands. What it
-- leaves is as above.
abbrev pub WalksExactly : Type 0
WalksExactly =
    (frames grants : ℕ → ℕ) (dom gref : ℕ) (mode : Mode) (count : ℕ) (others : List Hold)
    → FitsFrom (IsProper frames grants dom) (holding frames) (Leaves (frames dom) (grants dom) dom mode count others)
    (holds_of others) (walk_plan (frames dom) (grants dom) dom gref mode count)

-- the pages that a walk comes to
abbrev pub pages_in : Walked → List Hold
pages_in (Pages ps) = ps
pages_in (Refused r) = []

-- While a walk is under way, whatever words were found so far, a device that held some pages before holds beside them just the
-- pages that the walk tells, each as often.
abbrev pub HoldsThroughout : Type 0
HoldsThroughout =
    (frames grants : ℕ → ℕ) (w : Walk) (others : List Hold) (now : Holds)
    → is_over w ≡ false
    → FitsFrom (IsProper frames grants (dom_of w)) (holding frames) (λ h came. AreSame h.held (others ++ pages_in came)) now (walk_left (frames (dom_of w)) (grants (dom_of w)) w)
    → AreSame now.held (others ++ held_by w)
