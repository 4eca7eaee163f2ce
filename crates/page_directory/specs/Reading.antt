-- What a walk reads of a page directory, and what it maps by it.
use Rattle.std.specs.Prelude.{◌≡◌, ◌⊎◌, ℕ, ◌+◌, ◌*◌, ◌<◌, ◌≤◌, ◌==◌, Bool, true, false, List, [], ◌∷◌, ◌++◌, length, map, Option, Some, None, if◌then◌else◌}
use Rattle.pv_words.specs.declared.place.Place.TheVariants.{Cell, Grant}
use Rattle.pv_words.specs.declared.place.Half.TheVariants.{Flags, FrameNo}
use Rattle.pv_words.specs.declared.access.Access.{Access}
use Rattle.pv_words.specs.declared.access.Access.TheVariants as access
use Rattle.pv_words.specs.declared.grant.Hold.{Hold}
use Rattle.pv_words.specs.declared.grant.Mode.{Mode}
use Rattle.pv_words.specs.declared.grant.Mode.TheVariants.{Read}
use Rattle.pv_words.specs.declared.grant.GrantRefusal.{GrantRefusal}
use Rattle.pv_words.specs.declared.grant.GrantRefusal.TheVariants.{NoNext}
use Rattle.pv_words.specs.declared.grant.GrantRefusal.TheVariants as refusal
use Rattle.pv_words.specs.Plan.{Want, Load, Store, Swap, Clear, Note}
use Rattle.page_directory.specs.declared.walk.Walked.{Walked}
use Rattle.page_directory.specs.declared.walk.Walked.TheVariants.{Pages, Refused}
use Rattle.pv_words.specs.Plan.{FitsFrom}
use Rattle.pv_words.specs.MapLaws.{IsCause}
use Rattle.page_directory.specs.Walking.{walk_plan}

pub record Reading : Type 0 where
  -- how many directory pages were read to their end
  pub turned : ℕ
  -- the reference of the directory page at which the walk is, and the frame of that page once it is known
  pub from : ℕ
  pub frame : Option ℕ
  -- the references of pages that were loaded, in order
  pub listed : List ℕ
  -- the reference of a further directory page was loaded, and it was 0
  pub stopped : Bool

abbrev pub first_frame : Option ℕ → ℕ → Option ℕ
first_frame None v = Some v
first_frame (Some f) v = Some f

-- after a load of a frame: the first one is the directory page's
abbrev pub with_frame : Reading → ℕ → Reading
with_frame r v = record { turned = r.turned; from = r.from; frame = first_frame r.frame v; listed = r.listed; stopped = r.stopped }

-- after a load of a word of a directory page: word 0 is the reference of the next directory page, each other word that
-- of a page
abbrev pub with_word : Reading → ℕ → ℕ → Reading
with_word r w v =
    if w == 0
    then record { turned = r.turned + 1; from = v; frame = None; listed = r.listed; stopped = v == 0 }
    else record { turned = r.turned; from = r.from; frame = r.frame; listed = r.listed ++ v ∷ []; stopped = r.stopped }

abbrev pub reading : Reading → Note → Access → Reading
reading r note (access.Load (Cell d f w) v) = with_word r w v
reading r note (access.Load (Grant d g FrameNo) v) = with_frame r v
reading r note (access.Load (Grant d g Flags) v) = r
reading r note (access.Store at v) = r
reading r note (access.Cas at old new seen) = r
reading r note (access.Clear at mask seen) = r

-- the reference that is due to be mapped: the directory page's, or else the one that was loaded last
abbrev pub IsDue : Reading → Option ℕ → ℕ → Type 0
IsDue r None gref = gref ≡ r.from
IsDue r (Some f) gref = (before : List ℕ) × (r.listed ≡ before ++ gref ∷ [])

-- The word is due to be loaded, by a walk that needs so many references: a further one is needed. It is the next of
-- the directory page's words 1 to 1023; or, where these were all loaded, word 0.
abbrev pub IsDueWord : (count : ℕ) → Reading → ℕ → Type 0
IsDueWord count r w =
    (length r.listed < count)
    × (((0 < w) × (w ≤ 1023) × (length r.listed + 1 ≡ 1023 * r.turned + w)) ⊎ ((w ≡ 0) × (length r.listed ≡ 1023 * (r.turned + 1))))

-- an access loads a word that is due, of the directory page; or it maps the page that is due; or it unmaps a page
abbrev pub ReadsOn : (dom count : ℕ) → Reading → Want → Note → Type 0
ReadsOn dom count r (Load (Cell d f w)) note = (d.0 ≡ dom) × (r.frame ≡ Some f.0) × IsDueWord count r w
ReadsOn dom count r (Load (Grant d g half)) note = (d.0 ≡ dom) × IsDue r r.frame g.0
ReadsOn dom count r (Swap (Grant d g half) old new) note = (d.0 ≡ dom) × IsDue r r.frame g.0
ReadsOn dom count r (Swap (Cell d f w) old new) note = ⊥
ReadsOn dom count r (Store at v) note = ⊥
ReadsOn dom count r (Clear at mask) note = Unit {0}

abbrev pub is_no_next : GrantRefusal → Bool
is_no_next (refusal.NoEntry g) = false
is_no_next (refusal.NotPermitted w) = false
is_no_next (refusal.OtherDomain w) = false
is_no_next (refusal.ReadOnly w) = false
is_no_next (refusal.InUse w) = false
is_no_next (refusal.Moved w s) = false
is_no_next (refusal.BadFrame f) = false
is_no_next NoNext = true

abbrev pub grefs : List Hold → List ℕ
grefs hs = map (λ h. h.gref.0) hs

-- a map of the directory page, for reading, or of the page whose reference was loaded last
abbrev pub IsLastMap : Mode → Reading → (gref : ℕ) → Mode → Type 0
IsLastMap mode r gref m = ((gref ≡ r.from) × (m ≡ Read)) ⊎ ((m ≡ mode) × ((before : List ℕ) × (r.listed ≡ before ++ gref ∷ [])))

-- The pages are those whose references were loaded, in order. A refusal is NoNext exactly where the reference of a needed
-- directory page was 0; else it shows the cause of the last map.
abbrev pub ReadsTo : (frames grants : ℕ) → Mode → Reading → Walked → Type 0
ReadsTo frames grants mode r (Pages ps) = (grefs ps ≡ r.listed) × (r.stopped ≡ false)
ReadsTo frames grants mode r (Refused why) =
    (r.stopped ≡ is_no_next why) × ((why ≡ NoNext) ⊎ ((gref : ℕ) × (m : Mode) × IsLastMap mode r gref m × IsCause frames grants gref m why))

-- before the first access, where this is the first directory page's reference
abbrev pub unread : ℕ → Reading
unread gref = record { turned = 0; from = gref; frame = None; listed = []; stopped = false }

-- Whatever words a walk finds, it reads the directory so.
abbrev pub ReadsExactly : Type 0
ReadsExactly =
    (frames grants dom gref : ℕ) (mode : Mode) (count : ℕ)
    → FitsFrom (ReadsOn dom count) reading (ReadsTo frames grants mode) (unread gref) (walk_plan frames grants dom gref mode count)
