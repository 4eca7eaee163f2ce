-- What maps come to.
use Rattle.std.specs.Prelude.{◌≡◌, ℕ, ◌==◌, ◌&&◌, ◌<◌, ◌≤◌, Bool, true, false, List, [], ◌∷◌, ◌++◌, Option, Some, None, Result, Ok, Err, is_some, not, nat_lt, if◌then◌else◌}
use Rattle.pv_words.specs.declared.grant.Hold.{Hold}
use Rattle.pv_words.specs.declared.grant.Mode.{Mode}
use Rattle.pv_words.specs.declared.grant.GrantRefusal.{GrantRefusal}
use Rattle.pv_words.specs.declared.grant.GrantRefusal.TheVariants as refusal
use Rattle.pv_words.specs.Found.{Found, finding}
use Rattle.pv_words.specs.Held.{Has, IsProper, holding, holds_of, permits, unheld}
use Rattle.pv_words.specs.Plan.{Plan, Finished, Make, Ends, FitsFrom, IsUntouched, found}
use Rattle.pv_words.specs.Flags.{refusal_of, denies, forbids, has, is_foreign, used}
use Rattle.pv_words.specs.Mapping.{map_plan, hold_of, unmap_want}

-- a word is refused for some reason exactly where it doesn't permit the mode
abbrev pub RefusesExactly : Type 0
RefusesExactly = (word : ℕ) (mode : Mode) → is_some (refusal_of word mode) ≡ not (permits word mode)

-- what comes of a plan whose accesses find these words, in order
abbrev pub outcome : {A : Type 0} → Plan A → List ℕ → Option A
outcome (Finished x) words = Some x
outcome (Make want note next) [] = None
outcome (Make want note next) (w ∷ ws) = outcome (next w) ws

-- the hold that it came to, if it did
abbrev pub won : Result Hold GrantRefusal → Option Hold
won (Ok h) = Some h
won (Err r) = None

-- what a map comes to by what its exchange saw and the frame that it loaded
abbrev pub exchange_result : (frames dom gref : ℕ) → Mode → (word seen frame : ℕ) → Result Hold GrantRefusal
exchange_result frames dom gref mode word seen frame =
    if not (seen == word) then Err (refusal.Moved word seen)
    else (if nat_lt frame frames then Ok (hold_of dom gref mode frame) else Err (refusal.BadFrame frame))

-- by the refusal of the flags' word, or what comes behind it
abbrev pub flags_result : Option GrantRefusal → Result Hold GrantRefusal → Result Hold GrantRefusal
flags_result (Some why) later = Err why
flags_result None later = later

-- What a map comes to that loads a flags' word, whose exchange sees a word, and that loads a frame: the first refusal that
-- applies, or else a hold of that frame.
abbrev pub map_result : (frames grants dom gref : ℕ) → Mode → (word seen frame : ℕ) → Result Hold GrantRefusal
map_result frames grants dom gref mode word seen frame =
    if nat_lt gref grants then flags_result (refusal_of word mode) (exchange_result frames dom gref mode word seen frame)
    else Err (refusal.NoEntry gref)

-- a map is to succeed: the domain has the entry, the flags' word permits the mode and is the one that the exchange
-- saw, and the domain has the frame
abbrev pub succeeds : (frames grants gref : ℕ) → Mode → (word seen frame : ℕ) → Bool
succeeds frames grants gref mode word seen frame =
    nat_lt gref grants && (permits word mode && ((seen == word) && nat_lt frame frames))

-- a map comes to just that
abbrev pub MapsExactly : Type 0
MapsExactly =
    (frames grants dom gref : ℕ) (mode : Mode) (word seen frame last : ℕ)
    → outcome (map_plan frames grants dom gref mode) (word ∷ seen ∷ frame ∷ last ∷ []) ≡ Some (map_result frames grants dom gref mode word seen frame)

-- and that is a hold of the frame exactly where it is to succeed
abbrev pub SucceedsExactly : Type 0
SucceedsExactly =
    (frames grants dom gref : ℕ) (mode : Mode) (word seen frame : ℕ)
    → won (map_result frames grants dom gref mode word seen frame)
    ≡ (if succeeds frames grants gref mode word seen frame then Some (hold_of dom gref mode frame) else None)

-- the list with the hold of a map that succeeded
abbrev pub with_result : List Hold → Result Hold GrantRefusal → List Hold
with_result held (Ok h) = held ++ h ∷ []
with_result held (Err r) = held

-- a page of the domain's, held by this reference for this mode
pub record IsHold (frames grants dom gref : ℕ) (mode : Mode) (h : Hold) : Type 0 where
  pub dom_is : h.dom.0 ≡ dom
  pub gref_is : h.gref.0 ≡ gref
  pub mode_is : h.mode ≡ mode
  pub frame_in : h.frame.0 < frames
  pub gref_in : gref < grants

-- why a map of this reference for this mode was refused, as the refusal's own words show
abbrev pub IsCause : (frames grants gref : ℕ) → Mode → GrantRefusal → Type 0
IsCause frames grants gref mode (refusal.NoEntry g) = (g ≡ gref) × (grants ≤ gref)
IsCause frames grants gref mode (refusal.NotPermitted w) = denies w ≡ true
IsCause frames grants gref mode (refusal.OtherDomain w) = (denies w ≡ false) × (is_foreign w ≡ true)
IsCause frames grants gref mode (refusal.ReadOnly w) = (denies w ≡ false) × (is_foreign w ≡ false) × (forbids w mode ≡ true)
IsCause frames grants gref mode (refusal.InUse w) = (denies w ≡ false) × (is_foreign w ≡ false) × (forbids w mode ≡ false) × (has w used ≡ true)
IsCause frames grants gref mode (refusal.Moved w s) = (permits w mode ≡ true) × ((s == w) ≡ false)
IsCause frames grants gref mode (refusal.BadFrame f) = frames ≤ f
IsCause frames grants gref mode refusal.NoNext = ⊥

abbrev pub IsResult : (frames grants dom gref : ℕ) → Mode → Result Hold GrantRefusal → Type 0
IsResult frames grants dom gref mode (Ok h) = IsHold frames grants dom gref mode h
IsResult frames grants dom gref mode (Err r) = IsCause frames grants gref mode r

-- the flags' word that was loaded last is this one, of this reference
abbrev pub HasLoaded : (gref word : ℕ) → Found → Type 0
HasLoaded gref word f = (f.gref ≡ gref) × (f.flags ≡ Some word)

-- the words that a refusal tells are those that were found last
abbrev pub AreFound : (gref : ℕ) → Found → GrantRefusal → Type 0
AreFound gref f (refusal.NoEntry g) = Unit {0}
AreFound gref f (refusal.NotPermitted w) = HasLoaded gref w f
AreFound gref f (refusal.OtherDomain w) = HasLoaded gref w f
AreFound gref f (refusal.ReadOnly w) = HasLoaded gref w f
AreFound gref f (refusal.InUse w) = HasLoaded gref w f
AreFound gref f (refusal.Moved w s) = HasLoaded gref w f × (f.seen ≡ Some s)
AreFound gref f (refusal.BadFrame k) = ((w : ℕ) × HasLoaded gref w f × (f.seen ≡ Some w)) × (f.frame ≡ Some k)
AreFound gref f refusal.NoNext = ⊥

-- a map of this reference for this mode is refused so, as the words show that were found last
abbrev pub IsShown : (frames grants gref : ℕ) → Mode → Found → GrantRefusal → Type 0
IsShown frames grants gref mode f why = IsCause frames grants gref mode why × AreFound gref f why

abbrev pub Shows : (frames grants gref : ℕ) → Mode → Found → Result Hold GrantRefusal → Type 0
Shows frames grants gref mode f (Ok h) = Unit {0}
Shows frames grants gref mode f (Err why) = IsShown frames grants gref mode f why

-- Whatever words a map finds, its refusal is the one that they show; it loads no word of a page, and touches none of a name.
abbrev pub MapsShow : Type 0
MapsShow =
    (frames grants dom gref : ℕ) (mode : Mode) (f : Found)
    → FitsFrom (λ g want note. IsUntouched note) (λ g note a. finding g a) (λ g r. Shows frames grants gref mode g r × (g.word ≡ f.word)) f (map_plan frames grants dom gref mode)

-- By a map, whatever words it finds, a device that holds some pages holds one page more where it succeeds, and just those
-- where it is refused, also where the mapping was begun and taken back. Each access is in range and stays in the grant
-- entries of the domain. A page is one of the domain's by the reference that was asked for, and a refusal shows its cause.
abbrev pub HoldsExactly : Type 0
HoldsExactly =
    (frames grants : ℕ → ℕ) (dom gref : ℕ) (mode : Mode) (held : List Hold)
    → FitsFrom (IsProper frames grants dom) (holding frames) (λ h r. (h ≡ holds_of (with_result held r)) × IsResult (frames dom) (grants dom) dom gref mode r)
    (holds_of held) (map_plan (frames dom) (grants dom) dom gref mode)

-- By the unmap of a page that it holds, a device no longer holds that page, and holds the others.
abbrev pub UnmapsExactly : Type 0
UnmapsExactly =
    (frames grants : ℕ → ℕ) (dom : ℕ) (h : Hold) (held : List Hold) (seen : ℕ)
    → h.dom.0 ≡ dom → h.gref.0 < grants dom → Has (λ k. k ≡ h) held
    → IsProper frames grants dom (holds_of held) (unmap_want h) (Ends h) × (holding frames (holds_of held) (Ends h) (found (unmap_want h) seen) ≡ holds_of (unheld h held))
