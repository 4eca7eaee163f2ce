-- Which pages a device holds (the mappings of the grant table, version 1).
use Rattle.std.specs.Prelude.{◌≡◌, ◌⊎◌, ℕ, ◌==◌, ◌&&◌, ◌+◌, ◌/◌, ◌%◌, Bool, true, false, List, [], ◌∷◌, ◌++◌, Option, Some, None, nat_lt, bit_and, if◌then◌else◌}
use Rattle.pv_words.specs.declared.place.Place.TheVariants.{Cell, Grant}
use Rattle.pv_words.specs.declared.place.Half.TheVariants.{Flags, FrameNo}
use Rattle.pv_words.specs.declared.access.Access.{Access}
use Rattle.pv_words.specs.declared.access.Access.TheVariants as access
use Rattle.pv_words.specs.declared.grant.Hold.{Hold}
use Rattle.pv_words.specs.declared.grant.Mode.{Mode}
use Rattle.pv_words.specs.declared.grant.Mode.TheVariants.{Read, Write}
use Rattle.pv_words.specs.Along.{Along}
use Rattle.pv_words.specs.Place.{InRange}
use Rattle.pv_words.specs.Plan.{Want, Load, Store, Swap, Clear, Note, Undoes, Ends, aim_of, wanted}

-- the in-use bits of a mapping: 8 reading, 16 writing
abbrev pub in_use : Mode → ℕ
in_use Read = 8
in_use Write = 24

-- the flags' word permits the mode: access is permitted (type 1), to domain 0, no in-use bit and no bit of a
-- part of a page is set, and for writing it isn't read-only
abbrev pub permits : ℕ → Mode → Bool
permits word Read = (word % 4 == 1) && ((word / 65536 == 0) && (bit_and word 280 == 0))
permits word Write = (word % 4 == 1) && ((word / 65536 == 0) && (bit_and word 284 == 0))

-- a mapping whose frame isn't known yet
pub record Begun : Type 0 where
  pub gref : ℕ
  pub mode : Mode

-- What a device holds: the pages, in order of mapping; the mapping that its last access began, if it did; and those
-- that it began without getting a page, whose in-use bits are still set.
pub record Holds : Type 0 where
  pub held : List Hold
  pub begun : Option Begun
  pub missed : List Begun

-- just these pages
abbrev pub holds_of : List Hold → Holds
holds_of held = record { held = held; begun = None; missed = [] }

abbrev pub same_mode : Mode → Mode → Bool
same_mode Read Read = true
same_mode Read Write = false
same_mode Write Read = false
same_mode Write Write = true

abbrev pub same_hold : Hold → Hold → Bool
same_hold h k = (h.dom.0 == k.dom.0) && ((h.gref.0 == k.gref.0) && ((h.frame.0 == k.frame.0) && same_mode h.mode k.mode))

-- an exchange that sets the in-use bits of a mode in a word that permits it begins a mapping
abbrev pub begins : ℕ → ℕ → ℕ → ℕ → Option Begun
begins gref old new seen =
    if (seen == old) && ((new == old + 8) && permits old Read) then Some (record { gref = gref; mode = Read })
    else (if (seen == old) && ((new == old + 24) && permits old Write) then Some (record { gref = gref; mode = Write })
    else None)

-- these mappings, and the one that was just begun, which gets no page any more
abbrev pub passed : Option Begun → List Begun → List Begun
passed None missed = missed
passed (Some b) missed = missed ++ b ∷ []

-- after an access that maps and unmaps nothing
abbrev pub kept : Holds → Holds
kept h = record { held = h.held; begun = None; missed = passed h.begun h.missed }

-- after an exchange
abbrev pub exchanged : Holds → Option Begun → Holds
exchanged h b = record { held = h.held; begun = b; missed = passed h.begun h.missed }

-- after a load of a frame: the mapping just begun gets its page, where it is this reference's and the domain has the frame
abbrev pub framed : (frames : ℕ → ℕ) → Holds → ℕ → ℕ → ℕ → Option Begun → Holds
framed frames h dom gref frame None = kept h
framed frames h dom gref frame (Some b) =
    if (b.gref == gref) && nat_lt frame (frames dom)
    then record { held = h.held ++ record { dom = record { 0 = dom }; gref = record { 0 = gref }; frame = record { 0 = frame }; mode = b.mode } ∷ []; begun = None; missed = h.missed }
    else kept h

-- the list without the first of these
abbrev pub unheld : Hold → List Hold → List Hold
unheld k [] = []
unheld k (h ∷ hs) = if same_hold h k then hs else h ∷ unheld k hs

abbrev pub unmissed : ℕ → ℕ → List Begun → List Begun
unmissed gref mask [] = []
unmissed gref mask (b ∷ bs) = if (b.gref == gref) && (in_use b.mode == mask) then bs else b ∷ unmissed gref mask bs

-- After a clear of in-use bits: it ends the mapping that it is for. The bits alone don't tell which one, where a domain
-- erased them and the same entry was mapped again.
abbrev pub cleared : Holds → ℕ → ℕ → Note → Holds
cleared h gref mask Undoes = record { held = h.held; begun = h.begun; missed = unmissed gref mask h.missed }
cleared h gref mask (Ends k) =
    if (k.gref.0 == gref) && (in_use k.mode == mask) then record { held = unheld k h.held; begun = h.begun; missed = h.missed } else h
cleared h gref mask other = h

-- what a device holds after one more access of its own, of which it is known what it is for
abbrev pub holding : (frames : ℕ → ℕ) → Holds → Note → Access → Holds
holding frames h note (access.Load (Grant d g FrameNo) v) = framed frames h d.0 g.0 v h.begun
holding frames h note (access.Load (Grant d g Flags) v) = kept h
holding frames h note (access.Load (Cell d f w) v) = kept h
holding frames h note (access.Store at v) = kept h
holding frames h note (access.Cas (Grant d g Flags) old new seen) = exchanged h (begins g.0 old new seen)
holding frames h note (access.Cas (Grant d g FrameNo) old new seen) = kept h
holding frames h note (access.Cas (Cell d f w) old new seen) = kept h
holding frames h note (access.Clear (Grant d g Flags) mask seen) = cleared (kept h) g.0 mask note
holding frames h note (access.Clear (Grant d g FrameNo) mask seen) = kept h
holding frames h note (access.Clear (Cell d f w) mask seen) = kept h

-- one of the list's elements is so
abbrev pub Has : {A : Type 0} → (A → Type 0) → List A → Type 0
Has P [] = ⊥
Has P (x ∷ xs) = P x ⊎ Has P xs

-- a hold of this frame; one for writing
abbrev pub Covers : ℕ → ℕ → Hold → Type 0
Covers dom frame h = (h.dom.0 ≡ dom) × (h.frame.0 ≡ frame)

abbrev pub CoversToWrite : ℕ → ℕ → Hold → Type 0
CoversToWrite dom frame h = Covers dom frame h × (h.mode ≡ Write)

-- a mapping of this reference with these in-use bits
abbrev pub Marks : ℕ → ℕ → Begun → Type 0
Marks gref mask b = (b.gref ≡ gref) × (in_use b.mode ≡ mask)

abbrev pub MarksPage : ℕ → ℕ → Hold → Type 0
MarksPage gref mask h = (h.gref.0 ≡ gref) × (in_use h.mode ≡ mask)

-- one of a device's mappings has this reference and these in-use bits
abbrev pub IsMapped : Holds → ℕ → ℕ → Type 0
IsMapped h gref mask = Has (MarksPage gref mask) h.held ⊎ Has (Marks gref mask) h.missed

-- An access to a cell lies in the frame of a hold, one that may write in the frame of a hold for writing. Each other
-- access goes to a grant entry of the device's own domain: a load, the exchange that sets the in-use bits of a mode in
-- a word that permits it, or the clear of the in-use bits of one of the device's mappings.
abbrev pub Stays : ℕ → Holds → Want → Type 0
Stays dom h (Load (Cell d f w)) = Has (Covers d.0 f.0) h.held
Stays dom h (Store (Cell d f w) v) = Has (CoversToWrite d.0 f.0) h.held
Stays dom h (Swap (Cell d f w) old new) = Has (CoversToWrite d.0 f.0) h.held
Stays dom h (Clear (Cell d f w) mask) = Has (CoversToWrite d.0 f.0) h.held
Stays dom h (Load (Grant d g half)) = d.0 ≡ dom
Stays dom h (Swap (Grant d g Flags) old new) = (d.0 ≡ dom) × ((mode : Mode) × (new ≡ old + in_use mode) × (permits old mode ≡ true))
Stays dom h (Clear (Grant d g Flags) mask) = (d.0 ≡ dom) × IsMapped h g.0 mask
Stays dom h (Store (Grant d g half) v) = ⊥
Stays dom h (Swap (Grant d g FrameNo) old new) = ⊥
Stays dom h (Clear (Grant d g FrameNo) mask) = ⊥

-- what a clear of in-use bits is for names one of the device's mappings, with this reference and these bits
abbrev pub Names : Holds → ℕ → ℕ → Note → Type 0
Names h gref mask Undoes = Has (Marks gref mask) h.missed
Names h gref mask (Ends k) = MarksPage gref mask k × Has (λ x. x ≡ k) h.held
Names h gref mask other = ⊥

abbrev pub IsFor : Holds → Want → Note → Type 0
IsFor h (Clear (Grant d g Flags) mask) note = Names h g.0 mask note
IsFor h (Clear (Grant d g FrameNo) mask) note = Unit {0}
IsFor h (Clear (Cell d f w) mask) note = Unit {0}
IsFor h (Load at) note = Unit {0}
IsFor h (Store at v) note = Unit {0}
IsFor h (Swap at old new) note = Unit {0}

-- the access is in range, stays in the device's pages and grant entries, and ends no mapping but the one that it is for
abbrev pub IsProper : (frames grants : ℕ → ℕ) → ℕ → Holds → Want → Note → Type 0
IsProper frames grants dom h want note = InRange frames grants (aim_of want) × (Stays dom h want × IsFor h want note)

-- an access, and what it is for
pub record Made : Type 0 where
  pub access : Access
  pub note : Note

-- the accesses of a device, in order, keep to its grants; what it holds at first is `start`
abbrev pub KeepsToGrants : (frames grants : ℕ → ℕ) (dom : ℕ) (start : Holds) → List Made → Type 0
KeepsToGrants frames grants dom start made =
    Along (λ h m. holding frames h m.note m.access) (λ h m. IsProper frames grants dom h (wanted m.access) m.note) start made
