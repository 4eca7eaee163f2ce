-- How a device maps a grant entry of a domain, and unmaps it (grant_table.h, version 1): access by access, and what
-- follows each word that may be found.
use Rattle.std.specs.Prelude.{◌≡◌, ℕ, ◌+◌, ◌==◌, Option, Some, None, Result, Ok, Err, nat_lt, if◌then◌else◌}
use Rattle.pv_words.specs.declared.access.Access.{Access}
use Rattle.pv_words.specs.declared.grant.Hold.{Hold}
use Rattle.pv_words.specs.declared.grant.Mode.{Mode}
use Rattle.pv_words.specs.declared.grant.GrantRefusal.{GrantRefusal}
use Rattle.pv_words.specs.declared.grant.GrantRefusal.TheVariants.{NoEntry, Moved, BadFrame}
use Rattle.pv_words.specs.declared.place.Half.{Half}
use Rattle.pv_words.specs.declared.place.Place.TheVariants.{Grant}
use Rattle.pv_words.specs.Held.{in_use}
use Rattle.pv_words.specs.Plan.{Plan, Finished, Make, Want, Load, Swap, Clear, Plain, Begins, Frames, Undoes, Turns, aim_of, wanted}
use Rattle.pv_words.specs.Flags.{flags_place, frame_place, refusal_of}

-- a hold of this frame
abbrev pub hold_of : (dom gref : ℕ) → Mode → ℕ → Hold
hold_of dom gref mode frame = record { dom = record { 0 = dom }; gref = record { 0 = gref }; frame = record { 0 = frame }; mode = mode }

-- the domain has no such frame: the in-use bits that were set are cleared again
abbrev pub undo_plan : (dom gref : ℕ) → Mode → ℕ → Plan (Result Hold GrantRefusal)
undo_plan dom gref mode frame = Make (Clear (flags_place dom gref) (in_use mode)) Undoes (λ _. Finished (Err (BadFrame frame)))

-- what follows the frame that was found, of a domain with so many frames
abbrev pub with_frame : (frames dom gref : ℕ) → Mode → ℕ → Plan (Result Hold GrantRefusal)
with_frame frames dom gref mode frame =
    if nat_lt frame frames then Finished (Ok (hold_of dom gref mode frame)) else undo_plan dom gref mode frame

abbrev pub frame_plan : (frames dom gref : ℕ) → Mode → Plan (Result Hold GrantRefusal)
frame_plan frames dom gref mode = Make (Load (frame_place dom gref)) (Frames gref) (with_frame frames dom gref mode)

-- what follows the word that the exchange saw
abbrev pub with_seen : (frames dom gref : ℕ) → Mode → ℕ → ℕ → Plan (Result Hold GrantRefusal)
with_seen frames dom gref mode word seen =
    if seen == word then frame_plan frames dom gref mode else Finished (Err (Moved word seen))

-- the in-use bits of the mode are set in the word, if it still stands there
abbrev pub begin_plan : (frames dom gref : ℕ) → Mode → ℕ → Plan (Result Hold GrantRefusal)
begin_plan frames dom gref mode word =
    Make (Swap (flags_place dom gref) word (word + in_use mode)) (Begins gref) (with_seen frames dom gref mode word)

-- what follows the flags' word that was loaded
abbrev pub with_flags : (frames dom gref : ℕ) → Mode → ℕ → Option GrantRefusal → Plan (Result Hold GrantRefusal)
with_flags frames dom gref mode word (Some refusal) = Finished (Err refusal)
with_flags frames dom gref mode word None = begin_plan frames dom gref mode word

abbrev pub flags_plan : (frames dom gref : ℕ) → Mode → Plan (Result Hold GrantRefusal)
flags_plan frames dom gref mode =
    Make (Load (flags_place dom gref)) Plain (λ word. with_flags frames dom gref mode word (refusal_of word mode))

-- Map: the whole of it, for a domain with so many frames and grant entries
abbrev pub map_plan : (frames grants dom gref : ℕ) → Mode → Plan (Result Hold GrantRefusal)
map_plan frames grants dom gref mode =
    if nat_lt gref grants then flags_plan frames dom gref mode else Finished (Err (NoEntry gref))

-- Unmap: the in-use bits that the map set are cleared
abbrev pub unmap_want : Hold → Want
unmap_want h = Clear (flags_place h.dom.0 h.gref.0) (in_use h.mode)

-- One step leads from plan to plan, also where nothing is left of it: then it is done, with the result, and makes no
-- access. What is left of a plan that is done is its result.
abbrev pub Advances : {A : Type 0} → Plan A → Option Access → Option A → Plan A → Type 0
Advances old None None new = ⊥
Advances old None (Some x) new = (old ≡ Finished x) × (new ≡ Finished x)
Advances old (Some a) None new = Turns old (Some a) None new
Advances old (Some a) (Some x) new = Turns old (Some a) (Some x) new × (new ≡ Finished x)

-- a page is held from an access on, never without one
abbrev pub HoldsByAccess : Option Access → Option (Result Hold GrantRefusal) → Type 0
HoldsByAccess (Some a) result = Unit {0}
HoldsByAccess None None = Unit {0}
HoldsByAccess None (Some (Ok h)) = ⊥
HoldsByAccess None (Some (Err r)) = Unit {0}

-- an access goes to this entry
abbrev pub IsAtEntry : (dom gref : ℕ) → Option Access → Type 0
IsAtEntry dom gref None = Unit {0}
IsAtEntry dom gref (Some a) = (half : Half) × (aim_of (wanted a) ≡ Grant (record { 0 = dom }) (record { 0 = gref }) half)

-- a page that a map comes to is held by this entry and for this mode
abbrev pub Wins : (dom gref : ℕ) → Mode → Option (Result Hold GrantRefusal) → Type 0
Wins dom gref mode None = Unit {0}
Wins dom gref mode (Some (Ok h)) = (h.dom.0 ≡ dom) × (h.gref.0 ≡ gref) × (h.mode ≡ mode)
Wins dom gref mode (Some (Err r)) = Unit {0}
