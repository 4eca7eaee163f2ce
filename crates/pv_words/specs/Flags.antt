-- The two words of a grant entry (grant_table.h, version 1). The flags' word is flags + 65536 * domid. Of the flags,
-- the type stands in the low two bits (1 permits access); 4 is read-only, 8 and 16 are the in-use bits of reading and
-- writing, and 256 marks a part of a page.
use Rattle.std.specs.Prelude.{ℕ, ◌/◌, ◌%◌, ◌==◌, ◌||◌, Bool, false, not, Option, Some, None, if◌then◌else◌, bit_and}
use Rattle.pv_words.specs.declared.place.Place.{Place}
use Rattle.pv_words.specs.declared.place.Place.TheVariants.{Grant}
use Rattle.pv_words.specs.declared.place.Half.TheVariants.{Flags, FrameNo}
use Rattle.pv_words.specs.declared.grant.Mode.{Mode}
use Rattle.pv_words.specs.declared.grant.Mode.TheVariants.{Read, Write}
use Rattle.pv_words.specs.declared.grant.GrantRefusal.{GrantRefusal}
use Rattle.pv_words.specs.declared.grant.GrantRefusal.TheVariants.{NotPermitted, OtherDomain, ReadOnly, InUse}

abbrev pub flags_place : (dom gref : ℕ) → Place
flags_place dom gref = Grant (record { 0 = dom }) (record { 0 = gref }) Flags

abbrev pub frame_place : (dom gref : ℕ) → Place
frame_place dom gref = Grant (record { 0 = dom }) (record { 0 = gref }) FrameNo

-- a bit of the mask is set in the word
abbrev pub has : ℕ → ℕ → Bool
has word mask = not (bit_and word mask == 0)

-- the in-use bits
abbrev pub used : ℕ
used = 24

-- the word grants no access, or only to a part of a page
abbrev pub denies : ℕ → Bool
denies word = not (word % 4 == 1) || has word 256

-- the word names another domain than domain 0
abbrev pub is_foreign : ℕ → Bool
is_foreign word = not (word / 65536 == 0)

-- the grant is read-only, and it is to be mapped for writing
abbrev pub forbids : ℕ → Mode → Bool
forbids word Read = false
forbids word Write = has word 4

-- the first reason, in this order, for which a flags' word refuses to be mapped
abbrev pub refusal_of : ℕ → Mode → Option GrantRefusal
refusal_of word mode =
    if denies word then Some (NotPermitted word)
    else (if is_foreign word then Some (OtherDomain word)
    else (if forbids word mode then Some (ReadOnly word)
    else (if has word used then Some (InUse word)
    else None)))
