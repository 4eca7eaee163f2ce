-- The indices of an event page, as displif.h, sndif.h and kbdif.h of Xen's public headers define it. An index counts events from the
-- start, modulo 2 ^ 32.
use Rattle.std.specs.Prelude.{◌≡◌, ℕ, ◌+◌, ◌-◌, ◌%◌, ◌^◌, ◌≤◌, nat_lt, nat_le, if◌then◌else◌, ◌==◌}
use Rattle.event_ring.specs.declared.Room.{Room}
use Rattle.event_ring.specs.declared.Room.TheVariants.{Free, Full, Bad, Spent}

-- how many events the page holds, from which index on it takes none, and the index of the next event
pub record Events : Type 0 where
  pub len : ℕ
  pub limit : ℕ
  pub prod : ℕ

-- the index that comes so many events after this one
abbrev pub index_after : ℕ → ℕ → ℕ
index_after index n = (index + n) % 2 ^ 32

-- how many events lie from index cons up to prod: those that aren't consumed where the frontend consumed up to cons
abbrev pub unread : (prod cons : ℕ) → ℕ
unread prod cons = (prod + 2 ^ 32 - cons) % 2 ^ 32

-- what room there is for more where the frontend says that it consumed up to cons: none any more; more claimed to be unread than the
-- page holds; none now; or for so many events
abbrev pub room_of : Events → ℕ → Room
room_of e cons =
    if nat_le e.limit e.prod then Spent
    else (if nat_lt e.len (unread e.prod cons) then Bad cons
    else (if unread e.prod cons == e.len then Full else Free (e.len - unread e.prod cons)))

-- the slot of the event that comes so many events after the next: the slots are taken in turn
abbrev pub slot_of : Events → ℕ → ℕ
slot_of e k = index_after e.prod k % e.len

-- the index that the frontend consumed up to, as somebody found it, left room for so many events
abbrev pub HasRoom : Events → ℕ → Type 0
HasRoom e n = (cons : ℕ) × (free : ℕ) × (room_of e cons ≡ Free free) × (n ≤ free)

-- so many events more are published
abbrev pub published : Events → ℕ → Events
published e n = record e { prod = index_after e.prod n }
