-- The words of a request ring page, as ring.h of Xen's public headers lays them out, and its indices.
-- An index counts requests or responses from the start, modulo 2 ^ 32.
use Rattle.std.specs.Prelude.{◌≡◌, ℕ, ◌+◌, ◌-◌, ◌*◌, ◌%◌, ◌^◌, ◌<◌, Bool, nat_lt, nat_le, if◌then◌else◌, ◌==◌}
use Rattle.ring_words.specs.declared.Looked.{Looked}
use Rattle.ring_words.specs.declared.Looked.TheVariants.{Nothing, Ready, Overrun}

-- how many indices lie from old up to new, modulo 2 ^ 32
abbrev pub since : ℕ → ℕ → ℕ
since old new = (new + 2 ^ 32 - old) % 2 ^ 32

-- the index after this one
abbrev pub next_index : ℕ → ℕ
next_index index = (index + 1) % 2 ^ 32

-- what a backend that answered up to rsp finds where the frontend says that it wrote up to prod:
-- nothing, as many requests as the ring has slots at most, or more than the ring can hold
abbrev pub looked_of : ℕ → ℕ → Looked
looked_of rsp prod =
    let ready = since rsp prod in
    if ready == 0 then Nothing else if nat_le ready 32 then Ready ready else Overrun prod rsp

-- the word of the page where word i of the slot of an index stands: the four words of the header and
-- twelve of padding come first, then 32 slots of 16 words each, which the indices take in turn
abbrev pub slot_of : ℕ → ℕ → ℕ
slot_of index i = 16 + 16 * (index % 32) + i

-- the index at which the other side asked for a notification comes after old and no later than new
-- (RING_PUSH_RESPONSES_AND_CHECK_NOTIFY of ring.h)
abbrev pub notifies : ℕ → ℕ → ℕ → Bool
notifies old new event = nat_lt (since event new) (since old new)

-- words of two slots, or two words of one slot, never stand at one place of the page
abbrev pub SlotsAreApart : Type 0
SlotsAreApart =
    (a b i j : ℕ) → i < 16 → j < 16 → slot_of a i ≡ slot_of b j → (a % 32 ≡ b % 32) × (i ≡ j)
