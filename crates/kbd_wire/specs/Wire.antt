-- The events of kbdif.h of Xen's public headers, as lists of ten words. A word is a number below 2 ^ 32, stored with its low
-- octet first.
use Rattle.std.specs.Prelude.{◌≡◌, ◌≢◌, ℕ, ◌+◌, ◌*◌, ◌/◌, ◌%◌, ◌^◌, ◌<◌, ◌⊎◌, ℤ, pos, FitsSigned, List, ◌∷◌, drop, slice_index, replicate, if◌then◌else◌, ◌==◌, Bool, not, Option, Some, None}
use Rattle.std.specs.Int.{w32, cast_signed, cast_unsigned}
use Rattle.kbd_wire.specs.declared.Event.{Event}
use Rattle.kbd_wire.specs.declared.Event.TheVariants.{Motion, Key, Position, Down, Up, Move, Syn}

-- octets 0, 1 and 2 of an event: its type, and what stands in two octets more
abbrev pub kind_of : List ℕ → ℕ
kind_of words = slice_index words 0 % 2 ^ 8

abbrev pub second_of : List ℕ → ℕ
second_of words = slice_index words 0 / 2 ^ 8 % 2 ^ 8

abbrev pub third_of : List ℕ → ℕ
third_of words = slice_index words 0 / 2 ^ 16 % 2 ^ 8

-- the first word of an event with these three octets
abbrev pub head_of : ℕ → ℕ → ℕ → ℕ
head_of first second third = first + 2 ^ 8 * second + 2 ^ 16 * third

-- the signed number in a word, as two's complement, and its word
abbrev pub signed_at : List ℕ → ℕ → ℤ
signed_at words place = cast_signed w32 (slice_index words place)

abbrev pub word_of : ℤ → ℕ
word_of n = cast_unsigned w32 n

-- whether an octet says yes
abbrev pub is_set : ℕ → Bool
is_set octet = not (octet == 0)

-- struct xenkbd_mtouch: XENKBD_MT_EV_DOWN is 0, XENKBD_MT_EV_UP 1, XENKBD_MT_EV_MOTION 2 and XENKBD_MT_EV_SYN 3. The
-- position stands in words 2 and 3
abbrev pub touch_at : ℕ → ℕ → List ℕ → Option Event
touch_at kind contact words =
    if kind == 0
    then Some (Down contact (signed_at words 2) (signed_at words 3))
    else if kind == 1
    then Some (Up contact)
    else if kind == 2
    then Some (Move contact (signed_at words 2) (signed_at words 3))
    else if kind == 3
    then Some Syn
    else None

-- union xenkbd_in_event: XENKBD_TYPE_MOTION is 1, XENKBD_TYPE_KEY 3, XENKBD_TYPE_POS 4 and XENKBD_TYPE_MTOUCH 5
abbrev pub event_of : List ℕ → Option Event
event_of words =
    if kind_of words == 1
    then Some (Motion (signed_at words 1) (signed_at words 2) (signed_at words 3))
    else if kind_of words == 3
    then Some (Key (is_set (second_of words)) (slice_index words 1))
    else if kind_of words == 4
    then Some (Position (signed_at words 1) (signed_at words 2) (signed_at words 3))
    else if kind_of words == 5
    then touch_at (second_of words) (third_of words) words
    else None

-- words of no event: their type is none of the four, or that of touch events with another kind than its four
abbrev pub IsNoEvent : List ℕ → Type 0
IsNoEvent words =
    ((kind_of words ≢ 1) × (kind_of words ≢ 3) × (kind_of words ≢ 4) × (kind_of words ≢ 5))
    ⊎ ((kind_of words ≡ 5) × (3 < second_of words))

-- struct xenkbd_motion and struct xenkbd_position: three signed numbers in words 1 to 3
abbrev pub axes_words : ℕ → ℤ → ℤ → ℤ → List ℕ
axes_words kind x y z = head_of kind 0 0 ∷ word_of x ∷ word_of y ∷ word_of z ∷ replicate 6 0

-- the words of a touch event of this kind: the contact's number stands in octet 2, the position in words 2 and 3
abbrev pub touch_words : ℕ → ℕ → ℤ → ℤ → List ℕ
touch_words kind contact x y = head_of 5 kind contact ∷ 0 ∷ word_of x ∷ word_of y ∷ replicate 6 0

-- the words of an event; a SYN has the contact 0
abbrev pub event_words : Event → List ℕ
event_words (Motion x y z) = axes_words 1 x y z
event_words (Key pressed code) = head_of 3 (if pressed then 1 else 0) 0 ∷ code ∷ replicate 8 0
event_words (Position x y z) = axes_words 4 x y z
event_words (Down contact x y) = touch_words 0 contact x y
event_words (Up contact) = touch_words 1 contact (pos 0) (pos 0)
event_words (Move contact x y) = touch_words 2 contact x y
event_words Syn = touch_words 3 0 (pos 0) (pos 0)

-- each field of an event fits its type
abbrev pub Fits : Event → Type 0
Fits (Motion x y z) = FitsSigned w32 x × FitsSigned w32 y × FitsSigned w32 z
Fits (Key pressed code) = code < 2 ^ 32
Fits (Position x y z) = FitsSigned w32 x × FitsSigned w32 y × FitsSigned w32 z
Fits (Down contact x y) = (contact < 2 ^ 8) × FitsSigned w32 x × FitsSigned w32 y
Fits (Up contact) = contact < 2 ^ 8
Fits (Move contact x y) = (contact < 2 ^ 8) × FitsSigned w32 x × FitsSigned w32 y
Fits Syn = Unit {0}

-- an event comes back from its words
abbrev pub EventsReadBack : Type 0
EventsReadBack = (e : Event) → Fits e → event_of (event_words e) ≡ Some e

-- no octet of these words of an event is set but those of its fields: a pressed key has 1 in its octet, and a SYN the contact 0
abbrev pub IsPlain : Event → List ℕ → Type 0
IsPlain (Motion x y z) words = (slice_index words 0 < 2 ^ 8) × (drop 4 words ≡ replicate 6 0)
IsPlain (Key pressed code) words = (slice_index words 0 < 2 ^ 16) × (second_of words < 2) × (drop 2 words ≡ replicate 8 0)
IsPlain (Position x y z) words = (slice_index words 0 < 2 ^ 8) × (drop 4 words ≡ replicate 6 0)
IsPlain (Down contact x y) words = (slice_index words 0 < 2 ^ 24) × (slice_index words 1 ≡ 0) × (drop 4 words ≡ replicate 6 0)
IsPlain (Up contact) words = (slice_index words 0 < 2 ^ 24) × (drop 1 words ≡ replicate 9 0)
IsPlain (Move contact x y) words = (slice_index words 0 < 2 ^ 24) × (slice_index words 1 ≡ 0) × (drop 4 words ≡ replicate 6 0)
IsPlain Syn words = (slice_index words 0 < 2 ^ 16) × (drop 1 words ≡ replicate 9 0)

-- such words come back from their event
abbrev pub WordsReadBack : Type 0
WordsReadBack =
    (a b c d : ℕ) (rest : List ℕ) (e : Event) → a < 2 ^ 32 → b < 2 ^ 32 → c < 2 ^ 32 → d < 2 ^ 32
    → let words = a ∷ b ∷ c ∷ d ∷ rest in
    event_of words ≡ Some e → IsPlain e words → event_words e ≡ words
