-- Fields of messages, by displif.h and sndif.h of Xen's public headers: a message is a list of words, and a word a number
-- below 2 ^ 32 whose low octet comes first.
use Rattle.std.specs.Prelude.{ℕ, ◌+◌, ◌*◌, ◌/◌, ◌%◌, ◌^◌, List, [], ◌∷◌, slice_index}

-- an octet of a word, counted from the low one on
abbrev pub octet_of : ℕ → ℕ → ℕ
octet_of word k = word / 2 ^ (8 * k) % 2 ^ 8

-- the word whose first two octets are these, and whose others are 0
abbrev pub two_octets : ℕ → ℕ → ℕ
two_octets first second = first + 2 ^ 8 * second

-- the id of a message: the low half of its first word
abbrev pub id_of : List ℕ → ℕ
id_of words = slice_index words 0 % 2 ^ 16

-- the operation of a message, or the type of an event: octet 2 of its first word. Octet 3 is reserved
abbrev pub operation_of : List ℕ → ℕ
operation_of words = octet_of (slice_index words 0) 2

-- the first word of a message with this id and operation
abbrev pub head_of : ℕ → ℕ → ℕ
head_of id op = id + 2 ^ 16 * op

-- the number of 64 bits in the word at a place and the next one, its low half first
abbrev pub u64_at : List ℕ → ℕ → ℕ
u64_at words place = slice_index words place + 2 ^ 32 * slice_index words (place + 1)

-- the two words of a number of 64 bits, its low half first
abbrev pub u64_words : ℕ → List ℕ
u64_words n = (n % 2 ^ 32) ∷ (n / 2 ^ 32) ∷ []
