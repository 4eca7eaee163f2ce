-- The octets of words. A word has four, the lowest first, and octet o of a buffer is octet o mod 4 of word o / 4.
use Rattle.std.specs.Prelude.{ℕ, zero, suc, ◌+◌, ◌-◌, ◌*◌, ◌/◌, ◌%◌, List, [], ◌∷◌, take, drop}
use Rattle.std.specs.List.{flat_map, range_with_len}

abbrev pub octets_of : ℕ → List ℕ
octets_of word = word % 256 ∷ word / 256 % 256 ∷ word / 65536 % 256 ∷ word / 16777216 % 256 ∷ []

-- the number whose octets are these, the lowest first
abbrev pub number_of : List ℕ → ℕ
number_of [] = 0
number_of (o ∷ os) = o + 256 * number_of os

-- the words that have an octet of a range of so many octets: from that of the first to that of the last, in order
unfoldable pub words_of : (first count : ℕ) → List ℕ
words_of first zero = []
words_of first (suc n) = range_with_len (first / 4) ((first + n) / 4 + 1 - first / 4)

-- the octets of such a range, where its words, in order, are these
abbrev pub octets_in : (first count : ℕ) → List ℕ → List ℕ
octets_in first count words = take count (drop (first % 4) (flat_map octets_of words))
