-- The pieces of a range of octets of a buffer.
use Rattle.std.specs.Prelude.{ℕ, ◌+◌, ◌-◌, ◌*◌, min, List, map}
use Rattle.std.specs.List.{range_with_len}
use Rattle.pv_words.specs.declared.grant.Hold.{Hold}
use Rattle.octet_window.specs.declared.piece.Piece.{Piece}
use Rattle.octet_window.specs.Octets.{words_of}
use Rattle.octet_window.specs.Pages.{word_place}

-- how many octets of word i lie before the range, and how many before the range's end
abbrev pub before : (first i : ℕ) → ℕ
before first i = first - 4 * i

abbrev pub up_to : (first count i : ℕ) → ℕ
up_to first count i = min 4 (first + count - 4 * i)

-- the octets of word i that lie in the range
abbrev pub piece_of : List Hold → (first count : ℕ) → ℕ → Piece
piece_of pages first count i =
    record { place = word_place pages i; index = i; first = before first i; len = up_to first count i - before first i }

-- the words of the range in order, each with the octets of it that lie in the range
unfoldable pub pieces_in : List Hold → (first count : ℕ) → List Piece
pieces_in pages first count = map (piece_of pages first count) (words_of first count)

-- which octets of the buffer a piece has
abbrev pub octets_at : Piece → List ℕ
octets_at p = range_with_len (4 * p.index + p.first) p.len
