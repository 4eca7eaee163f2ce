-- The octets of a piece in a word.
use Rattle.std.specs.Prelude.{ℕ, ◌+◌, List, ◌++◌, take, drop}
use Rattle.octet_window.specs.declared.piece.Piece.{Piece}
use Rattle.octet_window.specs.Octets.{octets_of}

-- the octets of a word that the piece has
abbrev pub part_of : Piece → (word : ℕ) → List ℕ
part_of p word = take p.len (drop p.first (octets_of word))

-- the octets of a word where the piece's are replaced by the first of these, and the others stay
abbrev pub blended : Piece → (word : ℕ) → List ℕ → List ℕ
blended p word octets = take p.first (octets_of word) ++ take p.len octets ++ drop (p.first + p.len) (octets_of word)
