-- The tokens of a line's code.
use Rattle.std.specs.Prelude.{ℕ, ◌+◌, ◌==◌, Bool, true, false, ◌||◌, List, [], ◌∷◌, filter, if◌then◌else◌}

-- octets that stand together, and the column of the first one
pub record Piece : Type 0 where
  pub column : ℕ
  pub octets : List ℕ

-- space, tab and CR
abbrev pub is_blank : ℕ → Bool
is_blank b = (b == 32) || (b == 9) || (b == 13)

-- the octet of this column, which stands before the others of the first piece
abbrev pub in_first_piece : ℕ → ℕ → List Piece → List Piece
in_first_piece column b [] = record { column = column; octets = b ∷ [] } ∷ []
in_first_piece column b (p ∷ ps) = record { column = column; octets = b ∷ p.octets } ∷ ps

-- the pieces that blanks end, of octets whose first one has this column
unfoldable pub pieces : ℕ → List ℕ → List Piece
pieces column [] = []
pieces column (b ∷ bs) =
    if is_blank b
    then record { column = column; octets = [] } ∷ pieces (column + 1) bs
    else in_first_piece column b (pieces (column + 1) bs)

-- whether a piece has octets
abbrev pub has_octets : Piece → Bool
has_octets p = has_some p.octets where
  has_some : List ℕ → Bool
  has_some [] = false
  has_some (b ∷ bs) = true

-- the tokens: the pieces that aren't empty
unfoldable pub tokens : ℕ → List ℕ → List Piece
tokens column code = filter has_octets (pieces column code)
