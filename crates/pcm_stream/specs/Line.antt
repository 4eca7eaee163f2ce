-- The octets on the line of a capture stream, which are this project's own: octet k, counted from the opening of the stream
-- on, is k mod 251.
use Rattle.std.specs.Prelude.{ℕ, ◌%◌, zero, suc, List, [], ◌∷◌}

-- so many octets of the line, from octet k on
abbrev pub line_from : ℕ → ℕ → List ℕ
line_from k zero = []
line_from k (suc n) = (k % 251) ∷ line_from (suc k) n
