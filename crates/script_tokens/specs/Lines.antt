-- The lines of a text, and what of a line is no comment.
use Rattle.std.specs.Prelude.{ℕ, ◌==◌, nat_le, Bool, ◌&&◌, ◌||◌, not, List, [], ◌∷◌, Option, Some, None, Result, Ok, Err, if◌then◌else◌}
use Rattle.std.specs.List.{before_first, position_from}
use Rattle.script_tokens.specs.declared.fault.Flaw.{Flaw}
use Rattle.script_tokens.specs.declared.fault.FaultKind.TheVariants.{BadByte}
use Rattle.script_tokens.specs.Flaws.{flaw}

-- LF
abbrev pub is_line_end : ℕ → Bool
is_line_end b = b == 10

-- an octet that stands before the others of a text's first line
abbrev pub in_first_line : ℕ → List (List ℕ) → List (List ℕ)
in_first_line b [] = (b ∷ []) ∷ []
in_first_line b (l ∷ ls) = (b ∷ l) ∷ ls

-- The lines of a text end with LF, which the last one may lack: no line follows a text that is empty or
-- ends with LF.
unfoldable pub lines : List ℕ → List (List ℕ)
lines [] = []
lines (b ∷ bs) = if is_line_end b then [] ∷ lines bs else in_first_line b (lines bs)

-- A comment begins with #.
abbrev pub is_hash : ℕ → Bool
is_hash b = b == 35

-- what stands before a line's comment
abbrev pub uncommented : List ℕ → List ℕ
uncommented line = before_first is_hash line

-- what may stand outside a comment: 0x20 to 0x7E, tab and CR
abbrev pub is_plain : ℕ → Bool
is_plain b = (nat_le 32 b && nat_le b 126) || (b == 9) || (b == 13)

-- the octets before a line's comment, unless one of this column is no plain octet
abbrev pub unless_bad : Option ℕ → List ℕ → Result (List ℕ) Flaw
unless_bad None code = Ok code
unless_bad (Some column) code = Err (flaw column BadByte)

-- a line's octets before its comment, or its first bad octet among them
unfoldable pub code_of : List ℕ → Result (List ℕ) Flaw
code_of line = unless_bad (position_from (λ b. not (is_plain b)) 1 (uncommented line)) (uncommented line)

-- what ends a line's code, with an octet that isn't plain (LF is none)
abbrev pub ends_code : ℕ → Bool
ends_code b = is_hash b || not (is_plain b)
