-- The mark of a list of numbers, which a report tells in place of the list. It is this project's own.
use Rattle.std.specs.Prelude.{ℕ, ◌+◌, ◌*◌, ◌%◌, ◌^◌, List, fold}

-- the mark of a list to which a number is appended
abbrev pub mark_after : ℕ → ℕ → ℕ
mark_after mark value = (31 * mark + value) % 2 ^ 32

abbrev pub mark_of : List ℕ → ℕ
mark_of values = fold mark_after 0 values
