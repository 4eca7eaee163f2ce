-- How fields make a line.
use Rattle.std.specs.Prelude.{ℕ, List, [], ◌∷◌, ◌++◌}

-- a text, and each of the fields behind it after one space
abbrev pub with_fields : List ℕ → List (List ℕ) → List ℕ
with_fields before [] = before
with_fields before (field ∷ fields) = with_fields (before ++ 32 ∷ field) fields

-- the fields, with one space between any two
abbrev pub joined : List (List ℕ) → List ℕ
joined [] = []
joined (field ∷ fields) = with_fields field fields

-- the fields, with one space between any two, and a line feed at the end
abbrev pub line_of_fields : List (List ℕ) → List ℕ
line_of_fields fields = joined fields ++ 10 ∷ []
