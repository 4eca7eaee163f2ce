-- The names of what has pages.
use Rattle.std.specs.Prelude.{ℕ, List, [], ◌∷◌, map}
use Rattle.pv_words.specs.declared.grant.Hold.{Hold}
use Rattle.device_core.specs.Names.{Name, cells_of}

-- what has these pages has a name of this number, before the others, if it has any
abbrev pub named_if : List Hold → ℕ → List Name → List Name
named_if [] n others = others
named_if (h ∷ hs) n others = record { number = n; cells = cells_of (h ∷ hs) } ∷ others

abbrev pub numbers : List Name → List ℕ
numbers names = map (λ (n : Name). n.number) names
