-- The names of open streams: each is the making of one by an OPEN, in order.
use Rattle.std.specs.Prelude.{ℕ, ◌==◌, Bool, true, List, [], ◌∷◌, ◌++◌, if◌then◌else◌}
use Rattle.pv_words.specs.declared.grant.Hold.{Hold}
use Rattle.snd_wire.specs.declared.types.Asked.{Asked}
use Rattle.snd_wire.specs.declared.types.Asked.TheVariants as asked
use Rattle.device_core.specs.Names.{Name}
use Rattle.device_service.specs.Named.{named_if}
use Rattle.sound_backend.specs.Held.{list_at}

-- the number of the name of the stream of a part
pub record Numbered : Type 0 where
  pub part : ℕ
  pub number : ℕ

-- the names of the streams that have pages
abbrev pub live_names : List (List Hold) → List Numbered → List Name
live_names held [] = []
live_names held (e ∷ es) = named_if (list_at held e.part) e.number (live_names held es)

-- the names of the stream of a part, and the number of the first; the others' numbers
abbrev pub names_under : ℕ → List (List Hold) → List Numbered → List Name
names_under part held [] = []
names_under part held (e ∷ es) =
    if e.part == part then named_if (list_at held e.part) e.number (names_under part held es) else names_under part held es

abbrev pub number_under : ℕ → List Numbered → ℕ
number_under part [] = 0
number_under part (e ∷ es) = if e.part == part then e.number else number_under part es

abbrev pub without_part : ℕ → List Numbered → List Numbered
without_part part [] = []
without_part part (e ∷ es) = if e.part == part then without_part part es else e ∷ without_part part es

-- the numbers after the reply of number n
abbrev pub numbered_after : List Numbered → ℕ → ℕ → Asked → Bool → List Numbered
numbered_after m n part (asked.Open p) true = m ++ record { part = part; number = n } ∷ []
numbered_after m n part asked.Close true = without_part part m
numbered_after m n part asks accepted = m
