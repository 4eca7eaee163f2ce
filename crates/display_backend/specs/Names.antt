-- The names of live buffers.
use Rattle.std.specs.Prelude.{ℕ, Bool, true, List, [], ◌∷◌, ◌++◌, if◌then◌else◌}
use Rattle.displ_wire.specs.declared.Asked.{Asked}
use Rattle.displ_wire.specs.declared.Asked.TheVariants as asked
use Rattle.display_buffers.specs.declared.live.Live.{Live}
use Rattle.display_buffers.specs.Buffers.{has_cookie}
use Rattle.device_core.specs.Names.{Name}
use Rattle.device_service.specs.Named.{named_if}
use Rattle.display_buffers.specs.Stock.{Held}

-- the buffers, each with its number in place of its pages
abbrev pub numbered : List Held → List ℕ → List (Live ℕ)
numbered [] ns = []
numbered (b ∷ bs) [] = record { buffer = b.buffer; pages = 0 } ∷ numbered bs []
numbered (b ∷ bs) (n ∷ ns) = record { buffer = b.buffer; pages = n } ∷ numbered bs ns

-- the names of the buffers that have pages
abbrev pub live_names : List Held → List ℕ → List Name
live_names [] ns = []
live_names (b ∷ bs) [] = []
live_names (b ∷ bs) (n ∷ ns) = named_if b.pages n (live_names bs ns)

-- the name of the buffer of a cookie, if it has pages
abbrev pub names_under : ℕ → List Held → List ℕ → List Name
names_under cookie [] ns = []
names_under cookie (b ∷ bs) [] = []
names_under cookie (b ∷ bs) (n ∷ ns) = if has_cookie cookie b then named_if b.pages n [] else names_under cookie bs ns

-- the numbers without that of the buffer of a cookie
abbrev pub ids_without : ℕ → List Held → List ℕ → List ℕ
ids_without cookie [] ns = []
ids_without cookie (b ∷ bs) [] = []
ids_without cookie (b ∷ bs) (n ∷ ns) = if has_cookie cookie b then ids_without cookie bs ns else n ∷ ids_without cookie bs ns

-- the numbers after the reply of number n
abbrev pub ids_after : List Held → ℕ → List ℕ → Asked → Bool → List ℕ
ids_after bs n ids (asked.Create c) true = ids ++ n ∷ []
ids_after bs n ids (asked.Destroy cookie) true = ids_without cookie bs ids
ids_after bs n ids asks accepted = ids
