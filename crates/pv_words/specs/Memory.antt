-- Memory is the last word written at each place, and 0 before.
use Rattle.std.specs.Prelude.{◌≡◌, ℕ, ◌==◌, List, Option, Some, None, if◌then◌else◌, bit_and, bit_xor}
use Rattle.pv_words.specs.declared.place.Place.{Place}
use Rattle.pv_words.specs.declared.access.Access.{Access}
use Rattle.pv_words.specs.declared.access.Access.TheVariants as access
use Rattle.pv_words.specs.declared.entry.Entry.{Entry}
use Rattle.pv_words.specs.declared.entry.Entry.TheVariants as entry
use Rattle.pv_words.specs.Along.{after, Along}
use Rattle.pv_words.specs.Place.{same_place, InRange}

-- the word at each place
abbrev pub Memory : Type 0
Memory = Place → ℕ

abbrev pub place_of : Access → Place
place_of (access.Load at v) = at
place_of (access.Store at v) = at
place_of (access.Cas at old new seen) = at
place_of (access.Clear at mask seen) = at

-- a word without the bits of a mask
abbrev pub without : ℕ → ℕ → ℕ
without word mask = bit_and word (bit_xor mask 0xFFFF_FFFF)

-- the memory with this word at this place
abbrev pub put : Memory → Place → ℕ → Memory
put m at v = λ q. if same_place at q then v else m q

-- what an access leaves
abbrev pub written : Memory → Access → Memory
written m (access.Load at v) = m
written m (access.Store at v) = put m at v
written m (access.Cas at old new seen) = λ q. if seen == old then put m at new q else m q
written m (access.Clear at mask seen) = put m at (without seen mask)

-- the word that the access found is the one that stands there
abbrev pub Finds : Memory → Access → Type 0
Finds m (access.Load at v) = v ≡ m at
Finds m (access.Store at v) = Unit {0}
Finds m (access.Cas at old new seen) = seen ≡ m at
Finds m (access.Clear at mask seen) = seen ≡ m at

-- the access of an entry, where it is one
abbrev pub access_of : Entry → Option Access
access_of (entry.Front d a) = Some a
access_of (entry.Wake d) = None
access_of (entry.Back d a) = Some a
access_of (entry.Host d e) = None
access_of (entry.Refused d r) = None
access_of (entry.Bus d end s) = None
access_of (entry.Node d p k v) = None
access_of (entry.Said d s) = None
access_of (entry.Told d t) = None

abbrev pub changed_by : Memory → Option Access → Memory
changed_by m None = m
changed_by m (Some a) = written m a

-- the memory after one more entry
abbrev pub remembered : Memory → Entry → Memory
remembered m e = changed_by m (access_of e)

abbrev pub zeros : Memory
zeros = λ q. 0

-- the memory after a journal
abbrev pub memory_after : List Entry → Memory
memory_after es = after remembered zeros es

-- the access is in range and finds what stands there
abbrev pub IsTrueOf : (frames grants : ℕ → ℕ) → Memory → Option Access → Type 0
IsTrueOf frames grants m None = Unit {0}
IsTrueOf frames grants m (Some a) = InRange frames grants (place_of a) × Finds m a

-- each access of the journal is in range, and finds what the entries before it left
abbrev pub IsLawful : (frames grants : ℕ → ℕ) → List Entry → Type 0
IsLawful frames grants es = Along remembered (λ m e. IsTrueOf frames grants m (access_of e)) zeros es

-- From one memory an access leads to the other: it found what stood there, and of the places in range it changed
-- that word alone.
pub record Answers (frames grants : ℕ → ℕ) (old : Memory) (a : Access) (new : Memory) : Type 0 where
  pub found : Finds old a
  pub left : (q : Place) → InRange frames grants q → new q ≡ written old a q
