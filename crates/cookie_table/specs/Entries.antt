-- How the values are kept: a slab with an entry for each of 64 keys, the keys of the values in the order in which they
-- came, and the other keys, whose entries are empty.
use Rattle.std.specs.Prelude.{◌≡◌, ℕ, ◌+◌, ◌<◌, ◌≤◌, List, length, Option, Some, None, IsSome, slice_index, filter_map, Vec, vec_capacity}
use Rattle.std.specs.List.{AllByRecursion}
use Rattle.std.specs.Option.{option_flatten}
use Rattle.slab.specs.Slab.{Slab, get}
use Rattle.cookie_table.specs.Cookies.{value_of, cookies, AreDistinct}

module _ {T : Type 0} where
  -- the value under a key
  abbrev pub entry_at : Slab (Option T) → ℕ → Option T
  entry_at entries key = option_flatten (get entries key)

  -- the values under these keys, in their order
  abbrev pub rows : Slab (Option T) → List ℕ → List T
  rows entries keys = filter_map (entry_at entries) keys

  -- the key has a value; it has an empty entry
  abbrev pub IsUsed : Slab (Option T) → ℕ → Type 0
  IsUsed entries key = IsSome (entry_at entries key)

  abbrev pub IsUnused : Slab (Option T) → ℕ → Type 0
  IsUnused entries key = get entries key ≡ Some None

  -- where in the order the value of a cookie stands, if there is one
  abbrev pub Finds : (T → ℕ) → Slab (Option T) → List ℕ → ℕ → Option ℕ → Type 0
  Finds cookie_of entries order cookie None = value_of cookie_of cookie (rows entries order) ≡ None
  Finds cookie_of entries order cookie (Some k) =
      (k < length order)
      × ((x : T) × (entry_at entries (slice_index order k) ≡ Some x) × (value_of cookie_of cookie (rows entries order) ≡ Some x))

  -- the keys of the values and the others, 64 in all
  pub record IsTable (cookie_of : T → ℕ) (entries : Slab (Option T)) (order others : List ℕ) : Type 0 where
    pub used : AllByRecursion (IsUsed entries) order
    pub unused : AllByRecursion (IsUnused entries) others
    pub order_distinct : AreDistinct order
    pub others_distinct : AreDistinct others
    pub number : length order + length others ≡ 64
    pub cookies_distinct : AreDistinct (cookies cookie_of (rows entries order))

  -- such a table, with room for all 64 keys in either list
  abbrev pub IsRoomyTable : {A : Type 0} → (T → ℕ) → Slab (Option T) → (order others : Vec ℕ A) → Type 0
  IsRoomyTable cookie_of entries order others =
      IsTable cookie_of entries order.items others.items × (64 ≤ vec_capacity order) × (64 ≤ vec_capacity others)
