-- What a value that comes or goes changes, by the cookies.
use Rattle.std.specs.Prelude.{◌≡◌, ◌≢◌, ℕ, ◌<◌, List, [], ◌∷◌, ◌++◌, length, Some, None}
use Rattle.cookie_table.specs.Cookies.{AreFew, value_of, without}

-- a value that comes under a new cookie is found under it; no other cookie changes
abbrev pub AddsOne : (T : Type 0) → (T → ℕ) → Type 0
AddsOne T cookie_of =
    (xs : List T) (x : T) → value_of cookie_of (cookie_of x) xs ≡ None
    → (value_of cookie_of (cookie_of x) (xs ++ x ∷ []) ≡ Some x)
    × ((other : ℕ) → other ≢ cookie_of x → value_of cookie_of other (xs ++ x ∷ []) ≡ value_of cookie_of other xs)

-- a value that goes leaves its cookie free; no other cookie changes
abbrev pub TakesOne : (T : Type 0) → (T → ℕ) → Type 0
TakesOne T cookie_of =
    (xs : List T) (cookie : ℕ)
    → (value_of cookie_of cookie (without cookie_of cookie xs) ≡ None)
    × ((other : ℕ) → other ≢ cookie → value_of cookie_of other (without cookie_of cookie xs) ≡ value_of cookie_of other xs)

-- either keeps the cookies different, and at most 64 of them
abbrev pub StaysFew : (T : Type 0) → (T → ℕ) → Type 0
StaysFew T cookie_of =
    (xs : List T) → AreFew cookie_of xs
    → ((x : T) → value_of cookie_of (cookie_of x) xs ≡ None → length xs < 64 → AreFew cookie_of (xs ++ x ∷ []))
    × ((cookie : ℕ) → AreFew cookie_of (without cookie_of cookie xs))
