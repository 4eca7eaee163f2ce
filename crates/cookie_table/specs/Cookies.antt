-- Values that go by cookies, as a list in the order in which they came. What a value's cookie is, is handed in.
use Rattle.std.specs.Prelude.{◌≢◌, ℕ, ◌≤◌, Bool, not, ◌==◌, List, [], ◌∷◌, length, map, Option}
use Rattle.std.specs.List.{AllByRecursion, find, filter}

-- a number differs from each of these; each differs from those after it
abbrev pub IsFresh : ℕ → List ℕ → Type 0
IsFresh n ns = AllByRecursion (λ m. n ≢ m) ns

abbrev pub AreDistinct : List ℕ → Type 0
AreDistinct [] = Unit {0}
AreDistinct (n ∷ ns) = IsFresh n ns × AreDistinct ns

module _ {T : Type 0} (cookie_of : T → ℕ) where
  -- whether a value goes by this cookie
  abbrev pub has_cookie : ℕ → T → Bool
  has_cookie cookie x = cookie_of x == cookie

  -- the value of a cookie
  abbrev pub value_of : ℕ → List T → Option T
  value_of cookie xs = find (has_cookie cookie) xs

  -- the cookies of these values
  abbrev pub cookies : List T → List ℕ
  cookies xs = map cookie_of xs

  -- the other values than that of a cookie
  abbrev pub without : ℕ → List T → List T
  without cookie xs = filter (λ x. not (has_cookie cookie x)) xs

  -- at most 64 values, under different cookies
  pub record AreFew (xs : List T) : Type 0 where
    pub at_most : length xs ≤ 64
    pub distinct : AreDistinct (cookies xs)
