-- What a call of a port does to the octets that it tells of, and to its count of faults.
use Rattle.std.specs.Prelude.{◌≡◌, ℕ, ◌+◌, ◌-◌, ◌^◌, ◌≤◌, min, List, ◌++◌, [], Option, IfSome, option_map, Result, OnOk, OnErr, is_err, if◌then◌else◌}

-- one more, in a count of 64 bits that stands still at its last value
abbrev pub counted : ℕ → ℕ
counted n = min (n + 1) (2 ^ 64 - 1)

-- the count is greater than before, or stands at its last value
abbrev pub Rose : ℕ → ℕ → Type 0
Rose before now = counted before ≤ now

-- the count of faults never falls: it rose where a call failed, and is as it was after any other call
pub record HasCause {T E : Type 0} (before now : ℕ) (result : Result T E) : Type 0 where
  pub later : before ≤ now
  pub failed : OnErr result (Rose before now)
  pub passed : OnOk result (now ≡ before)

-- the count of faults is one more after a call that failed, and the same after any other
abbrev pub CountsFault : {T E : Type 0} → ℕ → ℕ → Result T E → Type 0
CountsFault before now result = now ≡ (if is_err result then counted before else before)

-- the rest that a source told before is these octets and then the rest that it tells now;
-- where it told nothing, it tells nothing
pub record Gave (old new : Option (List ℕ)) (octets : List ℕ) : Type 0 where
  pub was : old ≡ option_map (λ rest. octets ++ rest) new

-- nothing is left to be read, where the source tells its rest
abbrev pub IsAtEnd : Option (List ℕ) → Type 0
IsAtEnd rest = IfSome rest (λ octets. octets ≡ [])

-- what a sink tells that it has is what it told before and then the piece;
-- where it told nothing, it tells nothing
pub record Appended (old new : Option (List ℕ)) (piece : List ℕ) : Type 0 where
  pub is : new ≡ option_map (λ octets. octets ++ piece) old

-- the sink has got the front of the piece, and nothing of what was left of it
pub record AppendedPrefix (old new : Option (List ℕ)) (piece : List ℕ) : Type 0 where
  pub front : List ℕ
  pub left : List ℕ
  pub split : front ++ left ≡ piece
  pub appended : Appended old new front
