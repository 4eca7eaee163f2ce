-- Steps that may fail, and where in a line.
use Rattle.std.specs.Prelude.{◌≡◌, ℕ, Option, Some, None, Result, Ok, Err}
use Rattle.script_tokens.specs.declared.fault.Flaw.{Flaw}
use Rattle.script_tokens.specs.declared.fault.FaultKind.{FaultKind}

-- a fault in a line
abbrev pub flaw : ℕ → FaultKind → Flaw
flaw column kind = record { column = column; kind = kind }

-- one step after the other, up to the first that fails
infixl 10 ◌>>=◌
abbrev pub ◌>>=◌ : {A B E : Type 0} → Result A E → (A → Result B E) → Result B E
(Ok x) >>= f = f x
(Err e) >>= f = Err e

-- the value, or this fault where there is none
abbrev pub or_flaw : {A : Type 0} → Option A → ℕ → FaultKind → Result A Flaw
or_flaw None column kind = Err (flaw column kind)
or_flaw (Some x) column kind = Ok x

-- what a function returned, seen by view, is what reading gives
abbrev pub Gives : {X Y E : Type 0} → (X → Y) → Result X E → Result Y E → Type 0
Gives view (Ok x) read = read ≡ Ok (view x)
Gives view (Err e) read = read ≡ Err e
