-- What a step that gave a value went through.
use Rattle.std.proofs.Common.{◌≡◌, ℕ, Bool, true, false, cond, Option, Some, None, Result, Ok, Err, refl}
use Rattle.script_tokens.specs.declared.fault.FaultKind.{FaultKind}
use Rattle.script_tokens.specs.Flaws.{◌>>=◌, or_flaw}

-- both steps gave a value
pub bind_ok : {A B E : Type 0} (r : Result A E) (f : A → Result B E) (y : B) → (r >>= f) ≡ Ok y → (x : A) × (r ≡ Ok x) × (f x ≡ Ok y)
bind_ok (Ok x) f y same = (x, refl, same)
bind_ok (Err e) f y same = cc

-- the test that a value stands behind passed
pub test_ok : {A E : Type 0} (b : Bool) (e : E) (x y : A) → cond b (Ok x) (Err e) ≡ Ok y → (b ≡ true) × (x ≡ y)
test_ok true e x y same = (refl, cc)
test_ok false e x y same = cc

-- the test that a fault stands behind failed
pub test_failed : {A E : Type 0} (b : Bool) (e : E) (x y : A) → cond b (Err e) (Ok x) ≡ Ok y → (b ≡ false) × (x ≡ y)
test_failed true e x y same = cc
test_failed false e x y same = (refl, cc)

-- there was a value
pub or_flaw_ok : {A : Type 0} (o : Option A) (column : ℕ) (kind : FaultKind) (x : A) → or_flaw o column kind ≡ Ok x → o ≡ Some x
or_flaw_ok None column kind x same = cc
or_flaw_ok (Some y) column kind x same = cc

-- a result has one value
pub ok_one : {A E : Type 0} (r : Result A E) (x y : A) → r ≡ Ok x → r ≡ Ok y → x ≡ y
ok_one r x y first second = cc
