-- Runs of a machine, one after another.
use Rattle.std.proofs.Common.{List, [], ◌∷◌, ◌++◌, sym, subst}
use Rattle.device_core.specs.Machine.{IsRun}

pub run_joins : {M E : Type 0} (moves : M → E → M → Type 0) (m n k : M) (es fs : List E) → IsRun moves m es n → IsRun moves n fs k → IsRun moves m (es ++ fs) k
run_joins moves m n k [] fs a b = subst (λ x. IsRun moves x fs k) (sym a) b
run_joins moves m n k (e ∷ es) fs a b = (a.0, a.1, run_joins moves a.0 n k es fs a.2 b)
