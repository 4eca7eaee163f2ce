-- Facts that hold at each item of a list, of the state that the items before it left.
use Rattle.std.specs.Prelude.{◌≡◌, List, [], ◌∷◌, ◌++◌, refl}

-- the state after these items
abbrev pub after : {S E : Type 0} → (S → E → S) → S → List E → S
after next s [] = s
after next s (e ∷ es) = after next (next s e) es

-- each item may come in the state that the items before it left
abbrev pub Along : {S E : Type 0} → (S → E → S) → (S → E → Type 0) → S → List E → Type 0
Along next may s [] = Unit {0}
Along next may s (e ∷ es) = may s e × Along next may (next s e) es

pub after-append : {S E : Type 0} (next : S → E → S) (s : S) (es fs : List E) → after next s (es ++ fs) ≡ after next (after next s es) fs
after-append next s [] fs = refl
after-append next s (e ∷ es) fs = after-append next (next s e) es fs

-- what comes after the items goes on from the state that they left
pub Along-append : {S E : Type 0} (next : S → E → S) (may : S → E → Type 0) (s : S) (es fs : List E) → Along next may s es → Along next may (after next s es) fs → Along next may s (es ++ fs)
Along-append next may s [] fs a b = b
Along-append next may s (e ∷ es) fs a b = (a.0, Along-append next may (next s e) es fs a.1 b)

pub Along-push : {S E : Type 0} (next : S → E → S) (may : S → E → Type 0) (s : S) (es : List E) (e : E) → Along next may s es → may (after next s es) e → Along next may s (es ++ e ∷ [])
Along-push next may s es e a b = Along-append next may s es (e ∷ []) a (b, tt)
