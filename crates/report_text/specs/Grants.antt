-- The fields of refused mappings, and of what a domain is told of its grants.
use Rattle.std.specs.Prelude.{ℕ, List, [], ◌∷◌, codes}
use Rattle.std.specs.Fmt.{decimal}
use Rattle.pv_words.specs.declared.grant.GrantRefusal.{GrantRefusal}
use Rattle.pv_words.specs.declared.grant.GrantRefusal.TheVariants as refusal
use Rattle.pv_words.specs.declared.entry.Told.{Told}
use Rattle.pv_words.specs.declared.entry.Told.TheVariants as told

-- why a mapping was refused
abbrev pub refusal_fields : GrantRefusal → List (List ℕ)
refusal_fields (refusal.NoEntry reference) = codes "noentry" ∷ decimal reference ∷ []
refusal_fields (refusal.NotPermitted word) = codes "notpermitted" ∷ decimal word ∷ []
refusal_fields (refusal.OtherDomain word) = codes "otherdomain" ∷ decimal word ∷ []
refusal_fields (refusal.ReadOnly word) = codes "readonly" ∷ decimal word ∷ []
refusal_fields (refusal.InUse word) = codes "inuse" ∷ decimal word ∷ []
refusal_fields (refusal.Moved loaded seen) = codes "moved" ∷ decimal loaded ∷ decimal seen ∷ []
refusal_fields (refusal.BadFrame frame) = codes "badframe" ∷ decimal frame ∷ []
refusal_fields refusal.NoNext = codes "nonext" ∷ []

-- what a domain is told of a statement of its own
abbrev pub told_fields : ℕ → Told → List (List ℕ)
told_fields dom (told.OpenRefused gref word) =
    codes "grant" ∷ decimal dom ∷ decimal gref.0 ∷ codes "refused" ∷ decimal word ∷ []
told_fields dom (told.Ended gref) = codes "grant" ∷ decimal dom ∷ decimal gref.0 ∷ codes "ended" ∷ []
told_fields dom (told.Busy gref word) =
    codes "grant" ∷ decimal dom ∷ decimal gref.0 ∷ codes "busy" ∷ decimal word ∷ []
told_fields dom (told.Moved gref loaded seen) =
    codes "grant" ∷ decimal dom ∷ decimal gref.0 ∷ codes "moved" ∷ decimal loaded ∷ decimal seen ∷ []
told_fields dom (told.NotReady dev) = codes "notready" ∷ decimal dev.0 ∷ []
