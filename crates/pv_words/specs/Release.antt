-- Pages that a device gives up: unmapped one after another, in their order.
use Rattle.std.specs.Prelude.{◌≡◌, List, [], ◌∷◌}
use Rattle.pv_words.specs.declared.access.Access.{Access}
use Rattle.pv_words.specs.declared.grant.Hold.{Hold}
use Rattle.pv_words.specs.Plan.{Plan, Make, Want, Ends, wanted}
use Rattle.pv_words.specs.Mapping.{unmap_want}

-- these pages are unmapped, in this order
abbrev pub unmaps : {A : Type 0} → List Hold → Plan A → Plan A
unmaps [] more = more
unmaps (h ∷ hs) more = Make (unmap_want h) (Ends h) (λ _. unmaps hs more)

-- the first of these pages may be unmapped, and it is
abbrev pub MayDrop : (Want → Type 0) → List Hold → Type 0
MayDrop may [] = Unit {0}
MayDrop may (h ∷ hs) = may (unmap_want h)

abbrev pub Drops : List Hold → Access → List Hold → Type 0
Drops [] a left = ⊥
Drops (h ∷ hs) a left = (wanted a ≡ unmap_want h) × (left ≡ hs)
