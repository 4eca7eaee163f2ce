-- Holds that are the same but for their order.
use Rattle.std.specs.Prelude.{◌≡◌, ℕ, ◌+◌, List, [], ◌∷◌, if◌then◌else◌}
use Rattle.pv_words.specs.declared.grant.Hold.{Hold}
use Rattle.pv_words.specs.Held.{same_hold}

-- how many of the holds are this one
abbrev pub times : Hold → List Hold → ℕ
times k [] = 0
times k (h ∷ hs) = (if same_hold h k then 1 else 0) + times k hs

-- the same holds, each as often, in some order
abbrev pub AreSame : List Hold → List Hold → Type 0
AreSame hs ks = (k : Hold) → times k hs ≡ times k ks
