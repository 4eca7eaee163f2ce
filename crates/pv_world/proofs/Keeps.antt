-- What the memory keeps of its domains' grant entries, it keeps after a call.
use Rattle.std.proofs.Common.{◌∙◌, ap, ℕ, Option, Some, None}
use Rattle.pv_words.specs.declared.access.Access.{Access}
use Rattle.pv_words.specs.Plan.{Makes}
use Rattle.pv_words.specs.Port.{KeepsSame, Leaves, Port}

module _ {W : Type 0} (frames grants : W → ℕ → ℕ) (port : W → Port) (makes : W → Access → W → Type 0)
    (leaves : (old : W) (a : Access) (new : W) → makes old a new → Leaves (frames old) (grants old) (port old) a (port new)) where
  -- the port is handed on, and then an access is made or none
  pub keeps_on : (old handed new : W) (a : Option Access) → KeepsSame (port old) (port handed) → Makes makes handed a new → KeepsSame (port old) (port new)
  keeps_on old handed new None turned made = λ dom. ap (λ (w : W). (port w).keeps dom) made ∙ turned dom
  keeps_on old handed new (Some a) turned made = λ dom. (leaves handed a new made).keeps dom ∙ turned dom
