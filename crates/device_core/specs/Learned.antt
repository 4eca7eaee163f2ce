-- What a device learns by its own accesses: what it holds, and the words that it found last.
use Rattle.std.specs.Prelude.{ℕ, List}
use Rattle.pv_words.specs.declared.access.Access.{Access}
use Rattle.pv_words.specs.declared.grant.Hold.{Hold}
use Rattle.pv_words.specs.Found.{Found, finding, nothing_found}
use Rattle.pv_words.specs.Held.{Holds, holding, holds_of}
use Rattle.pv_words.specs.Plan.{Note}
use Rattle.device_core.specs.Order.{Own, Did}

pub record Learned : Type 0 where
  pub holds : Holds
  pub found : Found

abbrev pub learning : (frames : ℕ → ℕ) → Learned → Note → Access → Learned
learning frames l note a = record { holds = holding frames l.holds note a; found = finding l.found a }

-- of just these pages, before it found a word
abbrev pub learned_of : List Hold → Learned
learned_of held = record { holds = holds_of held; found = nothing_found }

-- the words that a device's accesses found last, after one more thing
abbrev pub found_next : Found → Own → Found
found_next f (Did a) = finding f a
found_next f other = f
