-- Entries that find room, or find none.
use Rattle.std.proofs.Common.{◌≡◌, ℕ, List, [], ◌∷◌, ◌++◌, Some, Ok, Err, refl, sym, subst, ◌∙◌, ap}
use Rattle.pv_words.specs.declared.entry.Entry.{Entry}
use Rattle.pv_words.specs.declared.journal.Stop.{Stop}
use Rattle.pv_words.specs.declared.place.Place.{Place}
use Rattle.pv_words.specs.Memory.{Memory, Finds, IsTrueOf, place_of}
use Rattle.pv_words.specs.Place.{InRange}
use Rattle.pv_words.specs.Plan.{Want, Load, Store, Swap, Clear, aim_of, found}
use Rattle.backend_core.specs.History.{IsHistory}
use Rattle.backend_core.specs.Marked.{Item, Entered, entries}
use Rattle.backend_core.proofs.Items.{entries_append}
use Rattle.pv_world.specs.declared.world.Placed.{Placed}
use Rattle.pv_world.specs.Record.{Shows}
use Rattle.pv_world.specs.World.{Enters, Sight, Stands, setups}

-- one entry was entered, for which there was room
pub entered_one : {A W : Type 0} (g : Sight W) (frames grants : ℕ → ℕ) (memory : W) (devices : List Placed) (due : Entry) (m : List Item) (es grown : List Entry) (x : A) → Stands g frames grants memory devices (m ++ Entered due ∷ []) → entries m ≡ es → grown ≡ es ++ due ∷ [] → Enters g frames grants memory devices (Entered due) grown m (Ok x)
entered_one g frames grants memory devices due m es grown x st e ok =
    (st, entries_append m (Entered due ∷ []) ∙ (ap (λ (y : List Entry). y ++ due ∷ []) e ∙ sym ok))

-- it would have been one
pub refused_one : {W : Type 0} (A : Type 0) (g : Sight W) (frames grants : ℕ → ℕ) (memory : W) (devices : List Placed) (due : Item) (m : List Item) (es grown : List Entry) (stop : Stop) → Stands g frames grants memory devices m → entries m ≡ es → IsHistory frames grants (setups devices) (m ++ due ∷ []) → grown ≡ es → Shows stop grown → Enters g frames grants memory devices due grown m {A = A} (Err stop)
refused_one A g frames grants memory devices due m es grown stop st e h same cause = (st, e ∙ sym same, h, cause)

-- the word that stands there now is found there by the next access
pub finds_now : (m : Memory) (want : Want) → Finds m (found want (m (aim_of want)))
finds_now m (Load at) = refl
finds_now m (Store at v) = tt
finds_now m (Swap at old new) = refl
finds_now m (Clear at mask) = refl

pub aims_now : (want : Want) (v : ℕ) → place_of (found want v) ≡ aim_of want
aims_now (Load at) v = refl
aims_now (Store at w) v = refl
aims_now (Swap at old new) v = refl
aims_now (Clear at mask) v = refl

-- an access in range that finds what stands there is a true one
pub true_now : (frames grants : ℕ → ℕ) (m : Memory) (want : Want) → InRange frames grants (aim_of want) → IsTrueOf frames grants m (Some (found want (m (aim_of want))))
true_now frames grants m want range = (subst (λ (q : Place). InRange frames grants q) (sym (aims_now want (m (aim_of want)))) range, finds_now m want)
