-- What a world that stands for a journal shows of the journal, of its fronts, and of one item more.
use Rattle.std.proofs.Common.{◌≡◌, ℕ, ◌⊎◌, inl, inr, List, [], ◌∷◌, ◌++◌, Option, Some, None, sym, subst, ◌∙◌, ap, append_assoc, arith}
use Rattle.std.proofs.lemmas.List.{append-nil}
use Rattle.std.specs.List.{AllByRecursion}
use Rattle.pv_words.specs.declared.device.HostRefusal.{HostRefusal}
use Rattle.pv_words.specs.declared.device.Said.{Said}
use Rattle.pv_words.specs.declared.entry.Entry.{Entry}
use Rattle.pv_words.specs.declared.place.DevId.{DevId}
use Rattle.pv_words.specs.declared.setup.DeviceSetup.{DeviceSetup}
use Rattle.backend_core.specs.History.{IsDirect, IsHistory, IsPromptIn, IsSettledIn}
use Rattle.backend_core.specs.Marked.{Item, Entered, Idle, AreSteps, accesses_in}
use Rattle.backend_core.proofs.Histories.{all_with, history_front, prompt_front, prompt_more}
use Rattle.backend_core.proofs.Items.{counts_append}
use Rattle.pv_world.specs.declared.world.Placed.{Placed}
use Rattle.pv_world.specs.World.{AtMost, IsPlaced, Sight, Stands, setups}
use Rattle.pv_world.proofs.Devices.{all_setups}
use Rattle.scenario_run.specs.Played.{IsPromptHistory}

-- where nothing is owed, whatever comes next is direct
direct_anyway : (dev : DevId) (due : Option Said) (owed : Option HostRefusal) (i : Item) → due ≡ None → owed ≡ None → IsDirect dev due owed i
direct_anyway dev None None i e f = tt
direct_anyway dev None (Some why) i e f = let wrong : ⊥ = cc in absurd wrong
direct_anyway dev (Some s) owed i e f = let wrong : ⊥ = cc in absurd wrong

pub front_prompt : (frames grants : ℕ → ℕ) (devices : List DeviceSetup) (m n : List Item) → IsPromptHistory frames grants devices (m ++ n) → IsPromptHistory frames grants devices m
front_prompt frames grants devices m n h = (history_front frames grants devices m n h.0, prompt_front frames grants devices m n h.1)

module _ {W : Type 0} (g : Sight W) (frames grants : ℕ → ℕ) (memory : W) (devices : List Placed) where
  -- no device owes anything
  pub settled_all : (m : List Item) → Stands g frames grants memory devices m → AllByRecursion (IsSettledIn frames grants m) (setups devices)
  settled_all m st = all_setups (IsPlaced g frames grants memory m) (IsSettledIn frames grants m) devices (λ p h. h.settled) st.placed

  pub stands_prompt : (m : List Item) → Stands g frames grants memory devices m → IsPromptHistory frames grants (setups devices) m
  stands_prompt m st = (st.so_far, st.prompt)

  -- so one item more is prompt
  pub next_prompt : (m : List Item) (i : Item) → Stands g frames grants memory devices m → IsHistory frames grants (setups devices) (m ++ i ∷ []) → IsPromptHistory frames grants (setups devices) (m ++ i ∷ [])
  next_prompt m i st h = (
    h,
    all_with (IsPromptIn frames grants m) (IsSettledIn frames grants m) (IsPromptIn frames grants (m ++ i ∷ []))
        (λ s a b. prompt_more frames grants m (i ∷ []) s a (direct_anyway s.dev _ _ i b.said b.answered, tt))
        (setups devices) st.prompt (settled_all m st),
  )

  -- also where the world stands for that item already
  pub further_prompt : (m part due : List Item) (further : Entry) → Stands g frames grants memory devices (m ++ (part ++ due)) → IsHistory frames grants (setups devices) (m ++ (part ++ Entered further ∷ [])) → (due ≡ []) ⊎ (due ≡ Entered further ∷ []) → IsPromptHistory frames grants (setups devices) (m ++ (part ++ Entered further ∷ []))
  further_prompt m part due further st h (inl e) =
      let none : m ++ (part ++ due) ≡ m ++ part = ap (λ (y : List Item). m ++ (part ++ y)) e ∙ ap (λ (y : List Item). m ++ y) (append-nil part) in
      let one : (m ++ part) ++ Entered further ∷ [] ≡ m ++ (part ++ Entered further ∷ []) = append_assoc m part (Entered further ∷ []) in
      subst (λ (y : List Item). IsPromptHistory frames grants (setups devices) y) one
      (next_prompt (m ++ part) (Entered further) (subst (λ (y : List Item). Stands g frames grants memory devices y) none st) (subst (λ (y : List Item). IsHistory frames grants (setups devices) y) (sym one) h))
  further_prompt m part due further st h (inr e) =
      stands_prompt (m ++ (part ++ Entered further ∷ [])) (subst (λ (y : List Item). Stands g frames grants memory devices (m ++ (part ++ y))) e st)

-- the first of some steps
pub steps_front : (d : ℕ) (m n : List Item) → AreSteps d (m ++ n) → AreSteps d m
steps_front d [] n h = tt
steps_front d (Entered e ∷ m) n h = (h.0, steps_front d m n h.1)
steps_front d (Idle dev ∷ m) n h = absurd h

pub at_most_front : (most : Option ℕ) (m n : List Item) → AtMost most (accesses_in (m ++ n)) → AtMost most (accesses_in m)
at_most_front None m n h = tt
at_most_front (Some k) m n h = let sum = counts_append m n in omega (arith, sum, h)
