-- From single stores to all stores of a statement.
use Rattle.std.proofs.Common.{◌≡◌, ℕ, suc, ◌+◌, ◌*◌, ◌%◌, ◌^◌, ◌<◌, inl, List, [], ◌∷◌, ◌++◌, Ok, Err, refl, subst, ◌∙◌, ap, append_assoc, arith}
use Rattle.std.proofs.Math.Nat.{add-mod-mod, div-lt_iff_lt-mul, mod-lt}
use Rattle.pv_words.specs.declared.entry.Entry.{Entry}
use Rattle.pv_words.specs.declared.journal.Stop.{Stop}
use Rattle.pv_words.specs.declared.journal.Stop.TheVariants.{JournalFull, OutOfMemory}
use Rattle.pv_words.specs.declared.place.DomId.{DomId}
use Rattle.pv_words.specs.Place.{InRange}
use Rattle.pv_words.specs.declared.setup.DeviceSetup.{DeviceSetup}
use Rattle.scenario_text.specs.declared.statement.Filling.{Filling}
use Rattle.scenario_text.specs.declared.statement.Statement.TheVariants.{Fill}
use Rattle.pv_world.specs.declared.world.Placed.{Placed}
use Rattle.backend_core.specs.Marked.{Item, entries}
use Rattle.pv_world.specs.Record.{Shows}
use Rattle.pv_world.specs.World.{Enters, Sight, Stands, front_store, setups}
use Rattle.scenario_run.specs.Follows.{AreSettled, filling, stores_of, word_at}
use Rattle.scenario_run.specs.Played.{HasCauseIn, IsPromptHistory, StopsAt}
use Rattle.scenario_run.proofs.Wholes.{next_prompt, settled_all, stands_prompt}

-- the word of a number below that of all words lies in a frame
pub word_in_range : (frames grants : ℕ → ℕ) (dom : DomId) (n : ℕ) → n < 1024 * frames dom.0 → InRange frames grants (word_at dom n)
word_in_range frames grants dom n below =
    let inside : n < frames dom.0 * 1024 = omega (arith, below) in
    ((div-lt_iff_lt-mul {k = 1024} {x = n} {y = frames dom.0} (omega arith)).1 inside, mod-lt n (omega arith))

-- the store of a turn, where each operation on the value wraps
pub store_is : (f : Filling) (word k : ℕ) → word ≡ f.word → front_store (word_at f.dom (1024 * f.frame.0 + word + k)) ((f.value + (k * f.step) % 2 ^ 32) % 2 ^ 32) ≡ filling f k
store_is f word k same = rw (same, add-mod-mod f.value (k * f.step) (2 ^ 32)) refl

-- the first n stores are made, and the world stands for it
abbrev pub Filled : {W : Type 0} (g : Sight W) (frames grants : ℕ → ℕ) (memory : W) (devices : List Placed) (f : Filling) (n : ℕ) (es : List Entry) (m : List Item) → Type 0
Filled g frames grants memory devices f n es m = Stands g frames grants memory devices (m ++ stores_of f n) × (entries (m ++ stores_of f n) ≡ es)

module _ {W : Type 0} (g : Sight W) (frames grants : ℕ → ℕ) (f : Filling) where
  pub one_more : {A : Type 0} (x : A) (later : W) (then : List Placed) (n : ℕ) (new : List Entry) (m : List Item) → Enters g frames grants later then (filling f n) new (m ++ stores_of f n) (Ok x) → Filled g frames grants later then f (n + 1) new m
  one_more x later then n new m h =
      let joined : (m ++ stores_of f n) ++ filling f n ∷ [] ≡ m ++ stores_of f (suc n) = append_assoc m (stores_of f n) (filling f n ∷ []) in
      let next : suc n ≡ n + 1 = omega arith in
      let whole : (m ++ stores_of f n) ++ filling f n ∷ [] ≡ m ++ stores_of f (n + 1) = joined ∙ ap (λ (k : ℕ). m ++ stores_of f k) next in
      (subst (λ (y : List Item). Stands g frames grants later then y) whole h.0, subst (λ (y : List Item). entries y ≡ new) whole h.1)

  store_cause : (devices : List DeviceSetup) (n : ℕ) (stop : Stop) (m : List Item) (es : List Entry) → n < f.count → AreSettled frames grants devices (m ++ stores_of f n) → IsPromptHistory frames grants devices ((m ++ stores_of f n) ++ filling f n ∷ []) → Shows stop es → HasCauseIn frames grants devices (Fill f) m (stores_of f n) es stop
  store_cause devices n JournalFull m es below whole h limit =
      record {
        length_is = limit;
        due = _;
        goes_on = subst (λ (y : List Item). IsPromptHistory frames grants devices y) (append_assoc m (stores_of f n) (filling f n ∷ [])) h;
        next = inl (suc n, below, refl);
      }
  store_cause devices n OutOfMemory m es below whole h limit = (limit, whole)

  pub fill_stops : (later : W) (then : List Placed) (n : ℕ) (new : List Entry) (m : List Item) (stop : Stop) → n < f.count → Enters g frames grants later then (filling f n) new (m ++ stores_of f n) {A = Unit {0}} (Err stop) → StopsAt frames grants (setups then) (Fill f) stop m new
  fill_stops later then n new m stop below h =
      record {
        part = stores_of f n;
        of = (n, omega (arith, below), refl);
        so_far = stands_prompt g frames grants later then (m ++ stores_of f n) h.0;
        entered = h.1;
        cause = store_cause (setups then) n stop m new below (settled_all g frames grants later then (m ++ stores_of f n) h.0) (next_prompt g frames grants later then (m ++ stores_of f n) (filling f n) h.0 h.2) h.3;
      }
