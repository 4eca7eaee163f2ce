-- From single grants to all grants of a statement.
use Rattle.std.proofs.Common.{◌≡◌, ℕ, suc, ◌+◌, ◌<◌, ◌≤◌, ◌⊎◌, inl, inr, List, [], ◌∷◌, ◌++◌, Option, Ok, refl, sym, subst, ◌∙◌, ap, append_assoc, arith}
use Rattle.std.proofs.lemmas.List.{append-nil}
use Rattle.std.proofs.Math.Nat.{eq-or-lt_of_le}
use Rattle.pv_words.specs.declared.device.Said.{Said}
use Rattle.pv_words.specs.declared.entry.Entry.{Entry}
use Rattle.pv_words.specs.declared.journal.Stop.{Stop}
use Rattle.pv_words.specs.declared.journal.Stop.TheVariants.{JournalFull, OutOfMemory}
use Rattle.pv_words.specs.declared.place.DevId.{DevId}
use Rattle.pv_words.specs.declared.place.DomId.{DomId}
use Rattle.pv_words.specs.declared.place.GrantRef.{GrantRef}
use Rattle.pv_words.specs.Plan.{Plan}
use Rattle.grant_table.specs.declared.owner.Owned.{Owned}
use Rattle.scenario_text.specs.declared.statement.Statement.{Statement}
use Rattle.pv_world.specs.declared.world.Placed.{Placed}
use Rattle.backend_core.specs.Marked.{Item, Entered, entries}
use Rattle.pv_world.specs.Owner.{IsDone, IsUnderWay, HasCauseAt, Owns, StopsOwning}
use Rattle.pv_world.specs.World.{Sight, Stands, setups}
use Rattle.scenario_run.specs.Follows.{AreSettled, EachDone, EachTo, IsPartOf, IsRow, rides_in}
use Rattle.scenario_run.specs.Played.{HasCauseIn, IsPromptHistory, StopsAt}
use Rattle.scenario_run.proofs.Wholes.{front_prompt, further_prompt, settled_all, stands_prompt}

-- the first n grants are done, and the world stands for it
abbrev pub SoFar : {W : Type 0} (g : Sight W) (frames grants : ℕ → ℕ) (memory : W) (devices : List Placed) (dom : DomId) (gref : GrantRef) (plans : ℕ → Plan Owned) (n : ℕ) (es : List Entry) (m : List Item) → Type 0
SoFar g frames grants memory devices dom gref plans n es m =
    (here : List Item) × EachDone dom gref plans n here × Stands g frames grants memory devices (m ++ here) × (entries (m ++ here) ≡ es)

module _ (frames grants : ℕ → ℕ) (dom : DomId) (gref : GrantRef) (plans : ℕ → Plan Owned) (count : ℕ) (s : Statement)
    (part_of : (h : List Item) → EachTo dom gref plans count h → IsPartOf s h)
    (row_of : (rides : DevId → List Item → Option Said) (h : List Item) → EachDone dom gref plans count h → IsRow rides s h)
    (n : ℕ) (below : n < count) where
  part_next : (front more : List Item) → EachDone dom gref plans n front → IsUnderWay (plans n) more → IsPartOf s (front ++ more)
  part_next front more done u =
      part_of (front ++ more) (record { number = n; front = front; last = more; split = refl; done = done; under_way = u; within = inl below })

  row_next : (rides : DevId → List Item → Option Said) (here : List Item) → EachDone dom gref plans (suc n) here → (suc n ≡ count) ⊎ (suc n < count) → IsPartOf s here ⊎ IsRow rides s here
  row_next rides here done (inl e) = inr (row_of rides here (subst (λ (c : ℕ). EachDone dom gref plans c here) e done))
  row_next rides here done (inr l) =
      inl (part_of here (record { number = suc n; front = here; last = []; split = sym (append-nil here); done = done; under_way = record { left = plans (suc n); leads = refl }; within = inl l }))

  next_of : (rides : DevId → List Item → Option Said) (front more : List Item) → EachDone dom gref plans n front → IsUnderWay (plans n) more ⊎ IsDone dom (record { 0 = gref.0 + n }) (plans n) more → IsPartOf s (front ++ more) ⊎ IsRow rides s (front ++ more)
  next_of rides front more done (inl u) = inl (part_next front more done u)
  next_of rides front more done (inr d) =
      let l : suc n ≤ count = omega (arith, below) in
      row_next rides (front ++ more) (front, more, refl, done, d) (eq-or-lt_of_le l)

  module _ {W : Type 0} (g : Sight W) where
    each_cause : (memory : W) (devices : List Placed) (stop : Stop) (m front part due : List Item) (es : List Entry) → EachDone dom gref plans n front → Stands g frames grants memory devices ((m ++ front) ++ (part ++ due)) → HasCauseAt frames grants (setups devices) dom (record { 0 = gref.0 + n }) (plans n) (m ++ front) part due es stop → HasCauseIn frames grants (setups devices) s m (front ++ part) es stop
    each_cause memory devices JournalFull m front part due es done st h =
        let one : List Item = Entered h.further ∷ [] in
        let joined : front ++ (part ++ one) ≡ (front ++ part) ++ one = sym (append_assoc front part one) in
        record {
          length_is = h.length_is;
          due = h.further;
          goes_on = subst (λ (y : List Item). IsPromptHistory frames grants (setups devices) y) (append_assoc m front (part ++ one) ∙ ap (λ (y : List Item). m ++ y) joined) (further_prompt g frames grants memory devices (m ++ front) part due h.further st h.goes_on h.due_is);
          next = subst (λ (y : List Item). IsPartOf s y ⊎ IsRow (rides_in frames grants (setups devices) m) s y) joined (next_of (rides_in frames grants (setups devices) m) front (part ++ one) done h.next);
        }
    each_cause memory devices OutOfMemory m front part due es done st h =
        let none : (m ++ front) ++ (part ++ due) ≡ m ++ (front ++ part) = append_assoc m front (part ++ due) ∙ ap (λ (y : List Item). m ++ (front ++ y)) (ap (λ (y : List Item). part ++ y) h.1 ∙ append-nil part) in
        (h.0, subst (λ (y : List Item). AreSettled frames grants (setups devices) y) none (settled_all g frames grants memory devices ((m ++ front) ++ (part ++ due)) st))

    pub each_stops : (memory later : W) (devices then : List Placed) (es new : List Entry) (m : List Item) (stop : Stop) → SoFar g frames grants memory devices dom gref plans n es m → ((k : List Item) → Stands g frames grants memory devices k → entries k ≡ es → StopsOwning g frames grants later then dom (record { 0 = gref.0 + n }) (plans n) stop k new) → StopsAt frames grants (setups then) s stop m new
    each_stops memory later devices then es new m stop a f =
        let b = f (m ++ a.0) a.2 a.3 in
        let joined : (m ++ a.0) ++ b.part ≡ m ++ (a.0 ++ b.part) = append_assoc m a.0 b.part in
        let stands = stands_prompt g frames grants later then ((m ++ a.0) ++ (b.part ++ b.due)) b.stands in
        let parts : (m ++ a.0) ++ (b.part ++ b.due) ≡ ((m ++ a.0) ++ b.part) ++ b.due = sym (append_assoc (m ++ a.0) b.part b.due) in
        let entered_part = front_prompt frames grants (setups then) ((m ++ a.0) ++ b.part) b.due (subst (λ (y : List Item). IsPromptHistory frames grants (setups then) y) parts stands) in
        record {
          part = a.0 ++ b.part;
          of = part_next a.0 b.part a.1 b.of;
          so_far = subst (λ (y : List Item). IsPromptHistory frames grants (setups then) y) joined entered_part;
          entered = subst (λ (y : List Item). entries y ≡ new) joined b.entered;
          cause = each_cause later then stop m a.0 b.part b.due new a.1 b.stands b.cause;
        }

module _ {W : Type 0} (g : Sight W) (frames grants : ℕ → ℕ) (dom : DomId) (gref : GrantRef) (plans : ℕ → Plan Owned) where
  pub each_next : {A : Type 0} (x : A) (memory later : W) (devices then : List Placed) (n : ℕ) (es new : List Entry) (m : List Item) → SoFar g frames grants memory devices dom gref plans n es m → ((k : List Item) → Stands g frames grants memory devices k → entries k ≡ es → Owns g frames grants later then dom (record { 0 = gref.0 + n }) (plans n) new k (Ok x)) → SoFar g frames grants later then dom gref plans (n + 1) new m
  each_next x memory later devices then n es new m a f =
      let b = f (m ++ a.0) a.2 a.3 in
      let one_more : suc n ≡ n + 1 = omega arith in
      let joined : (m ++ a.0) ++ b.0 ≡ m ++ (a.0 ++ b.0) = append_assoc m a.0 b.0 in (
        a.0 ++ b.0,
        subst (λ (c : ℕ). EachDone dom gref plans c (a.0 ++ b.0)) one_more (a.0, b.0, refl, a.1, b.1),
        subst (λ (y : List Item). Stands g frames grants later then y) joined b.2,
        subst (λ (y : List Item). entries y ≡ new) joined b.3,
      )
