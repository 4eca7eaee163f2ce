-- A domain's permits and ends, from single accesses.
use Rattle.std.proofs.Common.{◌≡◌, ℕ, ◌<◌, ◌⊎◌, inl, inr, Bool, true, false, List, [], ◌∷◌, ◌++◌, Option, Some, None, Result, Ok, Err, refl, sym, subst, ◌∙◌, ap, append_assoc, length}
use Rattle.std.proofs.lemmas.List.{append-nil}
use Rattle.pv_words.specs.declared.access.Access.{Access}
use Rattle.pv_words.specs.declared.entry.Entry.{Entry}
use Rattle.pv_words.specs.declared.entry.Entry.TheVariants as entry
use Rattle.pv_words.specs.declared.entry.Told.{Told}
use Rattle.pv_words.specs.declared.journal.Stop.{Stop}
use Rattle.pv_words.specs.declared.journal.Stop.TheVariants.{JournalFull, OutOfMemory}
use Rattle.pv_words.specs.declared.place.DomId.{DomId}
use Rattle.pv_words.specs.declared.place.GrantRef.{GrantRef}
use Rattle.pv_words.specs.declared.place.Place.{Place}
use Rattle.pv_words.specs.declared.setup.DeviceSetup.{DeviceSetup}
use Rattle.pv_words.specs.Memory.{Memory, memory_after, place_of}
use Rattle.pv_words.specs.Place.{InRange}
use Rattle.pv_words.specs.Plan.{Plan, Finished, Make, Want, Load, Store, Swap, Clear, Goes, IsUnfinished, Makes, Turns, aim_of, found, seen_by, wanted}
use Rattle.pv_words.specs.Port.{Port}
use Rattle.pv_words.specs.Keeping.{MayGoOn}
use Rattle.pv_words.proofs.Keeping.{goes_in_entry}
use Rattle.grant_table.specs.declared.owner.Owned.{Owned}
use Rattle.pv_world.specs.declared.world.Placed.{Placed}
use Rattle.backend_core.specs.Marked.{Item, Entered, entries}
use Rattle.backend_core.specs.History.{IsHistory}
use Rattle.pv_world.specs.Owner.{Leads, IsDone, IsUnderWay, HasCauseAt, StopsOwning, Owns, OwnsOn, EntersTurn, told_of, told_items}
use Rattle.pv_world.specs.Record.{Shows}
use Rattle.pv_world.specs.World.{Sight, Stands, front_access, setups}
use Rattle.pv_world.proofs.Entering.{finds_now}
use Rattle.backend_core.proofs.Items.{entries_append}
use Rattle.backend_core.proofs.Histories.{aimed}
use Rattle.pv_world.proofs.Standings.{Behaves, IsSilent, front_history, front_stands, silent_stands}

-- each access goes to the entry, which the domain has
pub goes_in_range : (fs gs : ℕ → ℕ) (p : Port) (dom gref : ℕ) (plan k : Plan Owned) (a : Access) → MayGoOn p dom gref plan → gref < gs dom → Goes plan a k → InRange fs gs (place_of a)
goes_in_range fs gs p dom gref plan k a goes r g =
    subst (λ (q : Place). InRange fs gs q) (sym (aimed a)) (goes_in_entry fs gs dom gref goes.0 goes.1 plan k a goes.3 r g)

-- what a step leads to
pub goes_of : (p q : Plan Owned) (a : Access) (o : Option Owned) → Turns p (Some a) o q → (k : Plan Owned) × Goes p a k
goes_of p q a None t = (q, t.0)
goes_of p q a (Some x) t = (Finished x, t)

leads_append : (p q r : Plan Owned) (xs ys : List Item) → Leads p xs q → Leads q ys r → Leads p (xs ++ ys) r
leads_append p q r [] ys e g = subst (λ (x : Plan Owned). Leads x ys r) (sym e) g
leads_append p q r (i ∷ xs) ys h g = (h.0, h.1, h.2, h.3, leads_append h.1 q r xs ys h.4 g)

done_after : (dom : DomId) (gref : GrantRef) (p q : Plan Owned) (xs ys : List Item) → Leads p xs q → IsDone dom gref q ys → IsDone dom gref p (xs ++ ys)
done_after dom gref p q xs ys h d =
    record {
      made = xs ++ d.made;
      owned = d.owned;
      leads = leads_append p q (Finished d.owned) xs d.made h d.leads;
      then_told = ap (λ (x : List Item). xs ++ x) d.then_told ∙ sym (append_assoc xs d.made (told_items dom (told_of gref d.owned)));
    }

under_way_after : (p q : Plan Owned) (xs ys : List Item) → Leads p xs q → IsUnderWay q ys → IsUnderWay p (xs ++ ys)
under_way_after p q xs ys h u = record { left = u.left; leads = leads_append p q u.left xs ys h u.leads }

-- the next access, where the words are these
next_access : (p : Plan Owned) (m : Memory) → IsUnfinished p → (k : Plan Owned) × (want : Want) × Goes p (found want (m (aim_of want))) k
next_access (Finished x) m u = absurd u
next_access (Make want note more) m u = (more (seen_by (found want (m (aim_of want)))), want, (wanted_now want (m (aim_of want)), refl))
  where
    wanted_now : (want : Want) (v : ℕ) → wanted (found want v) ≡ want
    wanted_now (Load at) v = refl
    wanted_now (Store at w) v = refl
    wanted_now (Swap at old new) v = refl
    wanted_now (Clear at mask) v = refl

module _ {W : Type 0} (g : Sight W) (frames grants : ℕ → ℕ) where
  told_silent : (m : List Item) (dom : DomId) (t : Told) (s : DeviceSetup) → IsSilent g frames grants m (Entered (entry.Told dom t) ∷ []) s
  told_silent m dom t s = record { owns = tt; sets = refl }

  told_stands : (memory : W) (devices : List Placed) (m : List Item) (dom : DomId) (t : Option Told) → Stands g frames grants memory devices m → Stands g frames grants memory devices (m ++ told_items dom t)
  told_stands memory devices m dom None st = subst (λ (x : List Item). Stands g frames grants memory devices x) (sym (append-nil m)) st
  told_stands memory devices m dom (Some t) st =
      silent_stands g frames grants memory devices m (Entered (entry.Told dom t) ∷ []) (told_silent m dom t) (λ q. refl) (tt, tt) (tt, tt) st

  -- there was no room for an access
  access_cause : (memory : W) (devices : List Placed) (dom : DomId) (gref : GrantRef) (p : Plan Owned) (port : Port) (stop : Stop) (m : List Item) (es : List Entry) → MayGoOn port dom.0 gref.0 p → gref.0 < grants dom.0 → IsUnfinished p → Stands g frames grants memory devices m → Shows stop es → HasCauseAt frames grants (setups devices) dom gref p m [] [] es stop
  access_cause memory devices dom gref p port JournalFull m es keeps range u st limit =
      let n = next_access p (memory_after (entries m)) u in
      let a = found n.1 (memory_after (entries m) (aim_of n.1)) in
      let there : InRange frames grants (place_of a) = goes_in_range frames grants port dom.0 gref.0 p n.0 a keeps range n.2 in
      record {
        length_is = limit;
        further = _;
        goes_on = front_history g frames grants memory devices m a (there, finds_now (memory_after (entries m)) n.1) st;
        next = inl (record { left = n.0; leads = (a, n.0, refl, n.2, refl) });
        due_is = inl refl;
      }
  access_cause memory devices dom gref p port OutOfMemory m es keeps range u st limit = (limit, refl)

  -- nothing was done, for want of room
  pub owns_nothing : (memory : W) (devices : List Placed) (dom : DomId) (gref : GrantRef) (p : Plan Owned) (port : Port) (stop : Stop) (m : List Item) (es new : List Entry) → MayGoOn port dom.0 gref.0 p → gref.0 < grants dom.0 → IsUnfinished p → Stands g frames grants memory devices m → entries m ≡ es → new ≡ es → Shows stop new → StopsOwning g frames grants memory devices dom gref p stop m new
  owns_nothing memory devices dom gref p port stop m es new keeps range u st e same cause =
      record {
        part = [];
        due = [];
        of = record { left = p; leads = refl };
        stands = subst (λ (y : List Item). Stands g frames grants memory devices y) (sym (append-nil m)) st;
        entered = ap entries (append-nil m) ∙ (e ∙ sym same);
        cause = access_cause memory devices dom gref p port stop m new keeps range u st cause;
      }

  -- what is told found none
  told_cause : (memory : W) (devices : List Placed) (dom : DomId) (gref : GrantRef) (p : Plan Owned) (a : Access) (x : Owned) (t : Told) (m : List Item) (es : List Entry) → Goes p a (Finished x) → told_of gref x ≡ Some t → Stands g frames grants memory devices (m ++ (front_access a ∷ Entered (entry.Told dom t) ∷ [])) → length es ≡ 8388608 → HasCauseAt frames grants (setups devices) dom gref p m (front_access a ∷ []) (Entered (entry.Told dom t) ∷ []) es JournalFull
  told_cause memory devices dom gref p a x t m es g n st limit =
      record {
        length_is = limit;
        further = entry.Told dom t;
        goes_on = st.so_far;
        next = inr (record {
          made = front_access a ∷ [];
          owned = x;
          leads = (a, Finished x, refl, g, refl);
          then_told = ap (λ (o : Option Told). (front_access a ∷ []) ++ told_items dom o) (sym n);
        });
        due_is = inr refl;
      }

  -- what was entered of one step, and what the world stands for after it
  pub turned : (memory : W) (devices : List Placed) (dom : DomId) (gref : GrantRef) (p q : Plan Owned) (a : Access) (o : Option Owned) (es grown : List Entry) (m : List Item) (r : Result Bool Stop) → Stands g frames grants memory devices (m ++ front_access a ∷ []) → Turns p (Some a) o q → entries m ≡ es → EntersTurn dom gref (Some a) o es grown r → OwnsOn g frames grants memory devices dom gref p q grown m r
  turned memory devices dom gref p q a None es grown m (Ok true) st t e r =
      (front_access a ∷ [], (a, q, refl, t.0, refl), t.1, st, entries_append m (front_access a ∷ []) ∙ (ap (λ (y : List Entry). y ++ entries (front_access a ∷ [])) e ∙ sym r.0))
  turned memory devices dom gref p q a (Some x) es grown m (Ok true) st t e r = let wrong : ⊥ = cc (r.1) in absurd wrong
  turned memory devices dom gref p q a None es grown m (Ok false) st t e r = let wrong : ⊥ = cc (r.1) in absurd wrong
  turned memory devices dom gref p q a (Some x) es grown m (Ok false) st t e r =
      let news : List Item = told_items dom (told_of gref x) in
      let here : List Item = (front_access a ∷ []) ++ news in
      let joined : (m ++ front_access a ∷ []) ++ news ≡ m ++ here = append_assoc m (front_access a ∷ []) news in (
        here,
        record { made = front_access a ∷ []; owned = x; leads = (a, Finished x, refl, t, refl); then_told = refl },
        subst (λ (y : List Item). Stands g frames grants memory devices y) joined (told_stands memory devices (m ++ front_access a ∷ []) dom (told_of gref x) st),
        entries_append m here ∙ (ap (λ (y : List Entry). y ++ entries here) e ∙ (ap (λ (y : List Entry). es ++ y) (entries_append (front_access a ∷ []) news) ∙ sym r.0)),
      )
  turned memory devices dom gref p q a None es grown m (Err stop) st t e r = let wrong : ⊥ = cc (r.1) in absurd wrong
  turned memory devices dom gref p q a (Some x) es grown m (Err stop) st t e r =
      let told : List Item = Entered (entry.Told dom r.0) ∷ [] in
      let joined : (m ++ front_access a ∷ []) ++ told ≡ m ++ (front_access a ∷ told) = append_assoc m (front_access a ∷ []) told in
      let now = subst (λ (y : List Item). Stands g frames grants memory devices y) joined (told_stands memory devices (m ++ front_access a ∷ []) dom (Some r.0) st) in
      record {
        part = front_access a ∷ [];
        due = told;
        of = record { left = Finished x; leads = (a, Finished x, refl, t, refl) };
        stands = now;
        entered = entries_append m (front_access a ∷ []) ∙ (ap (λ (y : List Entry). y ++ entries (front_access a ∷ [])) e ∙ sym r.2);
        cause = subst (λ (s : Stop). HasCauseAt frames grants (setups devices) dom gref p m (front_access a ∷ []) told grown s) (sym r.3) (told_cause memory devices dom gref p a x r.0 m grown t r.1 now r.4);
      }

  -- one that was stopped later
  later_cause : (devices : List DeviceSetup) (dom : DomId) (gref : GrantRef) (p q : Plan Owned) (stop : Stop) (m here part due : List Item) (es : List Entry) → Leads p here q → HasCauseAt frames grants devices dom gref q (m ++ here) part due es stop → HasCauseAt frames grants devices dom gref p m (here ++ part) due es stop
  later_cause devices dom gref p q JournalFull m here part due es leads h =
      let joined : here ++ (part ++ Entered h.further ∷ []) ≡ (here ++ part) ++ Entered h.further ∷ [] = sym (append_assoc here part (Entered h.further ∷ [])) in
      record {
        length_is = h.length_is;
        further = h.further;
        goes_on = subst (λ (y : List Item). IsHistory frames grants devices y) (append_assoc m here (part ++ Entered h.further ∷ []) ∙ ap (λ (y : List Item). m ++ y) joined) h.goes_on;
        next = subst (λ (y : List Item). IsUnderWay p y ⊎ IsDone dom gref p y) joined (later_next h.next);
        due_is = h.due_is;
      } where
        later_next : (IsUnderWay q (part ++ Entered h.further ∷ []) ⊎ IsDone dom gref q (part ++ Entered h.further ∷ [])) → IsUnderWay p (here ++ (part ++ Entered h.further ∷ [])) ⊎ IsDone dom gref p (here ++ (part ++ Entered h.further ∷ []))
        later_next (inl u) = inl (under_way_after p q here (part ++ Entered h.further ∷ []) leads u)
        later_next (inr d) = inr (done_after dom gref p q here (part ++ Entered h.further ∷ []) leads d)
  later_cause devices dom gref p q OutOfMemory m here part due es leads h = h

  -- a step after the steps so far
  pub owns_on : (memory later : W) (devices then : List Placed) (dom : DomId) (gref : GrantRef) (p q r : Plan Owned) (es new : List Entry) (m : List Item) → OwnsOn g frames grants memory devices dom gref p q es m (Ok true) → ((n : List Item) → Stands g frames grants memory devices n → entries n ≡ es → OwnsOn g frames grants later then dom gref q r new n (Ok true)) → OwnsOn g frames grants later then dom gref p r new m (Ok true)
  owns_on memory later devices then dom gref p q r es new m a f =
      let b = f (m ++ a.0) a.3 a.4 in
      let joined : (m ++ a.0) ++ b.0 ≡ m ++ (a.0 ++ b.0) = append_assoc m a.0 b.0 in (
        a.0 ++ b.0,
        leads_append p q r a.0 b.0 a.1 b.1,
        b.2,
        subst (λ (x : List Item). Stands g frames grants later then x) joined b.3,
        subst (λ (x : List Item). entries x ≡ new) joined b.4,
      )

  pub owns_all : {A : Type 0} (x : A) (memory later : W) (devices then : List Placed) (dom : DomId) (gref : GrantRef) (p q r : Plan Owned) (es new : List Entry) (m : List Item) → OwnsOn g frames grants memory devices dom gref p q es m (Ok true) → ((n : List Item) → Stands g frames grants memory devices n → entries n ≡ es → OwnsOn g frames grants later then dom gref q r new n (Ok false)) → Owns g frames grants later then dom gref p new m (Ok x)
  owns_all x memory later devices then dom gref p q r es new m a f =
      let b = f (m ++ a.0) a.3 a.4 in
      let joined : (m ++ a.0) ++ b.0 ≡ m ++ (a.0 ++ b.0) = append_assoc m a.0 b.0 in (
        a.0 ++ b.0,
        done_after dom gref p q a.0 b.0 a.1 b.1,
        subst (λ (y : List Item). Stands g frames grants later then y) joined b.2,
        subst (λ (y : List Item). entries y ≡ new) joined b.3,
      )

  pub owns_stopped : (memory later : W) (devices then : List Placed) (dom : DomId) (gref : GrantRef) (p q r : Plan Owned) (es new : List Entry) (m : List Item) (stop : Stop) → OwnsOn g frames grants memory devices dom gref p q es m (Ok true) → ((n : List Item) → Stands g frames grants memory devices n → entries n ≡ es → OwnsOn g frames grants later then dom gref q r new n (Err stop)) → StopsOwning g frames grants later then dom gref p stop m new
  owns_stopped memory later devices then dom gref p q r es new m stop a f =
      let b = f (m ++ a.0) a.3 a.4 in
      let joined : (m ++ a.0) ++ b.part ≡ m ++ (a.0 ++ b.part) = append_assoc m a.0 b.part in
      record {
        part = a.0 ++ b.part;
        due = b.due;
        of = under_way_after p q a.0 b.part a.1 b.of;
        stands = subst (λ (y : List Item). Stands g frames grants later then y) (append_assoc m a.0 (b.part ++ b.due) ∙ ap (λ (y : List Item). m ++ y) (sym (append_assoc a.0 b.part b.due))) b.stands;
        entered = subst (λ (y : List Item). entries y ≡ new) joined b.entered;
        cause = later_cause (setups then) dom gref p q stop m a.0 b.part b.due new a.1 b.cause;
      }

  -- a step of the world, once the port is the domain's
  pub owned_turn : (makes : W → Access → W → Type 0) (b : Behaves g makes)
      (old new : W) (devices : List Placed) (dom : DomId) (gref : GrantRef) (p q : Plan Owned) (x : Option Access) (o : Option Owned) (es grown : List Entry) (m : List Item) (r : Result Bool Stop) → MayGoOn (g.port old) dom.0 gref.0 p → gref.0 < grants dom.0 → (g.port old).device ≡ None → Stands g frames grants old devices m → Makes makes old x new → Turns p x o q → entries m ≡ es → EntersTurn dom gref x o es grown r → OwnsOn g frames grants new devices dom gref p q grown m r
  owned_turn makes b old new devices dom gref p q None o es grown m r keeps range own st made t e enters = absurd t
  owned_turn makes b old new devices dom gref p q (Some a) o es grown m r keeps range own st made t e enters =
      let goes = goes_of p q a o t in
      let there : InRange frames grants (place_of a) = goes_in_range frames grants (g.port old) dom.0 gref.0 p goes.0 a keeps range goes.1 in
      turned new devices dom gref p q a o es grown m r (front_stands g frames grants makes b old new devices m a own there made st) t e enters

-- a step after which the world goes on isn't the last one
pub goes_further : (dom : DomId) (gref : GrantRef) (p q : Plan Owned) (x : Option Access) (o : Option Owned) (es grown : List Entry) (r : Result Bool Stop) → EntersTurn dom gref x o es grown r → Turns p x o q → r ≡ Ok true → (o ≡ None) × IsUnfinished q
goes_further dom gref p q None o es grown r enters t e = absurd t
goes_further dom gref p q (Some a) None es grown r enters t e = (refl, t.1)
goes_further dom gref p q (Some a) (Some x) es grown (Ok true) enters t e = let wrong : ⊥ = cc (enters.1) in absurd wrong
goes_further dom gref p q (Some a) (Some x) es grown (Ok false) enters t e = let wrong : ⊥ = cc (e) in absurd wrong
goes_further dom gref p q (Some a) (Some x) es grown (Err stop) enters t e = let wrong : ⊥ = cc (e) in absurd wrong
