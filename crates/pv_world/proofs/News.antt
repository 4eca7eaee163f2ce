-- What a frontend's nodes, states and wakes, and a host's events, make of a world.
use Rattle.std.proofs.Common.{◌≡◌, ℕ, ◌==◌, Bool, true, false, cond, List, [], ◌∷◌, ◌++◌, Option, Some, None, Result, Ok, Err, inr, set, refl, sym, subst, ◌∙◌, ap, eq-eqb, append-nil}
use Rattle.std.specs.List.{AllByRecursion, slice_get}
use Rattle.pv_words.specs.declared.device.HostEvent.{HostEvent}
use Rattle.pv_words.specs.declared.device.HostRefusal.{HostRefusal}
use Rattle.pv_words.specs.declared.device.NodeValue.{NodeValue}
use Rattle.pv_words.specs.declared.device.Said.{Said}
use Rattle.pv_words.specs.declared.device.State.{State}
use Rattle.pv_words.specs.declared.entry.Entry.{Entry}
use Rattle.pv_words.specs.declared.entry.Entry.TheVariants as entry
use Rattle.pv_words.specs.declared.entry.End.TheVariants as end
use Rattle.pv_words.specs.declared.place.DevId.{DevId}
use Rattle.pv_words.specs.declared.place.Place.{Place}
use Rattle.pv_words.specs.declared.setup.DeviceSetup.{DeviceSetup}
use Rattle.pv_words.specs.Along.{Along}
use Rattle.pv_words.specs.Held.{Holds}
use Rattle.pv_words.specs.Memory.{memory_after, remembered}
use Rattle.pv_words.specs.Port.{IsListed}
use Rattle.xenbus_states.specs.Nodes.{with_node}
use Rattle.host_events.specs.Queue.{refusal_in}
use Rattle.device_core.specs.Order.{Sets, Hosts, Own, Heard, Refused}
use Rattle.device_core.proofs.Stations.{AreHeard, AreOthers}
use Rattle.backend_core.specs.declared.device.Device.{Device}
use Rattle.backend_core.specs.Device.{Adds, GoesOn, hosted}
use Rattle.backend_core.specs.History.{Belongs, BelongsIn, IsDirect, IsHistory, IsSettledIn, held_after, is_declared, site_of}
use Rattle.backend_core.specs.Kinds.{Continues, due_after, owed_after}
use Rattle.backend_core.specs.Marked.{Item, Entered, entries, host_items, nodes_in, own}
use Rattle.backend_core.proofs.EachKind.{heard_holds, news_continue, none_comes, nothing_more, refusal_due}
use Rattle.backend_core.proofs.Histories.{IsNextIn, IsTrueNext, all_of, history_more, memory_more, nodes_more, own_is, own_more}
use Rattle.pv_world.specs.declared.world.Placed.{Placed}
use Rattle.pv_words.specs.declared.journal.Stop.{Stop}
use Rattle.backend_core.proofs.Items.{entries_append}
use Rattle.pv_world.specs.Record.{EntersHost}
use Rattle.pv_world.specs.World.{Hosted, IsPlaced, Sight, Stands, setups}
use Rattle.pv_world.proofs.Devices.{at_index, declared_at}
use Rattle.pv_world.proofs.Goings.{Tells, goes_history, goes_stands, stays}
use Rattle.pv_world.proofs.Standings.{IsSilent, prompt_one, prompt_two, silent_history, silent_stands}

not_chosen : {A : Type 0} (b : Bool) (x y : A) → b ≡ false → cond b x y ≡ y
not_chosen b x y e = ap (λ t. cond t x y) e

chosen : {A : Type 0} (b : Bool) (x y : A) → b ≡ true → cond b x y ≡ x
chosen b x y e = ap (λ t. cond t x y) e

-- what is refused is what was owed
direct_refused : (dev : DevId) (why : HostRefusal) (t : Option Said) (owed : Option HostRefusal) → (t ≡ None) × (owed ≡ Some why) → IsDirect dev t owed (Entered (entry.Refused dev why))
direct_refused dev why (Some u) owed h = let e = h.0 in let wrong : ⊥ = cc in absurd wrong
direct_refused dev why None None h = let e = h.1 in let wrong : ⊥ = cc in absurd wrong
direct_refused dev why None (Some w) h = let e = h.1 in let same : w ≡ why = cc in ap (λ x. Entered (entry.Refused dev x)) (sym same)

heard_all : (e : HostEvent) (r : Result (Unit {0}) HostRefusal) → AreHeard (hosted e r)
heard_all e (Ok x) = tt
heard_all e (Err why) = tt

module _ {W : Type 0} (g : Sight W) (frames grants : ℕ → ℕ) where
  nobody : (m : List Item) (i : Item) (o : DeviceSetup) (es : List Own) → own_more frames grants m (i ∷ []) o ≡ es → AreOthers es → AreOthers (own_more frames grants m (i ∷ []) o)
  nobody m i o es e h = subst (λ (x : List Own). AreOthers x) (sym e) h

  -- a wake tells nobody anything
  wake_silent : (m : List Item) (dev : DevId) (s : DeviceSetup) → IsSilent g frames grants m (Entered (entry.Wake dev) ∷ []) s
  wake_silent m dev s = record { owns = tt; sets = refl }

  pub wake_stands : (memory : W) (devices : List Placed) (m : List Item) (dev : DevId) → is_declared (setups devices) dev.0 ≡ true → Stands g frames grants memory devices m → Stands g frames grants memory devices (m ++ Entered (entry.Wake dev) ∷ [])
  wake_stands memory devices m dev declared st = silent_stands g frames grants memory devices m (Entered (entry.Wake dev) ∷ []) (wake_silent m dev) (λ q. refl) (tt, tt) (declared, tt) st

  pub wake_history : (memory : W) (devices : List Placed) (m : List Item) (dev : DevId) → is_declared (setups devices) dev.0 ≡ true → Stands g frames grants memory devices m → IsHistory frames grants (setups devices) (m ++ Entered (entry.Wake dev) ∷ [])
  wake_history memory devices m dev declared st = silent_history g frames grants memory devices m (Entered (entry.Wake dev) ∷ []) (wake_silent m dev) (tt, tt) (declared, tt) st

  -- a node
  abbrev node_item : DevId → ℕ → ℕ → NodeValue → Item
  node_item dev part key v = Entered (entry.Node dev part key v)

  node_other : (m : List Item) (dev : DevId) (part key : ℕ) (v : NodeValue) (o : DeviceSetup) → (dev.0 == o.dev.0) ≡ false → IsSilent g frames grants m (node_item dev part key v ∷ []) o
  node_other m dev part key v o e = record { owns = tt; sets = not_chosen (dev.0 == o.dev.0) (with_node (nodes_in o.dev.0 m) part key v) (nodes_in o.dev.0 m) e }

  pub node_history : (memory : W) (devices : List Placed) (m : List Item) (dev : DevId) (part key : ℕ) (v : NodeValue) → Belongs (setups devices) (entry.Node dev part key v) → Stands g frames grants memory devices m → IsHistory frames grants (setups devices) (m ++ node_item dev part key v ∷ [])
  node_history memory devices m dev part key v belongs st =
      history_more frames grants (setups devices) m (node_item dev part key v ∷ []) st.so_far (tt, tt) (belongs, tt) (all_of (IsNextIn frames grants m (node_item dev part key v ∷ [])) (λ s. next_nothing s) (setups devices))
    where
      next_nothing : (s : DeviceSetup) → IsNextIn frames grants m (node_item dev part key v ∷ []) s
      next_nothing s = none_comes s.kind (site_of frames grants s) (own s.dev.0 m)

  pub node_stands : (memory : W) (devices : List Placed) (i : ℕ) (p r : Placed) (m : List Item) (part key : ℕ) (v : NodeValue) → slice_get devices i ≡ Some p → Belongs (setups devices) (entry.Node p.setup.dev part key v) → r.setup ≡ p.setup → r.device ≡ p.device → r.nodes ≡ with_node p.nodes part key v → Stands g frames grants memory devices m → Stands g frames grants memory (set devices i r) (m ++ node_item p.setup.dev part key v ∷ [])
  node_stands memory devices i p r m part key v at belongs same device nodes st =
      let items = node_item p.setup.dev part key v ∷ [] in
      let s = p.setup in
      let h = at_index (IsPlaced g frames grants memory m) devices i p at st.placed in
      let goes = nothing_more s.kind (site_of frames grants s) p.device (own s.dev.0 m) h.stands h.settled in
      let now : own s.dev.0 (m ++ items) ≡ own s.dev.0 m = own_is frames grants m items s ∙ append-nil (own s.dev.0 m) in
      goes_stands g frames grants memory memory devices i p r m items [] at
      (record { owns = refl; prompt = prompt_one g frames grants m (node_item s.dev part key v) s h.settled; others = λ o e. node_other m s.dev part key v o e })
      same (subst (λ (d : Device). GoesOn s.kind (site_of frames grants s) (own s.dev.0 m) [] d) (sym device) goes)
      (nodes ∙ (ap (λ (ns : List NodeValue). with_node ns part key v) h.nodes_are ∙ sym (nodes_more frames grants m items s.dev.0 ∙ chosen (s.dev.0 == s.dev.0) (with_node (nodes_in s.dev.0 m) part key v) (nodes_in s.dev.0 m) (eq-eqb s.dev.0 s.dev.0 refl))))
      (stays g frames grants memory devices m items (λ q. memory_more m items q) (tt, tt) st) (belongs, tt)
      (subst (λ (es : List Own). IsListed (g.port memory) s.dev.0 (held_after frames grants s es)) (sym now) h.listed) (λ q e l. l) st

  -- the same of what is heard, by items that change no word and set no node
  heard_stands : (memory : W) (devices : List Placed) (i : ℕ) (p r : Placed) (m n : List Item) (more : List Own) → slice_get devices i ≡ Some p → AreHeard more → (IsPlaced g frames grants memory m p → Tells g frames grants m n p.setup more) → r.setup ≡ p.setup → r.nodes ≡ p.nodes → nodes_in p.setup.dev.0 (m ++ n) ≡ nodes_in p.setup.dev.0 m → (IsPlaced g frames grants memory m p → GoesOn p.setup.kind (site_of frames grants p.setup) (own p.setup.dev.0 m) more r.device) → ((q : Place) → memory_after (entries (m ++ n)) q ≡ memory_after (entries m) q) → Along remembered (IsTrueNext frames grants) (memory_after (entries m)) (entries n) → AllByRecursion (BelongsIn (setups devices)) n → Stands g frames grants memory devices m → Stands g frames grants memory (set devices i r) (m ++ n)
  heard_stands memory devices i p r m n more at heard tells same nodes sets goes words lawful belongs st =
      let s = p.setup in
      let h = at_index (IsPlaced g frames grants memory m) devices i p at st.placed in
      let t = tells h in
      let now : own s.dev.0 (m ++ n) ≡ own s.dev.0 m ++ more = own_is frames grants m n s ∙ ap (λ (es : List Own). own s.dev.0 m ++ es) t.owns in
      goes_stands g frames grants memory memory devices i p r m n more at t same (goes h) (nodes ∙ (h.nodes_are ∙ sym sets))
      (stays g frames grants memory devices m n words lawful st) belongs
      (subst (λ (es : List Own). IsListed (g.port memory) s.dev.0 (held_after frames grants s es)) (sym now)
      (subst (λ (k : Holds). IsListed (g.port memory) s.dev.0 k) (sym (heard_holds frames grants s.dom.0 s.kind (own s.dev.0 m) more heard)) h.listed)) (λ q e l. l) st

  -- a state of the frontend
  abbrev bus : DevId → State → Item
  bus dev s = Entered (entry.Bus dev end.Front s)

  bus_tells : (m : List Item) (d : DeviceSetup) (s : State) → IsSettledIn frames grants m d → Tells g frames grants m (bus d.dev s ∷ []) d (Heard (Sets s (nodes_in d.dev.0 m)) ∷ [])
  bus_tells m d s h =
      record {
        owns = ap (λ (es : List Own). es ++ []) (chosen (d.dev.0 == d.dev.0) (Heard (Sets s (nodes_in d.dev.0 m)) ∷ []) [] (eq-eqb d.dev.0 d.dev.0 refl));
        prompt = prompt_one g frames grants m (bus d.dev s) d h;
        others = λ o e. record { owns = nobody m (bus d.dev s) o [] (ap (λ (es : List Own). es ++ []) (not_chosen (d.dev.0 == o.dev.0) (Heard (Sets s (nodes_in o.dev.0 m)) ∷ []) [] e)) tt; sets = refl };
      }

  pub bus_stands : (memory : W) (devices : List Placed) (i : ℕ) (p r : Placed) (m : List Item) (s : State) → slice_get devices i ≡ Some p → Adds p.device (Heard (Sets s p.nodes) ∷ []) r.device → r.setup ≡ p.setup → r.nodes ≡ p.nodes → Stands g frames grants memory devices m → Stands g frames grants memory (set devices i r) (m ++ bus p.setup.dev s ∷ [])
  bus_stands memory devices i p r m s at adds same nodes st =
      heard_stands memory devices i p r m (bus p.setup.dev s ∷ []) (Heard (Sets s (nodes_in p.setup.dev.0 m)) ∷ []) at tt (λ h. bus_tells m p.setup s h.settled) same nodes (nodes_more frames grants m (bus p.setup.dev s ∷ []) p.setup.dev.0)
      (λ h. subst (λ (ns : List NodeValue). GoesOn p.setup.kind (site_of frames grants p.setup) (own p.setup.dev.0 m) (Heard (Sets s ns) ∷ []) r.device) h.nodes_are (adds p.setup.kind (site_of frames grants p.setup) (own p.setup.dev.0 m) h.stands h.settled))
      (λ q. memory_more m (bus p.setup.dev s ∷ []) q) (tt, tt) (declared_at devices i p at, tt) st

  pub bus_history : (memory : W) (devices : List Placed) (i : ℕ) (p : Placed) (m : List Item) (s : State) → slice_get devices i ≡ Some p → Stands g frames grants memory devices m → IsHistory frames grants (setups devices) (m ++ bus p.setup.dev s ∷ [])
  bus_history memory devices i p m s at st =
      let h = at_index (IsPlaced g frames grants memory m) devices i p at st.placed in
      goes_history g frames grants memory memory devices i p p m (bus p.setup.dev s ∷ []) (Heard (Sets s (nodes_in p.setup.dev.0 m)) ∷ []) at (bus_tells m p.setup s h.settled) refl
      (news_continue p.setup.kind (site_of frames grants p.setup) (own p.setup.dev.0 m) (Sets s (nodes_in p.setup.dev.0 m)) h.settled) (declared_at devices i p at, tt) (tt, tt) st

  -- an event of the host, and its refusal
  abbrev told_event : DevId → HostEvent → Item
  told_event dev e = Entered (entry.Host dev e)

  event_tells : (m : List Item) (d : DeviceSetup) (e : HostEvent) → IsSettledIn frames grants m d → Tells g frames grants m (told_event d.dev e ∷ []) d (Heard (Hosts e) ∷ [])
  event_tells m d e h =
      record {
        owns = ap (λ (es : List Own). es ++ []) (chosen (d.dev.0 == d.dev.0) (Heard (Hosts e) ∷ []) [] (eq-eqb d.dev.0 d.dev.0 refl));
        prompt = prompt_one g frames grants m (told_event d.dev e) d h;
        others = λ o i. record { owns = nobody m (told_event d.dev e) o [] (ap (λ (es : List Own). es ++ []) (not_chosen (d.dev.0 == o.dev.0) (Heard (Hosts e) ∷ []) [] i)) tt; sets = refl };
      }

  refusal_tells : (m : List Item) (d : DeviceSetup) (e : HostEvent) (why : HostRefusal) → IsSettledIn frames grants m d → Continues d.kind (site_of frames grants d) (own d.dev.0 m) (Heard (Hosts e) ∷ Refused why ∷ []) → Tells g frames grants m (host_items d.dev e (Some why)) d (Heard (Hosts e) ∷ Refused why ∷ [])
  refusal_tells m d e why h c =
      let site = site_of frames grants d in
      let one = told_event d.dev e ∷ [] in
      let now : own d.dev.0 (m ++ one) ≡ own d.dev.0 m ++ Heard (Hosts e) ∷ [] = own_is frames grants m one d ∙ ap (λ (es : List Own). own d.dev.0 m ++ es) (event_tells m d e h).owns in
      let same = eq-eqb d.dev.0 d.dev.0 refl in
      record {
        owns = ap (λ (es : List Own). es ++ (cond (d.dev.0 == d.dev.0) (Refused why ∷ []) [] ++ [])) (chosen (d.dev.0 == d.dev.0) (Heard (Hosts e) ∷ []) [] same) ∙ ap (λ (es : List Own). Heard (Hosts e) ∷ (es ++ [])) (chosen (d.dev.0 == d.dev.0) (Refused why ∷ []) [] same);
        prompt = prompt_two g frames grants m (told_event d.dev e) (Entered (entry.Refused d.dev why)) d h
            (direct_refused d.dev why _ _ (refusal_due d.kind site (own d.dev.0 m) e why _ _ h c (ap (due_after d.kind site) (sym now)) (ap (owed_after d.kind site) (sym now))));
        others = λ o i. record { owns = silent_two o i; sets = refl };
      } where
        silent_two : (o : DeviceSetup) → (d.dev.0 == o.dev.0) ≡ false → AreOthers (own_more frames grants m (host_items d.dev e (Some why)) o)
        silent_two o i =
            subst (λ (es : List Own). AreOthers es) (sym (ap (λ (es : List Own). es ++ (cond (d.dev.0 == o.dev.0) (Refused why ∷ []) [] ++ [])) (not_chosen (d.dev.0 == o.dev.0) (Heard (Hosts e) ∷ []) [] i) ∙ ap (λ (es : List Own). es ++ []) (not_chosen (d.dev.0 == o.dev.0) (Refused why ∷ []) [] i))) tt

  answer_tells : (m : List Item) (d : DeviceSetup) (e : HostEvent) (r : Result (Unit {0}) HostRefusal) → IsSettledIn frames grants m d → Continues d.kind (site_of frames grants d) (own d.dev.0 m) (hosted e r) → Tells g frames grants m (host_items d.dev e (refusal_in r)) d (hosted e r)
  answer_tells m d e (Ok x) h c = event_tells m d e h
  answer_tells m d e (Err why) h c = refusal_tells m d e why h c

  host_nodes : (m : List Item) (d : DeviceSetup) (e : HostEvent) (r : Result (Unit {0}) HostRefusal) → nodes_in d.dev.0 (m ++ host_items d.dev e (refusal_in r)) ≡ nodes_in d.dev.0 m
  host_nodes m d e (Ok x) = nodes_more frames grants m (host_items d.dev e None) d.dev.0
  host_nodes m d e (Err why) = nodes_more frames grants m (host_items d.dev e (Some why)) d.dev.0

  host_words : (m : List Item) (dev : DevId) (e : HostEvent) (r : Result (Unit {0}) HostRefusal) (q : Place) → memory_after (entries (m ++ host_items dev e (refusal_in r))) q ≡ memory_after (entries m) q
  host_words m dev e (Ok x) q = memory_more m (host_items dev e None) q
  host_words m dev e (Err why) q = memory_more m (host_items dev e (Some why)) q

  host_lawful : (m : List Item) (dev : DevId) (e : HostEvent) (r : Result (Unit {0}) HostRefusal) → Along remembered (IsTrueNext frames grants) (memory_after (entries m)) (entries (host_items dev e (refusal_in r)))
  host_lawful m dev e (Ok x) = (tt, tt)
  host_lawful m dev e (Err why) = (tt, (tt, tt))

  host_belongs : (devices : List DeviceSetup) (dev : DevId) (e : HostEvent) (r : Result (Unit {0}) HostRefusal) → Belongs devices (entry.Host dev e) → AllByRecursion (BelongsIn devices) (host_items dev e (refusal_in r))
  host_belongs devices dev e (Ok x) b = (b, tt)
  host_belongs devices dev e (Err why) b = (b, (b.0, tt))

  pub host_stands : (memory : W) (devices : List Placed) (i : ℕ) (p r : Placed) (m : List Item) (e : HostEvent) (answer : Result (Unit {0}) HostRefusal) → slice_get devices i ≡ Some p → Belongs (setups devices) (entry.Host p.setup.dev e) → Adds p.device (hosted e answer) r.device → r.setup ≡ p.setup → r.nodes ≡ p.nodes → Stands g frames grants memory devices m → Stands g frames grants memory (set devices i r) (m ++ host_items p.setup.dev e (refusal_in answer))
  host_stands memory devices i p r m e answer at belongs adds same nodes st =
      heard_stands memory devices i p r m (host_items p.setup.dev e (refusal_in answer)) (hosted e answer) at (heard_all e answer) (λ h. answer_tells m p.setup e answer h.settled (goes h).comes) same nodes (host_nodes m p.setup e answer) goes (host_words m p.setup.dev e answer) (host_lawful m p.setup.dev e answer) (host_belongs (setups devices) p.setup.dev e answer belongs) st
    where
      goes : IsPlaced g frames grants memory m p → GoesOn p.setup.kind (site_of frames grants p.setup) (own p.setup.dev.0 m) (hosted e answer) r.device
      goes h = adds p.setup.kind (site_of frames grants p.setup) (own p.setup.dev.0 m) h.stands h.settled

  pub event_history : (memory : W) (devices : List Placed) (i : ℕ) (p : Placed) (m : List Item) (e : HostEvent) → slice_get devices i ≡ Some p → Belongs (setups devices) (entry.Host p.setup.dev e) → Stands g frames grants memory devices m → IsHistory frames grants (setups devices) (m ++ told_event p.setup.dev e ∷ [])
  event_history memory devices i p m e at belongs st =
      let h = at_index (IsPlaced g frames grants memory m) devices i p at st.placed in
      goes_history g frames grants memory memory devices i p p m (told_event p.setup.dev e ∷ []) (Heard (Hosts e) ∷ []) at (event_tells m p.setup e h.settled) refl
      (news_continue p.setup.kind (site_of frames grants p.setup) (own p.setup.dev.0 m) (Hosts e) h.settled) (belongs, tt) (tt, tt) st

  -- what was entered of an event and its refusal
  pub hosted_as : {A : Type 0} (memory : W) (devices : List Placed) (dev : DevId) (e : HostEvent) (answer : Result (Unit {0}) HostRefusal) (m : List Item) (es grown : List Entry) (r : Result A Stop) → Stands g frames grants memory devices (m ++ host_items dev e (refusal_in answer)) → entries m ≡ es → EntersHost dev e answer es grown r → Hosted g frames grants memory devices dev e grown m r
  hosted_as memory devices dev e answer m es grown (Ok x) st i h =
      (refusal_in answer, st, entries_append m (host_items dev e (refusal_in answer)) ∙ (ap (λ (y : List Entry). y ++ entries (host_items dev e (refusal_in answer))) i ∙ sym h))
  hosted_as memory devices dev e answer m es grown (Err stop) st i h =
      inr (record {
        why = h.0;
        stands = subst (λ (x : Option HostRefusal). Stands g frames grants memory devices (m ++ host_items dev e x)) h.1 st;
        entered = entries_append m (told_event dev e ∷ []) ∙ (ap (λ (y : List Entry). y ++ entry.Host dev e ∷ []) i ∙ sym h.2);
        full = h.3;
        limit = h.4;
      })
