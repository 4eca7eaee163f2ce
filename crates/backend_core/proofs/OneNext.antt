-- Behind a journal in which memory wasn't wanting, one item alone may come of a device, and one of a domain's access.
use Rattle.std.proofs.Common.{◌≡◌, ℕ, ◌==◌, ◌||◌, Bool, true, false, List, [], ◌∷◌, ◌++◌, Some, None, refl, sym, subst, ◌∙◌, ap, append-nil, append_assoc, arith, eq-eqb}
use Rattle.std.proofs.lemmas.Bool.Decides.{nat_tests}
use Rattle.std.specs.List.{AllByRecursion, list_any}
use Rattle.pv_words.specs.declared.device.HostRefusal.{HostRefusal}
use Rattle.pv_words.specs.declared.device.Said.{Said}
use Rattle.pv_words.specs.declared.device.Said.TheVariants as said
use Rattle.pv_words.specs.declared.device.NodeValue.{NodeValue}
use Rattle.pv_words.specs.declared.entry.Entry.{Entry}
use Rattle.pv_words.specs.declared.entry.Entry.TheVariants as entry
use Rattle.pv_words.specs.declared.entry.End.TheVariants as end
use Rattle.pv_words.specs.declared.place.DevId.{DevId}
use Rattle.pv_words.specs.declared.setup.DeviceSetup.{DeviceSetup}
use Rattle.pv_words.specs.Memory.{IsLawful, IsTrueOf, access_of, memory_after, remembered, zeros}
use Rattle.device_core.specs.Order.{Own, Did, Spoke, Rested, Heard, Refused, Others}
use Rattle.device_core.proofs.Single.{FindsBy, IsDoing}
use Rattle.backend_core.specs.History.{BelongsIn, IsAmple, IsExplainedIn, IsHistory, IsNoState, IsSettledIn, is_declared, site_of, wants_in}
use Rattle.backend_core.specs.Kinds.{IsExplained, owed_after, wants_memory}
use Rattle.backend_core.specs.Marked.{Item, Entered, Idle, IsStepOf, entries, entry_of, nodes_in, own, own_from, told_in}
use Rattle.backend_core.proofs.EachKind.{along_last, refusal_owed, same_next}
use Rattle.backend_core.proofs.Histories.{all_weaker, all_with, history_front, own_is}
use Rattle.backend_core.proofs.Items.{as_said, chosen, dev_same, entries_append, own_step}

-- an item that the device of this number makes
abbrev pub IsMade : ℕ → Item → Type 0
IsMade d (Entered e) = IsStepOf d e
IsMade d (Idle dev) = dev ≡ d

-- what it does by it
item_of : DevId → Own → Item
item_of dev (Did a) = Entered (entry.Back dev a)
item_of dev (Spoke s) = Entered (entry_of dev s)
item_of dev Rested = Idle dev.0
item_of dev (Heard news) = Idle dev.0
item_of dev (Refused why) = Idle dev.0
item_of dev (Others a) = Idle dev.0

no_state : (dev : DevId) (s : Said) → IsNoState s → entry_of dev s ≡ entry.Said dev s
no_state dev s h = as_said (λ t e. IsNoState t → e ≡ entry.Said dev t) dev (λ state is. absurd is) (λ t none is. refl) s h

-- what a device enters is an item of its own doing, and the device is declared
made_entry : (devices : List DeviceSetup) (dev : DevId) (e : Entry) → IsStepOf dev.0 e → BelongsIn devices (Entered e) → (o : Own) × IsDoing o × (Entered e ≡ item_of dev o) × (is_declared devices dev.0 ≡ true)
unfolding item_of
made_entry devices dev (entry.Back d a) h b =
    (Did a, tt, ap (λ (x : DevId). Entered (entry.Back x a)) (dev_same d dev h), subst (λ (n : ℕ). is_declared devices n ≡ true) h b)
made_entry devices dev (entry.Said d s) h b =
    (Spoke s, tt, ap (λ (x : DevId). Entered (entry.Said x s)) (dev_same d dev h) ∙ ap Entered (sym (no_state dev s b.1)), subst (λ (n : ℕ). is_declared devices n ≡ true) h b.0)
made_entry devices dev (entry.Bus d end.Back s) h b =
    (Spoke (said.State s), tt, ap (λ (x : DevId). Entered (entry.Bus x end.Back s)) (dev_same d dev h), subst (λ (n : ℕ). is_declared devices n ≡ true) h b)
made_entry devices dev other h b = absurd h

made_as : (devices : List DeviceSetup) (dev : DevId) (i : Item) → IsMade dev.0 i → BelongsIn devices i → (o : Own) × IsDoing o × (i ≡ item_of dev o)
unfolding item_of
made_as devices dev (Entered e) h b = let x = made_entry devices dev e h b in (x.0, x.1, x.2)
made_as devices dev (Idle d) h b = (Rested, tt, ap Idle h)

own_of : (dev : DevId) (nodes : List NodeValue) (o : Own) → IsDoing o → own_from dev.0 nodes (item_of dev o ∷ []) ≡ o ∷ []
unfolding item_of
own_of dev nodes (Did a) i = own_step dev nodes (Some a) None
own_of dev nodes (Spoke s) i = own_step dev nodes None (Some s)
own_of dev nodes Rested i = own_step dev nodes None None
own_of dev nodes (Heard news) i = absurd i
own_of dev nodes (Refused why) i = absurd i
own_of dev nodes (Others a) i = absurd i

-- what is so of all devices is so of one that is declared
pick : (P : DeviceSetup → Type 0) (ds : List DeviceSetup) (d : ℕ) → is_declared ds d ≡ true → AllByRecursion P ds → (s : DeviceSetup) × (s.dev.0 ≡ d) × P s
pick P [] d e h = let wrong : ⊥ = cc in absurd wrong
pick P (s ∷ ds) d e h = by_test (s.dev.0 == d) refl e (λ k. pick P ds d k h.1)
  where
    by_test : (t : Bool) → (s.dev.0 == d) ≡ t → (t || is_declared ds d) ≡ true → (is_declared ds d ≡ true → (x : DeviceSetup) × (x.dev.0 ≡ d) × P x) → (x : DeviceSetup) × (x.dev.0 ≡ d) × P x
    by_test true same k f = (s, grind (arith, nat_tests), h.0)
    by_test false apart k f = f k

first_false : (a b : Bool) → (a || b) ≡ false → a ≡ false
first_false false b e = refl
first_false true b e = e

all_last : {X : Type 0} (P : X → Type 0) (xs : List X) (x : X) → AllByRecursion P (xs ++ x ∷ []) → P x
all_last P [] x h = h.0
all_last P (y ∷ xs) x h = all_last P xs x h.1

module _ (frames grants : ℕ → ℕ) (devices : List DeviceSetup) where
  -- a history in which memory wasn't wanting
  pub record IsPlain (m : List Item) : Type 0 where
    pub history : IsHistory frames grants devices m
    pub ample : IsAmple frames grants devices m

  pub plain_front : (m n : List Item) → IsPlain (m ++ n) → IsPlain m
  plain_front m n h =
      record {
        history = history_front frames grants devices m n h.history;
        ample = λ before rest i e. h.ample before (rest ++ n) i (ap (λ (x : List Item). x ++ n) e ∙ append_assoc before (i ∷ rest) n);
      }

  -- the entry that came last found what the others left
  pub last_true : (m : List Item) (e : Entry) → IsHistory frames grants devices (m ++ Entered e ∷ []) → IsTrueOf frames grants (memory_after (entries m)) (access_of e)
  last_true m e h =
      along_last remembered (λ x f. IsTrueOf frames grants x (access_of f)) zeros (entries m) e
      (subst (λ (es : List Entry). IsLawful frames grants es) (entries_append m (Entered e ∷ [])) h.lawful)

  found_by : (m : List Item) (dev : DevId) (o : Own) → IsDoing o → IsHistory frames grants devices (m ++ item_of dev o ∷ []) → FindsBy (memory_after (entries m)) o
  unfolding item_of
  found_by m dev (Did a) i h = (last_true m (entry.Back dev a) h).1
  found_by m dev (Spoke s) i h = tt
  found_by m dev Rested i h = tt
  found_by m dev (Heard news) i h = tt
  found_by m dev (Refused why) i h = tt
  found_by m dev (Others a) i h = tt

  -- what a device does last is explained, and doesn't begin to answer that memory was wanting
  record IsLast (m : List Item) (o : Own) (s : DeviceSetup) : Type 0 where
    explained : IsExplained s.kind (site_of frames grants s) (own s.dev.0 m ++ o ∷ [])
    usual : wants_memory s.kind (site_of frames grants s) (own s.dev.0 m) o ≡ false

  is_last : (m : List Item) (o : Own) (s : DeviceSetup) → IsDoing o → IsPlain (m ++ item_of s.dev o ∷ []) → IsExplainedIn frames grants (m ++ item_of s.dev o ∷ []) s → wants_in frames grants m (item_of s.dev o) s ≡ false → IsLast m o s
  is_last m o s i h x w =
      let nodes = nodes_in s.dev.0 m in
      let item = item_of s.dev o in
      let alone = own_of s.dev nodes o i in
      let told : told_in s.dev.0 nodes item ≡ o ∷ [] = sym (append-nil (told_in s.dev.0 nodes item)) ∙ alone in
      let wanted = subst (λ (es : List Own). list_any (λ a. wants_memory s.kind (site_of frames grants s) (own s.dev.0 m) a) es ≡ false) told w in
      record {
        explained = subst (λ (es : List Own). IsExplained s.kind (site_of frames grants s) es) (own_is frames grants m (item ∷ []) s ∙ ap (λ (es : List Own). own s.dev.0 m ++ es) alone) x;
        usual = first_false (wants_memory s.kind (site_of frames grants s) (own s.dev.0 m) o) false wanted;
      }

  both_last : (m : List Item) (a b : Own) (s : DeviceSetup) → IsDoing a → IsDoing b → IsLast m a s → IsLast m b s → FindsBy (memory_after (entries m)) a → FindsBy (memory_after (entries m)) b → a ≡ b
  both_last m a b s i j h k f g =
      same_next (memory_after (entries m)) s.kind (site_of frames grants s) (own s.dev.0 m) a b i j h.explained k.explained h.usual k.usual f g

  -- what is asked of one device is known of each
  record Known (m : List Item) (i j : Item) (s : DeviceSetup) : Type 0 where
    first : IsExplainedIn frames grants (m ++ i ∷ []) s
    second : IsExplainedIn frames grants (m ++ j ∷ []) s
    one : wants_in frames grants m i s ≡ false
    other : wants_in frames grants m j s ≡ false

  known_all : (m : List Item) (i j : Item) → IsPlain (m ++ i ∷ []) → IsPlain (m ++ j ∷ []) → AllByRecursion (Known m i j) devices
  known_all m i j h k =
      all_with (λ s. (wants_in frames grants m i s ≡ false) × (wants_in frames grants m j s ≡ false)) (λ s. IsExplainedIn frames grants (m ++ i ∷ []) s × IsExplainedIn frames grants (m ++ j ∷ []) s) (Known m i j)
      (λ s w x. record { first = x.0; second = x.1; one = w.0; other = w.1 }) devices
      (all_with (λ s. wants_in frames grants m i s ≡ false) (λ s. wants_in frames grants m j s ≡ false) _ (λ s a b. (a, b)) devices (h.ample m [] i refl) (k.ample m [] j refl))
      (all_with (IsExplainedIn frames grants (m ++ i ∷ [])) (IsExplainedIn frames grants (m ++ j ∷ [])) _ (λ s a b. (a, b)) devices h.history.explained k.history.explained)

  same_done : (m : List Item) (s : DeviceSetup) (a b : Own) → IsDoing a → IsDoing b → IsPlain (m ++ item_of s.dev a ∷ []) → IsPlain (m ++ item_of s.dev b ∷ []) → Known m (item_of s.dev a) (item_of s.dev b) s → item_of s.dev a ≡ item_of s.dev b
  same_done m s a b i j h k x =
      ap (item_of s.dev) (
      both_last m a b s i j (is_last m a s i h x.first x.one) (is_last m b s j k x.second x.other) (found_by m s.dev a i h.history) (found_by m s.dev b j k.history)
      )

  same_declared : (d : ℕ) (m : List Item) (i j : Item) → is_declared devices d ≡ true → IsMade d i → IsMade d j → IsPlain (m ++ i ∷ []) → IsPlain (m ++ j ∷ []) → i ≡ j
  same_declared d m i j declared made also h k =
      let found = pick (Known m i j) devices d declared (known_all m i j h k) in
      let s = found.0 in
      let a = made_as devices s.dev i (subst (λ (n : ℕ). IsMade n i) (sym found.1) made) (all_last (BelongsIn devices) m i h.history.belongs) in
      let b = made_as devices s.dev j (subst (λ (n : ℕ). IsMade n j) (sym found.1) also) (all_last (BelongsIn devices) m j k.history.belongs) in
      a.2
      ∙ same_done m s a.0 b.0 a.1 b.1 (subst (λ (x : Item). IsPlain (m ++ x ∷ [])) a.2 h) (subst (λ (x : Item). IsPlain (m ++ x ∷ [])) b.2 k)
      (subst (λ (x : Item). Known m (item_of s.dev a.0) x s) b.2 (subst (λ (x : Item). Known m x j s) a.2 found.2))
      ∙ sym b.2

  -- two items that a device may make next are the same
  pub same_made : (d : ℕ) (m : List Item) (i j : Item) → IsMade d i → IsMade d j → IsPlain (m ++ i ∷ []) → IsPlain (m ++ j ∷ []) → i ≡ j
  same_made d m (Idle x) (Idle y) made also h k = ap Idle (made ∙ sym also)
  same_made d m (Entered e) j made also h k =
      same_declared d m (Entered e) j (made_entry devices (record { 0 = d }) e made (all_last (BelongsIn devices) m (Entered e) h.history.belongs)).3 made also h k
  same_made d m (Idle x) (Entered e) made also h k =
      same_declared d m (Idle x) (Entered e) (made_entry devices (record { 0 = d }) e also (all_last (BelongsIn devices) m (Entered e) k.history.belongs)).3 made also h k

  -- the device, if its number is this, owes its host this refusal
  abbrev Owes : List Item → DevId → HostRefusal → DeviceSetup → Type 0
  Owes m dev why s = s.dev.0 ≡ dev.0 → owed_after s.kind (site_of frames grants s) (own s.dev.0 m) ≡ Some why

  -- a refusal that came last was owed
  owed_last : (m : List Item) (dev : DevId) (why : HostRefusal) (s : DeviceSetup) → IsExplainedIn frames grants (m ++ Entered (entry.Refused dev why) ∷ []) s → Owes m dev why s
  owed_last m dev why s h = λ same.
      let alone = ap (λ (es : List Own). es ++ []) (chosen (dev.0 == s.dev.0) (Refused why ∷ []) [] (eq-eqb dev.0 s.dev.0 (sym same))) in
      refusal_owed s.kind (site_of frames grants s) (own s.dev.0 m) why
      (subst (λ (es : List Own). IsExplained s.kind (site_of frames grants s) es) (own_is frames grants m (Entered (entry.Refused dev why) ∷ []) s ∙ ap (λ (es : List Own). own s.dev.0 m ++ es) alone) h)

  all_owed : (m : List Item) (dev : DevId) (why : HostRefusal) → IsHistory frames grants devices (m ++ Entered (entry.Refused dev why) ∷ []) → AllByRecursion (Owes m dev why) devices
  all_owed m dev why h =
      all_weaker (IsExplainedIn frames grants (m ++ Entered (entry.Refused dev why) ∷ [])) (Owes m dev why) (owed_last m dev why) devices h.explained

  -- two refusals of a device that may come next are the same
  pub same_refusal : (m : List Item) (dev : DevId) (a b : HostRefusal) → IsHistory frames grants devices (m ++ Entered (entry.Refused dev a) ∷ []) → IsHistory frames grants devices (m ++ Entered (entry.Refused dev b) ∷ []) → a ≡ b
  same_refusal m dev a b h k =
      let both = all_with (Owes m dev a) (Owes m dev b) (λ s. Owes m dev a s × Owes m dev b s) (λ s x y. (x, y)) devices (all_owed m dev a h) (all_owed m dev b k) in
      let found = pick (λ s. Owes m dev a s × Owes m dev b s) devices dev.0 (all_last (BelongsIn devices) m (Entered (entry.Refused dev a)) h.belongs) both in
      let same : Some a ≡ Some b = sym (found.2.0 found.1) ∙ found.2.1 found.1 in
      cc

  -- and none may come where nothing is owed
  pub none_owed : (m : List Item) (dev : DevId) (why : HostRefusal) → AllByRecursion (IsSettledIn frames grants m) devices → IsHistory frames grants devices (m ++ Entered (entry.Refused dev why) ∷ []) → ⊥
  none_owed m dev why settled h =
      let both = all_with (IsSettledIn frames grants m) (Owes m dev why) (λ s. IsSettledIn frames grants m s × Owes m dev why s) (λ s x y. (x, y)) devices settled (all_owed m dev why h) in
      let found = pick (λ s. IsSettledIn frames grants m s × Owes m dev why s) devices dev.0 (all_last (BelongsIn devices) m (Entered (entry.Refused dev why)) h.belongs) both in
      let wrong : None ≡ Some why = sym found.2.0.answered ∙ found.2.1 found.1 in
      cc
