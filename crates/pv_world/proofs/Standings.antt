-- What a world stands for, after its memory changed hands or an access was made.
use Rattle.std.proofs.Common.{◌≡◌, ℕ, List, [], ◌∷◌, ◌++◌, Option, Some, None, refl, sym, subst, ◌∙◌, ap, append-nil}
use Rattle.std.specs.List.{AllByRecursion}
use Rattle.pv_words.specs.declared.access.Access.{Access}
use Rattle.pv_words.specs.declared.device.HostRefusal.{HostRefusal}
use Rattle.pv_words.specs.declared.device.NodeValue.{NodeValue}
use Rattle.pv_words.specs.declared.device.Said.{Said}
use Rattle.pv_words.specs.declared.place.DevId.{DevId}
use Rattle.pv_words.specs.declared.place.Place.{Place}
use Rattle.pv_words.specs.declared.place.Who.{Who}
use Rattle.pv_words.specs.declared.setup.DeviceSetup.{DeviceSetup}
use Rattle.pv_words.specs.Along.{after, Along}
use Rattle.pv_words.specs.Held.{Holds}
use Rattle.pv_words.specs.Memory.{Memory, Answers, IsTrueOf, memory_after, place_of, remembered, written}
use Rattle.pv_words.specs.Place.{InRange}
use Rattle.pv_words.specs.Port.{IsListed, Leaves, Turned}
use Rattle.pv_words.proofs.Listing.{listed_domain, listed_turned}
use Rattle.device_core.specs.Order.{Own, Did, Spoke, Rested, Heard, Refused, Others}
use Rattle.device_core.specs.Site.{Site}
use Rattle.backend_core.specs.Device.{StandsFor}
use Rattle.pv_world.specs.declared.world.Placed.{Placed}
use Rattle.backend_core.specs.Marked.{Item, entries, nodes_in, nodes_next, own, own_from, told_in}
use Rattle.backend_core.specs.History.{BelongsIn, IsDirect, IsHistory, IsPromptIn, IsSettledIn, held_after, held_in, site_of}
use Rattle.backend_core.specs.Kinds.{IsSettled}
use Rattle.pv_world.specs.World.{IsPlaced, Sight, Stands, front_access, setups}
use Rattle.pv_world.proofs.Devices.{all_setups}
use Rattle.backend_core.proofs.EachKind.{others_continue, others_held, others_settled, others_stand}
use Rattle.backend_core.proofs.Histories.{IsDirectAt, IsNextIn, IsTrueNext, all_weaker, all_with, finds_same, history_more, in_range_from, memory_more, nodes_more, own_is, own_more, prompt_more, written_same}
use Rattle.device_core.proofs.Stations.{AreOthers}

-- what the accesses of a machine leave
pub record Behaves {W : Type 0} (g : Sight W) (makes : W → Access → W → Type 0) : Type 0 where
  pub frames : (old : W) (a : Access) (new : W) → makes old a new → (d : ℕ) → g.frames new d ≡ g.frames old d
  pub grants : (old : W) (a : Access) (new : W) → makes old a new → (d : ℕ) → g.grants new d ≡ g.grants old d
  pub remembers : (old : W) (a : Access) (new : W) → makes old a new → Answers (g.frames old) (g.grants old) (g.word old) a (g.word new)
  pub leaves : (old : W) (a : Access) (new : W) → makes old a new → Leaves (g.frames old) (g.grants old) (g.port old) a (g.port new)
  pub whole : (old : W) (a : Access) (new : W) → makes old a new → g.whole old → g.whole new
  pub devices : (old : W) (a : Access) (new : W) → makes old a new → (d dom : ℕ) → g.knows_device old d dom → g.knows_device new d dom
  pub domains : (old : W) (a : Access) (new : W) → makes old a new → (d : ℕ) → g.knows_domain old d → g.knows_domain new d

-- what handing the machine over leaves
pub record Hands {W : Type 0} (g : Sight W) (who : Who) (old new : W) : Type 0 where
  pub turned : Turned (g.port old) (g.knows_device old) who (g.port new)
  pub words : (at : Place) → g.word new at ≡ g.word old at
  pub frames : (d : ℕ) → g.frames new d ≡ g.frames old d
  pub grants : (d : ℕ) → g.grants new d ≡ g.grants old d
  pub whole : g.whole new
  pub devices : (d dom : ℕ) → g.knows_device old d dom → g.knows_device new d dom
  pub domains : (d : ℕ) → g.knows_domain old d → g.knows_domain new d

-- accesses of others alone, in two parts
others_parts : (es fs : List Own) → AreOthers (es ++ fs) → AreOthers es × AreOthers fs
others_parts [] fs h = (tt, h)
others_parts (Others a ∷ es) fs h = others_parts es fs h
others_parts (Did a ∷ es) fs h = absurd h
others_parts (Spoke t ∷ es) fs h = absurd h
others_parts (Rested ∷ es) fs h = absurd h
others_parts (Heard news ∷ es) fs h = absurd h
others_parts (Refused why ∷ es) fs h = absurd h

-- where nothing is due, any item may be next
pub direct_settled : (dev : DevId) (i : Item) (t : Option Said) (why : Option HostRefusal) → t ≡ None → why ≡ None → IsDirect dev t why i
direct_settled dev i None None e f = tt
direct_settled dev i (Some t) why e f = let wrong : ⊥ = cc in absurd wrong
direct_settled dev i None (Some w) e f = let wrong : ⊥ = cc in absurd wrong

module _ {W : Type 0} (g : Sight W) (frames grants : ℕ → ℕ) where
  -- these items tell a device nothing but accesses of others, and set none of its nodes
  pub record IsSilent (m n : List Item) (s : DeviceSetup) : Type 0 where
    pub owns : AreOthers (own_more frames grants m n s)
    pub sets : after (nodes_next s.dev.0) (nodes_in s.dev.0 m) n ≡ nodes_in s.dev.0 m

  abbrev pub site : DeviceSetup → Site
  site s = site_of frames grants s

  pub settled_silent : (m n : List Item) (s : DeviceSetup) → IsSilent m n s → IsSettledIn frames grants m s → IsSettledIn frames grants (m ++ n) s
  settled_silent m n s q h =
      subst (λ (es : List Own). IsSettled s.kind (site s) es) (sym (own_is frames grants m n s)) (others_settled s.kind (site s) (own s.dev.0 m) (own_more frames grants m n s) h q.owns)

  pub held_silent : (m n : List Item) (s : DeviceSetup) → IsSilent m n s → held_in frames grants (m ++ n) s ≡ held_in frames grants m s
  held_silent m n s q =
      ap (λ (es : List Own). held_after frames grants s es) (own_is frames grants m n s) ∙ others_held frames grants s (own s.dev.0 m) (own_more frames grants m n s) q.owns

  pub next_silent : (m n : List Item) (s : DeviceSetup) → IsSilent m n s → IsSettledIn frames grants m s → IsNextIn frames grants m n s
  next_silent m n s q h = others_continue s.kind (site s) (own s.dev.0 m) (own_more frames grants m n s) h q.owns

  -- where a device is settled, any item may come, and nothing is due behind it that tells the device nothing
  prompt_silent : (m n : List Item) (s : DeviceSetup) → AreOthers (own_more frames grants m n s) → IsSettledIn frames grants m s → Along (λ before x. before ++ x ∷ []) (λ before i. IsDirectAt frames grants before i s) m n
  prompt_silent m [] s o h = tt
  prompt_silent m (i ∷ n) s o h =
      let nodes = nodes_in s.dev.0 m in
      let parts = others_parts (told_in s.dev.0 nodes i) (own_from s.dev.0 (nodes_next s.dev.0 nodes i) n) o in
      let one : own_more frames grants m (i ∷ []) s ≡ told_in s.dev.0 nodes i = append-nil (told_in s.dev.0 nodes i) in
      let first = subst (λ (es : List Own). IsSettled s.kind (site s) es) (sym (own_is frames grants m (i ∷ []) s)) (others_settled s.kind (site s) (own s.dev.0 m) (own_more frames grants m (i ∷ []) s) h (subst (λ (es : List Own). AreOthers es) (sym one) parts.0)) in (
        direct_settled s.dev i _ _ h.said h.answered,
        prompt_silent (m ++ i ∷ []) n s (subst (λ (ns : List NodeValue). AreOthers (own_from s.dev.0 ns n)) (sym (nodes_more frames grants m (i ∷ []) s.dev.0)) parts.1) first,
      )

  -- the same of one item, and of two
  pub prompt_one : (m : List Item) (i : Item) (s : DeviceSetup) → IsSettledIn frames grants m s → Along (λ before x. before ++ x ∷ []) (λ before j. IsDirectAt frames grants before j s) m (i ∷ [])
  prompt_one m i s h = (direct_settled s.dev i _ _ h.said h.answered, tt)

  pub prompt_two : (m : List Item) (i j : Item) (s : DeviceSetup) → IsSettledIn frames grants m s → IsDirectAt frames grants (m ++ i ∷ []) j s → Along (λ before x. before ++ x ∷ []) (λ before k. IsDirectAt frames grants before k s) m (i ∷ j ∷ [])
  prompt_two m i j s h d = (direct_settled s.dev i _ _ h.said h.answered, (d, tt))

  -- a device that is told nothing else stands for that too
  pub placed_silent : (old new : W) (m n : List Item) (p : Placed) → IsSilent m n p.setup → g.knows_device new p.setup.dev.0 p.setup.dom.0 → IsListed (g.port new) p.setup.dev.0 (held_in frames grants m p.setup) → IsPlaced g frames grants old m p → IsPlaced g frames grants new (m ++ n) p
  placed_silent old new m n p q k l h =
      let s = p.setup in
      record {
        stands = subst (λ (es : List Own). StandsFor s.kind (site s) p.device es) (sym (own_is frames grants m n s)) (others_stand s.kind (site s) p.device (own s.dev.0 m) (own_more frames grants m n s) h.settled q.owns h.stands);
        settled = settled_silent m n s q h.settled;
        nodes_are = h.nodes_are ∙ sym (nodes_more frames grants m n s.dev.0 ∙ q.sets);
        known = k;
        listed = subst (λ (x : Holds). IsListed (g.port new) s.dev.0 x) (sym (held_silent m n s q)) l;
      }

  pub prompt_more_silent : (m n : List Item) (s : DeviceSetup) → IsSilent m n s → IsSettledIn frames grants m s → IsPromptIn frames grants m s → IsPromptIn frames grants (m ++ n) s
  prompt_more_silent m n s q h p = prompt_more frames grants m n s p (prompt_silent m n s q.owns h)

  -- the machine changed hands
  pub turned_stands : (who : Who) (old new : W) (devices : List Placed) (m : List Item) → Hands g who old new → Stands g frames grants old devices m → Stands g frames grants new devices m
  turned_stands who old new devices m t st =
      record {
        frames_are = λ d. t.frames d ∙ st.frames_are d;
        grants_are = λ d. t.grants d ∙ st.grants_are d;
        words_are = λ q r. t.words q ∙ st.words_are q r;
        whole = t.whole;
        domains = λ d h. t.domains d (st.domains d h);
        apart = st.apart;
        placed = all_weaker (IsPlaced g frames grants old m) (IsPlaced g frames grants new m) turned_placed devices st.placed;
        so_far = st.so_far;
        prompt = st.prompt;
      } where
        turned_placed : (p : Placed) → IsPlaced g frames grants old m p → IsPlaced g frames grants new m p
        turned_placed p h =
            record {
              stands = h.stands;
              settled = h.settled;
              nodes_are = h.nodes_are;
              known = t.devices p.setup.dev.0 p.setup.dom.0 h.known;
              listed = listed_turned (g.port old) (g.port new) (g.knows_device old) who p.setup.dev.0 (held_in frames grants m p.setup) t.turned h.listed;
            }

  -- all devices are settled
  all_settled : (memory : W) (devices : List Placed) (m : List Item) → AllByRecursion (IsPlaced g frames grants memory m) devices → AllByRecursion (IsSettledIn frames grants m) (setups devices)
  all_settled memory devices m h = all_setups (IsPlaced g frames grants memory m) (IsSettledIn frames grants m) devices (λ p x. x.settled) h

  prompt_all : (memory : W) (devices : List Placed) (m n : List Item) → ((s : DeviceSetup) → IsSilent m n s) → Stands g frames grants memory devices m → AllByRecursion (IsPromptIn frames grants (m ++ n)) (setups devices)
  prompt_all memory devices m n q st =
      all_with (IsSettledIn frames grants m) (IsPromptIn frames grants m) (IsPromptIn frames grants (m ++ n)) (λ s h p. prompt_more_silent m n s (q s) h p) (setups devices) (all_settled memory devices m st.placed) st.prompt

  next_all : (memory : W) (devices : List Placed) (m n : List Item) → ((s : DeviceSetup) → IsSilent m n s) → Stands g frames grants memory devices m → AllByRecursion (IsNextIn frames grants m n) (setups devices)
  next_all memory devices m n q st = all_weaker (IsSettledIn frames grants m) (IsNextIn frames grants m n) (λ s h. next_silent m n s (q s) h) (setups devices) (all_settled memory devices m st.placed)

  -- items that tell no device anything but accesses of others, and change no word, were entered
  pub silent_history : (memory : W) (devices : List Placed) (m n : List Item) → ((s : DeviceSetup) → IsSilent m n s) → Along remembered (IsTrueNext frames grants) (memory_after (entries m)) (entries n) → AllByRecursion (BelongsIn (setups devices)) n → Stands g frames grants memory devices m → IsHistory frames grants (setups devices) (m ++ n)
  silent_history memory devices m n q t b st = history_more frames grants (setups devices) m n st.so_far t b (next_all memory devices m n q st)

  pub silent_stands : (memory : W) (devices : List Placed) (m n : List Item) → ((s : DeviceSetup) → IsSilent m n s) → ((q : Place) → after remembered (memory_after (entries m)) (entries n) q ≡ memory_after (entries m) q) → Along remembered (IsTrueNext frames grants) (memory_after (entries m)) (entries n) → AllByRecursion (BelongsIn (setups devices)) n → Stands g frames grants memory devices m → Stands g frames grants memory devices (m ++ n)
  silent_stands memory devices m n q same t b st =
      record {
        frames_are = st.frames_are;
        grants_are = st.grants_are;
        words_are = λ at r. st.words_are at r ∙ sym (memory_more m n at ∙ same at);
        whole = st.whole;
        domains = st.domains;
        apart = st.apart;
        placed = all_weaker (IsPlaced g frames grants memory m) (IsPlaced g frames grants memory (m ++ n)) (λ p h. placed_silent memory memory m n p (q p.setup) h.known h.listed h) devices st.placed;
        so_far = silent_history memory devices m n q t b st;
        prompt = prompt_all memory devices m n q st;
      }

  -- an access of a domain is another's to each device
  pub front_silent : (m : List Item) (a : Access) (s : DeviceSetup) → IsSilent m (front_access a ∷ []) s
  front_silent m a s = record { owns = tt; sets = refl }

  pub front_history : (memory : W) (devices : List Placed) (m : List Item) (a : Access) → IsTrueOf frames grants (memory_after (entries m)) (Some a) → Stands g frames grants memory devices m → IsHistory frames grants (setups devices) (m ++ front_access a ∷ [])
  front_history memory devices m a is_true st = silent_history memory devices m (front_access a ∷ []) (front_silent m a) (is_true, tt) (tt, tt) st

  module _ (makes : W → Access → W → Type 0) (b : Behaves g makes) where
    -- an access in range finds what the journal left
    pub access_true : (old new : W) (devices : List Placed) (m : List Item) (a : Access) → InRange frames grants (place_of a) → makes old a new → Stands g frames grants old devices m → IsTrueOf frames grants (memory_after (entries m)) (Some a)
    access_true old new devices m a range made st =
        (range, finds_same (g.word old) (memory_after (entries m)) a (st.words_are (place_of a) range) (b.remembers old a new made).found)

    -- the words after an access
    pub words_after : (old new : W) (m : Memory) (a : Access) → makes old a new → ((d : ℕ) → g.frames old d ≡ frames d) → ((d : ℕ) → g.grants old d ≡ grants d) → ((q : Place) → InRange frames grants q → g.word old q ≡ m q) → (q : Place) → InRange frames grants q → g.word new q ≡ written m a q
    words_after old new m a made e f w q r =
        (b.remembers old a new made).left q (in_range_from frames (g.frames old) grants (g.grants old) (λ d. sym (e d)) (λ d. sym (f d)) q r) ∙ written_same (g.word old) m a q (w q r)

    pub front_stands : (old new : W) (devices : List Placed) (m : List Item) (a : Access) → (g.port old).device ≡ None → InRange frames grants (place_of a) → makes old a new → Stands g frames grants old devices m → Stands g frames grants new devices (m ++ front_access a ∷ [])
    front_stands old new devices m a own range made st =
        record {
          frames_are = λ d. b.frames old a new made d ∙ st.frames_are d;
          grants_are = λ d. b.grants old a new made d ∙ st.grants_are d;
          words_are = λ q r. words_after old new (memory_after (entries m)) a made st.frames_are st.grants_are st.words_are q r ∙ sym (memory_more m (front_access a ∷ []) q);
          whole = b.whole old a new made st.whole;
          domains = λ d h. b.domains old a new made d (st.domains d h);
          apart = st.apart;
          placed = all_weaker (IsPlaced g frames grants old m) (IsPlaced g frames grants new (m ++ front_access a ∷ [])) front_placed devices st.placed;
          so_far = front_history old devices m a (access_true old new devices m a range made st) st;
          prompt = prompt_all old devices m (front_access a ∷ []) (front_silent m a) st;
        } where
          front_placed : (p : Placed) → IsPlaced g frames grants old m p → IsPlaced g frames grants new (m ++ front_access a ∷ []) p
          front_placed p h =
              placed_silent old new m (front_access a ∷ []) p (front_silent m a p.setup) (b.devices old a new made p.setup.dev.0 p.setup.dom.0 h.known)
              (listed_domain (g.frames old) (g.grants old) (g.port old) (g.port new) a (b.leaves old a new made) p.setup.dev.0 (held_in frames grants m p.setup) own h.listed) h
