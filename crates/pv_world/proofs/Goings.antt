-- A device goes on: what it did or heard is entered, and the world stands for that.
use Rattle.std.proofs.Common.{◌≡◌, ℕ, ◌==◌, false, List, [], ◌∷◌, ◌++◌, Some, set, refl, sym, subst, ◌∙◌, ap}
use Rattle.std.specs.List.{AllByRecursion, slice_get}
use Rattle.pv_words.specs.declared.place.Place.{Place}
use Rattle.pv_words.specs.declared.setup.DeviceSetup.{DeviceSetup}
use Rattle.pv_words.specs.Along.{Along}
use Rattle.pv_words.specs.Memory.{memory_after, remembered}
use Rattle.pv_words.specs.Place.{InRange}
use Rattle.pv_words.specs.Port.{IsListed}
use Rattle.device_core.specs.Order.{Own}
use Rattle.backend_core.specs.Device.{GoesOn, StandsFor}
use Rattle.backend_core.specs.History.{AreApart, BelongsIn, IsHistory, IsPromptIn, IsSettledIn, held_in, site_of}
use Rattle.backend_core.specs.Kinds.{Continues, IsSettled}
use Rattle.backend_core.specs.Marked.{Item, entries, nodes_in, own}
use Rattle.backend_core.proofs.Histories.{IsDirectAt, IsNextIn, IsTrueNext, all_with, history_more, own_is, own_more, prompt_more}
use Rattle.pv_world.specs.declared.world.Placed.{Placed}
use Rattle.pv_world.specs.World.{IsPlaced, Sight, Stands, setups}
use Rattle.pv_world.proofs.Devices.{all_setups, all_step, setups_set}
use Rattle.pv_world.proofs.Standings.{IsSilent, next_silent, placed_silent, prompt_more_silent}

module _ {W : Type 0} (g : Sight W) (frames grants : ℕ → ℕ) where
  -- These items tell the device of this setup just this, directly, and other devices nothing but accesses of others.
  pub record Tells (m n : List Item) (s : DeviceSetup) (more : List Own) : Type 0 where
    pub owns : own_more frames grants m n s ≡ more
    pub prompt : Along (λ before x. before ++ x ∷ []) (λ before i. IsDirectAt frames grants before i s) m n
    pub others : (o : DeviceSetup) → (s.dev.0 == o.dev.0) ≡ false → IsSilent g frames grants m n o

  -- the memory came from one to the other by these items
  pub record Moves (old new : W) (m n : List Item) : Type 0 where
    pub frames_are : (d : ℕ) → g.frames new d ≡ g.frames old d
    pub grants_are : (d : ℕ) → g.grants new d ≡ g.grants old d
    pub words_are : (q : Place) → InRange frames grants q → g.word new q ≡ memory_after (entries (m ++ n)) q
    pub whole : g.whole new
    pub domains : (d : ℕ) → g.knows_domain old d → g.knows_domain new d
    pub devices : (d dom : ℕ) → g.knows_device old d dom → g.knows_device new d dom
    pub lawful : Along remembered (IsTrueNext frames grants) (memory_after (entries m)) (entries n)

  -- where the memory stays
  pub stays : (memory : W) (devices : List Placed) (m n : List Item) → ((q : Place) → memory_after (entries (m ++ n)) q ≡ memory_after (entries m) q) → Along remembered (IsTrueNext frames grants) (memory_after (entries m)) (entries n) → Stands g frames grants memory devices m → Moves memory memory m n
  stays memory devices m n same lawful st =
      record {
        frames_are = λ d. refl;
        grants_are = λ d. refl;
        words_are = λ q r. st.words_are q r ∙ sym (same q);
        whole = st.whole;
        domains = λ d k. k;
        devices = λ d dom k. k;
        lawful = lawful;
      }

  module _ (old new : W) (devices : List Placed) (i : ℕ) (p r : Placed) (m n : List Item) (more : List Own) (at : slice_get devices i ≡ Some p) (t : Tells m n p.setup more) (same : r.setup ≡ p.setup) where
    -- the device goes on by this
    next_own : Continues p.setup.kind (site_of frames grants p.setup) (own p.setup.dev.0 m) more → IsNextIn frames grants m n p.setup
    next_own c = subst (λ (es : List Own). Continues p.setup.kind (site_of frames grants p.setup) (own p.setup.dev.0 m) es) (sym t.owns) c

    own_now : own p.setup.dev.0 (m ++ n) ≡ own p.setup.dev.0 m ++ more
    own_now = own_is frames grants m n p.setup ∙ ap (λ (es : List Own). own p.setup.dev.0 m ++ es) t.owns

    goes_next : Continues p.setup.kind (site_of frames grants p.setup) (own p.setup.dev.0 m) more → Stands g frames grants old devices m → AllByRecursion (IsNextIn frames grants m n) (setups devices)
    goes_next c st =
        let declared = setups_set devices i p p at refl in
        subst (λ (x : List DeviceSetup). AllByRecursion (IsNextIn frames grants m n) x) declared
        (all_setups (λ q. IsNextIn frames grants m n q.setup) (IsNextIn frames grants m n) (set devices i p) (λ q h. h)
        (all_step (IsPlaced g frames grants old m) (λ q. IsNextIn frames grants m n q.setup) devices i p p st.apart at (λ q e h. next_silent g frames grants m n q.setup (t.others q.setup e) h.settled) (λ h. next_own c) st.placed))

    -- with this it is a history
    pub goes_history : Continues p.setup.kind (site_of frames grants p.setup) (own p.setup.dev.0 m) more → AllByRecursion (BelongsIn (setups devices)) n → Along remembered (IsTrueNext frames grants) (memory_after (entries m)) (entries n) → Stands g frames grants old devices m → IsHistory frames grants (setups devices) (m ++ n)
    goes_history c belongs lawful st = history_more frames grants (setups devices) m n st.so_far lawful belongs (goes_next c st)

    all_prompt : AllByRecursion (λ q. IsPromptIn frames grants m q.setup) devices → Stands g frames grants old devices m → AllByRecursion (IsPromptIn frames grants (m ++ n)) (setups devices)
    all_prompt prompt st =
        let declared = setups_set devices i p p at refl in
        subst (λ (x : List DeviceSetup). AllByRecursion (IsPromptIn frames grants (m ++ n)) x) declared
        (all_setups (λ q. IsPromptIn frames grants (m ++ n) q.setup) (IsPromptIn frames grants (m ++ n)) (set devices i p) (λ q h. h)
        (all_step (λ q. IsPromptIn frames grants m q.setup × IsSettledIn frames grants m q.setup) (λ q. IsPromptIn frames grants (m ++ n) q.setup) devices i p p st.apart at
        (λ q e h. prompt_more_silent g frames grants m n q.setup (t.others q.setup e) h.1 h.0) (λ h. prompt_more frames grants m n p.setup h.0 t.prompt)
        (all_with (λ q. IsPromptIn frames grants m q.setup) (IsPlaced g frames grants old m) (λ q. IsPromptIn frames grants m q.setup × IsSettledIn frames grants m q.setup) (λ q a b. (a, b.settled)) devices prompt st.placed)))

    all_back : (ps : List Placed) → AllByRecursion (IsPromptIn frames grants m) (setups ps) → AllByRecursion (λ q. IsPromptIn frames grants m q.setup) ps
    all_back [] k = tt
    all_back (q ∷ qs) k = (k.0, all_back qs k.1)

    pub goes_stands : GoesOn p.setup.kind (site_of frames grants p.setup) (own p.setup.dev.0 m) more r.device → r.nodes ≡ nodes_in p.setup.dev.0 (m ++ n) → Moves old new m n → AllByRecursion (BelongsIn (setups devices)) n → IsListed (g.port new) p.setup.dev.0 (held_in frames grants (m ++ n) p.setup) → ((q : Placed) → (p.setup.dev.0 == q.setup.dev.0) ≡ false → IsListed (g.port old) q.setup.dev.0 (held_in frames grants m q.setup) → IsListed (g.port new) q.setup.dev.0 (held_in frames grants m q.setup)) → Stands g frames grants old devices m → Stands g frames grants new (set devices i r) (m ++ n)
    goes_stands goes nodes moves belongs listed others st =
        let declared = setups_set devices i p r at same in
        record {
          frames_are = λ d. moves.frames_are d ∙ st.frames_are d;
          grants_are = λ d. moves.grants_are d ∙ st.grants_are d;
          words_are = moves.words_are;
          whole = moves.whole;
          domains = λ d h. moves.domains d (st.domains d h);
          apart = subst (λ (x : List DeviceSetup). AreApart x) (sym declared) st.apart;
          placed = all_step (IsPlaced g frames grants old m) (IsPlaced g frames grants new (m ++ n)) devices i p r st.apart at
              (λ q e h. placed_silent g frames grants old new m n q (t.others q.setup e) (moves.devices q.setup.dev.0 q.setup.dom.0 h.known) (others q e h.listed) h)
              (λ h. subst (λ (x : Placed). IsPlaced g frames grants new (m ++ n) x) (ap (λ (s : DeviceSetup). record { setup = s; device = r.device; nodes = r.nodes }) (sym same)) (own_placed h)) st.placed;
          so_far = subst (λ (x : List DeviceSetup). IsHistory frames grants x (m ++ n)) (sym declared) (goes_history goes.comes belongs moves.lawful st);
          prompt = subst (λ (x : List DeviceSetup). AllByRecursion (IsPromptIn frames grants (m ++ n)) x) (sym declared) (all_prompt (all_back devices st.prompt) st);
        } where
          own_placed : IsPlaced g frames grants old m p → IsPlaced g frames grants new (m ++ n) (record { setup = p.setup; device = r.device; nodes = r.nodes })
          own_placed h =
              record {
                stands = subst (λ (es : List Own). StandsFor p.setup.kind (site_of frames grants p.setup) r.device es) (sym own_now) goes.stands;
                settled = subst (λ (es : List Own). IsSettled p.setup.kind (site_of frames grants p.setup) es) (sym own_now) goes.settled;
                nodes_are = nodes;
                known = moves.devices p.setup.dev.0 p.setup.dom.0 h.known;
                listed = listed;
              }
