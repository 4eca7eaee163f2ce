-- What a step of a device makes of a world.
use Rattle.std.proofs.Common.{◌≡◌, ℕ, ◌==◌, true, false, List, [], ◌∷◌, ◌++◌, Option, Some, None, set, refl, sym, subst, ◌∙◌, ap, arith}
use Rattle.std.proofs.lemmas.Bool.Decides.{nat_tests}
use Rattle.std.specs.List.{AllByRecursion, slice_get}
use Rattle.pv_words.specs.declared.access.Access.{Access}
use Rattle.pv_words.specs.declared.access.Access.TheVariants as access
use Rattle.pv_words.specs.declared.device.HostRefusal.{HostRefusal}
use Rattle.pv_words.specs.declared.device.Said.{Said}
use Rattle.pv_words.specs.declared.entry.Entry.TheVariants as entry
use Rattle.pv_words.specs.declared.place.DevId.{DevId}
use Rattle.pv_words.specs.declared.place.Half.TheVariants.{Flags, FrameNo}
use Rattle.pv_words.specs.declared.place.Place.{Place}
use Rattle.pv_words.specs.declared.place.Place.TheVariants.{Cell, Grant}
use Rattle.pv_words.specs.declared.setup.DeviceSetup.{DeviceSetup}
use Rattle.pv_words.specs.Along.{after, Along}
use Rattle.pv_words.specs.Held.{Begun, Holds, framed, holding}
use Rattle.pv_words.specs.Memory.{Memory, IsTrueOf, access_of, changed_by, memory_after, remembered, written}
use Rattle.pv_words.specs.Place.{InRange}
use Rattle.pv_words.specs.Plan.{Makes, Note, Want, aim_of}
use Rattle.pv_words.specs.Port.{PortMay, IsListed}
use Rattle.pv_words.proofs.Listing.{listed_other, listed_own, port_may}
use Rattle.device_core.specs.Order.{Own, Did, steps_of}
use Rattle.device_core.specs.Site.{Site}
use Rattle.backend_core.specs.Device as backend
use Rattle.backend_core.specs.Device.{AddsAt, GoesOn, MayMakeNext, RidesAt, StandsFor}
use Rattle.backend_core.specs.History.{Belongs, BelongsIn, IsDirect, IsExplainedIn, IsSettledIn, held_after, held_in, is_declared, site_of}
use Rattle.backend_core.specs.Kinds.{Continues, due_after, owed_after, parts_of}
use Rattle.backend_core.specs.Marked.{Item, Entered, Idle, entries, entry_of, items_of, nodes_in, own}
use Rattle.backend_core.proofs.EachKind.{did_owes, dom_of_one, next_may, parts_of_one, quiet_holds, step_holds, told_due}
use Rattle.backend_core.proofs.Histories.{IsDirectAt, IsTrueNext, aimed, in_range_from, memory_more, nodes_more, own_is}
use Rattle.backend_core.proofs.Items.{as_said, nodes_step, own_other, own_step}
use Rattle.pv_world.specs.declared.world.Placed.{Placed}
use Rattle.pv_world.specs.World.{IsPlaced, Rides, Sight, Stands, setups}
use Rattle.pv_world.proofs.Devices.{at_index, declared_at, due_is}
use Rattle.pv_world.proofs.Goings.{Tells, goes_stands}
use Rattle.pv_world.proofs.Standings.{Behaves, IsSilent, access_true, prompt_one, prompt_two, words_after}

-- what a device holds depends on the sizes alone
framed_same : (f k : ℕ → ℕ) → ((d : ℕ) → f d ≡ k d) → (h : Holds) (dom gref frame : ℕ) (b : Option Begun) → framed f h dom gref frame b ≡ framed k h dom gref frame b
framed_same f k e h dom gref frame None = refl
framed_same f k e h dom gref frame (Some b) = rw (e dom) refl

holding_same : (f k : ℕ → ℕ) → ((d : ℕ) → f d ≡ k d) → (h : Holds) (note : Note) (a : Access) → holding f h note a ≡ holding k h note a
holding_same f k e h note (access.Load (Grant d g FrameNo) v) = framed_same f k e h d.0 g.0 v h.begun
holding_same f k e h note (access.Load (Grant d g Flags) v) = refl
holding_same f k e h note (access.Load (Cell d p w) v) = refl
holding_same f k e h note (access.Store at v) = refl
holding_same f k e h note (access.Cas (Grant d g Flags) old new seen) = refl
holding_same f k e h note (access.Cas (Grant d g FrameNo) old new seen) = refl
holding_same f k e h note (access.Cas (Cell d p w) old new seen) = refl
holding_same f k e h note (access.Clear (Grant d g Flags) mask seen) = refl
holding_same f k e h note (access.Clear (Grant d g FrameNo) mask seen) = refl
holding_same f k e h note (access.Clear (Cell d p w) mask seen) = refl

-- what a device says changes no word
said_none : (dev : DevId) (s : Said) → access_of (entry_of dev s) ≡ None
said_none dev s = as_said (λ t e. access_of e ≡ None) dev (λ state. refl) (λ t no_state. refl) s

said_belongs : (devices : List DeviceSetup) (dev : DevId) (s : Said) → is_declared devices dev.0 ≡ true → Belongs devices (entry_of dev s)
said_belongs devices dev s h = as_said (λ t e. Belongs devices e) dev (λ state. h) (λ t no_state. (h, no_state)) s

said_leaves : (m : Memory) (dev : DevId) (s : Said) (q : Place) → remembered m (entry_of dev s) q ≡ m q
said_leaves m dev s q = subst (λ (o : Option Access). changed_by m o q ≡ m q) (sym (said_none dev s)) refl

said_true : (frames grants : ℕ → ℕ) (m : Memory) (dev : DevId) (s : Said) → IsTrueNext frames grants m (entry_of dev s)
said_true frames grants m dev s = subst (λ (o : Option Access). IsTrueOf frames grants m o) (sym (said_none dev s)) tt

-- a step's entries: that they are lawful and belong, and what they leave
step_true : (frames grants : ℕ → ℕ) (m : Memory) (dev : DevId) (a : Option Access) (s : Option Said) → IsTrueOf frames grants m a → Along remembered (IsTrueNext frames grants) m (entries (items_of dev a s))
step_true frames grants m dev None None h = tt
step_true frames grants m dev None (Some s) h = (said_true frames grants m dev s, tt)
step_true frames grants m dev (Some a) None h = (h, tt)
step_true frames grants m dev (Some a) (Some s) h = (h, (said_true frames grants (written m a) dev s, tt))

step_belongs : (devices : List DeviceSetup) (dev : DevId) (a : Option Access) (s : Option Said) → is_declared devices dev.0 ≡ true → AllByRecursion (BelongsIn devices) (items_of dev a s)
step_belongs devices dev None None h = (tt, tt)
step_belongs devices dev None (Some s) h = (said_belongs devices dev s h, tt)
step_belongs devices dev (Some a) None h = (h, tt)
step_belongs devices dev (Some a) (Some s) h = (h, (said_belongs devices dev s h, tt))

step_leaves : (m : Memory) (dev : DevId) (a : Option Access) (s : Option Said) (q : Place) → after remembered m (entries (items_of dev a s)) q ≡ changed_by m a q
step_leaves m dev None None q = refl
step_leaves m dev None (Some s) q = said_leaves m dev s q
step_leaves m dev (Some a) None q = refl
step_leaves m dev (Some a) (Some s) q = said_leaves (written m a) dev s q

-- what is said is what was due, if anything was
pub direct_said : (dev : DevId) (s : Said) (t : Option Said) (why : Option HostRefusal) → ((u : Said) → t ≡ Some u → s ≡ u) → why ≡ None → IsDirect dev t why (Entered (entry_of dev s))
direct_said dev s (Some u) why e n = ap (λ x. Entered (entry_of dev x)) (e u refl)
direct_said dev s None None e n = tt
direct_said dev s None (Some w) e n = let wrong : ⊥ = cc in absurd wrong

same_site : (dom dom' parts parts' frames frames' grants grants' : ℕ) → dom ≡ dom' → parts ≡ parts' → frames ≡ frames' → grants ≡ grants' → ◌≡◌ {A = Site} (record { dom = dom; parts = parts; frames = frames; grants = grants }) (record { dom = dom'; parts = parts'; frames = frames'; grants = grants' })
same_site dom dom' parts parts' frames frames' grants grants' a b c d = cc

-- all devices, as placed
pub all_back : (P : DeviceSetup → Type 0) (ps : List Placed) → AllByRecursion P (setups ps) → AllByRecursion (λ q. P q.setup) ps
all_back P [] k = tt
all_back P (q ∷ qs) k = (k.0, all_back P qs k.1)

module _ {W : Type 0} (g : Sight W) (frames grants : ℕ → ℕ) where
  pub site_is : (memory : W) (m : List Item) (p : Placed) → ((d : ℕ) → g.frames memory d ≡ frames d) → ((d : ℕ) → g.grants memory d ≡ grants d) → IsPlaced g frames grants memory m p → backend.site_of (g.frames memory) (g.grants memory) p.device ≡ site_of frames grants p.setup
  site_is memory m p e f h =
      let dom = dom_of_one p.setup.kind (site_of frames grants p.setup) p.device (own p.setup.dev.0 m) h.stands in
      let parts = parts_of_one p.setup.kind (site_of frames grants p.setup) p.device (own p.setup.dev.0 m) h.stands in
      same_site (backend.dom_of p.device) p.setup.dom.0 (backend.parts_of p.device) (parts_of p.setup.kind) (g.frames memory (backend.dom_of p.device)) (frames p.setup.dom.0) (g.grants memory (backend.dom_of p.device)) (grants p.setup.dom.0) dom parts (ap (g.frames memory) dom ∙ e p.setup.dom.0) (ap (g.grants memory) dom ∙ f p.setup.dom.0)

  -- the next step may be made, once the port is the device's
  pub may_step : (may : W → Want → Type 0) → ((w : W) (want : Want) → PortMay (g.frames w) (g.grants w) (g.port w) want → may w want) → (memory : W) (devices : List Placed) (i : ℕ) (p : Placed) (m : List Item) → slice_get devices i ≡ Some p → (g.port memory).device ≡ Some p.setup.dev.0 → (g.port memory).serves p.setup.dom.0 ≡ true → Stands g frames grants memory devices m → MayMakeNext (may memory) (backend.site_of (g.frames memory) (g.grants memory) p.device) p.device
  may_step may allows memory devices i p m at his serves st =
      let h = at_index (IsPlaced g frames grants memory m) devices i p at st.placed in
      let x = at_index (λ q. IsExplainedIn frames grants m q.setup) devices i p at (all_back (IsExplainedIn frames grants m) devices st.so_far.explained) in
      subst (λ (site : Site). MayMakeNext (may memory) site p.device) (sym (site_is memory m p st.frames_are st.grants_are h))
      (next_may frames grants p.setup.dom.0 (may memory) p.setup.kind p.device (own p.setup.dev.0 m)
      (λ want note proper. allows memory want (sized want (port_may frames grants (g.port memory) p.setup.dev.0 p.setup.dom.0 (held_in frames grants m p.setup) want note h.listed his serves proper))) h.stands x) where
        sized : (want : Want) → PortMay frames grants (g.port memory) want → PortMay (g.frames memory) (g.grants memory) (g.port memory) want
        sized want k = (in_range_from frames (g.frames memory) grants (g.grants memory) (λ d. sym (st.frames_are d)) (λ d. sym (st.grants_are d)) (aim_of want) k.0, k.1)

  -- a step's items tell other devices nothing
  other_silent : (m : List Item) (dev : DevId) (a : Option Access) (s : Option Said) (d : DeviceSetup) → (dev.0 == d.dev.0) ≡ false → IsSilent g frames grants m (items_of dev a s) d
  other_silent m dev a s d e = record { owns = own_other d.dev.0 dev (nodes_in d.dev.0 m) a s e; sets = nodes_step d.dev.0 dev (nodes_in d.dev.0 m) a s }

  -- what is said on an access directly follows it
  said_directly : (m : List Item) (s : DeviceSetup) (a : Access) (t : Said) → IsSettledIn frames grants m s → Continues s.kind (site_of frames grants s) (own s.dev.0 m) (steps_of (Some a) (Some t)) → IsDirectAt frames grants (m ++ Entered (entry.Back s.dev a) ∷ []) (Entered (entry_of s.dev t)) s
  said_directly m s a t h c =
      let site = site_of frames grants s in
      let now : own s.dev.0 (m ++ Entered (entry.Back s.dev a) ∷ []) ≡ own s.dev.0 m ++ Did a ∷ [] = own_is frames grants m (Entered (entry.Back s.dev a) ∷ []) s ∙ ap (λ (es : List Own). own s.dev.0 m ++ es) (own_step s.dev (nodes_in s.dev.0 m) (Some a) None) in
      direct_said s.dev t (due_after s.kind site (own s.dev.0 (m ++ Entered (entry.Back s.dev a) ∷ []))) (owed_after s.kind site (own s.dev.0 (m ++ Entered (entry.Back s.dev a) ∷ [])))
      (λ u e. told_due s.kind site (own s.dev.0 m) a t u h c (ap (due_after s.kind site) (sym now) ∙ e))
      (ap (owed_after s.kind site) now ∙ did_owes s.kind site (own s.dev.0 m) a h)

  step_prompt : (m : List Item) (s : DeviceSetup) (a : Option Access) (t : Option Said) → IsSettledIn frames grants m s → Continues s.kind (site_of frames grants s) (own s.dev.0 m) (steps_of a t) → Along (λ before x. before ++ x ∷ []) (λ before i. IsDirectAt frames grants before i s) m (items_of s.dev a t)
  step_prompt m s None None h c = prompt_one g frames grants m (Idle s.dev.0) s h
  step_prompt m s None (Some t) h c = prompt_one g frames grants m (Entered (entry_of s.dev t)) s h
  step_prompt m s (Some a) None h c = prompt_one g frames grants m (Entered (entry.Back s.dev a)) s h
  step_prompt m s (Some a) (Some t) h c = prompt_two g frames grants m (Entered (entry.Back s.dev a)) (Entered (entry_of s.dev t)) s h (said_directly m s a t h c)

  step_tells : (m : List Item) (s : DeviceSetup) (a : Option Access) (t : Option Said) → IsSettledIn frames grants m s → Continues s.kind (site_of frames grants s) (own s.dev.0 m) (steps_of a t) → Tells g frames grants m (items_of s.dev a t) s (steps_of a t)
  step_tells m s a t h c =
      record { owns = own_step s.dev (nodes_in s.dev.0 m) a t; prompt = step_prompt m s a t h c; others = λ o e. other_silent m s.dev a t o e }

  -- what the memory knows and lists of devices
  module _ (makes : W → Access → W → Type 0) (b : Behaves g makes) where
    known_after : (old new : W) (a : Option Access) (d dom : ℕ) → Makes makes old a new → g.knows_device old d dom → g.knows_device new d dom
    known_after old new None d dom e k = subst (λ (w : W). g.knows_device w d dom) (sym e) k
    known_after old new (Some a) d dom e k = b.devices old a new e d dom k

    listed_others : (old new : W) (a : Option Access) (d e : ℕ) (h : Holds) → Makes makes old a new → (g.port old).device ≡ Some e → (e == d) ≡ false → IsListed (g.port old) d h → IsListed (g.port new) d h
    listed_others old new None d e h made his n l = subst (λ (w : W). IsListed (g.port w) d h) (sym made) l
    listed_others old new (Some a) d e h made his n l =
        listed_other (g.frames old) (g.grants old) (g.port old) (g.port new) a (b.leaves old a new made) d e h his (λ same. let is : (e == d) ≡ true = grind (arith, nat_tests) in let wrong : ⊥ = cc in wrong) l

    -- the device's own access is listed
    listed_step : (old new : W) (m : List Item) (p : Placed) (a : Option Access) (t : Option Said) → Makes makes old a new → (g.port old).device ≡ Some p.setup.dev.0 → ((d : ℕ) → g.frames old d ≡ frames d) → IsExplainedIn frames grants m p.setup → Continues p.setup.kind (site_of frames grants p.setup) (own p.setup.dev.0 m) (steps_of a t) → IsPlaced g frames grants old m p → IsListed (g.port new) p.setup.dev.0 (held_after frames grants p.setup (own p.setup.dev.0 m ++ steps_of a t))
    listed_step old new m p None t made his e x c h =
        subst (λ (k : Holds). IsListed (g.port new) p.setup.dev.0 k) (sym (quiet_holds frames grants p.setup.dom.0 p.setup.kind (own p.setup.dev.0 m) t))
        (subst (λ (w : W). IsListed (g.port w) p.setup.dev.0 (held_in frames grants m p.setup)) (sym made) h.listed)
    listed_step old new m p (Some a) t made his e x c h =
        let y = step_holds frames grants p.setup.dom.0 p.setup.kind (own p.setup.dev.0 m) a t x c in
        subst (λ (k : Holds). IsListed (g.port new) p.setup.dev.0 k) (sym y.2)
        (subst (λ (k : Holds). IsListed (g.port new) p.setup.dev.0 k) (holding_same (g.frames old) frames e (held_in frames grants m p.setup) y.0 a)
        (listed_own (g.frames old) (g.grants old) (g.port old) (g.port new) a (b.leaves old a new made) p.setup.dev.0 (held_in frames grants m p.setup) y.0 his h.listed y.1.1.1))

    true_step : (old new : W) (devices : List Placed) (m : List Item) (p : Placed) (a : Option Access) (t : Option Said) → Makes makes old a new → IsExplainedIn frames grants m p.setup → Continues p.setup.kind (site_of frames grants p.setup) (own p.setup.dev.0 m) (steps_of a t) → Stands g frames grants old devices m → IsTrueOf frames grants (memory_after (entries m)) a
    true_step old new devices m p None t made x c st = tt
    true_step old new devices m p (Some a) t made x c st =
        let y = step_holds frames grants p.setup.dom.0 p.setup.kind (own p.setup.dev.0 m) a t x c in
        access_true g frames grants makes b old new devices m a (subst (λ (q : Place). InRange frames grants q) (sym (aimed a)) y.1.0) made st

    frames_step : (old new : W) (a : Option Access) → Makes makes old a new → (d : ℕ) → g.frames new d ≡ g.frames old d
    frames_step old new None h d = ap (λ (w : W). g.frames w d) h
    frames_step old new (Some a) h d = b.frames old a new h d

    grants_step : (old new : W) (a : Option Access) → Makes makes old a new → (d : ℕ) → g.grants new d ≡ g.grants old d
    grants_step old new None h d = ap (λ (w : W). g.grants w d) h
    grants_step old new (Some a) h d = b.grants old a new h d

    whole_step : (old new : W) (a : Option Access) → Makes makes old a new → g.whole old → g.whole new
    whole_step old new None e k = subst (λ (w : W). g.whole w) (sym e) k
    whole_step old new (Some a) e k = b.whole old a new e k

    domains_step : (old new : W) (a : Option Access) (d : ℕ) → Makes makes old a new → g.knows_domain old d → g.knows_domain new d
    domains_step old new None d e k = subst (λ (w : W). g.knows_domain w d) (sym e) k
    domains_step old new (Some a) d e k = b.domains old a new e d k

    words_step : (old new : W) (m : Memory) (a : Option Access) → Makes makes old a new → ((d : ℕ) → g.frames old d ≡ frames d) → ((d : ℕ) → g.grants old d ≡ grants d) → ((q : Place) → InRange frames grants q → g.word old q ≡ m q) → (q : Place) → InRange frames grants q → g.word new q ≡ changed_by m a q
    words_step old new m None h e f w q r = ap (λ (x : W). g.word x q) h ∙ w q r
    words_step old new m (Some a) h e f w q r = words_after g frames grants makes b old new m a h e f w q r

    -- a whole step: what the world stands for then
    pub step_stands : (old new : W) (devices : List Placed) (i : ℕ) (p r : Placed) (m : List Item) (a : Option Access) (t : Option Said) → slice_get devices i ≡ Some p → Makes makes old a new → (g.port old).device ≡ Some p.setup.dev.0 → AddsAt (backend.site_of (g.frames old) (g.grants old) p.device) p.device (steps_of a t) r.device → r.setup ≡ p.setup → r.nodes ≡ p.nodes → Stands g frames grants old devices m → Stands g frames grants new (set devices i r) (m ++ items_of p.setup.dev a t)
    step_stands old new devices i p r m a t at made his adds same nodes st =
        let items = items_of p.setup.dev a t in
        let s = p.setup in
        let placed = at_index (IsPlaced g frames grants old m) devices i p at st.placed in
        let explained = at_index (λ q. IsExplainedIn frames grants m q.setup) devices i p at (all_back (IsExplainedIn frames grants m) devices st.so_far.explained) in
        let is = site_is old m p st.frames_are st.grants_are placed in
        let here = subst (λ (site : Site). AddsAt site p.device (steps_of a t) r.device) is adds in
        let goes = here s.kind (own s.dev.0 m) placed.stands placed.settled in
        let now : own s.dev.0 (m ++ items) ≡ own s.dev.0 m ++ steps_of a t = own_is frames grants m items s ∙ ap (λ (es : List Own). own s.dev.0 m ++ es) (own_step s.dev (nodes_in s.dev.0 m) a t) in
        goes_stands g frames grants old new devices i p r m items (steps_of a t) at (step_tells m s a t placed.settled goes.comes) same goes
        (nodes ∙ (placed.nodes_are ∙ sym (nodes_more frames grants m items s.dev.0 ∙ nodes_step s.dev.0 s.dev (nodes_in s.dev.0 m) a t)))
        (record {
          frames_are = frames_step old new a made;
          grants_are = grants_step old new a made;
          words_are = λ q range. words_step old new (memory_after (entries m)) a made st.frames_are st.grants_are st.words_are q range ∙ sym (memory_more m items q ∙ step_leaves (memory_after (entries m)) s.dev a t q);
          whole = whole_step old new a made st.whole;
          domains = λ d h. domains_step old new a d made h;
          devices = λ d dom h. known_after old new a d dom made h;
          lawful = step_true frames grants (memory_after (entries m)) s.dev a t (true_step old new devices m p a t made explained goes.comes st);
        })
        (step_belongs (setups devices) s.dev a t (declared_at devices i p at))
        (subst (λ (es : List Own). IsListed (g.port new) s.dev.0 (held_after frames grants s es)) (sym now) (listed_step old new m p a t made his st.frames_are explained goes.comes placed))
        (λ q e l. listed_others old new a q.setup.dev.0 s.dev.0 (held_in frames grants m q.setup) made his e l) st

    -- and what is said rides on the access
    pub step_rides : (old : W) (devices : List Placed) (i : ℕ) (p : Placed) (m : List Item) (a : Option Access) (t : Option Said) → slice_get devices i ≡ Some p → RidesAt (backend.site_of (g.frames old) (g.grants old) p.device) p.device a t → Stands g frames grants old devices m → Rides frames grants (setups devices) p.setup.dev m a t
    step_rides old devices i p m a t at rides st = λ x e.
        let s = p.setup in
        let made : List Item = items_of s.dev (Some x) None in
        let placed = at_index (IsPlaced g frames grants old m) devices i p at st.placed in
        let is = site_is old m p st.frames_are st.grants_are placed in
        let here = subst (λ (site : Site). RidesAt site p.device a t) is rides in
        let now : own s.dev.0 (m ++ made) ≡ own s.dev.0 m ++ Did x ∷ [] = own_is frames grants m made s ∙ ap (λ (es : List Own). own s.dev.0 m ++ es) (own_step s.dev (nodes_in s.dev.0 m) (Some x) None) in
        here s.kind (own s.dev.0 m) x placed.stands placed.settled e
        ∙ sym (due_is frames grants devices i p (m ++ made) st.apart at ∙ ap (λ (es : List Own). due_after s.kind (site_of frames grants s) es) now)
