-- What is always true of the parts stays true where one link changes.
use Rattle.std.proofs.Common.{◌≡◌, ◌≢◌, ◌⊎◌, inl, inr, ℕ, ◌+◌, ◌<◌, ◌≤◌, ◌++◌, Bool, true, false, List, [], Option, Some, None, OnSome, length, slice_get, slice_set, refl, sym, ap, subst, ◌∙◌, arith}
use Rattle.std.proofs.lemmas.Bool.{false≢true}
use Rattle.std.proofs.lemmas.List.{length-set}
use Rattle.pv_words.specs.declared.grant.GrantRefusal.{GrantRefusal}
use Rattle.link_core.specs.declared.link.Link.{Link}
use Rattle.link_core.specs.Activities.{pages_of}
use Rattle.link_core.specs.Link.{connects, dom_of, held_of, idle, joined_of, rings}
use Rattle.link_core.proofs.Links.{idle_rings}
use Rattle.device_service.specs.declared.parts.Doing.{Doing}
use Rattle.device_service.specs.declared.parts.Doing.TheVariants as doing
use Rattle.device_service.specs.Doing.{Fits, IsMet, Whole, all_held, bare_in, busy_in, is_mapping, is_open, met_in, part_in, uses_ring}
use Rattle.device_service.specs.Parts.{MayServe, MaySleep, Rests, met_links, open_or, slept_to}
use Rattle.device_service.specs.Work.{all_pages}
use Rattle.device_service.proofs.Holding.Held.{held_bare, held_so_far}
use Rattle.device_service.proofs.Lists.{same_or_not, get_set, get_set_other, within}

abbrev pub AllFit : (dom : ℕ) (ringed : Bool) (met bare busy : ℕ) → Bool → List Link → Type 0
AllFit dom ringed met bare busy mapping ls = (i : ℕ) (l : Link) → slice_get ls i ≡ Some l → Fits dom ringed met bare busy mapping i l

pub make_whole : (dom : ℕ) (ringed : Bool) (d : Doing) (ls : List Link) (n : ℕ) → length ls ≡ n → 0 < n → n ≤ 4 → part_in d < n → AllFit dom ringed (met_in d n) (bare_in d n) (busy_in d n) (is_mapping d) ls → (uses_ring d ≡ true → ringed ≡ true) → Whole dom ringed d ls
make_whole dom ringed d ls n e some few come_to fits rung =
    record {
      some = omega (arith, e, some);
      few = omega (arith, e, few);
      come_to = omega (arith, e, come_to);
      fits = subst (λ m. AllFit dom ringed (met_in d m) (bare_in d m) (busy_in d m) (is_mapping d) ls) (sym e) fits;
      rung = rung;
    }

pub whole_as : (dom : ℕ) (ringed : Bool) (d e : Doing) (ls : List Link) → d ≡ e → Whole dom ringed d ls → Whole dom ringed e ls
whole_as dom ringed d e ls same w = subst (λ (x : Doing). Whole dom ringed x ls) same w

some_is : (x y : Link) → Some x ≡ Some y → x ≡ y
some_is x y e = cc

-- one link changes
pub fits_set : (dom : ℕ) (ringed : Bool) (met bare busy met' bare' busy' : ℕ) (mapping mapping' : Bool) (ls : List Link) (k : ℕ) (new : Link) → AllFit dom ringed met bare busy mapping ls → Fits dom ringed met' bare' busy' mapping' k new → ((i : ℕ) (l : Link) → i ≢ k → i < length ls → Fits dom ringed met bare busy mapping i l → Fits dom ringed met' bare' busy' mapping' i l) → AllFit dom ringed met' bare' busy' mapping' (slice_set ls k new)
fits_set dom ringed met bare busy met' bare' busy' mapping mapping' ls k new old at others i l e =
    elim (same_or_not i k) [
      | inl same ↦
          let long : i < length (slice_set ls k new) = within (slice_set ls k new) i l e in
          let short : k < length ls = omega (arith, long, length-set ls k new, same) in
          let got : slice_get (slice_set ls k new) k ≡ Some l = ap (slice_get (slice_set ls k new)) (sym same) ∙ e in
          let is : new ≡ l = some_is new l (sym (get_set ls k new short) ∙ got) in
          subst (λ j. Fits dom ringed met' bare' busy' mapping' j l) (sym same) (subst (λ (x : Link). Fits dom ringed met' bare' busy' mapping' k x) is at)
      | inr other ↦
          let before : slice_get ls i ≡ Some l = sym (get_set_other ls k i new other) ∙ e in
          others i l other (within ls i l before) (old i l before)
    ]

-- no part is joined, and no page held
abbrev pub AllRest : (dom : ℕ) → List Link → Type 0
AllRest dom ls = (i : ℕ) (l : Link) → slice_get ls i ≡ Some l → (dom_of l ≡ dom) × (length (held_of l) ≡ 0) × (idle l ≡ true)

pub whole_bare : (dom : ℕ) (ringed : Bool) (ls : List Link) (n : ℕ) → length ls ≡ n → 0 < n → n ≤ 4 → AllRest dom ls → Whole dom ringed doing.Bare ls
whole_bare dom ringed ls n e some few all =
    make_whole dom ringed doing.Bare ls n e some few some
    (λ i l g. let f = all i l g in record { dom_is = f.0; meets = λ b. absurd (omega (arith, b)); none = λ _. f.1; rests = λ _. f.2; ring = λ m. absurd (false≢true m); fresh = λ m. absurd (false≢true m) })
    (λ h. absurd (false≢true h))

module _ (dom : ℕ) (ringed : Bool) (d : Doing) (ls : List Link) (w : Whole dom ringed d ls) where
  -- all rest, and hold no page
  pub bare_rest : d ≡ doing.Bare → AllRest dom ls
  bare_rest e i l g =
      let f = (whole_as dom ringed d doing.Bare ls e w).fits i l g in
      let lt = within ls i l g in
      (f.dom_is, f.none (omega arith), f.rests (omega (arith, lt)))

  -- a Connect begins
  pub whole_connecting : d ≡ doing.Bare → Whole dom ringed (doing.Connecting 0) ls
  whole_connecting e =
      make_whole dom ringed (doing.Connecting 0) ls (length ls) refl w.some w.few w.some
      (λ i l g.
      let f = bare_rest e i l g in
      record { dom_is = f.0; meets = λ b. absurd (omega (arith, b)); none = λ _. f.1; rests = λ _. f.2; ring = λ m r. idle_rings l f.2; fresh = λ m r c. (f.2, f.1) })
      (λ h. absurd (false≢true h))

  -- the pages are given up
  pub whole_dropping : Rests d → Whole dom ringed doing.Dropping ls
  whole_dropping r =
      make_whole dom ringed doing.Dropping ls (length ls) refl w.some w.few w.some
      (λ i l g.
      let f = w.fits i l g in
      let lt = within ls i l g in
      record { dom_is = f.dom_is; meets = λ b. absurd (omega (arith, b)); none = λ b. absurd (omega (arith, b, lt)); rests = λ n. f.rests (λ x. n (x ∙ busy r)); ring = λ m. absurd (false≢true m); fresh = λ m. absurd (false≢true m) })
      (λ h. absurd (false≢true h))
    where
      busy : Rests d → busy_in d (length ls) ≡ length ls
      busy (inl e) = ap (λ x. busy_in x (length ls)) e
      busy (inr e) = ap (λ x. busy_in x (length ls)) e

  -- no page is held any longer
  pub whole_left : busy_in d (length ls) ≡ length ls → all_held ls ≡ [] → Whole dom ringed doing.Bare ls
  whole_left busy bare =
      whole_bare dom ringed ls (length ls) refl w.some w.few
      (λ i l g.
      let f = w.fits i l g in
      let lt = within ls i l g in
      (f.dom_is, held_bare ls bare i l g, f.rests (λ x. absurd (omega (arith, x, busy, lt)))))

-- what an open one says of the numbers
met_open : (d : Doing) (n : ℕ) → is_open d ≡ true → met_in d n ≡ n
met_open doing.Bare n h = absurd (false≢true h)
met_open (doing.Connecting part) n h = absurd (false≢true h)
met_open (doing.Undoing why) n h = absurd (false≢true h)
met_open doing.Open n h = refl
met_open (doing.Taking part) n h = refl
met_open (doing.Answering part) n h = refl
met_open (doing.Raising part) n h = refl
met_open (doing.Sleeping part) n h = refl
met_open doing.Dropping n h = absurd (false≢true h)

bare_open : (d : Doing) (n : ℕ) → is_open d ≡ true → bare_in d n ≡ n
bare_open doing.Bare n h = absurd (false≢true h)
bare_open (doing.Connecting part) n h = absurd (false≢true h)
bare_open (doing.Undoing why) n h = refl
bare_open doing.Open n h = refl
bare_open (doing.Taking part) n h = refl
bare_open (doing.Answering part) n h = refl
bare_open (doing.Raising part) n h = refl
bare_open (doing.Sleeping part) n h = refl
bare_open doing.Dropping n h = refl

maps_open : (d : Doing) → is_open d ≡ true → is_mapping d ≡ false
maps_open doing.Bare h = refl
maps_open (doing.Connecting part) h = absurd (false≢true h)
maps_open (doing.Undoing why) h = refl
maps_open doing.Open h = refl
maps_open (doing.Taking part) h = refl
maps_open (doing.Answering part) h = refl
maps_open (doing.Raising part) h = refl
maps_open (doing.Sleeping part) h = refl
maps_open doing.Dropping h = refl

-- while all parts are joined
module _ (dom : ℕ) (ringed : Bool) (d : Doing) (ls : List Link) (w : Whole dom ringed d ls) (opened : is_open d ≡ true) where
  pub all_met : (i : ℕ) (l : Link) → slice_get ls i ≡ Some l → IsMet ringed l
  all_met i l g =
      let lt = within ls i l g in
      (w.fits i l g).meets (rw (met_open d (length ls) opened) lt)

  pub all_doms : (i : ℕ) (l : Link) → slice_get ls i ≡ Some l → dom_of l ≡ dom
  all_doms i l g = (w.fits i l g).dom_is

  pub all_idle : (k : ℕ) → (busy_in d (length ls) ≡ length ls) ⊎ (busy_in d (length ls) ≡ k) → (i : ℕ) (l : Link) → slice_get ls i ≡ Some l → i ≢ k → idle l ≡ true
  all_idle k (inl e) i l g n = let lt = within ls i l g in (w.fits i l g).rests (λ x. absurd (omega (arith, x, e, lt)))
  all_idle k (inr e) i l g n = (w.fits i l g).rests (λ x. n (x ∙ e))

  -- one link, the only one that may be busy, changes
  pub served : (e : Doing) (k : ℕ) (old new : Link) → is_open e ≡ true → slice_get ls k ≡ Some old → (busy_in d (length ls) ≡ length ls) ⊎ (busy_in d (length ls) ≡ k) → dom_of new ≡ dom_of old → held_of new ≡ held_of old → pages_of (joined_of new) ≡ pages_of (joined_of old) → (k ≢ busy_in e (length ls) → idle new ≡ true) → part_in e < length ls → (uses_ring e ≡ true → ringed ≡ true) → Whole dom ringed e (slice_set ls k new)
  served e k old new o g busy same held pages rests come_to rung =
      make_whole dom ringed e (slice_set ls k new) (length ls) (length-set ls k new) w.some w.few come_to
      (fits_set dom ringed (met_in d (length ls)) (bare_in d (length ls)) (busy_in d (length ls)) (met_in e (length ls)) (bare_in e (length ls)) (busy_in e (length ls)) (is_mapping d) (is_mapping e) ls k new w.fits
      (record { dom_is = same ∙ all_doms k old g; meets = λ _. met_here; none = λ b. let lt = within ls k old g in absurd (omega (arith, b, lt, bare_open e (length ls) o)); rests = rests; ring = λ m. absurd (false≢true (sym (maps_open e o) ∙ m)); fresh = λ m. absurd (false≢true (sym (maps_open e o) ∙ m)) })
      (λ i l other lt f. record { dom_is = f.dom_is; meets = λ _. f.meets (rw (met_open d (length ls) opened) lt); none = λ b. absurd (omega (arith, b, lt, bare_open e (length ls) o)); rests = λ _. others busy i l other lt f; ring = λ m. absurd (false≢true (sym (maps_open e o) ∙ m)); fresh = λ m. absurd (false≢true (sym (maps_open e o) ∙ m)) }))
      rung
    where
      met_here : IsMet ringed new
      met_here =
          let m = all_met k old g in
          record { holds = held ∙ (m.holds ∙ sym pages); both = λ r. ap length held ∙ m.both r }

      others : (busy_in d (length ls) ≡ length ls) ⊎ (busy_in d (length ls) ≡ k) → (i : ℕ) (l : Link) → i ≢ k → i < length ls → Fits dom ringed (met_in d (length ls)) (bare_in d (length ls)) (busy_in d (length ls)) (is_mapping d) i l → idle l ≡ true
      others (inl b) i l other lt f = f.rests (λ x. absurd (omega (arith, x, b, lt)))
      others (inr b) i l other lt f = f.rests (λ x. other (x ∙ b))

-- the pages are given up, one after another
abbrev pub GivesUp : Doing → Type 0
GivesUp d = (d ≡ doing.Dropping) ⊎ ((why : GrantRefusal) × (d ≡ doing.Undoing why))

pub busy_given : (d : Doing) (n : ℕ) → GivesUp d → busy_in d n ≡ n
busy_given d n (inl e) = ap (λ x. busy_in x n) e
busy_given d n (inr e) = ap (λ x. busy_in x n) e.1

dropped_fits : (dom : ℕ) (ringed : Bool) (ls : List Link) (k : ℕ) (l new : Link) → AllFit dom ringed 0 (length ls) (length ls) false ls → slice_get ls k ≡ Some l → dom_of new ≡ dom_of l → idle new ≡ true → AllFit dom ringed 0 (length ls) (length ls) false (slice_set ls k new)
dropped_fits dom ringed ls k l new fits g same rests =
    fits_set dom ringed 0 (length ls) (length ls) 0 (length ls) (length ls) false false ls k new fits
    (record { dom_is = same ∙ (fits k l g).dom_is; meets = λ b. absurd (omega (arith, b)); none = λ b. let lt = within ls k l g in absurd (omega (arith, b, lt)); rests = λ _. rests; ring = λ m. absurd (false≢true m); fresh = λ m. absurd (false≢true m) })
    (λ i x other lt f. f)

pub whole_dropped : (dom : ℕ) (ringed : Bool) (d : Doing) (ls : List Link) (k : ℕ) (l new : Link) → Whole dom ringed d ls → GivesUp d → slice_get ls k ≡ Some l → dom_of new ≡ dom_of l → idle new ≡ true → Whole dom ringed d (slice_set ls k new)
whole_dropped dom ringed d ls k l new w (inl e) g same rests =
    let v = whole_as dom ringed d doing.Dropping ls e w in
    whole_as dom ringed doing.Dropping d (slice_set ls k new) (sym e)
    (make_whole dom ringed doing.Dropping (slice_set ls k new) (length ls) (length-set ls k new) w.some w.few w.some (dropped_fits dom ringed ls k l new v.fits g same rests) (λ h. absurd (false≢true h)))
whole_dropped dom ringed d ls k l new w (inr e) g same rests =
    let v = whole_as dom ringed d (doing.Undoing e.0) ls e.1 w in
    whole_as dom ringed (doing.Undoing e.0) d (slice_set ls k new) (sym e.1)
    (make_whole dom ringed (doing.Undoing e.0) (slice_set ls k new) (length ls) (length-set ls k new) w.some w.few w.some (dropped_fits dom ringed ls k l new v.fits g same rests) (λ h. absurd (false≢true h)))

pub given_idle : (dom : ℕ) (ringed : Bool) (d : Doing) (ls : List Link) (k : ℕ) (l : Link) → Whole dom ringed d ls → GivesUp d → slice_get ls k ≡ Some l → idle l ≡ true
given_idle dom ringed d ls k l w gives g =
    let lt = within ls k l g in (w.fits k l g).rests (λ x. absurd (omega (arith, x, busy_given d (length ls) gives, lt)))

-- an activity at one part begins, or goes on: no other part is busy
pub serving_open : (d t : Doing) → is_open t ≡ true → MayServe d t → is_open d ≡ true
serving_open d t o (inl e) = ap is_open e
serving_open d t o (inr e) = ap is_open e ∙ o

pub serving_busy : (d t : Doing) (n k : ℕ) → busy_in t n ≡ k → MayServe d t → (busy_in d n ≡ n) ⊎ (busy_in d n ≡ k)
serving_busy d t n k b (inl e) = inl (ap (λ x. busy_in x n) e)
serving_busy d t n k b (inr e) = inr (ap (λ x. busy_in x n) e ∙ b)

pub sleeping_open : (d : Doing) → MaySleep d → is_open d ≡ true
sleeping_open d (inl e) = ap is_open e
sleeping_open (doing.Sleeping part) (inr e) = refl
sleeping_open doing.Bare (inr e) = absurd (false≢true e)
sleeping_open (doing.Connecting part) (inr e) = absurd (false≢true e)
sleeping_open (doing.Undoing why) (inr e) = absurd (false≢true e)
sleeping_open doing.Open (inr e) = absurd (false≢true e)
sleeping_open (doing.Taking part) (inr e) = absurd (false≢true e)
sleeping_open (doing.Answering part) (inr e) = absurd (false≢true e)
sleeping_open (doing.Raising part) (inr e) = absurd (false≢true e)
sleeping_open doing.Dropping (inr e) = absurd (false≢true e)

pub sleeping_busy : (d : Doing) (n : ℕ) → MaySleep d → (busy_in d n ≡ n) ⊎ (busy_in d n ≡ slept_to d)
sleeping_busy d n (inl e) = inl (ap (λ x. busy_in x n) e)
sleeping_busy (doing.Sleeping part) n (inr e) = inr refl
sleeping_busy doing.Bare n (inr e) = absurd (false≢true e)
sleeping_busy (doing.Connecting part) n (inr e) = absurd (false≢true e)
sleeping_busy (doing.Undoing why) n (inr e) = absurd (false≢true e)
sleeping_busy doing.Open n (inr e) = absurd (false≢true e)
sleeping_busy (doing.Taking part) n (inr e) = absurd (false≢true e)
sleeping_busy (doing.Answering part) n (inr e) = absurd (false≢true e)
sleeping_busy (doing.Raising part) n (inr e) = absurd (false≢true e)
sleeping_busy doing.Dropping n (inr e) = absurd (false≢true e)

pub sleeping_in : (d : Doing) (n : ℕ) → MaySleep d → 0 < n → part_in d < n → slept_to d < n
sleeping_in d n (inl e) some come_to = let zero : slept_to d ≡ 0 = ap slept_to e in omega (arith, zero, some)
sleeping_in (doing.Sleeping part) n (inr e) some come_to = come_to
sleeping_in doing.Bare n (inr e) some come_to = some
sleeping_in (doing.Connecting part) n (inr e) some come_to = some
sleeping_in (doing.Undoing why) n (inr e) some come_to = some
sleeping_in doing.Open n (inr e) some come_to = some
sleeping_in (doing.Taking part) n (inr e) some come_to = some
sleeping_in (doing.Answering part) n (inr e) some come_to = some
sleeping_in (doing.Raising part) n (inr e) some come_to = some
sleeping_in doing.Dropping n (inr e) some come_to = some

-- it goes on, or is over
module _ {A : Type 0} where
  pub open_after : (o : Option A) (t : Doing) → is_open t ≡ true → is_open (open_or o t) ≡ true
  open_after None t e = e
  open_after (Some y) t e = refl

  rests_after : (o : Option A) (t : Doing) (n k : ℕ) (new : Link) → busy_in t n ≡ k → OnSome o (idle new ≡ true) → k ≢ busy_in (open_or o t) n → idle new ≡ true
  rests_after None t n k new e rests other = absurd (other (sym e))
  rests_after (Some y) t n k new e rests other = rests

  in_after : (o : Option A) (t : Doing) (n : ℕ) → 0 < n → part_in t < n → part_in (open_or o t) < n
  in_after None t n some lt = lt
  in_after (Some y) t n some lt = some

  rung_after : (o : Option A) (t : Doing) (ringed : Bool) → (uses_ring t ≡ true → ringed ≡ true) → uses_ring (open_or o t) ≡ true → ringed ≡ true
  rung_after None t ringed rung h = rung h
  rung_after (Some x) t ringed rung h = absurd (false≢true h)

  pub whole_served : (dom : ℕ) (ringed : Bool) (d t : Doing) (ls : List Link) (k : ℕ) (old new : Link) (o : Option A) → Whole dom ringed d ls → is_open t ≡ true → busy_in t (length ls) ≡ k → part_in t < length ls → (uses_ring t ≡ true → ringed ≡ true) → MayServe d t → slice_get ls k ≡ Some old → dom_of new ≡ dom_of old → held_of new ≡ held_of old → pages_of (joined_of new) ≡ pages_of (joined_of old) → OnSome o (idle new ≡ true) → Whole dom ringed (open_or o t) (slice_set ls k new)
  whole_served dom ringed d t ls k old new o w opened busy come_to rung serving g same held pages rests =
      served dom ringed d ls w (serving_open d t opened serving) (open_or o t) k old new (open_after o t opened) g (serving_busy d t (length ls) k busy serving) same held pages
      (rests_after o t (length ls) k new busy rests) (in_after o t (length ls) w.some come_to) (rung_after o t ringed rung)

-- while a Connect has come to a part
module _ (dom : ℕ) (ringed : Bool) (d : Doing) (ls : List Link) (part : ℕ) (e : d ≡ doing.Connecting part) (w : Whole dom ringed d ls) where
  pub connecting_fits : AllFit dom ringed part (part + 1) part true ls
  connecting_fits = (whole_as dom ringed d (doing.Connecting part) ls e w).fits

  pub connecting_in : part < length ls
  connecting_in = (whole_as dom ringed d (doing.Connecting part) ls e w).come_to

  module _ (l new : Link) (g : slice_get ls part ≡ Some l) (same : dom_of new ≡ dom_of l) where
    dom_here : dom_of new ≡ dom
    dom_here = same ∙ (connecting_fits part l g).dom_is

    -- a page is mapped
    pub whole_mapping : (ringed ≡ true → rings new ≡ true) → connects new ≡ true → Whole dom ringed d (slice_set ls part new)
    whole_mapping r c =
        whole_as dom ringed (doing.Connecting part) d (slice_set ls part new) (sym e)
        (make_whole dom ringed (doing.Connecting part) (slice_set ls part new) (length ls) (length-set ls part new) w.some w.few connecting_in
        (fits_set dom ringed part (part + 1) part part (part + 1) part true true ls part new connecting_fits
        (record { dom_is = dom_here; meets = λ b. absurd (omega (arith, b)); none = λ b. absurd (omega (arith, b)); rests = λ x. absurd (x refl); ring = λ m. r; fresh = λ m b x. absurd (false≢true (sym x ∙ c)) })
        (λ i x other lt f. f))
        (λ h. absurd (false≢true h)))

    -- a page was refused
    pub whole_refused : (why : GrantRefusal) → idle new ≡ true → Whole dom ringed (doing.Undoing why) (slice_set ls part new)
    whole_refused why i =
        let n = length ls in
        make_whole dom ringed (doing.Undoing why) (slice_set ls part new) n (length-set ls part new) w.some w.few w.some
        (fits_set dom ringed part (part + 1) part 0 n n true false ls part new connecting_fits
        (record { dom_is = dom_here; meets = λ b. absurd (omega (arith, b)); none = λ b. absurd (omega (arith, b, connecting_in)); rests = λ _. i; ring = λ m. absurd (false≢true m); fresh = λ m. absurd (false≢true m) })
        (λ j x other lt f. record { dom_is = f.dom_is; meets = λ b. absurd (omega (arith, b)); none = λ b. absurd (omega (arith, b, lt)); rests = λ _. f.rests other; ring = λ m. absurd (false≢true m); fresh = λ m. absurd (false≢true m) }))
        (λ h. absurd (false≢true h))

    -- a part is joined, and the next one comes
    pub whole_next : IsMet ringed new → idle new ≡ true → part + 1 < length ls → Whole dom ringed (doing.Connecting (part + 1)) (slice_set ls part new)
    whole_next met i lt =
        make_whole dom ringed (doing.Connecting (part + 1)) (slice_set ls part new) (length ls) (length-set ls part new) w.some w.few lt
        (fits_set dom ringed part (part + 1) part (part + 1) (part + 1 + 1) (part + 1) true true ls part new connecting_fits
        (record { dom_is = dom_here; meets = λ _. met; none = λ b. absurd (omega (arith, b)); rests = λ _. i; ring = λ m r. idle_rings new i; fresh = λ m b. absurd (omega (arith, b)) })
        (λ j x other short f. record { dom_is = f.dom_is; meets = λ b. f.meets (omega (arith, b, other)); none = λ b. f.none (omega (arith, b)); rests = λ _. f.rests other; ring = f.ring; fresh = λ m b. f.fresh m (omega (arith, b)) }))
        (λ h. absurd (false≢true h))

    -- all parts are joined
    pub whole_met : IsMet ringed new → idle new ≡ true → length ls ≤ part + 1 → Whole dom ringed doing.Open (slice_set ls part new)
    whole_met met i past =
        let n = length ls in
        make_whole dom ringed doing.Open (slice_set ls part new) n (length-set ls part new) w.some w.few w.some
        (fits_set dom ringed part (part + 1) part n n n true false ls part new connecting_fits
        (record { dom_is = dom_here; meets = λ _. met; none = λ b. absurd (omega (arith, b, connecting_in)); rests = λ _. i; ring = λ m. absurd (false≢true m); fresh = λ m. absurd (false≢true m) })
        (λ j x other lt f. record { dom_is = f.dom_is; meets = λ b. f.meets (omega (arith, b, other, past)); none = λ b. absurd (omega (arith, b, lt)); rests = λ _. f.rests other; ring = λ m. absurd (false≢true m); fresh = λ m. absurd (false≢true m) }))
        (λ h. absurd (false≢true h))

    -- the pages that are held then
    pub held_refused : all_held (slice_set ls part new) ≡ all_pages (met_links part ls) ++ held_of new
    held_refused =
        held_so_far ls part new connecting_in (λ i x f b. ((connecting_fits i x f).meets b).holds) (λ i x f b. (connecting_fits i x f).none b)
