-- What a step of a Connect leads to.
use Rattle.std.proofs.Common.{◌≡◌, ◌⊎◌, inl, inr, ℕ, ◌<◌, ◌≤◌, true, false, cond, nat_lt, List, [], ◌∷◌, Option, Some, None, Result, Ok, Err, refl, sym, ap, subst, ◌∙◌, arith}
use Rattle.std.proofs.lemmas.Bool.Decides.{nat_tests}
use Rattle.pv_words.specs.declared.access.Access.{Access}
use Rattle.pv_words.specs.declared.access.Access.TheVariants as access
use Rattle.pv_words.specs.declared.grant.GrantRefusal.{GrantRefusal}
use Rattle.pv_words.specs.declared.grant.GrantRefusal.TheVariants.{NoEntry}
use Rattle.pv_words.specs.declared.grant.Hold.{Hold}
use Rattle.pv_words.specs.declared.grant.Mode.TheVariants.{Write}
use Rattle.pv_words.specs.Plan.{Plan, Finished, Make, Want, Goes, IsUnfinished, MayGo, joined}
use Rattle.pv_words.specs.Mapping.{Advances, HoldsByAccess, map_plan, flags_plan}
use Rattle.pv_words.specs.MapLeft.{map_left}
use Rattle.link_core.specs.declared.link.Kept.TheVariants as kept
use Rattle.link_core.specs.declared.link.Link.{Link}
use Rattle.link_core.specs.declared.link.Stage.{Stage}
use Rattle.link_core.specs.declared.link.Stage.TheVariants as stage
use Rattle.link_core.specs.Activities.{Connected, Refuses, page_at, word_of, hold_list, with_event, with_ring, prod_plan, rsp_plan, event_map_plan, connect_plan}
use Rattle.link_core.specs.Link.{held_of, connect_left, connect_rest, Leads}
use Rattle.link_core.specs.Stage.{ring_in}

goes_joined : {A B : Type 0} (p : Plan A) (f : A → Plan B) (a : Access) (q : Plan A) → Goes p a q → Goes (joined p f) a (joined q f)
goes_joined (Finished x) f a q g = absurd g
goes_joined (Make want note more) f a q g = (g.0, ap (λ r. joined r f) g.1)

unfinished_joined : {A B : Type 0} (q : Plan A) (f : A → Plan B) → IsUnfinished q → IsUnfinished (joined q f)
unfinished_joined (Finished x) f u = absurd u
unfinished_joined (Make want note more) f u = tt

pub may_joined : {A B : Type 0} (may : Want → Type 0) (p : Plan A) (f : A → Plan B) → MayGo may (joined p f) → MayGo may p
may_joined may (Finished x) f h = tt
may_joined may (Make want note more) f h = h

-- where a map comes next, its access may be made
pub may_mapped : (may : Want → Type 0) (frames grants : ℕ) (b : Link) (ring : Option ℕ) (event : ℕ) → (b.stage ≡ stage.Ring) ⊎ (b.stage ≡ stage.Event) → MayGo may (connect_left frames grants ring event b) → MayGo may (map_left frames grants b.map)
unfolding connect_left
may_mapped may frames grants b ring event (inl e) h =
    may_joined may (map_left frames grants b.map) (with_ring frames grants b.dom.0 event) (subst (λ s. MayGo may (connect_rest frames grants ring event b s)) e h)
may_mapped may frames grants b ring event (inr e) h =
    may_joined may (map_left frames grants b.map) (with_event (ring_in b.kept b.ring_page) b.ring) (subst (λ s. MayGo may (connect_rest frames grants ring event b s)) e h)

pub leads_as : {A : Type 0} (p q : Plan A) (access : Option Access) (done : Option A) (new left : Plan A) → p ≡ q → new ≡ left → Leads q access done left → Leads p access done new
leads_as {A} p q access done new left e n h =
    subst (λ (x : Plan A). Leads x access done new) (sym e) (subst (λ (x : Plan A). Leads q access done x) (sym n) h)

-- a step of a map, as a step of what it is the beginning of
module _ {B : Type 0} (p q : Plan (Result Hold GrantRefusal)) (f : Result Hold GrantRefusal → Plan B) where
  map_goes_on : (access : Option Access) (done : Option (Result Hold GrantRefusal)) → done ≡ None → Advances p access done q → Leads (joined p f) access None (joined q f)
  map_goes_on None None e t = absurd t
  map_goes_on (Some a) None e t = (goes_joined p f a q t.0, unfinished_joined q f t.1)
  map_goes_on access (Some r) e t = let wrong : ⊥ = cc in absurd wrong

  map_holds : (access : Option Access) (done : Option (Result Hold GrantRefusal)) (h : Hold) (next : Plan B) → done ≡ Some (Ok h) → HoldsByAccess access done → Advances p access done q → f (Ok h) ≡ next → IsUnfinished next → Leads (joined p f) access None next
  map_holds access None h next e by t n u = let wrong : ⊥ = cc in absurd wrong
  map_holds None (Some (Ok k)) h next e by t n u = absurd by
  map_holds None (Some (Err r)) h next e by t n u = let wrong : ⊥ = cc in absurd wrong
  map_holds (Some a) (Some r) h next e by t n u =
      let same : r ≡ Ok h = cc in
      (subst (λ (x : Plan B). Goes (joined p f) a x) (ap f same ∙ n) (goes_joined p f a (Finished r) t.0), u)

  map_refused : (access : Option Access) (done : Option (Result Hold GrantRefusal)) (r : GrantRefusal) (x : B) (new : Plan B) → done ≡ Some (Err r) → Advances p access done q → f (Err r) ≡ Finished x → Leads (joined p f) access (Some x) new
  map_refused access None r x new e t n = let wrong : ⊥ = cc in absurd wrong
  map_refused None (Some y) r x new e t n =
      let same : y ≡ Err r = cc in
      ap (λ s. joined s f) t.0 ∙ (ap f same ∙ n)
  map_refused (Some a) (Some y) r x new e t n =
      let same : y ≡ Err r = cc in
      subst (λ (z : Plan B). Goes (joined p f) a z) (ap f same ∙ n) (goes_joined p f a (Finished y) t.0)

-- a map of an entry that the domain has, and of one that it hasn't
map_known : (frames grants dom gref : ℕ) → gref < grants → map_plan frames grants dom gref Write ≡ flags_plan frames dom gref Write
map_known frames grants dom gref h =
    let test : nat_lt gref grants ≡ true = grind (arith, nat_tests) in
    ap (λ b. cond b (flags_plan frames dom gref Write) (Finished (Err (NoEntry gref)))) test

map_unknown : (frames grants dom gref : ℕ) → grants ≤ gref → map_plan frames grants dom gref Write ≡ Finished (Err (NoEntry gref))
map_unknown frames grants dom gref h =
    let test : nat_lt gref grants ≡ false = grind (arith, nat_tests) in
    ap (λ b. cond b (flags_plan frames dom gref Write) (Finished (Err (NoEntry gref)))) test

module _ (frames grants : ℕ) (l n : Link) where
  -- the map of the ring's page
  module _ (access : Option Access) (done : Option (Result Hold GrantRefusal)) (q : Plan (Result Hold GrantRefusal)) (at : l.stage ≡ stage.Ring) (ring : Option ℕ) (event : ℕ) where
    ring_head : connect_rest frames grants ring event l l.stage ≡ joined (map_left frames grants l.map) (with_ring frames grants l.dom.0 event)
    ring_head = ap (connect_rest frames grants ring event l) at

    pub ring_goes_on : n.stage ≡ stage.Ring → n.dom ≡ l.dom → map_left frames grants n.map ≡ q → done ≡ None → Advances (map_left frames grants l.map) access done q → Leads (connect_left frames grants ring event l) access None (connect_left frames grants ring event n)
    unfolding connect_left
    ring_goes_on s d m e t =
        leads_as _ _ access None _ _ ring_head (ap (connect_rest frames grants ring event n) s ∙ (ap (λ p. joined p (with_ring frames grants n.dom.0 event)) m ∙ ap (λ x. joined q (with_ring frames grants x.0 event)) d))
        (map_goes_on (map_left frames grants l.map) q (with_ring frames grants l.dom.0 event) access done e t)

    pub ring_holds : (h : Hold) → n.stage ≡ stage.Index → n.dom ≡ l.dom → n.ring_page ≡ h → done ≡ Some (Ok h) → HoldsByAccess access done → Advances (map_left frames grants l.map) access done q → Leads (connect_left frames grants ring event l) access None (connect_left frames grants ring event n)
    unfolding connect_left
    ring_holds h s d r e by t =
        leads_as _ _ access None _ _ ring_head (ap (connect_rest frames grants ring event n) s ∙ (ap (rsp_plan frames grants n.dom.0 event) r ∙ ap (λ x. rsp_plan frames grants x.0 event h) d))
        (map_holds (map_left frames grants l.map) q (with_ring frames grants l.dom.0 event) access done h (rsp_plan frames grants l.dom.0 event h) e by t refl tt)

    pub ring_refuses : (r : GrantRefusal) → held_of n ≡ [] → done ≡ Some (Err r) → Advances (map_left frames grants l.map) access done q → Leads (connect_left frames grants ring event l) access (Some (Refuses (held_of n) r)) (connect_left frames grants ring event n)
    unfolding connect_left
    ring_refuses r none e t =
        leads_as _ _ access (Some (Refuses (held_of n) r)) _ _ ring_head refl
        (map_refused (map_left frames grants l.map) q (with_ring frames grants l.dom.0 event) access done r (Refuses (held_of n) r) (connect_rest frames grants ring event n n.stage) e t (ap (λ hs. Finished (Refuses hs r)) (sym none)))

  -- the load of rsp_prod
  module _ (at : l.stage ≡ stage.Index) (v : ℕ) (ring : Option ℕ) (event : ℕ) where
    index_head : connect_rest frames grants ring event l l.stage ≡ rsp_plan frames grants l.dom.0 event l.ring_page
    index_head = ap (connect_rest frames grants ring event l) at

    pub index_refuses : (held : List Hold) → held ≡ l.ring_page ∷ [] → grants ≤ event → Goes (connect_left frames grants ring event l) (access.Load (word_of (page_at l.ring_page) 2) v) (Finished (Refuses held (NoEntry event)))
    unfolding connect_left
    index_refuses held is h =
        let over : Finished (Refuses held (NoEntry event)) ≡ event_map_plan frames grants l.dom.0 event (Some l.ring_page) v = ap (λ hs. Finished (Refuses hs (NoEntry event))) is ∙ sym (ap (λ p. joined p (with_event (Some l.ring_page) v)) (map_unknown frames grants l.dom.0 event h)) in
        subst (λ (p : Plan Connected). Goes p (access.Load (word_of (page_at l.ring_page) 2) v) (Finished (Refuses held (NoEntry event)))) (sym index_head) (refl, over)

    pub index_goes_on : n.stage ≡ stage.Event → map_left frames grants n.map ≡ map_plan frames grants l.dom.0 event Write → ring_in n.kept n.ring_page ≡ Some l.ring_page → n.ring ≡ v → event < grants → Leads (connect_left frames grants ring event l) (Some (access.Load (word_of (page_at l.ring_page) 2) v)) None (connect_left frames grants ring event n)
    unfolding connect_left
    index_goes_on s m r i h =
        let left : connect_rest frames grants ring event n n.stage ≡ event_map_plan frames grants l.dom.0 event (Some l.ring_page) v = ap (connect_rest frames grants ring event n) s ∙ (ap (λ p. joined p (with_event (ring_in n.kept n.ring_page) n.ring)) m ∙ (ap (λ x. event_map_plan frames grants l.dom.0 event x n.ring) r ∙ ap (event_map_plan frames grants l.dom.0 event (Some l.ring_page)) i)) in
        let on : event_map_plan frames grants l.dom.0 event (Some l.ring_page) v ≡ joined (flags_plan frames l.dom.0 event Write) (with_event (Some l.ring_page) v) = ap (λ p. joined p (with_event (Some l.ring_page) v)) (map_known frames grants l.dom.0 event h) in
        leads_as _ _ (Some (access.Load (word_of (page_at l.ring_page) 2) v)) None _ _ index_head left
        ((refl, refl), subst (λ (p : Plan Connected). IsUnfinished p) (sym on) tt)

  -- the map of the event page
  module _ (access : Option Access) (done : Option (Result Hold GrantRefusal)) (q : Plan (Result Hold GrantRefusal)) (at : l.stage ≡ stage.Event) (ring : Option ℕ) (event : ℕ) where
    event_head : connect_rest frames grants ring event l l.stage ≡ joined (map_left frames grants l.map) (with_event (ring_in l.kept l.ring_page) l.ring)
    event_head = ap (connect_rest frames grants ring event l) at

    pub event_goes_on : n.stage ≡ stage.Event → ring_in n.kept n.ring_page ≡ ring_in l.kept l.ring_page → n.ring ≡ l.ring → map_left frames grants n.map ≡ q → done ≡ None → Advances (map_left frames grants l.map) access done q → Leads (connect_left frames grants ring event l) access None (connect_left frames grants ring event n)
    unfolding connect_left
    event_goes_on s r i m e t =
        leads_as _ _ access None _ _ event_head (ap (connect_rest frames grants ring event n) s ∙ (ap (λ p. joined p (with_event (ring_in n.kept n.ring_page) n.ring)) m ∙ (ap (λ x. joined q (with_event x n.ring)) r ∙ ap (λ x. joined q (with_event (ring_in l.kept l.ring_page) x)) i)))
        (map_goes_on (map_left frames grants l.map) q (with_event (ring_in l.kept l.ring_page) l.ring) access done e t)

    pub event_holds : (h : Hold) → n.stage ≡ stage.Prod → ring_in n.kept n.ring_page ≡ ring_in l.kept l.ring_page → n.ring ≡ l.ring → n.event_page ≡ h → done ≡ Some (Ok h) → HoldsByAccess access done → Advances (map_left frames grants l.map) access done q → Leads (connect_left frames grants ring event l) access None (connect_left frames grants ring event n)
    unfolding connect_left
    event_holds h s r i p e by t =
        leads_as _ _ access None _ _ event_head (ap (connect_rest frames grants ring event n) s ∙ (ap (prod_plan (ring_in n.kept n.ring_page) n.ring) p ∙ (ap (λ x. prod_plan x n.ring h) r ∙ ap (λ x. prod_plan (ring_in l.kept l.ring_page) x h) i)))
        (map_holds (map_left frames grants l.map) q (with_event (ring_in l.kept l.ring_page) l.ring) access done h (prod_plan (ring_in l.kept l.ring_page) l.ring h) e by t refl tt)

    pub event_refuses : (r : GrantRefusal) → held_of n ≡ hold_list (ring_in l.kept l.ring_page) → done ≡ Some (Err r) → Advances (map_left frames grants l.map) access done q → Leads (connect_left frames grants ring event l) access (Some (Refuses (held_of n) r)) (connect_left frames grants ring event n)
    unfolding connect_left
    event_refuses r held e t =
        leads_as _ _ access (Some (Refuses (held_of n) r)) _ _ event_head refl
        (map_refused (map_left frames grants l.map) q (with_event (ring_in l.kept l.ring_page) l.ring) access done r (Refuses (held_of n) r) (connect_rest frames grants ring event n n.stage) e t (ap (λ hs. Finished (Refuses hs r)) (sym held)))

-- a link that is in no Connect
abbrev pub IsApart : Stage → Type 0
IsApart s = (s ≡ stage.Rest) ⊎ ((s ≡ stage.Take) ⊎ ((s ≡ stage.Answer) ⊎ ((s ≡ stage.Sleep) ⊎ (s ≡ stage.Raise))))

module _ (frames grants : ℕ) (ring : Option ℕ) (event : ℕ) (l : Link) where
  apart_head : (s : Stage) → IsApart s → connect_rest frames grants ring event l s ≡ connect_plan frames grants l.dom.0 ring event
  apart_head s (inl e) = ap (connect_rest frames grants ring event l) e
  apart_head s (inr (inl e)) = ap (connect_rest frames grants ring event l) e
  apart_head s (inr (inr (inl e))) = ap (connect_rest frames grants ring event l) e
  apart_head s (inr (inr (inr (inl e)))) = ap (connect_rest frames grants ring event l) e
  apart_head s (inr (inr (inr (inr e)))) = ap (connect_rest frames grants ring event l) e

-- what is left where a Connect begins
module _ (frames grants : ℕ) (l b : Link) (apart : IsApart l.stage) (dom : b.dom ≡ l.dom) where
  pub begins_ring : (gref event : ℕ) (ring : Option ℕ) → b.stage ≡ stage.Ring → map_left frames grants b.map ≡ map_plan frames grants l.dom.0 gref Write → connect_left frames grants ring event b ≡ connect_left frames grants (Some gref) event l
  unfolding connect_left
  begins_ring gref event ring s m =
      ap (connect_rest frames grants ring event b) s
      ∙ (ap (λ p. joined p (with_ring frames grants b.dom.0 event)) m
      ∙ (ap (λ x. joined (map_plan frames grants l.dom.0 gref Write) (with_ring frames grants x.0 event)) dom
      ∙ sym (apart_head frames grants (Some gref) event l l.stage apart)))

  pub begins_event : (event other : ℕ) (ring : Option ℕ) → b.stage ≡ stage.Event → b.kept ≡ kept.Nothing → b.ring ≡ 0 → map_left frames grants b.map ≡ map_plan frames grants l.dom.0 event Write → connect_left frames grants ring other b ≡ connect_left frames grants None event l
  unfolding connect_left
  begins_event event other ring s k i m =
      ap (connect_rest frames grants ring other b) s
      ∙ (ap (λ p. joined p (with_event (ring_in b.kept b.ring_page) b.ring)) m
      ∙ (ap (λ x. joined (map_plan frames grants l.dom.0 event Write) (with_event (ring_in x b.ring_page) b.ring)) k
      ∙ (ap (λ x. joined (map_plan frames grants l.dom.0 event Write) (with_event None x)) i
      ∙ sym (apart_head frames grants None event l l.stage apart))))
