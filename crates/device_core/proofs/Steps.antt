-- What a step of an activity makes of a stand.
use Rattle.std.proofs.Common.{◌≡◌, Bool, true, false, List, [], ◌∷◌, Option, Some, None, if◌then◌else◌, refl, sym, subst, ◌∙◌, ap}
use Rattle.std.proofs.lemmas.Option.{same_Some}
use Rattle.pv_words.specs.declared.access.Access.{Access}
use Rattle.pv_words.specs.declared.access.Access.TheVariants as access
use Rattle.pv_words.specs.declared.device.Said.{Said}
use Rattle.pv_words.specs.Along.{after, Along}
use Rattle.pv_words.specs.Memory.{place_of}
use Rattle.pv_words.specs.Plan.{Plan, Finished, Make, Want, aim_of, wanted, Goes, Turns, IsUnfinished, mapped}
use Rattle.device_core.specs.Order.{Own, Did, Spoke, Rested, Order, Act, Either, Rest, Rules, Stand, Between, During, is_in_page, picked, ended, going, begun, next, due_at, May, MayBegin, Steps, Went, GoesOn}

goes_mapped : {A B : Type 0} (f : A → B) (p : Plan A) (a : Access) (q : Plan A) → Goes p a q → Goes (mapped f p) a (mapped f q)
goes_mapped f (Finished x) a q g = absurd g
goes_mapped f (Make want note more) a q g = (g.0, ap (mapped f) g.1)

-- an access is made where it was wanted
pub place_wanted : (want : Want) (a : Access) → wanted a ≡ want → place_of a ≡ aim_of want
place_wanted want (access.Load at v) e = ap aim_of e
place_wanted want (access.Store at v) e = ap aim_of e
place_wanted want (access.Cas at old new seen) e = ap aim_of e
place_wanted want (access.Clear at mask seen) e = ap aim_of e

module _ {W O : Type 0} (r : Rules W O) where
  rest_of : Option Said → List Own
  rest_of None = []
  rest_of (Some s) = Spoke s ∷ []

  -- from where an activity is after an access, what is said leads to the new stand
  ended_leads : (w : W) (o : O) (x said : Option Said) (new : Stand W O) → said ≡ x → new ≡ Between (r.settled w o) → Along (next r) (May r) (ended r w o x) (rest_of said) × (new ≡ after (next r) (ended r w o x) (rest_of said))
  unfolding rest_of
  ended_leads w o None None new e n = (tt, n)
  ended_leads w o (Some t) (Some s) new e n = let same : s ≡ t = cc in ((same, tt), n)
  ended_leads w o None (Some s) new e n = let wrong : ⊥ = cc in absurd wrong
  ended_leads w o (Some t) None new e n = let wrong : ⊥ = cc in absurd wrong

  went_leads : (w : W) (q : Plan O) (said : Option Said) (new : Stand W O) → Went r w q said new → Along (next r) (May r) (going r w q) (rest_of said) × (new ≡ after (next r) (going r w q) (rest_of said))
  unfolding rest_of
  went_leads w (Finished o) said new h = ended_leads w o (r.said_at w o) said new h.0 h.1
  went_leads w (Make want note more) None new h = (tt, h.1)
  went_leads w (Make want note more) (Some s) new h = let wrong : ⊥ = cc in absurd wrong

  -- no event is due where an activity goes on, or its event was said
  went_whole : (w : W) (q : Plan O) (said : Option Said) (new : Stand W O) → Went r w q said new → due_at new ≡ None
  went_whole w (Finished o) said new h = ap due_at h.1
  went_whole w (Make want note more) said new h = ap due_at h.1

  -- and just the event is said that rides on the access
  due_ended : (w : W) (o : O) (x : Option Said) → x ≡ due_at (ended r w o x)
  due_ended w o None = refl
  due_ended w o (Some s) = refl

  went_rides : (w : W) (q : Plan O) (said : Option Said) (new : Stand W O) → Went r w q said new → said ≡ due_at (going r w q)
  went_rides w (Finished o) said new h = h.0 ∙ due_ended w o (r.said_at w o)
  went_rides w (Make want note more) said new h = h.0

  -- on the access that was made
  rides_on : (old : Stand W O) (a : Access) (said : Option Said) → said ≡ due_at (next r old (Did a)) → (b : Access) → Some a ≡ Some b → said ≡ due_at (next r old (Did b))
  rides_on old a said e b same = e ∙ ap (λ (x : Access). due_at (next r old (Did x))) (same_Some a b same)

  steps_from : (old : Stand W O) (a : Access) (said : Option Said) (new mid : Stand W O) → May r old (Did a) → next r old (Did a) ≡ mid → Along (next r) (May r) mid (rest_of said) × (new ≡ after (next r) mid (rest_of said)) → said ≡ due_at mid → due_at new ≡ None → Steps r old (Some a) said new
  unfolding rest_of
  steps_from old a None new mid m e h d w = record { comes = (m, tt); left = h.1 ∙ sym e; rides = rides_on old a None (d ∙ ap due_at (sym e)); whole = w }
  steps_from old a (Some s) new mid m e h d w =
      let told : May r (next r old (Did a)) (Spoke s) = subst (λ (x : Stand W O). May r x (Spoke s)) (sym e) h.0.0 in
      record { comes = (m, (told, tt)); left = h.1 ∙ ap (λ (x : Stand W O). next r x (Spoke s)) (sym e); rides = rides_on old a (Some s) (d ∙ ap due_at (sym e)); whole = w }

  -- a step of the activity under way
  pub steps_during : (w : W) (p : Plan O) (access : Option Access) (said : Option Said) (new : Stand W O) → GoesOn r w p access said new → Steps r (During w p) access said new
  steps_during w p None said new g = absurd g
  steps_during w (Finished o) (Some a) said new g = absurd g.1
  steps_during w (Make want note more) (Some a) said new g =
      steps_from (During w (Make want note more)) a said new (going r w g.0) g.1.0 (ap (going r w) (sym g.1.1)) (went_leads w g.0 said new g.2) (went_rides w g.0 said new g.2) (went_whole w g.0 said new g.2)

  -- a step that begins the activity that it picks
  began : (w v : W) (c : Order W O) (p : Plan O) (a : Access) → c ≡ Act v p → (q : Plan O) → Goes p a q → MayBegin r w c (Did a) × (begun r w c (Did a) ≡ going r v q)
  began w v c (Finished o) a e q g = absurd g
  began w v c (Make want note more) a e q g =
      subst (λ (k : Order W O). MayBegin r w k (Did a) × (begun r w k (Did a) ≡ going r v q)) (sym e) (g.0, ap (going r v) (sym g.1))

  steps_picked : (w v : W) (p : Plan O) (a : Access) (said : Option Said) (new : Stand W O) → picked (r.choice w) (Did a) ≡ Act v p → GoesOn r v p (Some a) said new → Steps r (Between w) (Some a) said new
  steps_picked w v p a said new e g =
      let b = began w v (picked (r.choice w) (Did a)) p a e g.0 g.1 in
      steps_from (Between w) a said new (going r v g.0) b.0 b.1 (went_leads v g.0 said new g.2) (went_rides v g.0 said new g.2) (went_whole v g.0 said new g.2)

  pub steps_between : (w v : W) (p : Plan O) (access : Option Access) (said : Option Said) (new : Stand W O) → r.choice w ≡ Act v p → GoesOn r v p access said new → Steps r (Between w) access said new
  steps_between w v p None said new e g = absurd g
  steps_between w v p (Some a) said new e g = steps_picked w v p a said new (ap (λ (c : Order W O). picked c (Did a)) e) g

  -- of two activities an access to a page begins the first, and one to a grant entry the second
  pub steps_first : (w v u : W) (p q : Plan O) (a : Access) (said : Option Said) (new : Stand W O) → r.choice w ≡ Either v p u q → is_in_page (place_of a) ≡ true → GoesOn r v p (Some a) said new → Steps r (Between w) (Some a) said new
  steps_first w v u p q a said new e i g =
      steps_picked w v p a said new (ap (λ (c : Order W O). picked c (Did a)) e ∙ ap (λ (b : Bool). if b then Act v p else Act u q) i) g

  pub steps_second : (w v u : W) (p q : Plan O) (a : Access) (said : Option Said) (new : Stand W O) → r.choice w ≡ Either v p u q → is_in_page (place_of a) ≡ false → GoesOn r u q (Some a) said new → Steps r (Between w) (Some a) said new
  steps_second w v u p q a said new e i g =
      steps_picked w u q a said new (ap (λ (c : Order W O). picked c (Did a)) e ∙ ap (λ (b : Bool). if b then Act v p else Act u q) i) g

  -- a step that says an event alone, and one that rests
  tells_alone : (w v : W) (o : O) (t : Said) (new : Stand W O) → picked (r.choice w) (Spoke t) ≡ Act v (Finished o) → r.said_at v o ≡ Some t → new ≡ Between (r.settled v o) → Steps r (Between w) None (Some t) new
  tells_alone w v o t new e s n =
      record {
        comes = (subst (λ (c : Order W O). MayBegin r w c (Spoke t)) (sym e) s, tt);
        left = n ∙ ap (λ (c : Order W O). begun r w c (Spoke t)) (sym e);
        rides = λ a made. let wrong : ⊥ = cc in absurd wrong;
        whole = ap due_at n;
      }

  pub steps_said : (w v : W) (o : O) (t : Said) (new : Stand W O) → r.choice w ≡ Act v (Finished o) → r.said_at v o ≡ Some t → new ≡ Between (r.settled v o) → Steps r (Between w) None (Some t) new
  steps_said w v o t new e s n = tells_alone w v o t new (ap (λ (c : Order W O). picked c (Spoke t)) e) s n

  -- the second of two activities, where it is over at once
  pub steps_second_said : (w v u : W) (p : Plan O) (o : O) (t : Said) (new : Stand W O) → r.choice w ≡ Either v p u (Finished o) → r.said_at u o ≡ Some t → new ≡ Between (r.settled u o) → Steps r (Between w) None (Some t) new
  steps_second_said w v u p o t new e s n = tells_alone w u o t new (ap (λ (c : Order W O). picked c (Spoke t)) e) s n

  pub steps_rest : (w v : W) (new : Stand W O) → r.choice w ≡ Rest v → new ≡ Between v → Steps r (Between w) None None new
  steps_rest w v new e n =
      record {
        comes = (subst (λ (c : Order W O). MayBegin r w (picked c Rested) Rested) (sym e) tt, tt);
        left = n ∙ ap (λ (c : Order W O). begun r w (picked c Rested) Rested) (sym e);
        rides = λ a made. let wrong : ⊥ = cc in absurd wrong;
        whole = ap due_at n;
      }

  -- the turn of a smaller activity is a step of the device's
  pub turn_ends : {A : Type 0} (f : A → O) (w : W) (p : Plan A) (access : Option Access) (x : A) (q : Plan A) (said : Option Said) (new : Stand W O) → Turns p access (Some x) q → said ≡ r.said_at w (f x) → new ≡ Between (r.settled w (f x)) → GoesOn r w (mapped f p) access said new
  turn_ends f w p None x q said new t s n = absurd t
  turn_ends f w p (Some a) x q said new t s n = (Finished (f x), goes_mapped f p a (Finished x) t, (s, n))

  still : {A : Type 0} (f : A → O) (w : W) (q : Plan A) (new : Stand W O) → IsUnfinished q → new ≡ During w (mapped f q) → Went r w (mapped f q) None new
  still f w (Finished x) new u n = absurd u
  still f w (Make want note more) new u n = (refl, n)

  pub turn_goes_on : {A : Type 0} (f : A → O) (w : W) (p : Plan A) (access : Option Access) (q : Plan A) (new : Stand W O) → Turns p access None q → new ≡ During w (mapped f q) → GoesOn r w (mapped f p) access None new
  turn_goes_on f w p None q new t n = absurd t
  turn_goes_on f w p (Some a) q new t n = (mapped f q, goes_mapped f p a q t.0, still f w q new t.1 n)
