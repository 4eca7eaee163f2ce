-- Plans one after another, and plans that undo a walk.
use Rattle.std.proofs.Common.{◌≡◌, ℕ, ◌<◌, true, false, List, [], ◌∷◌, length, Option, Some, None, is_some, Result, Ok, refl, sym, subst, ap, ◌∙◌, arith}
use Rattle.pv_words.specs.declared.access.Access.{Access}
use Rattle.pv_words.specs.declared.grant.Hold.{Hold}
use Rattle.pv_words.specs.declared.grant.GrantRefusal.{GrantRefusal}
use Rattle.pv_words.specs.Plan.{Plan, Finished, Make, Want, Note, Goes, IsUnfinished, MayGo, Makes}
use Rattle.pv_words.specs.declared.map.MapStep.{MapStep}
use Rattle.pv_words.specs.MapLeft.{map_left}
use Rattle.pv_words.specs.Mapping.{Advances, HoldsByAccess}
use Rattle.page_directory.specs.declared.walk.Walked.{Walked}
use Rattle.page_directory.specs.declared.walk.Walked.TheVariants.{Refused}
use Rattle.pv_words.specs.Plan.{joined}
use Rattle.page_directory.specs.Joins.{Leads, TurnsOrEnds}
use Rattle.page_directory.specs.declared.walk.Walk.{Walk}
use Rattle.page_directory.specs.Walking.{undo_plan}
use Rattle.page_directory.specs.WalkLeft.{Steps}

module _ {A B : Type 0} (next : A → Plan B) where
  pub goes_joined : (p : Plan A) (a : Access) (q : Plan A) → Goes p a q → Goes (joined p next) a (joined q next)
  goes_joined (Finished x) a q g = absurd g
  goes_joined (Make want note more) a q g = (g.0, ap (λ (r : Plan A). joined r next) g.1)

  pub unfinished_joined : (p : Plan A) → IsUnfinished p → IsUnfinished (joined p next)
  unfinished_joined (Finished x) u = absurd u
  unfinished_joined (Make want note more) u = tt

  pub may_joined : (may : Want → Type 0) (p : Plan A) → MayGo may (joined p next) → MayGo may p
  may_joined may (Finished x) h = tt
  may_joined may (Make want note more) h = h

  -- a step of the first plan that isn't its last
  pub goes_on : (p : Plan A) (access : Option Access) (q : Plan A) → Advances p access None q → TurnsOrEnds (joined p next) access None (joined q next)
  goes_on p None q h = absurd h
  goes_on p (Some a) q h = (goes_joined p a q h.0, unfinished_joined q h.1)

  -- its last one
  pub leads_on : (p : Plan A) (access : Option Access) (x : A) (q : Plan A) → Advances p access (Some x) q → Leads (joined p next) access (next x)
  leads_on p None x q h = ap (λ (r : Plan A). joined r next) h.0
  leads_on p (Some a) x q h = goes_joined p a (Finished x) h.0

-- the last step of a map that succeeds
pub held_on : {B : Type 0} (next : Result Hold GrantRefusal → Plan B) (p : Plan (Result Hold GrantRefusal)) (access : Option Access) (h : Hold) (q : Plan (Result Hold GrantRefusal)) (new : Plan B) → Advances p access (Some (Ok h)) q → HoldsByAccess access (Some (Ok h)) → new ≡ next (Ok h) → IsUnfinished new → TurnsOrEnds (joined p next) access None new
held_on next p None h q new a by e u = absurd by
held_on {B} next p (Some x) h q new a by e u =
    (subst (λ (r : Plan B). Goes (joined p next) x r) (sym e) (leads_on next p (Some x) (Ok h) q a), u)

-- a port that was not used may make what it might
pub may_still : {A P : Type 0} (may : P → Want → Type 0) (old new : P) (p : Plan A) → new ≡ old → MayGo (may old) p → MayGo (may new) p
may_still {A} {P} may old new p e h = subst (λ (w : P). MayGo (may w) p) (sym e) h

pub may_along : {A : Type 0} (may : Want → Type 0) (p q : Plan A) → p ≡ q → MayGo may p → MayGo may q
may_along {A} may p q e h = subst (λ (r : Plan A). MayGo may r) e h

-- the first access of a plan that is known
pub may_first : {A : Type 0} (may : Want → Type 0) (p : Plan A) (want : Want) (note : Note) (more : ℕ → Plan A) → p ≡ Make want note more → MayGo may p → may want
may_first {A} may p want note more e h = subst (λ (r : Plan A). MayGo may r) e h

pub undo_unfinished : (held : List Hold) (r : GrantRefusal) → 0 < length held → IsUnfinished (undo_plan held r)
undo_unfinished [] r h = absurd (omega (arith, h))
undo_unfinished (x ∷ xs) r h = tt

-- a refusal where nothing is held
pub refused_at_once : (old : Plan Walked) (access : Option Access) (held : List Hold) (r : GrantRefusal) (new : Plan Walked) → held ≡ [] → Leads old access (undo_plan held r) → TurnsOrEnds old access (Some (Refused r)) new
refused_at_once old None held r new e h = h ∙ ap (λ hs. undo_plan hs r) e
refused_at_once old (Some a) held r new e h = subst (λ (p : Plan Walked). Goes old a p) (ap (λ hs. undo_plan hs r) e) h

-- a refusal after an access, where pages are held
pub undoes_then : (old : Plan Walked) (access : Option Access) (held : List Hold) (r : GrantRefusal) → 0 < length held → is_some access ≡ true → Leads old access (undo_plan held r) → TurnsOrEnds old access None (undo_plan held r)
undoes_then old None held r n s h = let wrong : ⊥ = cc in absurd wrong
undoes_then old (Some a) held r n s h = (h, undo_unfinished held r n)

pub turns_as : {A : Type 0} (old p : Plan A) (access : Option Access) (x : Option A) (new q : Plan A) → old ≡ p → new ≡ q → TurnsOrEnds p access x q → TurnsOrEnds old access x new
turns_as {A} old p access x new q e n h =
    subst (λ (o : Plan A). TurnsOrEnds o access x new) (sym e) (subst (λ (r : Plan A). TurnsOrEnds p access x r) (sym n) h)

-- A map within a walk, where the number of the domain is known under two names.
module _ {B : Type 0} (frames grants : ℕ → ℕ) (d e : ℕ) (same : d ≡ e) (m : MapStep) (next : Result Hold GrantRefusal → Plan B) (p : Plan B) (is : p ≡ joined (map_left (frames e) (grants e) m) next) where
  pub map_may : (may : Want → Type 0) → MayGo may p → MayGo may (map_left (frames d) (grants d) m)
  map_may may h =
      subst (λ x. MayGo may (map_left (frames x) (grants x) m)) (sym same) (may_joined next may (map_left (frames e) (grants e) m) (may_along may p (joined (map_left (frames e) (grants e) m) next) is h))

  along : (access : Option Access) (last : Option (Result Hold GrantRefusal)) (n : MapStep) → Advances (map_left (frames d) (grants d) m) access last (map_left (frames d) (grants d) n) → Advances (map_left (frames e) (grants e) m) access last (map_left (frames e) (grants e) n)
  along access last n h = subst (λ x. Advances (map_left (frames x) (grants x) m) access last (map_left (frames x) (grants x) n)) same h

  -- it isn't done
  pub map_goes_on : (access : Option Access) (last : Option (Result Hold GrantRefusal)) (n : MapStep) (q : Plan B) → Advances (map_left (frames d) (grants d) m) access last (map_left (frames d) (grants d) n) → last ≡ None → q ≡ joined (map_left (frames e) (grants e) n) next → TurnsOrEnds p access None q
  map_goes_on access last n q a none new =
      let b = subst (λ (x : Option (Result Hold GrantRefusal)). Advances (map_left (frames e) (grants e) m) access x (map_left (frames e) (grants e) n)) none (along access last n a) in
      turns_as p (joined (map_left (frames e) (grants e) m) next) access None q (joined (map_left (frames e) (grants e) n) next) is new (goes_on next (map_left (frames e) (grants e) m) access (map_left (frames e) (grants e) n) b)

  -- it is done
  pub map_leads : (access : Option Access) (last : Option (Result Hold GrantRefusal)) (n : MapStep) (x : Result Hold GrantRefusal) (q : Plan B) → Advances (map_left (frames d) (grants d) m) access last (map_left (frames d) (grants d) n) → last ≡ Some x → q ≡ next x → Leads p access q
  map_leads access last n x q a some new =
      let b = subst (λ (y : Option (Result Hold GrantRefusal)). Advances (map_left (frames e) (grants e) m) access y (map_left (frames e) (grants e) n)) some (along access last n a) in
      let leads = leads_on next (map_left (frames e) (grants e) m) access x (map_left (frames e) (grants e) n) b in
      subst (λ (r : Plan B). Leads p access r) (sym new) (subst (λ (o : Plan B). Leads o access (next x)) (sym is) leads)

  -- it holds its page
  pub map_holds : (access : Option Access) (last : Option (Result Hold GrantRefusal)) (n : MapStep) (h : Hold) (q : Plan B) → Advances (map_left (frames d) (grants d) m) access last (map_left (frames d) (grants d) n) → last ≡ Some (Ok h) → HoldsByAccess access last → q ≡ next (Ok h) → IsUnfinished q → TurnsOrEnds p access None q
  map_holds access last n h q a some by new u =
      let b = subst (λ (y : Option (Result Hold GrantRefusal)). Advances (map_left (frames e) (grants e) m) access y (map_left (frames e) (grants e) n)) some (along access last n a) in
      let c = subst (λ (y : Option (Result Hold GrantRefusal)). HoldsByAccess access y) some by in
      turns_as p (joined (map_left (frames e) (grants e) m) next) access None q q is refl (held_on next (map_left (frames e) (grants e) m) access h (map_left (frames e) (grants e) n) q b c new u)

-- what may come after a map that made no access
pub may_then : {A P : Type 0} (may : P → Want → Type 0) (makes : P → Access → P → Type 0) (old mid : P) (access : Option Access) (p q : Plan A) → access ≡ None → Makes makes old access mid → Leads p access q → MayGo (may old) p → MayGo (may mid) q
may_then may makes old mid None p q none made leads h = may_still may old mid q made (may_along (may old) p q leads h)
may_then may makes old mid (Some a) p q none made leads h = let wrong : ⊥ = cc in absurd wrong

pub steps_from : (frames grants home from : ℕ) (held pages : List Hold) (old p : Plan Walked) (access : Option Access) (last : Option Walked) (new : Walk) → from ≡ home → held ≡ pages → old ≡ p → Steps frames grants from pages p access last new → Steps frames grants home held old access last new
steps_from frames grants home from held pages old p access last new f g e h =
    subst (λ (o : Plan Walked). Steps frames grants home held o access last new) (sym e)
    (subst (λ hs. Steps frames grants home hs p access last new) (sym g) (subst (λ x. Steps frames grants x pages p access last new) f h))

pub is_none : (access : Option Access) → is_some access ≡ false → access ≡ None
is_none None e = refl
is_none (Some a) e = let wrong : ⊥ = cc in absurd wrong

-- through a port where any access may be made, so may the next one
pub may_any : {A : Type 0} (p : Plan A) → MayGo (λ want. Unit {0}) p
may_any (Finished x) = tt
may_any (Make want note more) = tt
