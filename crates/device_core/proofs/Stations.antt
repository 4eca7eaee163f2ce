-- Where a device stands that owes no refusal, after a step, after news, and after the accesses of others.
use Rattle.std.proofs.Common.{◌≡◌, List, [], ◌∷◌, ◌++◌, Option, Some, None, refl, sym, subst, ◌∙◌, ap}
use Rattle.pv_words.specs.declared.access.Access.{Access}
use Rattle.pv_words.specs.declared.device.HostEvent.{HostEvent}
use Rattle.pv_words.specs.declared.device.HostRefusal.{HostRefusal}
use Rattle.pv_words.specs.declared.device.Said.{Said}
use Rattle.pv_words.specs.Along.{after}
use Rattle.pv_words.specs.Held.{Made}
use Rattle.device_core.specs.Order.{News, Own, Did, Spoke, Rested, Heard, Hosts, Refused, Others, Rules, Stand, Between, During, Telling, Station, Steps, at_stand, due_at, followed, next, note_at, made_by, refused_by, steps_of, work_at, IsExplained}
use Rattle.device_core.proofs.Passing.{news_may_come, others_may_pass, others_pass}

-- nothing but accesses of others
abbrev pub AreOthers : List Own → Type 0
AreOthers [] = Unit {0}
AreOthers (Others a ∷ es) = AreOthers es
AreOthers (other ∷ es) = ⊥

-- nothing but what is heard, and refusals
abbrev pub AreHeard : List Own → Type 0
AreHeard [] = Unit {0}
AreHeard (Heard news ∷ es) = AreHeard es
AreHeard (Refused why ∷ es) = AreHeard es
AreHeard (other ∷ es) = ⊥

pub station_is : {W O : Type 0} (p : Station W O) (s : Stand W O) → s ≡ p.stand → p.owes ≡ None → p ≡ at_stand s
station_is p s e n = ap (λ x. record { stand = p.stand; owes = x }) n ∙ ap at_stand (sym e)

module _ {W O : Type 0} (r : Rules W O) where
  pub steps_follow : (s new : Stand W O) (a : Option Access) (t : Option Said) → Steps r s a t new → IsExplained r (at_stand s) (steps_of a t) × (after (followed r) (at_stand s) (steps_of a t) ≡ at_stand new)
  steps_follow s new None None h = (h.comes, ap at_stand (sym h.left))
  steps_follow s new None (Some t) h = (h.comes, ap at_stand (sym h.left))
  steps_follow s new (Some a) None h = (h.comes, ap at_stand (sym h.left))
  steps_follow s new (Some a) (Some t) h = (h.comes, ap at_stand (sym h.left))

  pub news_follow : (s : Stand W O) (news : News) → refused_by r (work_at s) news ≡ None → IsExplained r (at_stand s) (Heard news ∷ []) × (after (followed r) (at_stand s) (Heard news ∷ []) ≡ at_stand (next r s (Heard news)))
  news_follow s news e = ((news_may_come r s news, tt), ap (λ x. record { stand = next r s (Heard news); owes = x }) e)

  pub refusal_follows : (s : Stand W O) (e : HostEvent) (why : HostRefusal) → r.refuses (work_at s) e ≡ Some why → IsExplained r (at_stand s) (Heard (Hosts e) ∷ Refused why ∷ []) × (after (followed r) (at_stand s) (Heard (Hosts e) ∷ Refused why ∷ []) ≡ at_stand (next r s (Heard (Hosts e))))
  refusal_follows s e why i =
      let there : Station W O = record { stand = next r s (Heard (Hosts e)); owes = Some why } in
      let is : followed r (at_stand s) (Heard (Hosts e)) ≡ there = ap (λ x. record { stand = next r s (Heard (Hosts e)); owes = x }) i in (
        (news_may_come r s (Hosts e), subst (λ p. IsExplained r p (Refused why ∷ [])) (sym is) (refl, tt)),
        ap (λ p. followed r p (Refused why)) is,
      )

  -- what is heard leaves an event due, or none
  pub due_heard : (s : Stand W O) (news : News) → due_at (next r s (Heard news)) ≡ due_at s
  due_heard (Between w) news = refl
  due_heard (During w p) news = refl
  due_heard (Telling t w o) news = refl

  pub others_follow : (s : Stand W O) (es : List Own) → AreOthers es → IsExplained r (at_stand s) es × (after (followed r) (at_stand s) es ≡ at_stand s)
  others_follow s [] o = (tt, refl)
  others_follow s (Others a ∷ es) o =
      let is = ap at_stand (others_pass r s a) in
      let rest = others_follow s es o in
      ((others_may_pass r s a, subst (λ p. IsExplained r p es) (sym is) rest.0), ap (λ p. after (followed r) p es) is ∙ rest.1)
  others_follow s (Did a ∷ es) o = absurd o
  others_follow s (Spoke t ∷ es) o = absurd o
  others_follow s (Rested ∷ es) o = absurd o
  others_follow s (Heard news ∷ es) o = absurd o
  others_follow s (Refused why ∷ es) o = absurd o

  pub others_made : (p : Station W O) (es : List Own) → AreOthers es → made_by r p es ≡ []
  others_made p [] o = refl
  others_made p (Others a ∷ es) o = others_made (followed r p (Others a)) es o
  others_made p (Did a ∷ es) o = absurd o
  others_made p (Spoke t ∷ es) o = absurd o
  others_made p (Rested ∷ es) o = absurd o
  others_made p (Heard news ∷ es) o = absurd o
  others_made p (Refused why ∷ es) o = absurd o

  pub heard_made : (p : Station W O) (es : List Own) → AreHeard es → made_by r p es ≡ []
  heard_made p [] o = refl
  heard_made p (Heard news ∷ es) o = heard_made (followed r p (Heard news)) es o
  heard_made p (Refused why ∷ es) o = heard_made (followed r p (Refused why)) es o
  heard_made p (Did a ∷ es) o = absurd o
  heard_made p (Spoke t ∷ es) o = absurd o
  heard_made p (Rested ∷ es) o = absurd o
  heard_made p (Others a ∷ es) o = absurd o

  -- the accesses of what a device does and then does
  pub made_append : (p : Station W O) (es fs : List Own) → made_by r p (es ++ fs) ≡ made_by r p es ++ made_by r (after (followed r) p es) fs
  made_append p [] fs = refl
  made_append p (Did a ∷ es) fs = ap (λ (ms : List Made). record { access = a; note = note_at r p.stand (Did a) } ∷ ms) (made_append (followed r p (Did a)) es fs)
  made_append p (Spoke t ∷ es) fs = made_append (followed r p (Spoke t)) es fs
  made_append p (Rested ∷ es) fs = made_append (followed r p Rested) es fs
  made_append p (Heard news ∷ es) fs = made_append (followed r p (Heard news)) es fs
  made_append p (Refused why ∷ es) fs = made_append (followed r p (Refused why)) es fs
  made_append p (Others a ∷ es) fs = made_append (followed r p (Others a)) es fs

  -- what is said behind an access is the event that was due, if one was
  pub told_is_due : (s : Stand W O) (t u : Said) → IsExplained r (at_stand s) (Spoke t ∷ []) → due_at s ≡ Some u → t ≡ u
  told_is_due (Between w) t u h e = let wrong : ⊥ = cc in absurd wrong
  told_is_due (During w p) t u h e = let wrong : ⊥ = cc in absurd wrong
  told_is_due (Telling x w o) t u h e = let same : x ≡ u = cc in h.0 ∙ same
