-- What a device does next is one thing, where memory isn't wanting: the order of work and the word found tell which.
use Rattle.std.proofs.Common.{◌≡◌, Bool, false, Option, Some, None, if◌then◌else◌, refl, sym, ◌∙◌, ap}
use Rattle.pv_words.specs.declared.access.Access.{Access}
use Rattle.pv_words.specs.declared.access.Access.TheVariants as access
use Rattle.pv_words.specs.declared.device.HostRefusal.{HostRefusal}
use Rattle.pv_words.specs.declared.device.Said.{Said}
use Rattle.pv_words.specs.Memory.{Memory, Finds}
use Rattle.pv_words.specs.Plan.{Plan, Finished, Make, aim_of, found, wanted}
use Rattle.device_core.specs.Order.{Own, Did, Spoke, Rested, Heard, Refused, Others, Order, Act, Either, Rest, Rules, Stand, Between, During, Telling, picked, wants_by, wants_at, MayBegin, MayGoOn, May, MayFollowWith}

-- what a device does itself
abbrev pub IsDoing : Own → Type 0
IsDoing (Did a) = Unit {0}
IsDoing (Spoke s) = Unit {0}
IsDoing Rested = Unit {0}
IsDoing (Heard news) = ⊥
IsDoing (Refused why) = ⊥
IsDoing (Others a) = ⊥

-- an access of the device finds the word that stands there
abbrev pub FindsBy : Memory → Own → Type 0
FindsBy m (Did a) = Finds m a
FindsBy m (Spoke s) = Unit {0}
FindsBy m Rested = Unit {0}
FindsBy m (Heard news) = Unit {0}
FindsBy m (Refused why) = Unit {0}
FindsBy m (Others a) = Unit {0}

-- the access that was wanted, with the word that stands there
pub found_there : (m : Memory) (a : Access) → Finds m a → a ≡ found (wanted a) (m (aim_of (wanted a)))
found_there m (access.Load at v) f = ap (access.Load at) f
found_there m (access.Store at v) f = refl
found_there m (access.Cas at old new seen) f = ap (access.Cas at old new) f
found_there m (access.Clear at mask seen) f = ap (access.Clear at mask) f

pub found_same : (m : Memory) (a b : Access) → wanted a ≡ wanted b → Finds m a → Finds m b → a ≡ b
found_same m a b e f g = found_there m a f ∙ ap (λ w. found w (m (aim_of w))) e ∙ sym (found_there m b g)

module _ {W O : Type 0} (r : Rules W O) (m : Memory) where
  -- what comes next in an activity
  next_going : Plan O → Own
  next_going (Finished o) = Rested
  next_going (Make want note more) = Did (found want (m (aim_of want)))

  goes_so : (w : W) (p : Plan O) (e : Own) → IsDoing e → MayGoOn r w p e → FindsBy m e → e ≡ next_going p
  unfolding next_going
  goes_so w (Finished o) (Did a) i h f = absurd h
  goes_so w (Finished o) (Spoke s) i h f = absurd h
  goes_so w (Finished o) Rested i h f = absurd h
  goes_so w (Make want note more) (Did a) i h f = ap Did (found_there m a f ∙ ap (λ x. found x (m (aim_of x))) h)
  goes_so w (Make want note more) (Spoke s) i h f = absurd h
  goes_so w (Make want note more) Rested i h f = absurd h
  goes_so w p (Heard news) i h f = absurd i
  goes_so w p (Refused why) i h f = absurd i
  goes_so w p (Others a) i h f = absurd i

  -- between two activities
  spoken : Option Said → Own
  spoken None = Rested
  spoken (Some s) = Spoke s

  next_begun : Order W O → Own
  next_begun (Act v (Finished o)) = spoken (r.said_at v o)
  next_begun (Act v (Make want note more)) = next_going (Make want note more)
  next_begun (Either v p u q) = Rested
  next_begun (Rest v) = Rested

  begins_so : (w : W) (c : Order W O) (e : Own) → IsDoing e → MayBegin r w c e → FindsBy m e → e ≡ next_begun c
  unfolding next_begun next_going spoken
  begins_so w (Act v (Finished o)) (Did a) i h f = absurd h
  begins_so w (Act v (Finished o)) (Spoke s) i h f = ap spoken (sym h)
  begins_so w (Act v (Finished o)) Rested i h f = absurd h
  begins_so w (Act v (Make want note more)) (Did a) i h f = ap Did (found_there m a f ∙ ap (λ x. found x (m (aim_of x))) h)
  begins_so w (Act v (Make want note more)) (Spoke s) i h f = absurd h
  begins_so w (Act v (Make want note more)) Rested i h f = absurd h
  begins_so w (Either v p u q) (Did a) i h f = absurd h
  begins_so w (Either v p u q) (Spoke s) i h f = absurd h
  begins_so w (Either v p u q) Rested i h f = absurd h
  begins_so w (Rest v) (Did a) i h f = absurd h
  begins_so w (Rest v) (Spoke s) i h f = absurd h
  begins_so w (Rest v) Rested i h f = refl
  begins_so w c (Heard news) i h f = absurd i
  begins_so w c (Refused why) i h f = absurd i
  begins_so w c (Others a) i h f = absurd i

  -- the activity that comes next where memory isn't wanting
  usual : Order W O → Order W O
  usual (Act v p) = Act v p
  usual (Either v p u q) = Act u q
  usual (Rest v) = Rest v

  picks_usual : (c : Order W O) (e : Own) → wants_by c e ≡ false → picked c e ≡ usual c
  unfolding usual
  picks_usual (Act v p) e n = refl
  picks_usual (Rest v) e n = refl
  picks_usual (Either v p u q) (Did a) n = ap (λ (b : Bool). if b then Act v p else Act u q) n
  picks_usual (Either v p u q) (Spoke s) n = refl
  picks_usual (Either v p u q) Rested n = refl
  picks_usual (Either v p u q) (Heard news) n = refl
  picks_usual (Either v p u q) (Refused why) n = refl
  picks_usual (Either v p u q) (Others a) n = refl

  next_own : Stand W O → Own
  next_own (Between w) = next_begun (usual (r.choice w))
  next_own (During w p) = next_going p
  next_own (Telling s w o) = Spoke s

  comes_so : (s : Stand W O) (e : Own) → IsDoing e → May r s e → wants_at r s e ≡ false → FindsBy m e → e ≡ next_own s
  unfolding next_own
  comes_so (Between w) e i h n f = begins_so w (picked (r.choice w) e) e i h f ∙ ap next_begun (picks_usual (r.choice w) e n)
  comes_so (During w p) e i h n f = goes_so w p e i h f
  comes_so (Telling s w o) (Spoke t) i h n f = ap Spoke h
  comes_so (Telling s w o) (Did a) i h n f = absurd h
  comes_so (Telling s w o) Rested i h n f = absurd h
  comes_so (Telling s w o) (Heard news) i h n f = absurd i
  comes_so (Telling s w o) (Refused why) i h n f = absurd i
  comes_so (Telling s w o) (Others a) i h n f = absurd i

  follows_so : (s : Stand W O) (owes : Option HostRefusal) (e : Own) → IsDoing e → MayFollowWith r s owes e → wants_at r s e ≡ false → FindsBy m e → e ≡ next_own s
  follows_so s None e i h n f = comes_so s e i h n f
  follows_so s (Some why) (Did a) i h n f = absurd h
  follows_so s (Some why) (Spoke t) i h n f = absurd h
  follows_so s (Some why) Rested i h n f = absurd h
  follows_so s (Some why) (Heard news) i h n f = absurd i
  follows_so s (Some why) (Refused x) i h n f = absurd i
  follows_so s (Some why) (Others a) i h n f = absurd i

  -- so two that may come next at one place are the same
  pub one_next : (s : Stand W O) (owes : Option HostRefusal) (a b : Own) → IsDoing a → IsDoing b → MayFollowWith r s owes a → MayFollowWith r s owes b → wants_at r s a ≡ false → wants_at r s b ≡ false → FindsBy m a → FindsBy m b → a ≡ b
  one_next s owes a b i j h k n o f g = follows_so s owes a i h n f ∙ sym (follows_so s owes b j k o g)
