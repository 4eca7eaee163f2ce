-- A reading of more that the accesses told tells the same.
use Rattle.std.proofs.Common.{◌≡◌, List, [], ◌∷◌, ◌++◌, Option, Some, None, refl, ap, ◌∙◌}
use Rattle.pv_words.specs.declared.access.Access.{Access}
use Rattle.pv_words.specs.declared.device.HostRefusal.{HostRefusal}
use Rattle.pv_words.specs.Plan.{Finished, Make, Note}
use Rattle.device_core.specs.Machine.{Reading, View, extended, happens, happens_at, happens_by, happens_first, happens_told, history, view_by}
use Rattle.device_core.specs.Order.{Own, Did, Spoke, Rested, Heard, Refused, Others, Order, Act, Either, Rest, Rules, Stand, Between, During, Telling, Station, followed, note_at, picked}

module _ {S T W O N R E : Type 0} (r : Rules W O) (d : Reading S W O N R E) (tell : T → S) (carry : T → Note → Access → T) (same : (k : T) (note : Note) (a : Access) → tell (carry k note a) ≡ d.carry (tell k) note a) where
  abbrev more : Reading T W O N R E
  more = extended d tell carry

  -- what of it the smaller reading keeps
  abbrev pub less : View T N → View S N
  less v = record { naming = v.naming; carried = record { own = tell v.carried.own; touched = v.carried.touched }; sight = v.sight }

  first_less : (w : W) (v : View T N) (c : Order W O) (e : Own) → happens_first r more w v c e ≡ happens_first r d w (less v) c e
  first_less w v (Act x (Finished o)) (Spoke t) = refl
  first_less w v (Act x (Make want note next)) (Did a) = refl
  first_less w v c (Heard news) = refl
  first_less w v c (Others a) = refl
  first_less w v (Act x (Make want note next)) (Spoke t) = refl
  first_less w v (Act x (Finished o)) (Did a) = refl
  first_less w v (Either x p u q) (Spoke t) = refl
  first_less w v (Either x p u q) (Did a) = refl
  first_less w v (Rest x) (Spoke t) = refl
  first_less w v (Rest x) (Did a) = refl
  first_less w v c Rested = refl
  first_less w v c (Refused why) = refl

  at_less : (s : Stand W O) (v : View T N) (e : Own) → happens_at r more s v e ≡ happens_at r d s (less v) e
  at_less (Between w) v e = first_less w v (picked (r.choice w) e) e
  at_less (During w p) v e = refl
  at_less (Telling t w o) v e = told_less e
    where
      told_less : (e : Own) → happens_told r more w o v e ≡ happens_told r d w o (less v) e
      told_less (Spoke u) = refl
      told_less (Heard news) = refl
      told_less (Others a) = refl
      told_less (Did a) = refl
      told_less Rested = refl
      told_less (Refused why) = refl

  by_less : (s : Stand W O) (owes : Option HostRefusal) (v : View T N) (e : Own) → happens_by r more s owes v e ≡ happens_by r d s owes (less v) e
  by_less s None v e = at_less s v e
  by_less s (Some why) v e = refl

  view_less : (s : Stand W O) (owes : Option HostRefusal) (v : View T N) (e : Own) → less (view_by r more s owes v e) ≡ view_by r d s owes (less v) e
  view_less s owes v (Did a) = ap (λ k. record (view_by r d s owes (less v) (Did a)) { carried = record (view_by r d s owes (less v) (Did a)).carried { own = k } }) (same v.carried.own (note_at r s (Did a)) a)
  view_less s owes v (Spoke t) = refl
  view_less s owes v Rested = refl
  view_less s owes v (Heard news) = refl
  view_less s owes v (Refused why) = refl
  view_less s owes v (Others a) = refl

  pub history_less : (p : Station W O) (v : View T N) (es : List Own) → history r more p v es ≡ history r d p (less v) es
  history_less p v [] = refl
  history_less p v (e ∷ es) =
      ap (λ hs. hs ++ history r more (followed r p e) (view_by r more p.stand p.owes v e) es) (by_less p.stand p.owes v e)
      ∙ ap (λ hs. happens r d p (less v) e ++ hs) (history_less (followed r p e) (view_by r more p.stand p.owes v e) es ∙ ap (λ u. history r d (followed r p e) u es) (view_less p.stand p.owes v e))
