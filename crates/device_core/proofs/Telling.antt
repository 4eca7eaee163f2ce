-- A reading of explained work tells just what the device said and heard, in order.
use Rattle.std.proofs.Common.{◌≡◌, ℕ, List, [], ◌∷◌, ◌++◌, map, Option, Some, None, refl, sym, ap, ◌∙◌, append_assoc}
use Rattle.pv_words.specs.declared.access.Access.{Access}
use Rattle.pv_words.specs.declared.device.HostRefusal.{HostRefusal}
use Rattle.pv_words.specs.declared.device.Said.{Said}
use Rattle.pv_words.specs.Plan.{Plan, Finished, Make, Note}
use Rattle.device_core.specs.Machine.{Reading, View, Happening, Row, Meanwhile, Refuses, Gone, Draw, Touches, draws, made_of, row_of, touches, happens, happens_by, happens_at, happens_first, happens_in, happens_told, history, view_by}
use Rattle.device_core.specs.Names.{Name, Sight, Numbers, Words, Stroke, strokes_by, writing_of}
use Rattle.device_core.specs.Touched.{Touch, numbered, touch_of}
use Rattle.device_core.specs.Order.{News, Own, Did, Spoke, Rested, Heard, Refused, Others, Order, Act, Rest, Rules, Stand, Between, During, Telling, Station, picked, followed, May, MayBegin, MayGoOn, MayFollowWith, IsExplained}
use Rattle.device_core.specs.Told.{spoken, told_by, one_or_none, TellsAll}

module _ {E : Type 0} (tells : E → Option Own) where
  told_append : (a b : List (Happening E)) → told_by tells (a ++ b) ≡ told_by tells a ++ told_by tells b
  told_append [] b = refl
  told_append (Row e words ∷ hs) b = ap (λ xs. one_or_none (tells e) ++ xs) (told_append hs b) ∙ sym (append_assoc (one_or_none (tells e)) (told_by tells hs) (told_by tells b))
  told_append (Meanwhile e ∷ hs) b = ap (λ xs. one_or_none (tells e) ++ xs) (told_append hs b) ∙ sym (append_assoc (one_or_none (tells e)) (told_by tells hs) (told_by tells b))
  told_append (Refuses why ∷ hs) b = ap (λ xs. Refused why ∷ xs) (told_append hs b)
  told_append (Gone n ∷ hs) b = told_append hs b
  told_append (Draw s ∷ hs) b = told_append hs b
  told_append (Touches x ∷ hs) b = told_append hs b

  none_drawn : (strokes : List Stroke) → told_by tells (map Draw strokes) ≡ []
  none_drawn [] = refl
  none_drawn (s ∷ ss) = none_drawn ss

  none_touched : (f : ℕ → ℕ) (xs : List Touch) → told_by tells (map (λ x. Touches (numbered f x)) xs) ≡ []
  none_touched f [] = refl
  none_touched f (x ∷ xs) = none_touched f xs

spoken_append : (a b : List Own) → spoken (a ++ b) ≡ spoken a ++ spoken b
spoken_append [] b = refl
spoken_append (Spoke t ∷ es) b = ap (λ xs. Spoke t ∷ xs) (spoken_append es b)
spoken_append (Heard news ∷ es) b = ap (λ xs. Heard news ∷ xs) (spoken_append es b)
spoken_append (Refused why ∷ es) b = ap (λ xs. Refused why ∷ xs) (spoken_append es b)
spoken_append (Did a ∷ es) b = spoken_append es b
spoken_append (Rested ∷ es) b = spoken_append es b
spoken_append (Others a ∷ es) b = spoken_append es b

module _ {S W O N R E : Type 0} (r : Rules W O) (d : Reading S W O N R E) (tells : E → Option Own) (all : TellsAll d tells) where
  none_told : (sight : Sight) (names : List Name) (a : Access) → told_by tells (draws r d sight names a) ≡ []
  none_told Numbers names a = refl
  none_told (Words memory) names a = none_drawn tells (strokes_by (writing_of a) names)

  told_made : (w : W) (v : View S N) (note : Note) (a : Access) → told_by tells (made_of r d w v note a) ≡ []
  told_made w v note a =
      told_append tells (draws r d v.sight (d.names w v.naming) a) (touches r d w v.naming note a)
      ∙ (ap (λ xs. xs ++ told_by tells (touches r d w v.naming note a)) (none_told v.sight (d.names w v.naming) a)
      ∙ none_touched tells (d.number w v.naming) (touch_of note a))

  told_row : (w : W) (o : O) (t : Said) (v : View S N) → told_by tells (row_of r d w o t v ∷ []) ≡ Spoke t ∷ []
  told_row w o t v = ap (λ x. one_or_none x ++ []) (all.said w o v.carried.own t)

  told_heard : (news : News) → told_by tells (Meanwhile (d.heard news) ∷ []) ≡ Heard news ∷ []
  told_heard news = ap (λ x. one_or_none x ++ []) (all.heard news)

  told_began : (w : W) (n : N) (hs : List (Happening E)) → told_by tells (d.began w n ++ hs) ≡ told_by tells hs
  told_began w n hs = told_append tells (d.began w n) hs ∙ ap (λ xs. xs ++ told_by tells hs) (all.began w n)

  told_first : (w : W) (order : Order W O) (e : Own) (v : View S N) → MayBegin r w order e → told_by tells (happens_first r d w v order e) ≡ spoken (e ∷ [])
  told_first w order (Heard news) v m = told_heard news
  told_first w order (Others a) v m = none_told v.sight (d.names w v.naming) a
  told_first w (Act x (Finished o)) (Spoke t) v m = told_began w v.naming (row_of r d x o t v ∷ []) ∙ told_row x o t v
  told_first w (Act x (Make want note more)) (Did a) v m = told_began w v.naming (made_of r d x v note a) ∙ told_made x v note a
  told_first w (Rest x) Rested v m = refl
  told_first w order other v m = absurd m

  told_going : (w : W) (p : Plan O) (e : Own) (v : View S N) → MayGoOn r w p e → told_by tells (happens_in r d w p v e) ≡ spoken (e ∷ [])
  told_going w p (Heard news) v m = told_heard news
  told_going w p (Others a) v m = none_told v.sight (d.names w v.naming) a
  told_going w (Make want note more) (Did a) v m = told_made w v note a
  told_going w p other v m = absurd m

  told_end : (t : Said) (w : W) (o : O) (e : Own) (v : View S N) → May r (Telling t w o) e → told_by tells (happens_told r d w o v e) ≡ spoken (e ∷ [])
  told_end t w o (Spoke u) v m = told_row w o u v
  told_end t w o (Heard news) v m = told_heard news
  told_end t w o (Others a) v m = none_told v.sight (d.names w v.naming) a
  told_end t w o other v m = absurd m

  told_at : (stand : Stand W O) (e : Own) (v : View S N) → May r stand e → told_by tells (happens_at r d stand v e) ≡ spoken (e ∷ [])
  told_at (Between w) e v m = told_first w (picked (r.choice w) e) e v m
  told_at (During w p) e v m = told_going w p e v m
  told_at (Telling t w o) e v m = told_end t w o e v m

  told_follows : (stand : Stand W O) (owes : Option HostRefusal) (e : Own) (v : View S N) → MayFollowWith r stand owes e → told_by tells (happens_by r d stand owes v e) ≡ spoken (e ∷ [])
  told_follows stand None e v m = told_at stand e v m
  told_follows stand (Some why) (Refused x) v m = refl
  told_follows stand (Some why) other v m = absurd m

  -- What happens to the machine tells what the device said and heard, and each refusal, in order, and nothing else.
  pub told_all : (p : Station W O) (es : List Own) (v : View S N) → IsExplained r p es → told_by tells (history r d p v es) ≡ spoken es
  told_all p [] v x = refl
  told_all p (e ∷ es) v x =
      let later = history r d (followed r p e) (view_by r d p.stand p.owes v e) es in
      told_append tells (happens r d p v e) later
      ∙ (ap (λ xs. xs ++ told_by tells later) (told_follows p.stand p.owes e v x.0)
      ∙ (ap (λ xs. spoken (e ∷ []) ++ xs) (told_all (followed r p e) es (view_by r d p.stand p.owes v e) x.1) ∙ sym (spoken_append (e ∷ []) es)))
