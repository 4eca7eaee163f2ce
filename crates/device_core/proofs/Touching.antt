-- An access that takes or puts a word of a live name finds, or leaves, just that word there.
use Rattle.std.proofs.Common.{◌≡◌, ℕ, zero, suc, Bool, true, cond, List, [], ◌∷◌, ◌++◌, slice_get, Some, refl, sym, subst, ap, ◌∙◌, append-nil, arith}
use Rattle.std.proofs.lemmas.Bool.Decides.{nat_tests}
use Rattle.std.proofs.lemmas.Bool.{false≢true}
use Rattle.std.proofs.lemmas.List.{map-append}
use Rattle.pv_words.specs.declared.access.Access.{Access}
use Rattle.pv_words.specs.declared.access.Access.TheVariants as access
use Rattle.pv_words.specs.declared.place.Half.TheVariants.{Flags, FrameNo}
use Rattle.pv_words.specs.declared.place.Place.{Place}
use Rattle.pv_words.specs.declared.place.Place.TheVariants.{Cell, Grant}
use Rattle.pv_words.specs.Memory.{Memory, Finds, written}
use Rattle.pv_words.specs.Place.{same_place}
use Rattle.pv_words.specs.Plan.{Want, Load, Store, Note, Plain, Begins, Frames, Undoes, Ends, Takes, Puts, wanted}
use Rattle.device_core.specs.Machine.{Reading, Touches, HappensTo, IsRun, IsTouching, FindsIn, IsWordOf, seen_more, shown_as, touched_in, touches}
use Rattle.device_core.specs.Names.{Name, Sight, Numbers, Words, HasWord, all_drawn, drawn, is_worded, words_at, words_in}
use Rattle.device_core.specs.Order.{Rules}
use Rattle.device_core.specs.Touched.{Touch, Took, Put, numbered, stroke_of, touch_of, word_by}

-- a place is itself
same_self : (p : Place) → same_place p p ≡ true
same_self (Cell d f w) = grind (arith, nat_tests)
same_self (Grant d g Flags) = grind (arith, nat_tests)
same_self (Grant d g FrameNo) = grind (arith, nat_tests)

load_place : (p q : Place) → Load p ≡ Load q → p ≡ q
load_place p q e = cc

store_place : (p q : Place) (v x : ℕ) → Store p v ≡ Store q x → p ≡ q
store_place p q v x e = cc

-- what a load found stands there after it
loaded : (memory : Memory) (a : Access) (at : Place) → wanted a ≡ Load at → Finds memory a → written memory a at ≡ word_by a
loaded memory (access.Load p v) at e f = sym (f ∙ ap memory (load_place p at e))
loaded memory (access.Store p v) at e f = let wrong : ⊥ = cc in absurd wrong
loaded memory (access.Cas p old new seen) at e f = let wrong : ⊥ = cc in absurd wrong
loaded memory (access.Clear p mask seen) at e f = let wrong : ⊥ = cc in absurd wrong

-- what a store wrote does
stored : (memory : Memory) (a : Access) (at : Place) (x : ℕ) → wanted a ≡ Store at x → written memory a at ≡ word_by a
stored memory (access.Store p v) at x e = ap (λ b. cond b v (memory at)) (subst (λ q. same_place p q ≡ true) (store_place p at v x e) (same_self p))
stored memory (access.Load p v) at x e = let wrong : ⊥ = cc in absurd wrong
stored memory (access.Cas p old new seen) at x e = let wrong : ⊥ = cc in absurd wrong
stored memory (access.Clear p mask seen) at x e = let wrong : ⊥ = cc in absurd wrong

-- word i of these places is what stands at place i
word_at : (memory : Memory) (cells : List Place) (i : ℕ) (at : Place) → slice_get cells i ≡ Some at → slice_get (words_at memory cells) i ≡ Some (memory at)
word_at memory [] i at e = let wrong : ⊥ = cc in absurd wrong
word_at memory (c ∷ cs) zero at e = let same : c ≡ at = cc in ap (λ p. Some (memory p)) same
word_at memory (c ∷ cs) (suc i) at e = word_at memory cs i at e

module _ {S W O N R E : Type 0} (r : Rules W O) (d : Reading S W O N R E) (worded : Bool) (w : W) (n : N) where
  -- the name is live, and its word is the one that the access loaded or stored
  has_word : (sight : Sight) (a : Access) (key index : ℕ) (at : Place) → is_worded sight ≡ worded → IsWordOf d w n key index at → ((memory : Memory) → sight ≡ Words memory → memory at ≡ word_by a) → HasWord worded (record { number = d.number w n key; index = index; word = word_by a }) (all_drawn sight (d.names w n))
  has_word sight a key index at is of there =
      let name : Name = record { number = d.number w n key; cells = of.cells } in
      record {
        before = all_drawn sight of.before;
        words = words_in sight of.cells;
        behind = all_drawn sight of.behind;
        live = ap (all_drawn sight) of.live ∙ map-append (drawn sight) of.before (name ∷ of.behind);
        word = λ t. known sight (is ∙ t) there;
      } where
        known : (x : Sight) → is_worded x ≡ true → ((memory : Memory) → x ≡ Words memory → memory at ≡ word_by a) → slice_get (words_in x of.cells) index ≡ Some (word_by a)
        known Numbers t there = absurd (false≢true t)
        known (Words memory) t there = word_at memory of.cells index at of.is ∙ ap Some (there memory refl)

  -- one touched word
  touched_run : (sight : Sight) (xs : List Touch) (x : Touch) → HasWord worded (stroke_of (numbered (d.number w n) x)) (all_drawn sight (d.names w n)) → IsRun (HappensTo worded d.table) (shown_as r d w n sight (touched_in r d w n xs)) (Touches (numbered (d.number w n) x) ∷ []) (shown_as r d w n sight (touched_in r d w n (xs ++ x ∷ [])))
  touched_run sight xs x h = (
    shown_as r d w n sight (touched_in r d w n xs ++ numbered (d.number w n) x ∷ []),
    record { free = refl; rows = refl; names = refl; word = h; touched = refl; owes = refl },
    ap (shown_as r d w n sight) (sym (map-append (numbered (d.number w n)) xs (x ∷ []))),
  )

  none_run : (sight : Sight) (xs : List Touch) → shown_as r d w n sight (touched_in r d w n xs) ≡ shown_as r d w n sight (touched_in r d w n (xs ++ []))
  none_run sight xs = ap (λ ys. shown_as r d w n sight (touched_in r d w n ys)) (sym (append-nil xs))

  sees_after : (sight : Sight) (a : Access) (memory : Memory) → seen_more sight a ≡ Words memory → FindsIn sight a → (before : Memory) × Finds before a × (memory ≡ written before a)
  sees_after Numbers a memory e f = let wrong : ⊥ = cc in absurd wrong
  sees_after (Words before) a memory e f = let same : written before a ≡ memory = cc in (before, f, sym same)

  pub worded_after : (sight : Sight) (a : Access) → is_worded (seen_more sight a) ≡ is_worded sight
  worded_after Numbers a = refl
  worded_after (Words before) a = refl

  -- an access touches what its note says
  pub touches_run : (sight : Sight) (xs : List Touch) (want : Want) (note : Note) (a : Access) → is_worded sight ≡ worded → FindsIn sight a → wanted a ≡ want → IsTouching d w n want note → IsRun (HappensTo worded d.table) (shown_as r d w n (seen_more sight a) (touched_in r d w n xs)) (touches r d w n note a) (shown_as r d w n (seen_more sight a) (touched_in r d w n (xs ++ touch_of note a)))
  touches_run sight xs want (Takes key index) a is f e t =
      let now = seen_more sight a in
      touched_run now xs (Took (record { number = key; index = index; word = word_by a }))
      (has_word now a key index t.0 (worded_after sight a ∙ is) t.2 (λ memory x. let s = sees_after sight a memory x f in ap (λ (m : Memory). m t.0) s.2 ∙ loaded s.0 a t.0 (e ∙ t.1) s.1))
  touches_run sight xs want (Puts key index) a is f e t =
      let now = seen_more sight a in
      touched_run now xs (Put (record { number = key; index = index; word = word_by a }))
      (has_word now a key index t.0 (worded_after sight a ∙ is) t.3 (λ memory x. let s = sees_after sight a memory x f in ap (λ (m : Memory). m t.0) s.2 ∙ stored s.0 a t.0 t.1 (e ∙ t.2)))
  touches_run sight xs want Plain a is f e t = none_run (seen_more sight a) xs
  touches_run sight xs want (Begins g) a is f e t = none_run (seen_more sight a) xs
  touches_run sight xs want (Frames g) a is f e t = none_run (seen_more sight a) xs
  touches_run sight xs want Undoes a is f e t = none_run (seen_more sight a) xs
  touches_run sight xs want (Ends h) a is f e t = none_run (seen_more sight a) xs
