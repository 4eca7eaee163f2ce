-- One access leads from what is left of an activity to what is left then.
use Rattle.std.proofs.Common.{◌≡◌, ℕ, zero, suc, ◌+◌, ◌-◌, ◌<◌, ◌==◌, Bool, true, false, cond, List, [], ◌∷◌, ◌++◌, length, take, drop, set, get_or, Some, None, refl, sym, subst, ◌∙◌, ap, arith, length-set, ◌≢◌, ⊎_elim}
use Rattle.std.proofs.lemmas.Bool.{cases_lt}
use Rattle.std.proofs.lemmas.Bool.Decides.{nat_tests}
use Rattle.std.proofs.lemmas.List.{take_more_set, take_all, drop_more, drop_all}
use Rattle.pv_words.specs.declared.place.Place.{Place}
use Rattle.pv_words.specs.declared.access.Access.{Access}
use Rattle.pv_words.specs.declared.access.Access.TheVariants as access
use Rattle.pv_words.specs.Plan.{Plan, Finished, Make, Want, Load, Store, Plain, Goes, Turns, IsUnfinished, MayGo}
use Rattle.link_core.specs.Activities.{Page, slot_place, word_of, loads, stores, publish_plan, event_plan, check_plan, sleep_plan}
use Rattle.link_core.specs.Link.{take_rest, answer_rest, sleep_rest}
use Rattle.ring_words.specs.Ring.{next_index, notifies, slot_of}

-- one load of a run of them
loads_one : {A : Type 0} (at : ℕ → Place) (more : List ℕ → Plan A) (n m i : ℕ) (taken : List ℕ) → n ≡ suc m → loads at more n i taken ≡ Make (Load (at i)) Plain (λ v. loads at more m (i + 1) (taken ++ v ∷ []))
unfolding loads
loads_one at more zero m i taken e = absurd (omega arith)
loads_one at more (suc n) m i taken e =
    let same : n ≡ m = omega arith in
    ap (λ k. Make (Load (at i)) Plain (λ v. loads at more k (i + 1) (taken ++ v ∷ []))) same

loads_none : {A : Type 0} (at : ℕ → Place) (more : List ℕ → Plan A) (n i : ℕ) (taken : List ℕ) → n ≡ 0 → loads at more n i taken ≡ more taken
unfolding loads
loads_none at more zero i taken e = refl
loads_none at more (suc n) i taken e = absurd (omega arith)

pub stores_one : {A : Type 0} (at : ℕ → Place) (more : Plan A) (i : ℕ) (vs ws : List ℕ) (v : ℕ) → vs ≡ v ∷ ws → stores at more i vs ≡ Make (Store (at i) v) Plain (λ _. stores at more (i + 1) ws)
unfolding stores
stores_one at more i vs ws v e = rw e refl

pub stores_none : {A : Type 0} (at : ℕ → Place) (more : Plan A) (i : ℕ) (vs : List ℕ) → vs ≡ [] → stores at more i vs ≡ more
unfolding stores
stores_none at more i vs e = rw e refl

-- a plan that is this one makes its access
pub goes_from : {A : Type 0} (p : Plan A) (want : Want) (k : ℕ → Plan A) (a : Access) (new : Plan A) → p ≡ Make want Plain k → Goes (Make want Plain k) a new → Goes p a new
goes_from {A} p want k a new e h = subst (λ (x : Plan A). Goes x a new) (sym e) h

pub unfinished_from : {A : Type 0} (p : Plan A) (want : Want) (k : ℕ → Plan A) → p ≡ Make want Plain k → IsUnfinished p
unfinished_from {A} p want k e = subst (λ (x : Plan A). IsUnfinished x) (sym e) tt

pub may_from : {A : Type 0} (may : Want → Type 0) (p : Plan A) (want : Want) (k : ℕ → Plan A) → p ≡ Make want Plain k → MayGo may p → may want
may_from {A} may p want k e h = subst (λ (x : Plan A). MayGo may x) e h

-- Take: what a load of the next word leads to. The code knows the number of words as m and the word of the page as s.
module _ (page : Page) (rsp n m s : ℕ) (words : List ℕ) (same : m ≡ n) (place : s ≡ slot_of rsp m) where
  pub take_head : n < 16 → take_rest page rsp n words ≡ Make (Load (word_of page s)) Plain (λ x. loads (slot_place page rsp) Finished (15 - m) (m + 1) (take m words ++ x ∷ []))
  take_head h =
      let at : slot_place page rsp n ≡ word_of page s = ap (word_of page) (ap (slot_of rsp) (sym same) ∙ sym place) in
      loads_one (slot_place page rsp) Finished (16 - n) (15 - n) n (take n words) (omega arith)
      ∙ (ap (λ k. Make (Load (slot_place page rsp n)) Plain (λ x. loads (slot_place page rsp) Finished (15 - k) (k + 1) (take k words ++ x ∷ []))) (sym same)
      ∙ ap (λ p. Make (Load p) Plain (λ x. loads (slot_place page rsp) Finished (15 - m) (m + 1) (take m words ++ x ∷ []))) at)

  grown : (v : ℕ) → length words ≡ 16 → n < 16 → take m words ++ v ∷ [] ≡ take (m + 1) (set words m v)
  grown v long h = sym (take_more_set words m v (omega arith))

  pub take_goes_on : (v : ℕ) → length words ≡ 16 → n < 16 → m ≢ 15 → Turns (take_rest page rsp n words) (Some (access.Load (word_of page s) v)) None (take_rest page rsp (m + 1) (set words m v))
  take_goes_on v long h more =
      let left : ℕ = 15 - m in
      let count : 16 - (m + 1) ≡ 15 - m = omega arith in
      let next : take_rest page rsp (m + 1) (set words m v) ≡ loads (slot_place page rsp) Finished (15 - m) (m + 1) (take m words ++ v ∷ []) = ap (λ k. loads (slot_place page rsp) Finished k (m + 1) (take (m + 1) (set words m v))) count ∙ ap (loads (slot_place page rsp) Finished (15 - m) (m + 1)) (sym (grown v long h)) in (
        goes_from (take_rest page rsp n words) (Load (word_of page s)) (λ x. loads (slot_place page rsp) Finished (15 - m) (m + 1) (take m words ++ x ∷ [])) (access.Load (word_of page s) v) (take_rest page rsp (m + 1) (set words m v)) (take_head h) (refl, next),
        unfinished_from (take_rest page rsp (m + 1) (set words m v)) (Load (slot_place page rsp (m + 1))) (λ x. loads (slot_place page rsp) Finished (14 - m) (m + 1 + 1) (take (m + 1) (set words m v) ++ x ∷ [])) (loads_one (slot_place page rsp) Finished (16 - (m + 1)) (14 - m) (m + 1) (take (m + 1) (set words m v)) (omega arith)),
      )

  pub take_ends : (v : ℕ) (new : Plan (List ℕ)) → length words ≡ 16 → n < 16 → m ≡ 15 → Turns (take_rest page rsp n words) (Some (access.Load (word_of page s) v)) (Some (set words m v)) new
  take_ends v new long h last =
      let whole : take m words ++ v ∷ [] ≡ set words m v = grown v long h ∙ take_all (m + 1) (set words m v) (omega (arith, length-set words m v)) in
      let over : loads (slot_place page rsp) Finished (15 - m) (m + 1) (take m words ++ v ∷ []) ≡ Finished (set words m v) = loads_none (slot_place page rsp) Finished (15 - m) (m + 1) (take m words ++ v ∷ []) (omega arith) ∙ ap Finished whole in
      goes_from (take_rest page rsp n words) (Load (word_of page s)) (λ x. loads (slot_place page rsp) Finished (15 - m) (m + 1) (take m words ++ x ∷ [])) (access.Load (word_of page s) v) (Finished (set words m v)) (take_head h) (refl, sym over)

-- Answer: the m-th access. The words of the reply first
module _ (page : Page) (rsp n m : ℕ) (reply : List ℕ) (same : m ≡ n) (long : length reply ≡ 16) where
  answer_words : m < 17 → answer_rest page rsp n reply ≡ stores (slot_place page rsp) (publish_plan page rsp) m (drop m reply)
  answer_words h =
      let test : (m == 17) ≡ false = grind (arith, nat_tests) in
      ap (λ k. answer_rest page rsp k reply) (sym same) ∙ ap (λ b. cond b (event_plan page rsp) (stores (slot_place page rsp) (publish_plan page rsp) m (drop m reply))) test

  pub answer_head : (s v : ℕ) → s ≡ slot_of rsp m → v ≡ get_or reply m 0 → m < 16 → answer_rest page rsp n reply ≡ Make (Store (word_of page s) v) Plain (λ _. stores (slot_place page rsp) (publish_plan page rsp) (m + 1) (drop (m + 1) reply))
  answer_head s v place value h =
      answer_words (omega arith)
      ∙ (stores_one (slot_place page rsp) (publish_plan page rsp) m (drop m reply) (drop (m + 1) reply) (get_or reply m 0) (drop_more reply m 0 (omega arith))
      ∙ (ap (λ p. Make (Store p (get_or reply m 0)) Plain (λ _. stores (slot_place page rsp) (publish_plan page rsp) (m + 1) (drop (m + 1) reply))) (ap (word_of page) (sym place))
      ∙ ap (λ x. Make (Store (word_of page s) x) Plain (λ _. stores (slot_place page rsp) (publish_plan page rsp) (m + 1) (drop (m + 1) reply))) (sym value)))

  pub answer_publishes : m ≡ 16 → answer_rest page rsp n reply ≡ publish_plan page rsp
  answer_publishes h =
      answer_words (omega arith) ∙ stores_none (slot_place page rsp) (publish_plan page rsp) m (drop m reply) (drop_all m reply (omega arith))

  pub answer_event : m ≡ 17 → answer_rest page rsp n reply ≡ event_plan page rsp
  answer_event h =
      let test : (m == 17) ≡ true = grind (arith, nat_tests) in
      ap (λ k. answer_rest page rsp k reply) (sym same) ∙ ap (λ b. cond b (event_plan page rsp) (stores (slot_place page rsp) (publish_plan page rsp) m (drop m reply))) test

-- what is left once the next access is made
module _ (page : Page) (rsp n m : ℕ) (reply : List ℕ) (same : m ≡ n) (long : length reply ≡ 16) where
  next_words : m < 16 → answer_rest page rsp (m + 1) reply ≡ stores (slot_place page rsp) (publish_plan page rsp) (m + 1) (drop (m + 1) reply)
  next_words h = answer_words page rsp (m + 1) (m + 1) reply refl long (omega arith)

  unfinished_words : m < 16 → IsUnfinished (answer_rest page rsp (m + 1) reply)
  unfinished_words h =
      ⊎_elim
      (λ l. unfinished_from (answer_rest page rsp (m + 1) reply) (Store (word_of page (slot_of rsp (m + 1))) (get_or reply (m + 1) 0)) (λ _. stores (slot_place page rsp) (publish_plan page rsp) (m + 1 + 1) (drop (m + 1 + 1) reply)) (answer_head page rsp (m + 1) (m + 1) reply refl long (slot_of rsp (m + 1)) (get_or reply (m + 1) 0) refl refl l))
      (λ l. unfinished_from (answer_rest page rsp (m + 1) reply) (Store (word_of page 2) (next_index rsp)) (λ _. event_plan page rsp) (answer_publishes page rsp (m + 1) (m + 1) reply refl long (omega arith)))
      (cases_lt (m + 1) 16)

  pub answer_stores : (s v : ℕ) → s ≡ slot_of rsp m → v ≡ get_or reply m 0 → m < 16 → Turns (answer_rest page rsp n reply) (Some (access.Store (word_of page s) v)) None (answer_rest page rsp (m + 1) reply)
  answer_stores s v place value h = (
    goes_from (answer_rest page rsp n reply) (Store (word_of page s) v) (λ _. stores (slot_place page rsp) (publish_plan page rsp) (m + 1) (drop (m + 1) reply)) (access.Store (word_of page s) v) (answer_rest page rsp (m + 1) reply) (answer_head page rsp n m reply same long s v place value h) (refl, next_words h),
    unfinished_words h,
  )

  pub answer_told : (v : ℕ) → v ≡ next_index rsp → m ≡ 16 → Turns (answer_rest page rsp n reply) (Some (access.Store (word_of page 2) v)) None (answer_rest page rsp (m + 1) reply)
  answer_told v value h =
      let next : answer_rest page rsp (m + 1) reply ≡ event_plan page rsp = answer_event page rsp (m + 1) (m + 1) reply refl long (omega arith) in (
        goes_from (answer_rest page rsp n reply) (Store (word_of page 2) (next_index rsp)) (λ _. event_plan page rsp) (access.Store (word_of page 2) v) (answer_rest page rsp (m + 1) reply) (answer_publishes page rsp n m reply same long h) (ap (Store (word_of page 2)) value, next),
        unfinished_from (answer_rest page rsp (m + 1) reply) (Load (word_of page 3)) (λ event. Finished (notifies rsp (next_index rsp) event)) next,
      )

  pub answer_ends : (event : ℕ) (b : Bool) (new : Plan Bool) → b ≡ notifies rsp (next_index rsp) event → m ≡ 17 → Turns (answer_rest page rsp n reply) (Some (access.Load (word_of page 3) event)) (Some b) new
  answer_ends event b new told h =
      goes_from (answer_rest page rsp n reply) (Load (word_of page 3)) (λ e. Finished (notifies rsp (next_index rsp) e)) (access.Load (word_of page 3) event) (Finished b) (answer_event page rsp n m reply same long h) (refl, ap Finished told)

-- Sleep: the m-th access
module _ (page : Page) (rsp n m : ℕ) (same : m ≡ n) where
  pub sleep_asks : m ≡ 0 → sleep_rest page rsp n ≡ sleep_plan page rsp
  sleep_asks h =
      let test : (n == 1) ≡ false = grind (arith, nat_tests) in
      ap (λ b. cond b (check_plan page rsp) (sleep_plan page rsp)) test

  pub sleep_checks : m ≡ 1 → sleep_rest page rsp n ≡ check_plan page rsp
  sleep_checks h =
      let test : (n == 1) ≡ true = grind (arith, nat_tests) in
      ap (λ b. cond b (check_plan page rsp) (sleep_plan page rsp)) test

  pub sleep_goes_on : (v : ℕ) → v ≡ next_index rsp → m ≡ 0 → Turns (sleep_rest page rsp n) (Some (access.Store (word_of page 1) v)) None (sleep_rest page rsp 1)
  sleep_goes_on v value h =
      (goes_from (sleep_rest page rsp n) (Store (word_of page 1) (next_index rsp)) (λ _. check_plan page rsp) (access.Store (word_of page 1) v) (sleep_rest page rsp 1) (sleep_asks h) (ap (Store (word_of page 1)) value, refl), tt)

  pub sleep_ends : (prod : ℕ) (b : Bool) (new : Plan Bool) → b ≡ (prod == rsp) → m ≡ 1 → Turns (sleep_rest page rsp n) (Some (access.Load (word_of page 0) prod)) (Some b) new
  sleep_ends prod b new told h =
      goes_from (sleep_rest page rsp n) (Load (word_of page 0)) (λ p. Finished (p == rsp)) (access.Load (word_of page 0) prod) (Finished b) (sleep_checks h) (refl, ap Finished told)
