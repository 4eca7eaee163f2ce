-- Two journals that follow the same statements are the same, where memory wasn't wanting.
use Rattle.std.proofs.Common.{◌≡◌, ℕ, zero, suc, ◌+◌, ◌<◌, inl, inr, if◌then◌else◌, List, [], ◌∷◌, ◌++◌, Option, Some, None, refl, sym, subst, ◌∙◌, ap, append_assoc, arith}
use Rattle.pv_words.specs.declared.access.Access.{Access}
use Rattle.pv_words.specs.declared.access.Access.TheVariants as access
use Rattle.pv_words.specs.declared.device.HostEvent.{HostEvent}
use Rattle.pv_words.specs.declared.device.HostRefusal.{HostRefusal}
use Rattle.pv_words.specs.declared.device.Said.{Said}
use Rattle.pv_words.specs.declared.entry.Entry.{Entry}
use Rattle.pv_words.specs.declared.entry.Entry.TheVariants as entry
use Rattle.pv_words.specs.declared.place.DevId.{DevId}
use Rattle.pv_words.specs.declared.place.DomId.{DomId}
use Rattle.pv_words.specs.declared.place.GrantRef.{GrantRef}
use Rattle.pv_words.specs.declared.setup.DeviceSetup.{DeviceSetup}
use Rattle.pv_words.specs.Memory.{memory_after}
use Rattle.pv_words.specs.Plan.{Plan, Finished, Make, Goes, seen_by, wanted}
use Rattle.pv_words.specs.Sizes.{frames_by, grants_by}
use Rattle.grant_table.specs.declared.owner.Owned.{Owned}
use Rattle.scenario_text.specs.declared.statement.Statement.{Statement}
use Rattle.scenario_text.specs.declared.statement.Statement.TheVariants.{Put, Fill, Swap, Open, End, Node, Bus, Wake, Host, Back, Serve}
use Rattle.device_core.proofs.Single.{found_same}
use Rattle.backend_core.specs.History.{due_by}
use Rattle.backend_core.specs.Marked.{Item, Entered, Idle, AreSteps, accesses_in, entries, host_items, is_access}
use Rattle.backend_core.proofs.Items.{access_first, rest_of}
use Rattle.backend_core.proofs.OneNext.{IsPlain, last_true, none_owed, plain_front, same_made, same_refusal}
use Rattle.pv_world.specs.Owner.{IsDone, Leads, told_items, told_of}
use Rattle.pv_world.specs.World.{IsStepped, front_access}
use Rattle.scenario_run.specs.Follows.{AreSettled, EachDone, Follows, IsRow, opening, closing, rides_in}
use Rattle.scenario_run.specs.Laws.{LegalJournalsAreOne}

-- how the steps of a statement end: at rest, or with the last access that was asked for
data Ending : Type 0 where
  AtRest : Ending
  AtLast : Access → Option Said → Ending

tail_of : DevId → Ending → List Item
tail_of dev AtRest = Idle dev.0 ∷ []
tail_of dev (AtLast a s) = Entered (entry.Back dev a) ∷ rest_of dev s

module _ (frames grants : ℕ → ℕ) (devices : List DeviceSetup) where
  abbrev Plain : List Item → Type 0
  Plain m = IsPlain frames grants devices m

  -- the first of further items may come alone
  first_plain : (m : List Item) (i : Item) (n : List Item) → Plain (m ++ i ∷ n) → Plain (m ++ i ∷ [])
  first_plain m i n h = plain_front frames grants devices (m ++ i ∷ []) n (subst (λ (y : List Item). Plain y) (sym (append_assoc m (i ∷ []) n)) h)

  further_plain : (m : List Item) (i : Item) (n : List Item) → Plain (m ++ i ∷ n) → Plain ((m ++ i ∷ []) ++ n)
  further_plain m i n h = subst (λ (y : List Item). Plain y) (sym (append_assoc m (i ∷ []) n)) h

  -- of a device
  module _ (dev : DevId) (most : Option ℕ) where
    abbrev rides : List Item → Option Said
    rides m = due_by frames grants devices dev.0 m

    -- so many accesses were made before these steps
    abbrev EndsAt : (before : List Item) (made : ℕ) (steps : List Item) → Ending → Type 0
    EndsAt before made steps AtRest = (n : ℕ) → most ≡ Some n → made + accesses_in steps < n
    EndsAt before made steps (AtLast a s) = (most ≡ Some (made + (accesses_in steps + 1))) × (s ≡ rides (before ++ (steps ++ Entered (entry.Back dev a) ∷ [])))

    one_if : Item → ℕ
    one_if i = if is_access i then 1 else 0

    ends_further : (before : List Item) (made : ℕ) (i : Item) (steps : List Item) (e : Ending) → EndsAt before made (i ∷ steps) e → EndsAt (before ++ i ∷ []) (made + one_if i) steps e
    unfolding one_if
    ends_further before made i steps AtRest h = λ n e. let l = h n e in omega (arith, l)
    ends_further before made i steps (AtLast a s) h =
        let counts : made + ((if is_access i then 1 else 0) + accesses_in steps + 1) ≡ (made + (if is_access i then 1 else 0)) + (accesses_in steps + 1) = omega arith in (
          h.0 ∙ ap Some counts,
          h.1 ∙ ap rides (sym (append_assoc before (i ∷ []) (steps ++ Entered (entry.Back dev a) ∷ []))),
        )

    -- both end at once
    same_tails : (before : List Item) (made : ℕ) (e f : Ending) → EndsAt before made [] e → EndsAt before made [] f → Plain (before ++ tail_of dev e) → Plain (before ++ tail_of dev f) → tail_of dev e ≡ tail_of dev f
    unfolding tail_of
    same_tails before made AtRest AtRest h k p q = refl
    same_tails before made AtRest (AtLast a s) h k p q =
        let same = same_made frames grants devices dev.0 before (Idle dev.0) (Entered (entry.Back dev a)) refl refl p (first_plain before (Entered (entry.Back dev a)) (rest_of dev s) q) in
        let wrong : ⊥ = cc in absurd wrong
    same_tails before made (AtLast a s) AtRest h k p q =
        let same = same_made frames grants devices dev.0 before (Entered (entry.Back dev a)) (Idle dev.0) refl refl (first_plain before (Entered (entry.Back dev a)) (rest_of dev s) p) q in
        let wrong : ⊥ = cc in absurd wrong
    same_tails before made (AtLast a s) (AtLast b t) h k p q =
        let same = same_made frames grants devices dev.0 before (Entered (entry.Back dev a)) (Entered (entry.Back dev b)) refl refl (first_plain before (Entered (entry.Back dev a)) (rest_of dev s) p) (first_plain before (Entered (entry.Back dev b)) (rest_of dev t) q) in
        let said : s ≡ t = h.1 ∙ (ap (λ (i : Item). rides (before ++ i ∷ [])) same ∙ sym k.1) in
        ap (λ (i : Item). i ∷ rest_of dev s) same ∙ ap (λ (x : Option Said). Entered (entry.Back dev b) ∷ rest_of dev x) said

    -- one can't end where the other goes on
    counts_apart : (made n : ℕ) (steps : List Item) (before : List Item) (f : Ending) → most ≡ Some (made + 1) → EndsAt before made steps f → accesses_in steps ≡ suc n → ⊥
    counts_apart made n steps before AtRest e h k = let l = h (made + 1) e in omega (arith, l, k)
    counts_apart made n steps before (AtLast a s) e h k =
        let both : Some (made + 1) ≡ Some (made + (accesses_in steps + 1)) = sym e ∙ h.0 in
        let same : made + 1 ≡ made + (accesses_in steps + 1) = cc in
        omega (arith, same, k)

    not_over : (before : List Item) (made : ℕ) (e f : Ending) (x : Entry) (steps : List Item) → EndsAt before made [] e → AreSteps dev.0 (Entered x ∷ steps) → EndsAt before made (Entered x ∷ steps) f → Plain (before ++ tail_of dev e) → Plain (before ++ Entered x ∷ (steps ++ tail_of dev f)) → ⊥
    unfolding tail_of
    not_over before made AtRest f x steps h a k p q =
        let same = same_made frames grants devices dev.0 before (Idle dev.0) (Entered x) refl a.0 p (first_plain before (Entered x) (steps ++ tail_of dev f) q) in
        cc
    not_over before made (AtLast b s) f x steps h a k p q =
        let same : Entered (entry.Back dev b) ≡ Entered x = same_made frames grants devices dev.0 before (Entered (entry.Back dev b)) (Entered x) refl a.0 (first_plain before (Entered (entry.Back dev b)) (rest_of dev s) p) (first_plain before (Entered x) (steps ++ tail_of dev f) q) in
        let counts : accesses_in (Entered x ∷ steps) ≡ suc (accesses_in steps) = ap (λ (i : Item). (if is_access i then 1 else 0) + accesses_in steps) (sym same) ∙ omega arith in
        counts_apart made (accesses_in steps) (Entered x ∷ steps) before f h.0 k counts

    same_steps : (before : List Item) (made : ℕ) (ss ts : List Item) (e f : Ending) → AreSteps dev.0 ss → AreSteps dev.0 ts → EndsAt before made ss e → EndsAt before made ts f → Plain (before ++ (ss ++ tail_of dev e)) → Plain (before ++ (ts ++ tail_of dev f)) → ss ++ tail_of dev e ≡ ts ++ tail_of dev f
    same_steps before made [] [] e f a b h k p q = same_tails before made e f h k p q
    same_steps before made [] (Entered y ∷ ts) e f a b h k p q = absurd (not_over before made e f y ts h b k p q)
    same_steps before made (Entered x ∷ ss) [] e f a b h k p q = absurd (not_over before made f e x ss k a h q p)
    same_steps before made (Entered x ∷ ss) (Entered y ∷ ts) e f a b h k p q =
        let same : Entered x ≡ Entered y = same_made frames grants devices dev.0 before (Entered x) (Entered y) a.0 b.0 (first_plain before (Entered x) (ss ++ tail_of dev e) p) (first_plain before (Entered y) (ts ++ tail_of dev f) q) in
        let later : List Item = before ++ Entered x ∷ [] in
        let k' = subst (λ (i : Item). EndsAt (before ++ i ∷ []) (made + one_if i) ts f) (sym same) (ends_further before made (Entered y) ts f k) in
        let q' = subst (λ (i : Item). Plain ((before ++ i ∷ []) ++ (ts ++ tail_of dev f))) (sym same) (further_plain before (Entered y) (ts ++ tail_of dev f) q) in
        ap (λ (i : Item). i ∷ (ss ++ tail_of dev e)) same
        ∙ ap (λ (m : List Item). Entered y ∷ m) (same_steps later (made + one_if (Entered x)) ss ts e f a.1 b.1 (ends_further before made (Entered x) ss e h) k' (further_plain before (Entered x) (ss ++ tail_of dev e) p) q')
    same_steps before made (Idle d ∷ ss) ts e f a b h k p q = absurd a
    same_steps before made [] (Idle d ∷ ts) e f a b h k p q = absurd b
    same_steps before made (Entered x ∷ ss) (Idle d ∷ ts) e f a b h k p q = absurd b

    -- steps of a device, as they end
    record Stepped (before here : List Item) : Type 0 where
      steps : List Item
      ending : Ending
      are_steps : AreSteps dev.0 steps
      ends : EndsAt before 0 steps ending
      is : here ≡ steps ++ tail_of dev ending

    stepped_as : (before here : List Item) → IsStepped (λ x. rides (before ++ x)) dev most here → Stepped before here
    unfolding tail_of
    stepped_as before here (inl h) = record { steps = h.steps; ending = AtRest; are_steps = h.are_steps; ends = λ n e. let l = h.fewer n e in omega (arith, l); is = h.rests }
    stepped_as before here (inr h) =
        let none_before : accesses_in h.steps + 1 ≡ 0 + (accesses_in h.steps + 1) = omega arith in
        record {
          steps = h.steps;
          ending = AtLast h.last h.said;
          are_steps = h.are_steps;
          ends = (h.all ∙ ap Some none_before, h.rides);
          is = h.ends ∙ ap (λ (x : List Item). h.steps ++ x) (access_first dev h.last (Some h.last) h.said refl);
        }

    same_stepped : (before h k : List Item) → IsStepped (λ x. rides (before ++ x)) dev most h → IsStepped (λ x. rides (before ++ x)) dev most k → Plain (before ++ h) → Plain (before ++ k) → h ≡ k
    same_stepped before h k a b p q =
        let x = stepped_as before h a in
        let y = stepped_as before k b in
        x.is
        ∙ same_steps before 0 x.steps y.steps x.ending y.ending x.are_steps y.are_steps x.ends y.ends (subst (λ (m : List Item). Plain (before ++ m)) x.is p) (subst (λ (m : List Item). Plain (before ++ m)) y.is q)
        ∙ sym y.is

  -- accesses of a domain
  same_front : (m : List Item) (a b : Access) → wanted a ≡ wanted b → Plain (m ++ front_access a ∷ []) → Plain (m ++ front_access b ∷ []) → a ≡ b
  same_front m a b e p q =
      found_same (memory_after (entries m)) a b e (last_true frames grants devices m _ p.history).1 (last_true frames grants devices m _ q.history).1

  -- one access of a plan
  same_goes : (m : List Item) (p k l : Plan Owned) (a b : Access) → Goes p a k → Goes p b l → Plain (m ++ front_access a ∷ []) → Plain (m ++ front_access b ∷ []) → (a ≡ b) × (k ≡ l)
  same_goes m (Finished x) k l a b g h p q = absurd g
  same_goes m (Make want note more) k l a b g h p q =
      let same = same_front m a b (g.0 ∙ sym h.0) p q in
      (same, g.1 ∙ (ap (λ (x : Access). more (seen_by x)) same ∙ sym h.1))

  over : (p k : Plan Owned) (x : Owned) (a : Access) → p ≡ Finished x → Goes p a k → ⊥
  over p k x a e g = subst (λ (y : Plan Owned). Goes y a k) e g

  same_leads : (before : List Item) (p : Plan Owned) (ms ns later other : List Item) (x y : Owned) → Leads p ms (Finished x) → Leads p ns (Finished y) → Plain (before ++ (ms ++ later)) → Plain (before ++ (ns ++ other)) → (ms ≡ ns) × (x ≡ y)
  same_leads before p [] [] later other x y g h a b =
      let both : Finished x ≡ Finished y = sym g ∙ h in
      let same : x ≡ y = cc in
      (refl, same)
  same_leads before p [] (j ∷ ns) later other x y g h a b = absurd (over p h.1 x h.0 g h.3)
  same_leads before p (i ∷ ms) [] later other x y g h a b = absurd (over p g.1 y g.0 h g.3)
  same_leads before p (i ∷ ms) (j ∷ ns) later other x y g h a b =
      let a' = subst (λ (z : Item). Plain (before ++ z ∷ (ms ++ later))) g.2 a in
      let b' = subst (λ (z : Item). Plain (before ++ z ∷ (ns ++ other))) h.2 b in
      let one = same_goes before p g.1 h.1 g.0 h.0 g.3 h.3 (first_plain before (front_access g.0) (ms ++ later) a') (first_plain before (front_access h.0) (ns ++ other) b') in
      let item : i ≡ j = g.2 ∙ (ap front_access one.0 ∙ sym h.2) in
      let rest = same_leads (before ++ i ∷ []) g.1 ms ns later other x y g.4 (subst (λ (q : Plan Owned). Leads q ns (Finished y)) (sym one.1) h.4) (further_plain before i (ms ++ later) a) (subst (λ (z : Item). Plain ((before ++ z ∷ []) ++ (ns ++ other))) (sym item) (further_plain before j (ns ++ other) b)) in
      (ap (λ (z : Item). z ∷ ms) item ∙ ap (λ (m : List Item). j ∷ m) rest.0, rest.1)

  same_owned : (dom : DomId) (gref : GrantRef) (plan : Plan Owned) (before h k : List Item) → IsDone dom gref plan h → IsDone dom gref plan k → Plain (before ++ h) → Plain (before ++ k) → h ≡ k
  same_owned dom gref plan before h k a b p q =
      let both = same_leads before plan a.made b.made (told_items dom (told_of gref a.owned)) (told_items dom (told_of gref b.owned)) a.owned b.owned a.leads b.leads (subst (λ (m : List Item). Plain (before ++ m)) a.then_told p) (subst (λ (m : List Item). Plain (before ++ m)) b.then_told q) in
      a.then_told
      ∙ (ap (λ (m : List Item). m ++ told_items dom (told_of gref a.owned)) both.0 ∙ (ap (λ (o : Owned). b.made ++ told_items dom (told_of gref o)) both.1 ∙ sym b.then_told))

  same_each : (dom : DomId) (gref : GrantRef) (plans : ℕ → Plan Owned) (n : ℕ) (before h k : List Item) → EachDone dom gref plans n h → EachDone dom gref plans n k → Plain (before ++ h) → Plain (before ++ k) → h ≡ k
  same_each dom gref plans zero before h k a b p q = a ∙ sym b
  same_each dom gref plans (suc n) before h k a b p q =
      let p' = subst (λ (m : List Item). Plain m) (ap (λ (m : List Item). before ++ m) a.2 ∙ sym (append_assoc before a.0 a.1)) p in
      let q' = subst (λ (m : List Item). Plain m) (ap (λ (m : List Item). before ++ m) b.2 ∙ sym (append_assoc before b.0 b.1)) q in
      let front = same_each dom gref plans n before a.0 b.0 a.3 b.3 (plain_front frames grants devices (before ++ a.0) a.1 p') (plain_front frames grants devices (before ++ b.0) b.1 q') in
      let last = same_owned dom (record { 0 = gref.0 + n }) (plans n) (before ++ a.0) a.1 b.1 a.4 b.4 p' (subst (λ (m : List Item). Plain ((before ++ m) ++ b.1)) (sym front) q') in
      a.2 ∙ (ap (λ (m : List Item). m ++ a.1) front ∙ (ap (λ (m : List Item). b.0 ++ m) last ∙ sym b.2))

  -- a device answers an event of its host in one way
  same_answer : (dev : DevId) (e : HostEvent) (before : List Item) (x y : Option HostRefusal) → AreSettled frames grants devices (before ++ host_items dev e x) → AreSettled frames grants devices (before ++ host_items dev e y) → Plain (before ++ host_items dev e x) → Plain (before ++ host_items dev e y) → x ≡ y
  same_answer dev e before None None c d p q = refl
  same_answer dev e before (Some x) None c d p q =
      absurd (none_owed frames grants devices (before ++ Entered (entry.Host dev e) ∷ []) dev x d (further_plain before (Entered (entry.Host dev e)) (Entered (entry.Refused dev x) ∷ []) p).history)
  same_answer dev e before None (Some y) c d p q =
      absurd (none_owed frames grants devices (before ++ Entered (entry.Host dev e) ∷ []) dev y c (further_plain before (Entered (entry.Host dev e)) (Entered (entry.Refused dev y) ∷ []) q).history)
  same_answer dev e before (Some x) (Some y) c d p q =
      ap Some (same_refusal frames grants devices (before ++ Entered (entry.Host dev e) ∷ []) dev x y (further_plain before (Entered (entry.Host dev e)) (Entered (entry.Refused dev x) ∷ []) p).history (further_plain before (Entered (entry.Host dev e)) (Entered (entry.Refused dev y) ∷ []) q).history)

  -- the entries of one statement
  same_row : (s : Statement) (before h k : List Item) → IsRow (rides_in frames grants devices before) s h → IsRow (rides_in frames grants devices before) s k → AreSettled frames grants devices (before ++ h) → AreSettled frames grants devices (before ++ k) → Plain (before ++ h) → Plain (before ++ k) → h ≡ k
  same_row (Put at v) before h k a b c d p q = a ∙ sym b
  same_row (Fill f) before h k a b c d p q = a ∙ sym b
  same_row (Swap at old new) before h k a b c d p q =
      let p' = subst (λ (m : List Item). Plain (before ++ m)) a.1 p in
      let q' = subst (λ (m : List Item). Plain (before ++ m)) b.1 q in
      a.1 ∙ (ap (λ (x : Access). front_access x ∷ []) (same_front before (access.Cas at old new a.0) (access.Cas at old new b.0) refl p' q') ∙ sym b.1)
  same_row (Open o) before h k a b c d p q = same_each o.dom o.gref (opening o) o.count before h k a b p q
  same_row (End e) before h k a b c d p q = same_each e.dom e.gref (closing e) e.count before h k a b p q
  same_row (Node dev part key v) before h k a b c d p q = a ∙ sym b
  same_row (Bus dev state) before h k a b c d p q = a ∙ sym b
  same_row (Wake dev) before h k a b c d p q = a ∙ sym b
  same_row (Host dev e) before h k a b c d p q =
      let settled = λ (m : List Item). AreSettled frames grants devices (before ++ m) in
      let plain = λ (m : List Item). Plain (before ++ m) in
      let same = same_answer dev e before a.0 b.0 (subst settled a.1 c) (subst settled b.1 d) (subst plain a.1 p) (subst plain b.1 q) in
      a.1 ∙ (ap (host_items dev e) same ∙ sym b.1)
  same_row (Back dev count) before h k a b c d p q = same_stepped dev (Some count) before h k a b p q
  same_row (Serve dev) before h k a b c d p q = same_stepped dev None before h k a b p q

  -- and of all statements
  same_follows : (ss : List Statement) (before m n : List Item) → Follows frames grants devices ss before m → Follows frames grants devices ss before n → Plain (before ++ m) → Plain (before ++ n) → m ≡ n
  same_follows [] before m n a b p q = a ∙ sym b
  same_follows (s ∷ ss) before m n a b p q =
      let p' = subst (λ (x : List Item). Plain x) (ap (λ (x : List Item). before ++ x) a.2 ∙ sym (append_assoc before a.0 a.1)) p in
      let q' = subst (λ (x : List Item). Plain x) (ap (λ (x : List Item). before ++ x) b.2 ∙ sym (append_assoc before b.0 b.1)) q in
      let here = same_row s before a.0 b.0 a.3 b.3 a.4 b.4 (plain_front frames grants devices (before ++ a.0) a.1 p') (plain_front frames grants devices (before ++ b.0) b.1 q') in
      let rest = same_follows ss (before ++ a.0) a.1 b.1 a.5 (subst (λ (x : List Item). Follows frames grants devices ss (before ++ x) b.1) (sym here) b.5) p' (subst (λ (x : List Item). Plain ((before ++ x) ++ b.1)) (sym here) q') in
      a.2 ∙ (ap (λ (x : List Item). x ++ a.1) here ∙ (ap (λ (x : List Item). b.0 ++ x) rest ∙ sym b.2))

pub legal_journals_are_one : LegalJournalsAreOne
legal_journals_are_one s es fs a b ample also =
    let f = frames_by s.sizes in
    let g = grants_by s.sizes in
    let p : IsPlain f g s.devices a.marked = record { history = a.so_far.history; ample = ample } in
    let q : IsPlain f g s.devices b.marked = record { history = b.so_far.history; ample = also } in
    sym a.so_far.entered ∙ (ap entries (same_follows f g s.devices s.statements [] a.marked b.marked a.follows b.follows p q) ∙ b.so_far.entered)
