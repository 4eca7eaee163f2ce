-- From single steps to a device that is served.
use Rattle.std.proofs.Common.{◌≡◌, ◌≢◌, ℕ, nat_eq, ◌+◌, ◌<◌, ◌≤◌, inl, inr, Bool, true, false, List, [], ◌∷◌, ◌++◌, Option, Some, None, Result, Ok, Err, sym, subst, ◌∙◌, ap, append_assoc, append-nil, length, refl, arith}
use Rattle.std.proofs.lemmas.Bool.Decides.{nat_tests}
use Rattle.std.specs.Option.{option_eq}
use Rattle.pv_words.specs.declared.access.Access.{Access}
use Rattle.pv_words.specs.declared.entry.Entry.{Entry}
use Rattle.pv_words.specs.declared.entry.Entry.TheVariants as entry
use Rattle.pv_words.specs.declared.journal.Stop.{Stop}
use Rattle.pv_words.specs.declared.journal.Stop.TheVariants.{JournalFull, OutOfMemory}
use Rattle.pv_words.specs.declared.place.DevId.{DevId}
use Rattle.pv_words.specs.declared.device.Said.{Said}
use Rattle.pv_words.specs.declared.setup.DeviceSetup.{DeviceSetup}
use Rattle.pv_world.specs.declared.world.Placed.{Placed}
use Rattle.backend_core.specs.History.{due_by}
use Rattle.backend_core.specs.Marked.{Item, Entered, Idle, entries, items_of, accesses_in, AreSteps, progress}
use Rattle.pv_world.specs.Record.{Records}
use Rattle.pv_world.specs.World.{Sight, Stands, StopsIn, Lacks, AtMost, Advanced, Rides, SteppedBy, setups}
use Rattle.backend_core.proofs.Items.{entries_append, busy_steps, idle_mark, one_access, no_access, most_one, front_steps, steps_append, counts_append}

-- a number that was asked for
pub all_asked : (most : Option ℕ) (n : ℕ) → option_eq nat_eq most (Some n) ≡ true → most ≡ Some n
all_asked None n e = let wrong : ⊥ = cc in absurd wrong
all_asked (Some k) n e = let same : k ≡ n = grind (arith, nat_tests) in ap (λ x. Some x) same

pub fewer_still : (most : Option ℕ) (made : ℕ) → ((n : ℕ) → most ≡ Some n → made < n) → option_eq nat_eq most (Some (made + 1)) ≡ false → (n : ℕ) → most ≡ Some n → made + 1 < n
fewer_still None made f e n h = let wrong : ⊥ = cc in absurd wrong
fewer_still (Some k) made f e n h =
    let l = f k refl in
    let same : k ≡ n = cc in
    let apart : k ≢ made + 1 = grind (arith, nat_tests) in
    omega (arith, l, same, apart)

module _ {W : Type 0} (g : Sight W) (frames grants : ℕ → ℕ) where
  -- what was entered of a step, and what the world stands for after it
  pub recorded : (memory : W) (devices : List Placed) (dev : DevId) (a : Option Access) (s : Option Said) (old new : List Entry) (m : List Item) (result : Result (Option Bool) Stop) → Stands g frames grants memory devices (m ++ items_of dev a s) → entries m ≡ old → Records (items_of dev a s) a s old new result → Rides frames grants (setups devices) dev m a s → Advanced g frames grants memory devices dev new m result
  recorded memory devices dev a s old new m (Ok did) st e r d =
      (a, s, r.1, st, entries_append m (items_of dev a s) ∙ (ap (λ (x : List Entry). x ++ entries (items_of dev a s)) e ∙ sym r.0), d)
  recorded memory devices dev a s old new m (Err stop) st e r d =
      let few = most_one dev a s in
      let all = ap accesses_in r.split in
      record {
        here = r.done;
        due = Entered r.due ∷ r.rest;
        steps = front_steps dev a s r.done r.due r.rest r.split;
        within = omega (arith, all, few);
        stands = subst (λ (x : List Item). Stands g frames grants memory devices (m ++ x)) r.split st;
        entered = entries_append m r.done ∙ (ap (λ (x : List Entry). x ++ entries r.done) e ∙ sym r.entered);
        cause = subst (λ (x : Stop). Lacks (λ y. due_by frames grants (setups devices) dev.0 (m ++ y)) x dev r.done (Entered r.due ∷ r.rest) new) (sym r.full) (
          r.limit,
          record { before = []; front = r.done; access = a; said = s; behind = refl; one_step = r.split; ride = d; further = r.due; later = r.rest; due_is = refl },
        );
      }

  -- memory was wanting before it
  pub wanting : (memory : W) (devices : List Placed) (dev : DevId) (stop : Stop) (old new : List Entry) (m : List Item) → Stands g frames grants memory devices m → entries m ≡ old → new ≡ old → stop ≡ OutOfMemory → length new < 8388608 → StopsIn g frames grants memory devices dev (Some 1) stop m new
  wanting memory devices dev stop old new m st e same why below =
      record {
        here = [];
        due = [];
        steps = tt;
        within = omega arith;
        stands = subst (λ (x : List Item). Stands g frames grants memory devices x) (sym (append-nil m)) st;
        entered = ap entries (append-nil m) ∙ (e ∙ sym same);
        cause = subst (λ (x : Stop). Lacks (λ y. due_by frames grants (setups devices) dev.0 (m ++ y)) x dev [] [] new) (sym why) (below, refl);
      }

  -- steps of a device, with so many accesses, led here
  pub record HasStepped (memory : W) (devices : List Placed) (d made : ℕ) (es : List Entry) (m : List Item) : Type 0 where
    pub here : List Item
    pub steps : AreSteps d here
    pub counted : accesses_in here ≡ made
    pub stands : Stands g frames grants memory devices (m ++ here)
    pub entered : entries (m ++ here) ≡ es

  -- one step more
  stepped_more : (later : W) (devices then : List Placed) (memory : W) (dev : DevId) (made : ℕ) (b : Bool) (es new : List Entry) (m : List Item) (h : HasStepped memory devices dev.0 made es m) (a : Option Access) (s : Option Said) (n : ℕ) → Some b ≡ progress a s → accesses_in (items_of dev a s) ≡ n → Stands g frames grants later then ((m ++ h.here) ++ items_of dev a s) → entries ((m ++ h.here) ++ items_of dev a s) ≡ new → HasStepped later then dev.0 (made + n) new m
  stepped_more later devices then memory dev made b es new m h a s n p counts st e =
      let joined : (m ++ h.here) ++ items_of dev a s ≡ m ++ (h.here ++ items_of dev a s) = append_assoc m h.here (items_of dev a s) in
      let sum = counts_append h.here (items_of dev a s) in
      let so_far = h.counted in
      record {
        here = h.here ++ items_of dev a s;
        steps = steps_append dev.0 h.here (items_of dev a s) h.steps (busy_steps dev a s b p);
        counted = omega (arith, sum, so_far, counts);
        stands = subst (λ (x : List Item). Stands g frames grants later then x) joined st;
        entered = subst (λ (x : List Item). entries x ≡ new) joined e;
      }

  pub accessed : (memory later : W) (devices then : List Placed) (dev : DevId) (made : ℕ) (es new : List Entry) (m : List Item) → HasStepped memory devices dev.0 made es m → ((n : List Item) → Stands g frames grants memory devices n → entries n ≡ es → Advanced g frames grants later then dev new n (Ok (Some true))) → HasStepped later then dev.0 (made + 1) new m
  accessed memory later devices then dev made es new m h f =
      let x = f (m ++ h.here) h.stands h.entered in
      stepped_more later devices then memory dev made true es new m h x.0 x.1 1 x.2 (one_access dev x.0 x.1 x.2).2 x.3 x.4

  pub said_more : (memory later : W) (devices then : List Placed) (dev : DevId) (made : ℕ) (es new : List Entry) (m : List Item) → HasStepped memory devices dev.0 made es m → ((n : List Item) → Stands g frames grants memory devices n → entries n ≡ es → Advanced g frames grants later then dev new n (Ok (Some false))) → HasStepped later then dev.0 made new m
  said_more memory later devices then dev made es new m h f =
      let x = f (m ++ h.here) h.stands h.entered in
      let y = stepped_more later devices then memory dev made false es new m h x.0 x.1 0 x.2 (no_access dev x.0 x.1 x.2) x.3 x.4 in
      let same : made + 0 ≡ made = omega arith in
      subst (λ n. HasStepped later then dev.0 n new m) same y

  -- the device came to rest
  pub rested : {A : Type 0} (u : A) (memory later : W) (devices then : List Placed) (dev : DevId) (most : Option ℕ) (made : ℕ) (es new : List Entry) (m : List Item) → ((n : ℕ) → most ≡ Some n → made < n) → HasStepped memory devices dev.0 made es m → ((n : List Item) → Stands g frames grants memory devices n → entries n ≡ es → Advanced g frames grants later then dev new n (Ok None)) → SteppedBy g frames grants later then dev most new m (Ok u)
  rested u memory later devices then dev most made es new m fewer h f =
      let x = f (m ++ h.here) h.stands h.entered in
      let mark = idle_mark dev x.0 x.1 x.2 in
      let joined : (m ++ h.here) ++ items_of dev x.0 x.1 ≡ m ++ (h.here ++ Idle dev.0 ∷ []) = append_assoc m h.here (items_of dev x.0 x.1) ∙ ap (λ (y : List Item). m ++ (h.here ++ y)) mark in (
        h.here ++ Idle dev.0 ∷ [],
        inl (record { steps = h.here; are_steps = h.steps; rests = refl; fewer = λ n e. subst (λ k. k < n) (sym h.counted) (fewer n e) }),
        subst (λ (y : List Item). Stands g frames grants later then y) joined x.3,
        subst (λ (y : List Item). entries y ≡ new) joined x.4,
      )

  -- it made all accesses that were asked for
  pub made_all : {A : Type 0} (u : A) (memory later : W) (devices then : List Placed) (dev : DevId) (most : Option ℕ) (made : ℕ) (es new : List Entry) (m : List Item) → most ≡ Some (made + 1) → HasStepped memory devices dev.0 made es m → ((n : List Item) → Stands g frames grants memory devices n → entries n ≡ es → Advanced g frames grants later then dev new n (Ok (Some true))) → SteppedBy g frames grants later then dev most new m (Ok u)
  made_all u memory later devices then dev most made es new m all h f =
      let x = f (m ++ h.here) h.stands h.entered in
      let one = one_access dev x.0 x.1 x.2 in
      let made : List Item = Entered (entry.Back dev one.0) ∷ [] in
      let behind : (m ++ h.here) ++ made ≡ m ++ (h.here ++ made) = append_assoc m h.here made in
      let rides : x.1 ≡ due_by frames grants (setups then) dev.0 (m ++ (h.here ++ made)) = x.5 one.0 one.1 ∙ ap (λ (y : List Item). due_by frames grants (setups then) dev.0 y) behind in
      let joined : (m ++ h.here) ++ items_of dev x.0 x.1 ≡ m ++ (h.here ++ items_of dev (Some one.0) x.1) = append_assoc m h.here (items_of dev x.0 x.1) ∙ ap (λ (y : Option Access). m ++ (h.here ++ items_of dev y x.1)) one.1 in (
        h.here ++ items_of dev (Some one.0) x.1,
        inr (record { steps = h.here; last = one.0; said = x.1; are_steps = h.steps; ends = refl; rides = rides; all = all ∙ ap (λ n. Some (n + 1)) (sym h.counted) }),
        subst (λ (y : List Item). Stands g frames grants later then y) joined x.3,
        subst (λ (y : List Item). entries y ≡ new) joined x.4,
      )

  within_most : (most : Option ℕ) (n k : ℕ) → ((j : ℕ) → most ≡ Some j → n < j) → k ≤ n + 1 → AtMost most k
  within_most None n k f h = tt
  within_most (Some j) n k f h = let l = f j refl in omega (arith, l, h)

  -- what was cut behind some items was cut behind those before it, too
  lacks_later : (devices : List DeviceSetup) (dev : DevId) (stop : Stop) (m first here due : List Item) (es : List Entry) → Lacks (λ y. due_by frames grants devices dev.0 ((m ++ first) ++ y)) stop dev here due es → Lacks (λ y. due_by frames grants devices dev.0 (m ++ y)) stop dev (first ++ here) due es
  lacks_later devices dev JournalFull m first here due es h =
      let cut = h.1 in (
        h.0,
        record {
          before = first ++ cut.before;
          front = cut.front;
          access = cut.access;
          said = cut.said;
          behind = ap (λ (y : List Item). first ++ y) cut.behind ∙ sym (append_assoc first cut.before cut.front);
          one_step = cut.one_step;
          ride = λ a made.
              let last : List Item = Entered (entry.Back dev a) ∷ [] in
              cut.ride a made ∙ ap (due_by frames grants devices dev.0) (append_assoc m first (cut.before ++ last) ∙ ap (λ (y : List Item). m ++ y) (sym (append_assoc first cut.before last)));
          further = cut.further;
          later = cut.later;
          due_is = cut.due_is;
        },
      )
  lacks_later devices dev OutOfMemory m first here due es h = h

  -- it was stopped, after some steps that weren't
  pub stopped : (memory later : W) (devices then : List Placed) (dev : DevId) (most : Option ℕ) (made : ℕ) (stop : Stop) (es new : List Entry) (m : List Item) → ((n : ℕ) → most ≡ Some n → made < n) → HasStepped memory devices dev.0 made es m → ((n : List Item) → Stands g frames grants memory devices n → entries n ≡ es → StopsIn g frames grants later then dev (Some 1) stop n new) → StopsIn g frames grants later then dev most stop m new
  stopped memory later devices then dev most made stop es new m fewer h f =
      let x = f (m ++ h.here) h.stands h.entered in
      let joined : (m ++ h.here) ++ x.here ≡ m ++ (h.here ++ x.here) = append_assoc m h.here x.here in
      let all : (h.here ++ x.here) ++ x.due ≡ h.here ++ (x.here ++ x.due) = append_assoc h.here x.here x.due in
      let sum = counts_append h.here (x.here ++ x.due) in
      let so_far = h.counted in
      let one = x.within in
      record {
        here = h.here ++ x.here;
        due = x.due;
        steps = subst (λ (y : List Item). AreSteps dev.0 y) (sym all) (steps_append dev.0 h.here (x.here ++ x.due) h.steps x.steps);
        within = subst (λ (y : List Item). AtMost most (accesses_in y)) (sym all) (within_most most made (accesses_in (h.here ++ (x.here ++ x.due))) fewer (omega (arith, sum, so_far, one)));
        stands = subst (λ (y : List Item). Stands g frames grants later then y) (append_assoc m h.here (x.here ++ x.due) ∙ ap (λ (y : List Item). m ++ y) (sym all)) x.stands;
        entered = subst (λ (y : List Item). entries y ≡ new) joined x.entered;
        cause = lacks_later (setups then) dev stop m h.here x.here x.due new x.cause;
      }
