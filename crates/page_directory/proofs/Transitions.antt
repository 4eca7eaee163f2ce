-- What each step of a walk leads to.
use Rattle.std.proofs.Common.{◌≡◌, ℕ, zero, suc, ◌+◌, ◌-◌, ◌<◌, ◌≤◌, ◌≢◌, ◌==◌, Bool, true, false, cond, nat_lt, List, [], ◌∷◌, ◌++◌, length, drop, Some, None, Result, Err, refl, sym, subst, ap, ◌∙◌, arith, length-drop}
use Rattle.std.proofs.lemmas.Bool.Decides.{nat_tests}
use Rattle.std.proofs.lemmas.List.{drop_all}
use Rattle.std.specs.List.{insert}
use Rattle.pv_words.specs.declared.access.Access.{Access}
use Rattle.pv_words.specs.declared.access.Access.TheVariants as access
use Rattle.pv_words.specs.declared.grant.Hold.{Hold}
use Rattle.pv_words.specs.declared.grant.Mode.{Mode}
use Rattle.pv_words.specs.declared.grant.Mode.TheVariants.{Read}
use Rattle.pv_words.specs.declared.grant.GrantRefusal.{GrantRefusal}
use Rattle.pv_words.specs.declared.grant.GrantRefusal.TheVariants.{NoEntry, NoNext}
use Rattle.pv_words.specs.Plan.{Plan, Finished, Make, Want, Note, Load, Plain, Ends, Goes, IsUnfinished, wanted, seen_by}
use Rattle.pv_words.specs.Mapping.{map_plan, flags_plan, unmap_want}
use Rattle.page_directory.specs.declared.walk.Walked.{Walked}
use Rattle.page_directory.specs.declared.walk.Walked.TheVariants.{Pages, Refused}
use Rattle.pv_words.specs.Plan.{joined}
use Rattle.page_directory.specs.Joins.{Leads, TurnsOrEnds}
use Rattle.page_directory.specs.Walking.{per_page, word_in, undo_plan, with_map, entry_plan, enter_plan, leave_plan, with_next, next_plan, rest_plan, walk_plan}
use Rattle.page_directory.specs.WalkLeft.{entered}
use Rattle.page_directory.proofs.Plans.{undo_unfinished}
use Rattle.page_directory.proofs.Helds.{length_insert}

goes_first : {A : Type 0} (p : Plan A) (want : Want) (note : Note) (more : ℕ → Plan A) (a : Access) (new : Plan A) → p ≡ Make want note more → wanted a ≡ want → new ≡ more (seen_by a) → Goes p a new
goes_first {A} p want note more a new e w n = subst (λ (q : Plan A). Goes q a new) (sym e) (w, n)

-- a page is unmapped again, and another is left
pub undo_turns : (pages : List Hold) (i : ℕ) (h : Hold) (r : GrantRefusal) (a : Access) → drop i pages ≡ h ∷ drop (i + 1) pages → i + 1 < length pages → wanted a ≡ unmap_want h → TurnsOrEnds (undo_plan (drop i pages) r) (Some a) None (undo_plan (drop (i + 1) pages) r)
undo_turns pages i h r a e l w =
    (goes_first (undo_plan (drop i pages) r) (unmap_want h) (Ends h) (λ _. undo_plan (drop (i + 1) pages) r) a (undo_plan (drop (i + 1) pages) r) (ap (λ hs. undo_plan hs r) e) w refl, undo_unfinished (drop (i + 1) pages) r (omega (arith, length-drop (i + 1) pages, l)))

-- the last page is unmapped again
pub undo_ends : (pages : List Hold) (i : ℕ) (h : Hold) (r : GrantRefusal) (a : Access) (new : Plan Walked) → drop i pages ≡ h ∷ drop (i + 1) pages → length pages ≤ i + 1 → wanted a ≡ unmap_want h → TurnsOrEnds (undo_plan (drop i pages) r) (Some a) (Some (Refused r)) new
undo_ends pages i h r a new e l w =
    goes_first (undo_plan (drop i pages) r) (unmap_want h) (Ends h) (λ _. undo_plan (drop (i + 1) pages) r) a (Finished (Refused r)) (ap (λ hs. undo_plan hs r) e) w (sym (ap (λ hs. undo_plan hs r) (drop_all (i + 1) pages l)))

module _ (frames grants dom : ℕ) (mode : Mode) where
  entry_comes : (b : Bool) (gref : ℕ) (m : Mode) (held : List Hold) (next : Hold → Plan Walked) → 0 < length held → IsUnfinished (joined (cond b (flags_plan frames dom gref m) (Finished (Err (NoEntry gref)))) (with_map held next))
  entry_comes true gref m held next n = tt
  entry_comes false gref m held next n = undo_unfinished held (NoEntry gref) n

  -- a map, where pages are held: an access comes next, also where the domain has no such entry
  map_unfinished : (gref : ℕ) (m : Mode) (held : List Hold) (next : Hold → Plan Walked) (p : Plan (Result Hold GrantRefusal)) → p ≡ map_plan frames grants dom gref m → 0 < length held → IsUnfinished (joined p (with_map held next))
  map_unfinished gref m held next p e n =
      subst (λ (q : Plan (Result Hold GrantRefusal)). IsUnfinished (joined q (with_map held next))) (sym e) (entry_comes (nat_lt gref grants) gref m held next n)

  pub entry_head : (next : List Hold → Plan Walked) (d : Hold) (begins : ℕ) (pages : List Hold) (word : ℕ) (old : Plan Walked) → old ≡ entry_plan frames grants dom mode next d begins pages → word ≡ length pages - begins + 1 → old ≡ Make (Load (word_in d word)) Plain (λ gref. joined (map_plan frames grants dom gref mode) (with_map (insert pages begins d) (λ h. next (pages ++ h ∷ []))))
  entry_head next d begins pages word old e w =
      e ∙ ap (λ k. Make (Load (word_in d k)) Plain (λ gref. joined (map_plan frames grants dom gref mode) (with_map (insert pages begins d) (λ h. next (pages ++ h ∷ []))))) (sym w)

  pub entry_turns : (next : List Hold → Plan Walked) (d : Hold) (begins : ℕ) (pages : List Hold) (word v : ℕ) (old : Plan Walked) (p : Plan (Result Hold GrantRefusal)) → old ≡ entry_plan frames grants dom mode next d begins pages → word ≡ length pages - begins + 1 → p ≡ map_plan frames grants dom v mode → begins ≤ length pages → TurnsOrEnds old (Some (access.Load (word_in d word) v)) None (joined p (with_map (insert pages begins d) (λ h. next (pages ++ h ∷ []))))
  entry_turns next d begins pages word v old p e w m l =
      let then : Hold → Plan Walked = λ h. next (pages ++ h ∷ []) in (
        goes_first old (Load (word_in d word)) Plain (λ gref. joined (map_plan frames grants dom gref mode) (with_map (insert pages begins d) then)) (access.Load (word_in d word) v) (joined p (with_map (insert pages begins d) then)) (entry_head next d begins pages word old e w) refl (ap (λ (q : Plan (Result Hold GrantRefusal)). joined q (with_map (insert pages begins d) then)) m),
        map_unfinished v mode (insert pages begins d) then p m (omega (arith, length_insert pages begins d l)),
      )

  -- the first reference of a directory page, where the number of pages is known under two names
  pub entered_as : (more : ℕ) (d : Hold) (begins : ℕ) (pages : List Hold) → begins ≡ length pages → entry_plan frames grants dom mode (rest_plan frames grants dom mode more d begins) d begins pages ≡ entered frames grants dom mode more pages d
  entered_as more d begins pages e = ap (λ b. entry_plan frames grants dom mode (rest_plan frames grants dom mode more d b) d b pages) e

  pub rest_unfinished : (more : ℕ) (d : Hold) (begins : ℕ) (pages : List Hold) → IsUnfinished (rest_plan frames grants dom mode more d begins pages)
  unfolding rest_plan
  rest_unfinished zero d begins pages = tt
  rest_unfinished (suc n) d begins pages = by_room (nat_lt (length pages - begins) per_page)
    where
      by_room : (b : Bool) → IsUnfinished (cond b (entry_plan frames grants dom mode (rest_plan frames grants dom mode n d begins) d begins pages) (next_plan d begins pages (λ gref. enter_plan frames grants dom mode (rest_plan frames grants dom mode n) gref pages)))
      by_room true = tt
      by_room false = tt

  pub rest_leaves : (more : ℕ) (d : Hold) (begins : ℕ) (pages : List Hold) → more ≡ 0 → leave_plan d (Finished (Pages pages)) ≡ rest_plan frames grants dom mode more d begins pages
  unfolding rest_plan
  rest_leaves more d begins pages e = ap (λ n. rest_plan frames grants dom mode n d begins pages) (sym e)

  pub rest_reads : (more n : ℕ) (d : Hold) (begins : ℕ) (pages : List Hold) → more ≡ suc n → length pages - begins < 1023 → entry_plan frames grants dom mode (rest_plan frames grants dom mode n d begins) d begins pages ≡ rest_plan frames grants dom mode more d begins pages
  unfolding rest_plan
  rest_reads more n d begins pages e l =
      let test : nat_lt (length pages - begins) per_page ≡ true = grind (arith, nat_tests) in
      sym (ap (λ k. rest_plan frames grants dom mode k d begins pages) e ∙ ap (λ b. cond b (entry_plan frames grants dom mode (rest_plan frames grants dom mode n d begins) d begins pages) (next_plan d begins pages (λ gref. enter_plan frames grants dom mode (rest_plan frames grants dom mode n) gref pages))) test)

  pub rest_turns : (more n : ℕ) (d : Hold) (begins : ℕ) (pages : List Hold) → more ≡ suc n → 1023 ≤ length pages - begins → next_plan d begins pages (λ gref. enter_plan frames grants dom mode (rest_plan frames grants dom mode n) gref pages) ≡ rest_plan frames grants dom mode more d begins pages
  unfolding rest_plan
  rest_turns more n d begins pages e l =
      let test : nat_lt (length pages - begins) per_page ≡ false = grind (arith, nat_tests) in
      sym (ap (λ k. rest_plan frames grants dom mode k d begins pages) e ∙ ap (λ b. cond b (entry_plan frames grants dom mode (rest_plan frames grants dom mode n d begins) d begins pages) (next_plan d begins pages (λ gref. enter_plan frames grants dom mode (rest_plan frames grants dom mode n) gref pages))) test)

  pub further_turns : (more : ℕ) (d : Hold) (gref : ℕ) (pages : List Hold) (a : Access) (old : Plan Walked) (p : Plan (Result Hold GrantRefusal)) → old ≡ leave_plan d (enter_plan frames grants dom mode (rest_plan frames grants dom mode more) gref pages) → wanted a ≡ unmap_want d → p ≡ map_plan frames grants dom gref Read → 0 < length pages → TurnsOrEnds old (Some a) None (joined p (with_map pages (entered frames grants dom mode more pages)))
  further_turns more d gref pages a old p e w m n = (
    goes_first old (unmap_want d) (Ends d) (λ _. enter_plan frames grants dom mode (rest_plan frames grants dom mode more) gref pages) a (joined p (with_map pages (entered frames grants dom mode more pages))) e w (ap (λ (q : Plan (Result Hold GrantRefusal)). joined q (with_map pages (entered frames grants dom mode more pages))) m),
    map_unfinished gref Read pages (entered frames grants dom mode more pages) p m n,
  )

-- no next directory page
pub next_refuses : (d : Hold) (begins : ℕ) (pages held : List Hold) (next : ℕ → Plan Walked) (v : ℕ) (old : Plan Walked) → old ≡ next_plan d begins pages next → v ≡ 0 → held ≡ insert pages begins d → Leads old (Some (access.Load (word_in d 0) v)) (undo_plan held NoNext)
next_refuses d begins pages held next v old e z same =
    let test : (v == 0) ≡ true = grind (arith, nat_tests) in
    let leads : with_next d begins pages next v ≡ undo_plan (insert pages begins d) NoNext = ap (λ t. cond t (undo_plan (insert pages begins d) NoNext) (leave_plan d (next v))) test in
    goes_first old (Load (word_in d 0)) Plain (with_next d begins pages next) (access.Load (word_in d 0) v) (undo_plan held NoNext) e refl (ap (λ hs. undo_plan hs NoNext) same ∙ sym leads)

-- a next directory page
pub next_turns : (d : Hold) (begins : ℕ) (pages : List Hold) (next : ℕ → Plan Walked) (v : ℕ) (old : Plan Walked) → old ≡ next_plan d begins pages next → v ≢ 0 → TurnsOrEnds old (Some (access.Load (word_in d 0) v)) None (leave_plan d (next v))
next_turns d begins pages next v old e z =
    let test : (v == 0) ≡ false = grind (arith, nat_tests) in
    let leads : with_next d begins pages next v ≡ leave_plan d (next v) = ap (λ t. cond t (undo_plan (insert pages begins d) NoNext) (leave_plan d (next v))) test in
    (goes_first old (Load (word_in d 0)) Plain (with_next d begins pages next) (access.Load (word_in d 0) v) (leave_plan d (next v)) e refl (sym leads), tt)

-- the last directory page is left
pub leave_ends : (d : Hold) (pages found : List Hold) (a : Access) (old new : Plan Walked) → old ≡ leave_plan d (Finished (Pages pages)) → wanted a ≡ unmap_want d → found ≡ pages → TurnsOrEnds old (Some a) (Some (Pages found)) new
leave_ends d pages found a old new e w same =
    goes_first old (unmap_want d) (Ends d) (λ _. Finished (Pages pages)) a (Finished (Pages found)) e w (ap (λ ps. Finished (Pages ps)) same)

-- a walk before its first access
pub starts : (frames grants dom gref : ℕ) (mode : Mode) (count : ℕ) (pages : List Hold) (p : Plan (Result Hold GrantRefusal)) → 0 < count → pages ≡ [] → p ≡ map_plan frames grants dom gref Read → joined p (with_map pages (entered frames grants dom mode (count - 1) pages)) ≡ walk_plan frames grants dom gref mode count
unfolding walk_plan
starts frames grants dom gref mode zero pages p l e m = absurd (omega (arith, l))
starts frames grants dom gref mode (suc n) pages p l e m =
    let one : suc n - 1 ≡ n = omega arith in
    ap (λ (q : Plan (Result Hold GrantRefusal)). joined q (with_map pages (entered frames grants dom mode (suc n - 1) pages))) m
    ∙ ap (λ k. joined (map_plan frames grants dom gref Read) (with_map pages (entered frames grants dom mode k pages))) one
    ∙ ap (λ ps. joined (map_plan frames grants dom gref Read) (with_map ps (entered frames grants dom mode n ps))) e
