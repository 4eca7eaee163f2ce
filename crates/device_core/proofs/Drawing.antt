-- An access draws the words that it writes on every live name, and leads to what stands there then.
use Rattle.std.proofs.Common.{◌≡◌, ℕ, ◌+◌, ◌==◌, Bool, true, false, List, [], ◌∷◌, ◌++◌, length, map, slice_set, Some, None, if◌then◌else◌, refl, sym, subst, ap, ◌∙◌, append_assoc, length-append, arith}
use Rattle.std.proofs.lemmas.List.{map-append}
use Rattle.std.proofs.Math.Seq.{set-append_seam}
use Rattle.pv_words.specs.declared.access.Access.{Access}
use Rattle.pv_words.specs.declared.access.Access.TheVariants as access
use Rattle.pv_words.specs.declared.place.Place.{Place}
use Rattle.pv_words.specs.Memory.{Memory, written, put, without}
use Rattle.pv_words.specs.Place.{same_place}
use Rattle.device_core.specs.Names.{Name, Drawn, Words, Writing, Stroke, Redraws, words_at, drawn, all_drawn, writing_of, strokes_on, all_strokes, strokes_by}
use Rattle.device_core.specs.Machine.{Table, Snapshot, Draw, HappensTo, IsRun}
use Rattle.device_core.specs.Touched.{Touch}
use Rattle.device_core.proofs.Runs.{run_joins}

module _ {R E : Type 0} (worded : Bool) (t : Table R E) (x : R) (touched : List Touch) where
  -- the live names, while the rows stay and no refusal is owed
  abbrev shows : List Drawn → Snapshot R
  shows names = record { rows = x; names = names; touched = touched; owes = None }

  -- by these strokes the live names get from words to words
  abbrev Leads : List Drawn → List Stroke → List Drawn → Type 0
  Leads old strokes new = IsRun (HappensTo worded t) (shows old) (map Draw strokes) (shows new)

  -- a name between others
  abbrev among : List Drawn → ℕ → List ℕ → List Drawn → List Drawn
  among before number words behind = before ++ record { number = number; words = words } ∷ behind

  leads_join : (old mid new : List Drawn) (some more : List Stroke) → Leads old some mid → Leads mid more new → Leads old (some ++ more) new
  leads_join old mid new some more a b =
      subst (λ es. IsRun (HappensTo worded t) (shows old) es (shows new)) (sym (map-append Draw some more))
      (run_joins (HappensTo worded t) (shows old) (shows mid) (shows new) (map Draw some) (map Draw more) a b)

  leads_same : (old old' new new' : List Drawn) (strokes : List Stroke) → old ≡ old' → new ≡ new' → Leads old strokes new → Leads old' strokes new'
  leads_same old old' new new' strokes a b l = subst (λ k. Leads k strokes new') a (subst (λ k. Leads old strokes k) b l)

  -- one stroke, on the word behind those that were passed
  stroke_draws : (before behind : List Drawn) (number index : ℕ) (passed rest : List ℕ) (old new : ℕ) → index ≡ length passed → Redraws (record { number = number; index = index; word = new }) (among before number (passed ++ old ∷ rest) behind) (among before number (passed ++ new ∷ rest) behind)
  stroke_draws before behind number index passed rest old new e =
      record {
        before = before;
        words = passed ++ old ∷ rest;
        behind = behind;
        inside = grind (arith, length-append passed (old ∷ rest), e);
        old_is = refl;
        new_is = ap (λ ws. among before number ws behind) (sym (set-append_seam passed old rest new) ∙ ap (λ i. slice_set (passed ++ old ∷ rest) i new) (sym e));
      }

  -- a word of a name that stands at the written place, or doesn't
  cell_draws : (b : Bool) (before behind : List Drawn) (number index : ℕ) (passed rest : List ℕ) (old new : ℕ) (strokes : List Stroke) (k : List Drawn) → index ≡ length passed → Leads (among before number (passed ++ (if b then new else old) ∷ rest) behind) strokes k → Leads (among before number (passed ++ old ∷ rest) behind) (if b then record { number = number; index = index; word = new } ∷ strokes else strokes) k
  cell_draws true before behind number index passed rest old new strokes k e l =
      (shows (among before number (passed ++ new ∷ rest) behind), (record { free = refl; rows = refl; touched = refl; owes = refl }, stroke_draws before behind number index passed rest old new e), l)
  cell_draws false before behind number index passed rest old new strokes k e l = l

  passes : (before behind : List Drawn) (number word : ℕ) (passed rest : List ℕ) → among before number ((passed ++ word ∷ []) ++ rest) behind ≡ among before number (passed ++ word ∷ rest) behind
  passes before behind number word passed rest = ap (λ ws. among before number ws behind) (append_assoc passed (word ∷ []) rest)

  -- the words of a name that are left
  cells_draw : (m : Memory) (w : Writing) (before behind : List Drawn) (number index : ℕ) (passed : List ℕ) (cells : List Place) → index ≡ length passed → Leads (among before number (passed ++ words_at m cells) behind) (strokes_on w number index cells) (among before number (passed ++ words_at (put m w.place w.word) cells) behind)
  cells_draw m w before behind number index passed [] e = refl
  cells_draw m w before behind number index passed (c ∷ cs) e =
      let after : Memory = put m w.place w.word in
      let more = cells_draw m w before behind number (index + 1) (passed ++ after c ∷ []) cs (grind (arith, length-append passed (after c ∷ []), e)) in
      cell_draws (same_place w.place c) before behind number index passed (words_at m cs) (m c) w.word (strokes_on w number (index + 1) cs) (among before number (passed ++ words_at after (c ∷ cs)) behind) e
      (leads_same (among before number ((passed ++ after c ∷ []) ++ words_at m cs) behind) (among before number (passed ++ after c ∷ words_at m cs) behind) (among before number ((passed ++ after c ∷ []) ++ words_at after cs) behind) (among before number (passed ++ after c ∷ words_at after cs) behind) (strokes_on w number (index + 1) cs) (passes before behind number (after c) passed (words_at m cs)) (passes before behind number (after c) passed (words_at after cs)) more)

  -- the names that are left
  names_draw : (m : Memory) (w : Writing) (before : List Drawn) (names : List Name) → Leads (before ++ all_drawn (Words m) names) (all_strokes w names) (before ++ all_drawn (Words (put m w.place w.word)) names)
  names_draw m w before [] = refl
  names_draw m w before (n ∷ ns) =
      let after : Memory = put m w.place w.word in
      let new : Drawn = drawn (Words after) n in
      leads_join (before ++ all_drawn (Words m) (n ∷ ns)) (before ++ new ∷ all_drawn (Words m) ns) (before ++ all_drawn (Words after) (n ∷ ns)) (strokes_on w n.number 0 n.cells) (all_strokes w ns) (cells_draw m w before (all_drawn (Words m) ns) n.number 0 [] n.cells refl)
      (leads_same ((before ++ new ∷ []) ++ all_drawn (Words m) ns) (before ++ new ∷ all_drawn (Words m) ns) ((before ++ new ∷ []) ++ all_drawn (Words after) ns) (before ++ new ∷ all_drawn (Words after) ns) (all_strokes w ns) (append_assoc before (new ∷ []) (all_drawn (Words m) ns)) (append_assoc before (new ∷ []) (all_drawn (Words after) ns)) (names_draw m w (before ++ new ∷ []) ns))

  -- an exchange writes where it found what it looked for
  swap_draws : (b : Bool) (m : Memory) (at : Place) (new : ℕ) (names : List Name) → Leads (all_drawn (Words m) names) (strokes_by (if b then Some (record { place = at; word = new }) else None) names) (all_drawn (Words (λ q. if b then put m at new q else m q)) names)
  swap_draws true m at new names = names_draw m (record { place = at; word = new }) [] names
  swap_draws false m at new names = refl

  -- The strokes of an access lead from the words that the live names had to those that stand there after it.
  pub draws_run : (memory : Memory) (a : Access) (names : List Name) → IsRun (HappensTo worded t) (shows (all_drawn (Words memory) names)) (map Draw (strokes_by (writing_of a) names)) (shows (all_drawn (Words (written memory a)) names))
  draws_run memory (access.Load at v) names = refl
  draws_run memory (access.Store at v) names = names_draw memory (record { place = at; word = v }) [] names
  draws_run memory (access.Cas at old new seen) names = swap_draws (seen == old) memory at new names
  draws_run memory (access.Clear at mask seen) names = names_draw memory (record { place = at; word = without seen mask }) [] names
