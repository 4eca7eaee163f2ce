-- What a walk reads.
use Rattle.std.proofs.Common.{◌⊎◌, sym, ◌≡◌, inl, inr, ℕ, zero, suc, ◌+◌, ◌-◌, ◌*◌, ◌<◌, ◌≤◌, ◌==◌, Bool, true, false, cond, nat_lt, List, [], ◌∷◌, ◌++◌, length, Option, Some, None, is_some, Ok, Err, refl, subst, ap, ◌∙◌, arith, length-append}
use Rattle.std.proofs.lemmas.Bool.Decides.{nat_tests}
use Rattle.std.proofs.lemmas.List.{map-append, length-map}
use Rattle.std.specs.List.{insert}
use Rattle.pv_words.specs.declared.grant.Hold.{Hold}
use Rattle.pv_words.specs.declared.grant.Mode.{Mode}
use Rattle.pv_words.specs.declared.grant.Mode.TheVariants.{Read}
use Rattle.pv_words.specs.declared.grant.GrantRefusal.{GrantRefusal}
use Rattle.pv_words.specs.declared.grant.GrantRefusal.TheVariants.{NoEntry, NotPermitted, OtherDomain, ReadOnly, InUse, Moved, BadFrame, NoNext}
use Rattle.pv_words.specs.Plan.{Plan, Finished}
use Rattle.pv_words.specs.Held.{permits}
use Rattle.pv_words.specs.Flags.{refusal_of, denies, forbids, has, is_foreign, used}
use Rattle.pv_words.specs.Mapping.{map_plan, flags_plan, with_flags, frame_plan, hold_of}
use Rattle.pv_words.specs.Mapping as map_of
use Rattle.page_directory.specs.declared.walk.Walked.{Walked}
use Rattle.pv_words.specs.Plan.{FitsFrom}
use Rattle.pv_words.specs.MapLaws.{IsCause}
use Rattle.pv_words.specs.Plan.{joined}
use Rattle.page_directory.specs.Reading.{IsLastMap, Reading, with_frame, reading, IsDue, ReadsOn, is_no_next, grefs, ReadsTo, unread, ReadsExactly}
use Rattle.pv_words.proofs.Outcomes.{refuses_exactly}
use Rattle.pv_words.proofs.Holdings.{caused, permitted}
use Rattle.page_directory.specs.Walking.{per_page, undo_plan, with_map, entry_plan, enter_plan, leave_plan, next_plan, rest_plan, walk_plan}

-- a flags' word is never refused for want of a directory page
refusals : (word : ℕ) (d f w u : Bool) (r : GrantRefusal) → cond d (Some (NotPermitted word)) (cond f (Some (OtherDomain word)) (cond w (Some (ReadOnly word)) (cond u (Some (InUse word)) None))) ≡ Some r → false ≡ is_no_next r
refusals word true f w u r e = let same : NotPermitted word ≡ r = cc in ap is_no_next same
refusals word false true w u r e = let same : OtherDomain word ≡ r = cc in ap is_no_next same
refusals word false false true u r e = let same : ReadOnly word ≡ r = cc in ap is_no_next same
refusals word false false false true r e = let same : InUse word ≡ r = cc in ap is_no_next same
refusals word false false false false r e = let wrong : ⊥ = cc in absurd wrong

module _ (frames grants dom : ℕ) (mode : Mode) (count : ℕ) where
  abbrev Fit : Reading → Plan Walked → Type 0
  Fit r p = FitsFrom (ReadsOn dom count) reading (ReadsTo frames grants mode) r p

  -- why a walk is refused
  abbrev Why : Reading → GrantRefusal → Type 0
  Why r why = (why ≡ NoNext) ⊎ ((gref : ℕ) × (m : Mode) × IsLastMap mode r gref m × IsCause frames grants gref m why)

  undo_reads : (hs : List Hold) (why : GrantRefusal) (r : Reading) → r.stopped ≡ is_no_next why → Why r why → Fit r (undo_plan hs why)
  undo_reads [] why r e w = (e, w)
  undo_reads (h ∷ hs) why r e w = (tt, λ v. undo_reads hs why r e w)

  module _ (r : Reading) (gref : ℕ) (m : Mode) (hs : List Hold) (next : Hold → Plan Walked) (going : r.stopped ≡ false) (due : IsDue r r.frame gref) (which : IsLastMap mode r gref m) (more : (v : ℕ) → Fit (with_frame r v) (next (hold_of dom gref m v))) where
    framed : (b : Bool) (v : ℕ) → nat_lt v frames ≡ b → Fit (with_frame r v) (joined (cond b (Finished (Ok (hold_of dom gref m v))) (map_of.undo_plan dom gref m v)) (with_map hs next))
    framed true v e = more v
    framed false v e =
        let out : frames ≤ v = grind (arith, nat_tests, e) in
        (tt, λ _. undo_reads hs (BadFrame v) (with_frame r v) going (inr (gref, m, which, out)))

    named : Fit r (joined (frame_plan frames dom gref m) (with_map hs next))
    named = ((refl, due), λ v. framed (nat_lt v frames) v refl)

    seen : (b : Bool) (word s : ℕ) → (s == word) ≡ b → permits word m ≡ true → Fit r (joined (cond b (frame_plan frames dom gref m) (Finished (Err (Moved word s)))) (with_map hs next))
    seen true word s e ok = named
    seen false word s e ok = undo_reads hs (Moved word s) r going (inr (gref, m, which, (ok, e)))

    asked : (o : Option GrantRefusal) (word : ℕ) → refusal_of word m ≡ o → Fit r (joined (with_flags frames dom gref m word o) (with_map hs next))
    asked (Some why) word e =
        let cause = caused frames grants gref word m (denies word) (is_foreign word) (forbids word m) (has word used) why refl refl refl refl e in
        undo_reads hs why r (going ∙ refusals word (denies word) (is_foreign word) (forbids word m) (has word used) why e) (inr (gref, m, which, cause))
    asked None word e =
        let ok = permitted (permits word m) (sym (ap is_some e) ∙ refuses_exactly word m) in
        ((refl, due), λ s. seen (s == word) word s refl ok)

    entered : (b : Bool) → nat_lt gref grants ≡ b → Fit r (joined (cond b (flags_plan frames dom gref m) (Finished (Err (NoEntry gref)))) (with_map hs next))
    entered true e = ((refl, due), λ word. asked (refusal_of word m) word refl)
    entered false e =
        let out : grants ≤ gref = grind (arith, nat_tests, e) in
        undo_reads hs (NoEntry gref) r going (inr (gref, m, which, (refl, out)))

    map_reads : Fit r (joined (map_plan frames grants dom gref m) (with_map hs next))
    map_reads = entered (nat_lt gref grants) refl

  -- the walk has turned so many directory pages, and is at one
  abbrev on : ℕ → ℕ → Hold → List Hold → Reading
  on turned from d pages = record { turned = turned; from = from; frame = Some d.frame.0; listed = grefs pages; stopped = false }

  -- or at none
  abbrev off : ℕ → ℕ → List Hold → Reading
  off turned from pages = record { turned = turned; from = from; frame = None; listed = grefs pages; stopped = false }

  record At (n turned : ℕ) (d : Hold) (begins : ℕ) (pages : List Hold) : Type 0 where
    home : d.dom.0 ≡ dom
    starts : begins ≡ 1023 * turned
    within : begins ≤ length pages
    few : length pages ≤ begins + 1023
    total : length pages + n ≡ count

  abbrev Rests : ℕ → Type 0
  Rests n = (turned from : ℕ) (d : Hold) (begins : ℕ) (pages : List Hold) → At n turned d begins pages → Fit (on turned from d pages) (rest_plan frames grants dom mode n d begins pages)

  entry_reads : (n : ℕ) → Rests n → (turned from : ℕ) (d : Hold) (begins : ℕ) (pages : List Hold) → At (suc n) turned d begins pages → length pages - begins < 1023 → Fit (on turned from d pages) (entry_plan frames grants dom mode (rest_plan frames grants dom mode n d begins) d begins pages)
  entry_reads n rest turned from d begins pages at room =
      let lengths = length-map pages (λ (x : Hold). x.gref.0) in
      let word : ℕ = length pages - begins + 1 in (
        (at.home, refl, (omega (arith, lengths, at.total), inl (omega arith, omega (arith, room), omega (arith, lengths, at.starts, at.within)))),
        λ gref. read gref (length pages - begins + 1 == 0) (grind (arith, nat_tests)),
      )
    where
      -- what was loaded is mapped, and is one of the pages
      pushed : (gref v : ℕ) → Fit (record { turned = turned; from = from; frame = Some d.frame.0; listed = grefs pages ++ gref ∷ []; stopped = false }) (rest_plan frames grants dom mode n d begins (pages ++ hold_of dom gref mode v ∷ []))
      pushed gref v =
          let h = hold_of dom gref mode v in
          let longer = length-append pages (hold_of dom gref mode v ∷ []) in
          subst (λ l. Fit (record { turned = turned; from = from; frame = Some d.frame.0; listed = l; stopped = false }) (rest_plan frames grants dom mode n d begins (pages ++ hold_of dom gref mode v ∷ []))) (map-append (λ (x : Hold). x.gref.0) pages (h ∷ []))
          (rest turned from d begins (pages ++ hold_of dom gref mode v ∷ []) (record { home = at.home; starts = at.starts; within = omega (arith, at.within, longer); few = omega (arith, at.within, room, longer); total = omega (arith, at.total, longer) }))

      read : (gref : ℕ) (b : Bool) → b ≡ false → Fit (cond b (record { turned = turned + 1; from = gref; frame = None; listed = grefs pages; stopped = gref == 0 }) (record { turned = turned; from = from; frame = Some d.frame.0; listed = grefs pages ++ gref ∷ []; stopped = false })) (joined (map_plan frames grants dom gref mode) (with_map (insert pages begins d) (λ h. rest_plan frames grants dom mode n d begins (pages ++ h ∷ []))))
      read gref true e = let wrong : ⊥ = cc in absurd wrong
      read gref false e =
          map_reads (record { turned = turned; from = from; frame = Some d.frame.0; listed = grefs pages ++ gref ∷ []; stopped = false }) gref mode (insert pages begins d) (λ h. rest_plan frames grants dom mode n d begins (pages ++ h ∷ [])) refl (grefs pages, refl) (inr (refl, (grefs pages, refl))) (pushed gref)

  enter_reads : (n : ℕ) → Rests n → (turned gref : ℕ) (pages : List Hold) → length pages ≡ 1023 * turned → length pages + suc n ≡ count → Fit (off turned gref pages) (enter_plan frames grants dom mode (rest_plan frames grants dom mode n) gref pages)
  enter_reads n rest turned gref pages starts total =
      map_reads (off turned gref pages) gref Read pages (λ d. entry_plan frames grants dom mode (rest_plan frames grants dom mode n d (length pages)) d (length pages) pages) refl refl (inl (refl, refl)) (λ v.
      entry_reads n rest turned gref (hold_of dom gref Read v) (length pages) pages (record { home = refl; starts = starts; within = omega arith; few = omega arith; total = total }) (omega arith))

  rest_reads : (n turned from : ℕ) (d : Hold) (begins : ℕ) (pages : List Hold) → At n turned d begins pages → Fit (on turned from d pages) (rest_plan frames grants dom mode n d begins pages)
  unfolding rest_plan
  rest_reads zero turned from d begins pages at = (tt, λ v. (refl, refl))
  rest_reads (suc n) turned from d begins pages at = by_room (nat_lt (length pages - begins) per_page) refl (rest_reads n)
    where
      further : Rests n → length pages ≡ 1023 * (turned + 1) → (b : Bool) (gref : ℕ) → Fit (record { turned = turned + 1; from = gref; frame = None; listed = grefs pages; stopped = b }) (cond b (undo_plan (insert pages begins d) NoNext) (leave_plan d (enter_plan frames grants dom mode (rest_plan frames grants dom mode n) gref pages)))
      further rest starts true gref = undo_reads (insert pages begins d) NoNext (record { turned = turned + 1; from = gref; frame = None; listed = grefs pages; stopped = true }) refl (inl refl)
      further rest starts false gref = (tt, λ v. enter_reads n rest (turned + 1) gref pages starts at.total)

      by_room : (b : Bool) → nat_lt (length pages - begins) per_page ≡ b → Rests n → Fit (on turned from d pages) (cond b (entry_plan frames grants dom mode (rest_plan frames grants dom mode n d begins) d begins pages) (next_plan d begins pages (λ gref. enter_plan frames grants dom mode (rest_plan frames grants dom mode n) gref pages)))
      by_room true e rest = entry_reads n rest turned from d begins pages at (grind (arith, nat_tests, e))
      by_room false e rest =
          let full : 1023 ≤ length pages - begins = grind (arith, nat_tests, e) in
          let starts : length pages ≡ 1023 * (turned + 1) = omega (arith, at.starts, at.within, at.few, full) in
          let lengths = length-map pages (λ (x : Hold). x.gref.0) in
          ((at.home, refl, (omega (arith, lengths, at.total), inr (refl, omega (arith, lengths, starts)))), λ gref. further rest starts (gref == 0) gref)

  walk_reads : (gref n : ℕ) → count ≡ n → Fit (unread gref) (walk_plan frames grants dom gref mode n)
  unfolding walk_plan
  walk_reads gref zero e = (refl, refl)
  walk_reads gref (suc n) e = enter_reads n (rest_reads n) 0 gref [] refl (omega (arith, e))

pub reads_exactly : ReadsExactly
reads_exactly frames grants dom gref mode count = walk_reads frames grants dom mode count gref count refl
