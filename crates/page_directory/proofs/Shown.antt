-- A walk's refusal is the one that the words show which it found.
use Rattle.std.proofs.Common.{◌≡◌, inl, inr, ℕ, zero, suc, ◌-◌, ◌==◌, Bool, true, false, cond, nat_lt, List, [], ◌∷◌, ◌++◌, length, Some, Result, Ok, Err, refl, ◌∙◌, ap, arith}
use Rattle.std.proofs.lemmas.Bool.Decides.{nat_tests}
use Rattle.std.specs.List.{insert}
use Rattle.pv_words.specs.declared.grant.GrantRefusal.{GrantRefusal}
use Rattle.pv_words.specs.declared.grant.GrantRefusal.TheVariants.{NoNext}
use Rattle.pv_words.specs.declared.grant.Hold.{Hold}
use Rattle.pv_words.specs.declared.grant.Mode.{Mode}
use Rattle.pv_words.specs.declared.grant.Mode.TheVariants.{Read}
use Rattle.pv_words.specs.Found.{Found, finding}
use Rattle.pv_words.specs.Plan.{Plan, Note, FitsFrom, IsUntouched, joined}
use Rattle.pv_words.proofs.Fits.{fits_then}
use Rattle.pv_words.specs.MapLaws.{Shows}
use Rattle.pv_words.specs.Mapping.{map_plan}
use Rattle.pv_words.proofs.Shown.{maps_show}
use Rattle.page_directory.specs.declared.walk.Walked.{Walked}
use Rattle.page_directory.specs.Laws.{IsLastFound, IsReason, HasShown, WalksShow}
use Rattle.page_directory.specs.Walking.{per_page, undo_plan, with_map, entry_plan, enter_plan, leave_plan, next_plan, rest_plan, walk_plan}

module _ (frames grants dom first : ℕ) (mode : Mode) where
  abbrev Fit : Found → Plan Walked → Type 0
  Fit f p = FitsFrom (λ g want note. IsUntouched note) (λ g (note : Note) a. finding g a) (HasShown frames grants first mode) f p

  -- unmaps find nothing
  undo_shows : (hs : List Hold) (why : GrantRefusal) (f : Found) → IsReason frames grants first mode f why → Fit f (undo_plan hs why)
  undo_shows [] why f is = is
  undo_shows (h ∷ hs) why f is = (tt, λ v. undo_shows hs why f is)

  last_kept : (gref : ℕ) (m : Mode) (f g : Found) → g.word ≡ f.word → IsLastFound first mode f gref m → IsLastFound first mode g gref m
  last_kept gref m f g e (inl is) = inl is
  last_kept gref m f g e (inr is) = inr (e ∙ is.0, is.1)

  -- a map, whose refusal is the walk's
  map_shows : (gref : ℕ) (m : Mode) (f : Found) (hs : List Hold) (next : Hold → Plan Walked) → IsLastFound first mode f gref m → ((h : Hold) (g : Found) → Fit g (next h)) → Fit f (joined (map_plan frames grants dom gref m) (with_map hs next))
  map_shows gref m f hs next last more =
      fits_then (λ g want note. IsUntouched note) (λ g (note : Note) a. finding g a) (λ g r. Shows frames grants gref m g r × (g.word ≡ f.word)) (HasShown frames grants first mode) (with_map hs next) f (map_plan frames grants dom gref m) (maps_show frames grants dom gref m f) ended
    where
      ended : (g : Found) (r : Result Hold GrantRefusal) → Shows frames grants gref m g r × (g.word ≡ f.word) → Fit g (with_map hs next r)
      ended g (Ok h) e = more h g
      ended g (Err why) e = undo_shows hs why g (inr (gref, m, last_kept gref m f g e.1 last, e.0))

  entry_shows : (next : List Hold → Plan Walked) (d : Hold) (begins : ℕ) (pages : List Hold) (f : Found) → ((ps : List Hold) (g : Found) → Fit g (next ps)) → Fit f (entry_plan frames grants dom mode next d begins pages)
  entry_shows next d begins pages f more =
      (tt, λ gref. map_shows gref mode (record f { word = Some gref }) (insert pages begins d) (λ h. next (pages ++ h ∷ [])) (inr (refl, inr refl)) (λ h g. more (pages ++ h ∷ []) g))

  enter_shows : (next : Hold → ℕ → List Hold → Plan Walked) (gref : ℕ) (pages : List Hold) (f : Found) → IsLastFound first mode f gref Read → ((d : Hold) (b : ℕ) (ps : List Hold) (g : Found) → Fit g (next d b ps)) → Fit f (enter_plan frames grants dom mode next gref pages)
  enter_shows next gref pages f last more =
      map_shows gref Read f pages (λ d. entry_plan frames grants dom mode (next d (length pages)) d (length pages) pages) last (λ d g. entry_shows (next d (length pages)) d (length pages) pages g (more d (length pages)))

  rest_shows : (n : ℕ) (d : Hold) (begins : ℕ) (pages : List Hold) (f : Found) → Fit f (rest_plan frames grants dom mode n d begins pages)
  unfolding rest_plan
  rest_shows zero d begins pages f = (tt, λ v. tt)
  rest_shows (suc n) d begins pages f = by_room (nat_lt (length pages - begins) per_page) (rest_shows n)
    where
      Rests : Type 0
      Rests = (e : Hold) (b : ℕ) (ps : List Hold) (g : Found) → Fit g (rest_plan frames grants dom mode n e b ps)

      further : Rests → (b : Bool) (gref : ℕ) → (gref == 0) ≡ b → Fit (record f { word = Some gref }) (cond b (undo_plan (insert pages begins d) NoNext) (leave_plan d (enter_plan frames grants dom mode (rest_plan frames grants dom mode n) gref pages)))
      further rest true gref e =
          let none : gref ≡ 0 = grind (arith, nat_tests) in
          undo_shows (insert pages begins d) NoNext (record f { word = Some gref }) (inl (refl, ap Some none))
      further rest false gref e =
          (tt, λ v. enter_shows (rest_plan frames grants dom mode n) gref pages (record f { word = Some gref }) (inr (refl, inl refl)) rest)

      by_room : (b : Bool) → Rests → Fit f (cond b (entry_plan frames grants dom mode (rest_plan frames grants dom mode n d begins) d begins pages) (next_plan d begins pages (λ gref. enter_plan frames grants dom mode (rest_plan frames grants dom mode n) gref pages)))
      by_room true rest = entry_shows (rest_plan frames grants dom mode n d begins) d begins pages f (λ ps g. rest d begins ps g)
      by_room false rest = (tt, λ v. further rest (v == 0) v refl)

  walk_shows : (count : ℕ) (f : Found) → Fit f (walk_plan frames grants dom first mode count)
  unfolding walk_plan
  walk_shows zero f = tt
  walk_shows (suc n) f = enter_shows (rest_plan frames grants dom mode n) first [] f (inl (refl, refl)) (rest_shows n)

pub walks_show : WalksShow
walks_show frames grants dom first mode count f = walk_shows frames grants dom first mode count f
