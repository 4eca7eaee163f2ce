-- What is left of a walk tells what is held: one way on from here ends it, and what was held goes on that way.
use Rattle.std.proofs.Common.{◌≡◌, ℕ, ◌+◌, true, false, nat_lt, List, [], ◌∷◌, ◌++◌, drop, refl, sym, ap, ◌∙◌, arith}
use Rattle.std.proofs.lemmas.Bool.{false≢true}
use Rattle.std.specs.List.{insert}
use Rattle.pv_words.specs.declared.grant.GrantRefusal.{GrantRefusal}
use Rattle.pv_words.specs.declared.grant.GrantRefusal.TheVariants.{NoNext}
use Rattle.pv_words.specs.declared.grant.Hold.{Hold}
use Rattle.pv_words.specs.declared.grant.Mode.{Mode}
use Rattle.pv_words.specs.declared.grant.Mode.TheVariants.{Read}
use Rattle.pv_words.specs.Held.{Holds, IsProper, holding, kept}
use Rattle.pv_words.specs.Plan.{Plan, Finished, Make, Ends, FitsFrom, found, joined}
use Rattle.pv_words.proofs.Fits.{fits_first}
use Rattle.pv_words.specs.declared.map.MapStep.{MapStep}
use Rattle.pv_words.specs.Mapping.{map_plan, unmap_want}
use Rattle.pv_words.specs.MapLeft as mapping
use Rattle.pv_words.proofs.Refusing.{map_none, start_none, unmap_leaves}
use Rattle.page_directory.specs.declared.walk.Stage.{Stage}
use Rattle.page_directory.specs.declared.walk.Stage.TheVariants as stage
use Rattle.page_directory.specs.declared.walk.Walk.{Walk}
use Rattle.page_directory.specs.declared.walk.Walked.{Walked}
use Rattle.page_directory.specs.declared.walk.Walked.TheVariants.{Pages, Refused}
use Rattle.page_directory.specs.Laws.{HoldsThroughout, pages_in}
use Rattle.page_directory.specs.Same.{AreSame, times}
use Rattle.page_directory.specs.Stages.{is_last, is_mapping}
use Rattle.page_directory.specs.Walking.{undo_plan, with_map, enter_plan, rest_plan}
use Rattle.page_directory.specs.WalkLeft.{dom_of, entered, held_by, held_in, is_over, left_in, walk_left}
use Rattle.page_directory.proofs.Counts.{times_append, times_insert, times_unheld}

module _ (frames grants : ℕ → ℕ) (dom : ℕ) (P : Holds → Walked → Type 0) where
  abbrev Fit : Holds → Plan Walked → Type 0
  Fit s p = FitsFrom (IsProper frames grants dom) (holding frames) P s p

  -- one way on the walk ends so that just these pages are held no longer, but for those that it comes to
  abbrev pub Comes : Holds → List Hold → Type 0
  Comes s pages = (t : Holds) × (came : Walked) × P t came × ((k : Hold) → times k s.held + times k (pages_in came) ≡ times k pages + times k t.held)

  unmap_first : (h : Hold) (s : Holds) (p : Plan Walked) → Fit s (Make (unmap_want h) (Ends h) (λ v. p)) → (t : Holds) × Fit t p × ((k : Hold) → times k s.held ≡ times k (h ∷ []) + times k t.held)
  unmap_first h s p f =
      let u = unmap_leaves frames grants dom h s 0 f.0 in
      (holding frames s (Ends h) (found (unmap_want h) 0), f.1 0, λ k. omega (arith, times_unheld k h s.held u.0, ap (times k) u.1))

  -- the pages that a refused walk holds are unmapped
  undo_comes : (hs : List Hold) (why : GrantRefusal) (s : Holds) → Fit s (undo_plan hs why) → Comes s hs
  undo_comes [] why s f = (s, Refused why, f, λ k. omega arith)
  undo_comes (h ∷ hs) why s f =
      let u = unmap_first h s (undo_plan hs why) f in
      let rest = undo_comes hs why u.0 u.1 in
      (rest.0, rest.1, rest.2, λ k. omega (arith, u.2 k, rest.3 k, times_append k (h ∷ []) hs))

  same_comes : (s t : Holds) (pages : List Hold) → t.held ≡ s.held → Comes t pages → Comes s pages
  same_comes s t pages e c = (c.0, c.1, c.2, λ k. omega (arith, c.3 k, ap (times k) e))

  -- a map may still be refused
  map_comes : (F G : ℕ) (m : MapStep) (s : Holds) (hs : List Hold) (next : Hold → Plan Walked) → F ≡ frames (mapping.dom_of m) → mapping.is_over m ≡ false → Fit s (joined (mapping.map_left F G m) (with_map hs next)) → Comes s hs
  map_comes F G m s hs next e going f =
      let none = map_none frames (IsProper frames grants dom) (λ t r. Fit t (with_map hs next r)) F G m s e going (fits_first (IsProper frames grants dom) (holding frames) (with_map hs next) P s (mapping.map_left F G m) f) in
      same_comes s none.0 hs none.3 (undo_comes hs none.1 none.0 none.2)

  start_comes : (F G at gref : ℕ) (mode : Mode) (s : Holds) (hs : List Hold) (next : Hold → Plan Walked) → Fit s (joined (map_plan F G at gref mode) (with_map hs next)) → Comes s hs
  start_comes F G at gref mode s hs next f =
      let none = start_none frames (IsProper frames grants dom) (λ t r. Fit t (with_map hs next r)) F at gref mode (nat_lt gref G) s (fits_first (IsProper frames grants dom) (holding frames) (with_map hs next) P s (map_plan F G at gref mode) f) in
      same_comes s none.0 hs none.3 (undo_comes hs none.1 none.0 none.2)

  -- at each stage of the walk
  stage_comes : (F G at : ℕ) (mode : Mode) (m : MapStep) (more begins : ℕ) (pages : List Hold) (k : Stage) (s : Holds) → F ≡ frames (mapping.dom_of m) → (is_mapping k ≡ true → mapping.is_over m ≡ false) → is_last k ≡ false → Fit s (left_in F G at mode m more begins pages k) → Comes s (held_in begins pages k)
  stage_comes F G at mode m more begins pages stage.Directory s e maps going f =
      map_comes F G m s pages (entered F G at mode more pages) e (maps refl) f
  stage_comes F G at mode m more begins pages (stage.Reference d) s e maps going f =
      same_comes s (kept s) (insert pages begins d) refl (start_comes F G at 0 mode (kept s) (insert pages begins d) (λ h. rest_plan F G at mode more d begins (pages ++ h ∷ [])) (f.1 0))
  stage_comes F G at mode m more begins pages (stage.Page d) s e maps going f =
      map_comes F G m s (insert pages begins d) (λ h. rest_plan F G at mode more d begins (pages ++ h ∷ [])) e (maps refl) f
  stage_comes F G at mode m more begins pages (stage.Next d) s e maps going f =
      same_comes s (kept s) (insert pages begins d) refl (undo_comes (insert pages begins d) NoNext (kept s) (f.1 0))
  stage_comes F G at mode m more begins pages (stage.Further d gref) s e maps going f =
      let u = unmap_first d s (enter_plan F G at mode (rest_plan F G at mode more) gref.0 pages) f in
      let c = start_comes F G at gref.0 Read u.0 pages (entered F G at mode more pages) u.1 in
      (c.0, c.1, c.2, λ k. omega (arith, u.2 k, c.3 k, times_insert k pages begins d))
  stage_comes F G at mode m more begins pages (stage.Leave d) s e maps going f =
      let u = unmap_first d s (Finished (Pages pages)) f in
      (u.0, Pages pages, u.1, λ k. omega (arith, u.2 k, times_insert k pages begins d))
  stage_comes F G at mode m more begins pages (stage.Undo i why) s e maps going f = undo_comes (drop i pages) why s f
  stage_comes F G at mode m more begins pages stage.Over s e maps going f = absurd (false≢true (sym going))

  -- what is left of a walk that is under way
  pub walk_comes : (w : Walk) (s : Holds) → dom_of w ≡ dom → is_over w ≡ false → Fit s (walk_left (frames dom) (grants dom) w) → Comes s (held_by w)
  unfolding walk_left held_by is_over dom_of
  walk_comes w s e going f =
      stage_comes (frames dom) (grants dom) w.dom.0 w.mode w.map w.more w.begins w.pages.items w.stage s (ap frames (sym (w.same_dom ∙ e))) w.maps going f

pub holds_throughout : HoldsThroughout
holds_throughout frames grants w others now going f =
    let c = walk_comes frames grants (dom_of w) (λ h came. AreSame h.held (others ++ pages_in came)) w now refl going f in
    λ k. omega (arith, c.3 k, c.2 k, times_append k others (pages_in c.1), times_append k others (held_by w))
