-- The next access of a walk: where it lies, and that the pages are there by an access alone.
use Rattle.std.proofs.Common.{◌≡◌, ℕ, Bool, true, false, cond, nat_lt, List, [], ◌∷◌, ◌++◌, drop, IfSome, Option, Some, None, Err, refl, sym, subst, inl, inr, zero, suc}
use Rattle.std.specs.List.{insert}
use Rattle.pv_words.specs.declared.place.Place.TheVariants.{Cell, Grant}
use Rattle.pv_words.specs.declared.access.Access.{Access}
use Rattle.pv_words.specs.declared.access.Access.TheVariants as access
use Rattle.pv_words.specs.declared.grant.Hold.{Hold}
use Rattle.pv_words.specs.declared.grant.Mode.{Mode}
use Rattle.pv_words.specs.declared.grant.GrantRefusal.{GrantRefusal}
use Rattle.pv_words.specs.declared.grant.GrantRefusal.TheVariants.{NoEntry}
use Rattle.pv_words.specs.Held.{Covers, CoversToWrite}
use Rattle.pv_words.specs.Plan.{Plan, Finished, Make, Want, Load, Store, Swap, Clear, wanted}
use Rattle.pv_words.specs.declared.map.MapStep.{MapStep}
use Rattle.pv_words.specs.declared.map.MapStage.{MapStage}
use Rattle.pv_words.specs.declared.map.MapStage.TheVariants as map
use Rattle.pv_words.specs.MapLeft.{map_left, map_rest, is_over, is_last}
use Rattle.pv_words.specs.Mapping.{flags_plan}
use Rattle.page_directory.specs.declared.walk.Walked.{Walked}
use Rattle.page_directory.specs.declared.walk.Walked.TheVariants.{Pages, Refused}
use Rattle.page_directory.specs.declared.walk.Stage.{Stage}
use Rattle.page_directory.specs.declared.walk.Stage.TheVariants as stage
use Rattle.pv_words.specs.Held.{Has}
use Rattle.pv_words.specs.Plan.{joined}
use Rattle.page_directory.specs.Joins.{TurnsOrEnds}
use Rattle.page_directory.specs.Stages.{is_mapping}
use Rattle.page_directory.specs.Stages.{is_last as is_done}
use Rattle.page_directory.specs.Walking.{undo_plan, with_map, rest_plan}
use Rattle.page_directory.specs.WalkLeft.{left_in, held_in, entered, PagesByAccess, LiesIn}

-- the plan isn't over with the pages
abbrev NoPages : Plan Walked → Type 0
NoPages (Finished (Pages ps)) = ⊥
NoPages (Finished (Refused r)) = Unit {0}
NoPages (Make want note more) = Unit {0}

pub by_access : (p : Plan Walked) (access : Option Access) (last : Option Walked) (q : Plan Walked) → NoPages p → TurnsOrEnds p access last q → PagesByAccess access last
by_access p None None q n t = absurd t
by_access p None (Some (Pages ps)) q n t = subst NoPages t n
by_access p None (Some (Refused r)) q n t = tt
by_access p (Some a) last q n t = tt

undo_no_pages : (held : List Hold) (r : GrantRefusal) → NoPages (undo_plan held r)
undo_no_pages [] r = tt
undo_no_pages (h ∷ hs) r = tt

map_no_pages : (frames grants dom gref : ℕ) (mode : Mode) (held : List Hold) (next : Hold → Plan Walked) (s : MapStage) → is_last s ≡ false → NoPages (joined (map_rest frames grants dom gref mode s) (with_map held next))
map_no_pages frames grants dom gref mode held next map.Start e = by_entry (nat_lt gref grants)
  where
    by_entry : (b : Bool) → NoPages (joined (cond b (flags_plan frames dom gref mode) (Finished (Err (NoEntry gref)))) (with_map held next))
    by_entry true = tt
    by_entry false = undo_no_pages held (NoEntry gref)
map_no_pages frames grants dom gref mode held next (map.Begin flags) e = tt
map_no_pages frames grants dom gref mode held next map.Name e = tt
map_no_pages frames grants dom gref mode held next (map.Undo frame) e = tt
map_no_pages frames grants dom gref mode held next (map.Over r) e = let wrong : ⊥ = cc in absurd wrong

left_no_pages : (frames grants : ℕ) (m : MapStep) (held : List Hold) (next : Hold → Plan Walked) → is_over m ≡ false → NoPages (joined (map_left frames grants m) (with_map held next))
unfolding map_left is_over
left_no_pages frames grants m held next e = map_no_pages frames grants m.dom.0 m.gref.0 m.mode held next m.stage e

pub no_pages : (frames grants dom : ℕ) (mode : Mode) (m : MapStep) (more begins : ℕ) (pages : List Hold) (s : Stage) → is_done s ≡ false → (is_mapping s ≡ true → is_over m ≡ false) → NoPages (left_in frames grants dom mode m more begins pages s)
no_pages frames grants dom mode m more begins pages stage.Directory e maps = left_no_pages frames grants m pages (entered frames grants dom mode more pages) (maps refl)
no_pages frames grants dom mode m more begins pages (stage.Reference d) e maps = tt
no_pages frames grants dom mode m more begins pages (stage.Page d) e maps = left_no_pages frames grants m (insert pages begins d) (λ h. rest_plan frames grants dom mode more d begins (pages ++ h ∷ [])) (maps refl)
no_pages frames grants dom mode m more begins pages (stage.Next d) e maps = tt
no_pages frames grants dom mode m more begins pages (stage.Further d g) e maps = tt
no_pages frames grants dom mode m more begins pages (stage.Leave d) e maps = tt
no_pages frames grants dom mode m more begins pages (stage.Undo i r) e maps = undo_no_pages (drop i pages) r
no_pages frames grants dom mode m more begins pages stage.Over e maps = let wrong : ⊥ = cc in absurd wrong

-- where the first access of a plan lies
abbrev Lies : List Hold → Want → Type 0
Lies held (Load (Cell d f w)) = Has (Covers d.0 f.0) held
Lies held (Store (Cell d f w) v) = Has (CoversToWrite d.0 f.0) held
Lies held (Swap (Cell d f w) old new) = Has (CoversToWrite d.0 f.0) held
Lies held (Clear (Cell d f w) mask) = Has (CoversToWrite d.0 f.0) held
Lies held (Load (Grant d g h)) = Unit {0}
Lies held (Store (Grant d g h) v) = Unit {0}
Lies held (Swap (Grant d g h) old new) = Unit {0}
Lies held (Clear (Grant d g h) mask) = Unit {0}

abbrev FirstLies : {A : Type 0} → List Hold → Plan A → Type 0
FirstLies held (Finished x) = Unit {0}
FirstLies held (Make want note more) = Lies held want

same_lies : (held : List Hold) (a : Access) → Lies held (wanted a) → LiesIn held a
same_lies held (access.Load (Cell d f w) v) h = h
same_lies held (access.Store (Cell d f w) v) h = h
same_lies held (access.Cas (Cell d f w) old new seen) h = h
same_lies held (access.Clear (Cell d f w) mask seen) h = h
same_lies held (access.Load (Grant d g half) v) h = tt
same_lies held (access.Store (Grant d g half) v) h = tt
same_lies held (access.Cas (Grant d g half) old new seen) h = tt
same_lies held (access.Clear (Grant d g half) mask seen) h = tt

goes_lies : (p : Plan Walked) (a : Access) (last : Option Walked) (q : Plan Walked) (held : List Hold) → FirstLies held p → TurnsOrEnds p (Some a) last q → LiesIn held a
goes_lies (Finished x) a None q held f t = absurd t.0
goes_lies (Finished x) a (Some y) q held f t = absurd t
goes_lies (Make want note more) a None q held f t = same_lies held a (subst (λ (w : Want). Lies held w) (sym t.0.0) f)
goes_lies (Make want note more) a (Some y) q held f t = same_lies held a (subst (λ (w : Want). Lies held w) (sym t.0) f)

pub lies_next : (p : Plan Walked) (access : Option Access) (last : Option Walked) (q : Plan Walked) (held : List Hold) → FirstLies held p → TurnsOrEnds p access last q → IfSome access (λ a. LiesIn held a)
lies_next p None last q held f t = tt
lies_next p (Some a) last q held f t = goes_lies p a last q held f t

undo_lies : (all held : List Hold) (r : GrantRefusal) → FirstLies all (undo_plan held r)
undo_lies all [] r = tt
undo_lies all (h ∷ hs) r = tt

map_lies : (frames grants dom gref : ℕ) (mode : Mode) (all held : List Hold) (next : Hold → Plan Walked) (s : MapStage) → is_last s ≡ false → FirstLies all (joined (map_rest frames grants dom gref mode s) (with_map held next))
map_lies frames grants dom gref mode all held next map.Start e = by_entry (nat_lt gref grants)
  where
    by_entry : (b : Bool) → FirstLies all (joined (cond b (flags_plan frames dom gref mode) (Finished (Err (NoEntry gref)))) (with_map held next))
    by_entry true = tt
    by_entry false = undo_lies all held (NoEntry gref)
map_lies frames grants dom gref mode all held next (map.Begin flags) e = tt
map_lies frames grants dom gref mode all held next map.Name e = tt
map_lies frames grants dom gref mode all held next (map.Undo frame) e = tt
map_lies frames grants dom gref mode all held next (map.Over r) e = let wrong : ⊥ = cc in absurd wrong

left_lies : (frames grants : ℕ) (m : MapStep) (all held : List Hold) (next : Hold → Plan Walked) → is_over m ≡ false → FirstLies all (joined (map_left frames grants m) (with_map held next))
unfolding map_left is_over
left_lies frames grants m all held next e = map_lies frames grants m.dom.0 m.gref.0 m.mode all held next m.stage e

has_insert : (P : Hold → Type 0) (xs : List Hold) (b : ℕ) (d : Hold) → P d → Has P (insert xs b d)
has_insert P [] zero d p = inl p
has_insert P [] (suc b) d p = inl p
has_insert P (x ∷ xs) zero d p = inl p
has_insert P (x ∷ xs) (suc b) d p = inr (has_insert P xs b d p)

-- the directory page is one of those that are held
directory_covers : (pages : List Hold) (begins : ℕ) (d : Hold) → Has (Covers d.dom.0 d.frame.0) (insert pages begins d)
directory_covers pages begins d = has_insert (Covers d.dom.0 d.frame.0) pages begins d (refl, refl)

pub first_lies : (frames grants dom : ℕ) (mode : Mode) (m : MapStep) (more begins : ℕ) (pages : List Hold) (s : Stage) → (is_mapping s ≡ true → is_over m ≡ false) → FirstLies (held_in begins pages s) (left_in frames grants dom mode m more begins pages s)
first_lies frames grants dom mode m more begins pages stage.Directory maps = left_lies frames grants m pages pages (entered frames grants dom mode more pages) (maps refl)
first_lies frames grants dom mode m more begins pages (stage.Reference d) maps = directory_covers pages begins d
first_lies frames grants dom mode m more begins pages (stage.Page d) maps = left_lies frames grants m (insert pages begins d) (insert pages begins d) (λ x. rest_plan frames grants dom mode more d begins (pages ++ x ∷ [])) (maps refl)
first_lies frames grants dom mode m more begins pages (stage.Next d) maps = directory_covers pages begins d
first_lies frames grants dom mode m more begins pages (stage.Further d g) maps = tt
first_lies frames grants dom mode m more begins pages (stage.Leave d) maps = tt
first_lies frames grants dom mode m more begins pages (stage.Undo i r) maps = undo_lies (drop i pages) (drop i pages) r
first_lies frames grants dom mode m more begins pages stage.Over maps = tt
