-- A walk that made an access, and isn't done, makes another, however many frames and grant entries the domain has.
use Rattle.std.proofs.Common.{◌≡◌, ℕ, zero, suc, ◌<◌, ◌||◌, Bool, true, false, cond, nat_lt, List, [], ◌∷◌, ◌++◌, length, drop, Option, Some, None, Result, Ok, Err, ◌==◌, refl, ap, subst, ◌∙◌, arith}
use Rattle.std.proofs.lemmas.Bool.{false≢true}
use Rattle.std.proofs.lemmas.Bool.Decides.{nat_tests}
use Rattle.std.specs.List.{insert}
use Rattle.pv_words.specs.declared.access.Access.{Access}
use Rattle.pv_words.specs.declared.grant.Hold.{Hold}
use Rattle.pv_words.specs.declared.grant.Mode.{Mode}
use Rattle.pv_words.specs.declared.grant.GrantRefusal.{GrantRefusal}
use Rattle.pv_words.specs.declared.grant.GrantRefusal.TheVariants.{NoEntry, Moved}
use Rattle.pv_words.specs.declared.place.Half.TheVariants.{Flags, FrameNo}
use Rattle.pv_words.specs.declared.place.Place.TheVariants.{Cell, Grant}
use Rattle.pv_words.specs.Plan.{Plan, Finished, Make, Load, Store, Swap, Clear, Goes, IsUnfinished, seen_by, joined}
use Rattle.pv_words.specs.declared.map.MapStep.{MapStep}
use Rattle.pv_words.specs.declared.map.MapStage.{MapStage}
use Rattle.pv_words.specs.declared.map.MapStage.TheVariants as map
use Rattle.pv_words.specs.Flags.{refusal_of}
use Rattle.pv_words.specs.MapLeft.{map_left, map_rest, is_over, is_last}
use Rattle.pv_words.specs.Mapping.{Advances, hold_of, flags_plan, frame_plan, with_flags}
use Rattle.pv_words.specs.Mapping.{undo_plan as undo_map}
use Rattle.page_directory.specs.declared.walk.Walked.{Walked}
use Rattle.page_directory.specs.declared.walk.Stage.{Stage}
use Rattle.page_directory.specs.declared.walk.Stage.TheVariants as stage
use Rattle.page_directory.specs.Stages.{is_mapping, is_undoing, undone}
use Rattle.page_directory.specs.Walking.{undo_plan, with_map, rest_plan}
use Rattle.page_directory.specs.WalkLeft.{is_begun, is_begun_at, left_in, entered}

undo_goes_on : (held : List Hold) (r : GrantRefusal) → 0 < length held → IsUnfinished (undo_plan held r)
undo_goes_on [] r some = absurd (omega (arith, some))
undo_goes_on (h ∷ hs) r some = tt

map_goes_on : (frames grants dom gref : ℕ) (mode : Mode) (held : List Hold) (next : Hold → Plan Walked) (s : MapStage) → is_last s ≡ false → (is_begun_at s || nat_lt 0 (length held)) ≡ true → IsUnfinished (joined (map_rest frames grants dom gref mode s) (with_map held next))
map_goes_on frames grants dom gref mode [] next map.Start e begun = absurd (false≢true begun)
map_goes_on frames grants dom gref mode (h ∷ hs) next map.Start e begun = by_entry (nat_lt gref grants)
  where
    by_entry : (b : Bool) → IsUnfinished (joined (cond b (flags_plan frames dom gref mode) (Finished (Err (NoEntry gref)))) (with_map (h ∷ hs) next))
    by_entry true = tt
    by_entry false = tt
map_goes_on frames grants dom gref mode held next (map.Begin flags) e begun = tt
map_goes_on frames grants dom gref mode held next map.Name e begun = tt
map_goes_on frames grants dom gref mode held next (map.Undo frame) e begun = tt
map_goes_on frames grants dom gref mode held next (map.Over r) e begun = let wrong : ⊥ = cc in absurd wrong

left_goes_on : (frames grants : ℕ) (m : MapStep) (held : List Hold) (next : Hold → Plan Walked) → is_over m ≡ false → (is_begun_at m.stage || nat_lt 0 (length held)) ≡ true → IsUnfinished (joined (map_left frames grants m) (with_map held next))
unfolding map_left is_over
left_goes_on frames grants m held next e begun = map_goes_on frames grants m.dom.0 m.gref.0 m.mode held next m.stage e begun

or_true : (b : Bool) → (b || true) ≡ true
or_true true = refl
or_true false = refl

below : (n : ℕ) → nat_lt 0 (suc n) ≡ true
below n = grind (arith, nat_tests)

-- behind a directory page
some_inserted : (xs : List Hold) (b : ℕ) (d : Hold) → nat_lt 0 (length (insert xs b d)) ≡ true
some_inserted [] zero d = refl
some_inserted [] (suc b) d = refl
some_inserted (x ∷ xs) zero d = below (length (x ∷ xs))
some_inserted (x ∷ xs) (suc b) d = below (length (insert xs b d))

dropped : (xs : List Hold) (i : ℕ) → i < length xs → 0 < length (drop i xs)
dropped [] i lt = absurd (omega (arith, lt))
dropped (x ∷ xs) zero lt = omega arith
dropped (x ∷ xs) (suc i) lt = dropped xs i (omega (arith, lt))

pub goes_on : (frames grants dom : ℕ) (mode : Mode) (m : MapStep) (more begins : ℕ) (pages : List Hold) (s : Stage) → is_begun m pages s ≡ true → (is_mapping s ≡ true → is_over m ≡ false) → (is_undoing s ≡ true → undone s < length pages) → IsUnfinished (left_in frames grants dom mode m more begins pages s)
goes_on frames grants dom mode m more begins pages stage.Directory begun maps undoes = left_goes_on frames grants m pages (entered frames grants dom mode more pages) (maps refl) begun
goes_on frames grants dom mode m more begins pages (stage.Reference d) begun maps undoes = tt
goes_on frames grants dom mode m more begins pages (stage.Page d) begun maps undoes =
    left_goes_on frames grants m (insert pages begins d) (λ h. rest_plan frames grants dom mode more d begins (pages ++ h ∷ [])) (maps refl)
    (ap (λ b. is_begun_at m.stage || b) (some_inserted pages begins d) ∙ or_true (is_begun_at m.stage))
goes_on frames grants dom mode m more begins pages (stage.Next d) begun maps undoes = tt
goes_on frames grants dom mode m more begins pages (stage.Further d g) begun maps undoes = tt
goes_on frames grants dom mode m more begins pages (stage.Leave d) begun maps undoes = tt
goes_on frames grants dom mode m more begins pages (stage.Undo i r) begun maps undoes = undo_goes_on (drop i pages) r (dropped pages i (undoes refl))
goes_on frames grants dom mode m more begins pages stage.Over begun maps undoes = absurd (false≢true begun)

-- a map that goes on after an access has begun
abbrev IsFirst : Plan (Result Hold GrantRefusal) → Type 0
IsFirst (Finished x) = Unit {0}
IsFirst (Make (Load (Grant d g Flags)) note more) = Unit {0}
IsFirst (Make (Load (Grant d g FrameNo)) note more) = ⊥
IsFirst (Make (Load (Cell d f w)) note more) = ⊥
IsFirst (Make (Store at v) note more) = ⊥
IsFirst (Make (Swap at old new) note more) = ⊥
IsFirst (Make (Clear at mask) note more) = ⊥

not_begun : (frames grants dom gref : ℕ) (mode : Mode) (s : MapStage) → is_begun_at s ≡ false → IsFirst (map_rest frames grants dom gref mode s)
not_begun frames grants dom gref mode map.Start e = by_entry (nat_lt gref grants)
  where
    by_entry : (b : Bool) → IsFirst (cond b (flags_plan frames dom gref mode) (Finished (Err (NoEntry gref))))
    by_entry true = tt
    by_entry false = tt
not_begun frames grants dom gref mode (map.Begin flags) e = let wrong : ⊥ = cc in absurd wrong
not_begun frames grants dom gref mode map.Name e = let wrong : ⊥ = cc in absurd wrong
not_begun frames grants dom gref mode (map.Undo frame) e = let wrong : ⊥ = cc in absurd wrong
not_begun frames grants dom gref mode (map.Over r) e = tt

flags_then : (frames dom gref : ℕ) (mode : Mode) (word : ℕ) (o : Option GrantRefusal) → IsUnfinished (with_flags frames dom gref mode word o) → IsFirst (with_flags frames dom gref mode word o) → ⊥
flags_then frames dom gref mode word None u f = f
flags_then frames dom gref mode word (Some r) u f = u

seen_then : (frames dom gref : ℕ) (mode : Mode) (word seen : ℕ) (b : Bool) → IsUnfinished (cond b (frame_plan frames dom gref mode) (Finished (Err (Moved word seen)))) → IsFirst (cond b (frame_plan frames dom gref mode) (Finished (Err (Moved word seen)))) → ⊥
seen_then frames dom gref mode word seen true u f = f
seen_then frames dom gref mode word seen false u f = u

frame_then : (dom gref : ℕ) (mode : Mode) (frame : ℕ) (b : Bool) → IsUnfinished (cond b (Finished (Ok (hold_of dom gref mode frame))) (undo_map dom gref mode frame)) → IsFirst (cond b (Finished (Ok (hold_of dom gref mode frame))) (undo_map dom gref mode frame)) → ⊥
frame_then dom gref mode frame true u f = u
frame_then dom gref mode frame false u f = f

goes_first : (frames grants dom gref : ℕ) (mode : Mode) (s : MapStage) (a : Access) (p : Plan (Result Hold GrantRefusal)) → Goes (map_rest frames grants dom gref mode s) a p → IsUnfinished p → IsFirst p → ⊥
goes_first frames grants dom gref mode map.Start a p g u f = by_entry (nat_lt gref grants) g
  where
    by_entry : (b : Bool) → Goes (cond b (flags_plan frames dom gref mode) (Finished (Err (NoEntry gref)))) a p → ⊥
    by_entry true g =
        flags_then frames dom gref mode (seen_by a) (refusal_of (seen_by a) mode) (subst IsUnfinished g.1 u) (subst IsFirst g.1 f)
    by_entry false g = g
goes_first frames grants dom gref mode (map.Begin flags) a p g u f =
    seen_then frames dom gref mode flags (seen_by a) (seen_by a == flags) (subst IsUnfinished g.1 u) (subst IsFirst g.1 f)
goes_first frames grants dom gref mode map.Name a p g u f =
    frame_then dom gref mode (seen_by a) (nat_lt (seen_by a) frames) (subst IsUnfinished g.1 u) (subst IsFirst g.1 f)
goes_first frames grants dom gref mode (map.Undo frame) a p g u f = subst IsUnfinished g.1 u
goes_first frames grants dom gref mode (map.Over r) a p g u f = g

by_begun : (m : MapStep) (frames grants : ℕ) (b : Bool) → is_begun_at m.stage ≡ b → (IsFirst (map_left frames grants m) → ⊥) → is_begun_at m.stage ≡ true
unfolding map_left
by_begun m frames grants true e apart = e
by_begun m frames grants false e apart = absurd (apart (not_begun frames grants m.dom.0 m.gref.0 m.mode m.stage e))

pub map_begun : (frames grants : ℕ) (m n : MapStep) (access : Option Access) (end : Option (Result Hold GrantRefusal)) → end ≡ None → Advances (map_left frames grants m) access end (map_left frames grants n) → is_begun_at n.stage ≡ true
unfolding map_left
map_begun frames grants m n None end e t = absurd (subst (λ (o : Option (Result Hold GrantRefusal)). Advances (map_left frames grants m) None o (map_left frames grants n)) e t)
map_begun frames grants m n (Some a) end e t =
    let turns = subst (λ (o : Option (Result Hold GrantRefusal)). Advances (map_left frames grants m) (Some a) o (map_left frames grants n)) e t in
    by_begun n frames grants (is_begun_at n.stage) refl (goes_first frames grants m.dom.0 m.gref.0 m.mode m.stage a (map_left frames grants n) turns.0 turns.1)

pub begun_directory : (m : MapStep) (pages : List Hold) (s : Stage) → s ≡ stage.Directory → is_begun_at m.stage ≡ true → is_begun m pages s ≡ true
begun_directory m pages s e b = ap (is_begun m pages) e ∙ ap (λ x. x || nat_lt 0 (length pages)) b
