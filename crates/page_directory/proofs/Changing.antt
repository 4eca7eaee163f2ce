-- What each access of a walk makes of the pages that are held.
use Rattle.std.proofs.Common.{◌≡◌, ℕ, zero, suc, ◌≤◌, ◌==◌, Bool, true, false, cond, nat_lt, List, [], ◌∷◌, ◌++◌, length, drop, take, Option, Some, None, is_some, Result, Ok, Err, refl, sym, subst, ap, ◌∙◌, arith, take-append-drop}
use Rattle.std.specs.List.{insert}
use Rattle.pv_words.specs.declared.access.Access.{Access}
use Rattle.pv_words.specs.declared.grant.Hold.{Hold}
use Rattle.pv_words.specs.declared.grant.Mode.{Mode}
use Rattle.pv_words.specs.declared.grant.GrantRefusal.{GrantRefusal}
use Rattle.pv_words.specs.declared.grant.GrantRefusal.TheVariants.{NoEntry, Moved}
use Rattle.pv_words.specs.Plan.{Plan, Finished, Make, Want, Note, Plain, Begins, Frames, Undoes, Ends, Goes, IsUnfinished, seen_by}
use Rattle.pv_words.specs.declared.map.MapStep.{MapStep}
use Rattle.pv_words.specs.declared.map.MapStage.{MapStage}
use Rattle.pv_words.specs.declared.map.MapStage.TheVariants as map
use Rattle.pv_words.specs.MapLeft.{map_left, map_rest}
use Rattle.pv_words.specs.Flags.{refusal_of}
use Rattle.pv_words.specs.Mapping.{flags_plan, with_flags, frame_plan, undo_plan, hold_of, Advances, HoldsByAccess}
use Rattle.page_directory.specs.declared.walk.Walked.{Walked}
use Rattle.page_directory.specs.Changes.{Gains, ChangesBy, Changes, Stand}
use Rattle.pv_words.specs.Plan.{joined}
use Rattle.page_directory.specs.Joins.{Leads}
use Rattle.page_directory.specs.Walking.{with_map}
use Rattle.page_directory.specs.Walking as walk

-- a map isn't over with a page
abbrev NotHeld : Plan (Result Hold GrantRefusal) → Type 0
NotHeld (Finished (Ok h)) = ⊥
NotHeld (Finished (Err r)) = Unit {0}
NotHeld (Make want note next) = Unit {0}

-- a map is over with the page of this frame where the domain has it, and else not with a page
abbrev HeldAt : Bool → (gref frame : ℕ) → Plan (Result Hold GrantRefusal) → Type 0
HeldAt true gref frame p = (h : Hold) × (h.gref.0 ≡ gref) × (h.frame.0 ≡ frame) × (p ≡ Finished (Ok h))
HeldAt false gref frame p = NotHeld p

-- what the next access is for tells whether a map is over with a page then
abbrev TellsBy : (frames : ℕ) → Note → (ℕ → Plan (Result Hold GrantRefusal)) → Type 0
TellsBy frames Plain next = (v : ℕ) → NotHeld (next v)
TellsBy frames (Begins gref) next = (v : ℕ) → NotHeld (next v)
TellsBy frames (Frames gref) next = (v : ℕ) → HeldAt (nat_lt v frames) gref v (next v)
TellsBy frames Undoes next = (v : ℕ) → NotHeld (next v)
TellsBy frames other next = ⊥

abbrev Tells : (frames : ℕ) → Plan (Result Hold GrantRefusal) → Type 0
Tells frames (Finished x) = Unit {0}
Tells frames (Make want note next) = TellsBy frames note next

module _ (frames grants dom gref : ℕ) (mode : Mode) where
  asked : (word : ℕ) (o : Option GrantRefusal) → NotHeld (with_flags frames dom gref mode word o)
  asked word (Some r) = tt
  asked word None = tt

  seen : (b : Bool) (word s : ℕ) → NotHeld (cond b (frame_plan frames dom gref mode) (Finished (Err (Moved word s))))
  seen true word s = tt
  seen false word s = tt

  named : (b : Bool) (v : ℕ) → HeldAt b gref v (cond b (Finished (Ok (hold_of dom gref mode v))) (undo_plan dom gref mode v))
  named true v = (hold_of dom gref mode v, refl, refl, refl)
  named false v = tt

  entered : (b : Bool) → Tells frames (cond b (flags_plan frames dom gref mode) (Finished (Err (NoEntry gref))))
  entered true = λ v. asked v (refusal_of v mode)
  entered false = tt

  rest_tells : (s : MapStage) → Tells frames (map_rest frames grants dom gref mode s)
  rest_tells map.Start = entered (nat_lt gref grants)
  rest_tells (map.Begin flags) = λ v. seen (v == flags) flags v
  rest_tells map.Name = λ v. named (nat_lt v frames) v
  rest_tells (map.Undo frame) = λ v. tt
  rest_tells (map.Over r) = tt

left_tells : (frames grants : ℕ) (m : MapStep) → Tells frames (map_left frames grants m)
unfolding map_left
left_tells frames grants m = rest_tells frames grants m.dom.0 m.gref.0 m.mode m.stage

-- a map that isn't over with a page leaves what is held
abbrev NoPage : Option (Result Hold GrantRefusal) → Type 0
NoPage None = Unit {0}
NoPage (Some (Ok h)) = ⊥
NoPage (Some (Err r)) = Unit {0}

at_end : (b : Bool) (gref frame : ℕ) (p : Plan (Result Hold GrantRefusal)) (held : List Hold) → HeldAt b gref frame p → ((h : Hold) → p ≡ Finished (Ok h) → ⊥) → Gains b gref frame held held
at_end true gref frame p held at none = absurd (none at.0 at.3)
at_end false gref frame p held at none = refl

same_by : (frames : ℕ) (note : Note) (next : ℕ → Plan (Result Hold GrantRefusal)) (a : Access) (held : List Hold) → TellsBy frames note next → ((h : Hold) → next (seen_by a) ≡ Finished (Ok h) → ⊥) → ChangesBy frames held note a held
same_by frames Plain next a held tells none = refl
same_by frames (Begins gref) next a held tells none = refl
same_by frames (Frames gref) next a held tells none = at_end (nat_lt (seen_by a) frames) gref (seen_by a) (next (seen_by a)) held (tells (seen_by a)) none
same_by frames Undoes next a held tells none = refl
same_by frames other next a held tells none = absurd tells

unfinished_not : (p : Plan (Result Hold GrantRefusal)) → IsUnfinished p → (x : Result Hold GrantRefusal) → p ≡ Finished x → ⊥
unfinished_not p u x e = subst (λ (q : Plan (Result Hold GrantRefusal)). IsUnfinished q) e u

refused_not : (p : Plan (Result Hold GrantRefusal)) (r : GrantRefusal) → Finished (Err r) ≡ p → (h : Hold) → p ≡ Finished (Ok h) → ⊥
refused_not p r e h f = subst NotHeld (e ∙ f) tt

-- a step of a map that doesn't hold its page then
keeps : (frames : ℕ) (p : Plan (Result Hold GrantRefusal)) (a : Access) (last : Option (Result Hold GrantRefusal)) (q : Plan (Result Hold GrantRefusal)) (held : List Hold) → Tells frames p → Advances p (Some a) last q → NoPage last → Changes frames held p (Some a) held
keeps frames (Finished x) a last q held tells h none = refl
keeps frames (Make want note next) a None q held tells h none =
    same_by frames note next a held tells (λ k. unfinished_not (next (seen_by a)) (subst IsUnfinished h.0.1 h.1) (Ok k))
keeps frames (Make want note next) a (Some (Ok k)) q held tells h none = absurd none
keeps frames (Make want note next) a (Some (Err r)) q held tells h none =
    same_by frames note next a held tells (refused_not (next (seen_by a)) r h.0.1)

ok_same : (h k : Hold) (p : Plan (Result Hold GrantRefusal)) → Finished (Ok h) ≡ p → p ≡ Finished (Ok k) → h ≡ k
ok_same h k p e f = cc

page_by : (frames : ℕ) (note : Note) (next : ℕ → Plan (Result Hold GrantRefusal)) (a : Access) (h : Hold) (held : List Hold) → TellsBy frames note next → Finished (Ok h) ≡ next (seen_by a) → ChangesBy frames held note a (held ++ h ∷ [])
page_by frames Plain next a h held tells e = absurd (subst NotHeld (sym e) (tells (seen_by a)))
page_by frames (Begins gref) next a h held tells e = absurd (subst NotHeld (sym e) (tells (seen_by a)))
page_by frames (Frames gref) next a h held tells e = by_frame (nat_lt (seen_by a) frames) (tells (seen_by a))
  where
    by_frame : (b : Bool) → HeldAt b gref (seen_by a) (next (seen_by a)) → Gains b gref (seen_by a) held (held ++ h ∷ [])
    by_frame true at =
        let same = ok_same h at.0 (next (seen_by a)) e at.3 in
        (at.0, at.1, at.2, ap (λ k. held ++ k ∷ []) same)
    by_frame false at = absurd (subst NotHeld (sym e) at)
page_by frames Undoes next a h held tells e = absurd (subst NotHeld (sym e) (tells (seen_by a)))
page_by frames other next a h held tells e = absurd tells

-- the last step of a map that does
gains : (frames : ℕ) (p : Plan (Result Hold GrantRefusal)) (a : Access) (h : Hold) (q : Plan (Result Hold GrantRefusal)) (held : List Hold) → Tells frames p → Advances p (Some a) (Some (Ok h)) q → Changes frames held p (Some a) (held ++ h ∷ [])
gains frames (Finished x) a h q held tells adv = absurd adv.0
gains frames (Make want note next) a h q held tells adv = page_by frames note next a h held tells adv.0.1

-- the same of the walk of which the map is the next part
within : {A B : Type 0} (next : A → Plan B) (frames : ℕ) (p : Plan A) (a : Access) (old new : List Hold) → IsUnfinished p → Changes frames old p (Some a) new → Changes frames old (joined p next) (Some a) new
within next frames (Finished x) a old new u c = absurd u
within next frames (Make want note more) a old new u c = c

goes_unfinished : {A : Type 0} (p : Plan A) (a : Access) (q : Plan A) → Goes p a q → IsUnfinished p
goes_unfinished (Finished x) a q g = absurd g
goes_unfinished (Make want note more) a q g = tt

advances_unfinished : (p : Plan (Result Hold GrantRefusal)) (a : Access) (last : Option (Result Hold GrantRefusal)) (q : Plan (Result Hold GrantRefusal)) → Advances p (Some a) last q → IsUnfinished p
advances_unfinished p a None q h = goes_unfinished p a q h.0
advances_unfinished p a (Some x) q h = goes_unfinished p a (Finished x) h.0

pub changes_along : {A : Type 0} (frames : ℕ) (old from : List Hold) (p q : Plan A) (access : Option Access) (new to : List Hold) → old ≡ from → p ≡ q → new ≡ to → Changes frames from q access to → Changes frames old p access new
changes_along {A} frames old from p q access new to o e n h =
    subst (λ x. Changes frames x p access new) (sym o) (subst (λ (r : Plan A). Changes frames from r access new) (sym e) (subst (λ x. Changes frames from q access x) (sym n) h))

-- A map within a walk, where the number of the domain is known under two names.
module _ {B : Type 0} (frames grants : ℕ → ℕ) (d e : ℕ) (same : d ≡ e) (m : MapStep) (next : Result Hold GrantRefusal → Plan B) (p : Plan B) (is : p ≡ joined (map_left (frames e) (grants e) m) next) where
  along : (access : Option Access) (last : Option (Result Hold GrantRefusal)) (n : MapStep) → Advances (map_left (frames d) (grants d) m) access last (map_left (frames d) (grants d) n) → Advances (map_left (frames e) (grants e) m) access last (map_left (frames e) (grants e) n)
  along access last n h = subst (λ x. Advances (map_left (frames x) (grants x) m) access last (map_left (frames x) (grants x) n)) same h

  kept : (a : Access) (last : Option (Result Hold GrantRefusal)) (n : MapStep) (held : List Hold) → Advances (map_left (frames d) (grants d) m) (Some a) last (map_left (frames d) (grants d) n) → NoPage last → Changes (frames e) held p (Some a) held
  kept a last n held adv none =
      let b = along (Some a) last n adv in
      let c = keeps (frames e) (map_left (frames e) (grants e) m) a last (map_left (frames e) (grants e) n) held (left_tells (frames e) (grants e) m) b none in
      changes_along (frames e) held held p (joined (map_left (frames e) (grants e) m) next) (Some a) held held refl is refl
      (within next (frames e) (map_left (frames e) (grants e) m) a held held (advances_unfinished (map_left (frames e) (grants e) m) a last (map_left (frames e) (grants e) n) b) c)

  -- it isn't done
  pub map_keeps : (access : Option Access) (last : Option (Result Hold GrantRefusal)) (n : MapStep) (held new : List Hold) → Advances (map_left (frames d) (grants d) m) access last (map_left (frames d) (grants d) n) → last ≡ None → new ≡ held → Changes (frames e) held p access new
  map_keeps None None n held new adv none same_held = absurd adv
  map_keeps None (Some x) n held new adv none same_held = let wrong : ⊥ = cc in absurd wrong
  map_keeps (Some a) last n held new adv none same_held =
      subst (λ x. Changes (frames e) held p (Some a) x) (sym same_held) (kept a last n held adv (subst NoPage (sym none) tt))

  -- it was refused
  pub map_stands : (access : Option Access) (last : Option (Result Hold GrantRefusal)) (n : MapStep) (r : GrantRefusal) (held new : List Hold) → Advances (map_left (frames d) (grants d) m) access last (map_left (frames d) (grants d) n) → last ≡ Some (Err r) → held ≡ new → Stand (frames e) held p access new
  map_stands None last n r held new adv refused same_held = same_held
  map_stands (Some a) last n r held new adv refused same_held =
      subst (λ x. Changes (frames e) held p (Some a) x) same_held (kept a last n held adv (subst NoPage (sym refused) tt))

  -- it holds its page
  pub map_gains : (access : Option Access) (last : Option (Result Hold GrantRefusal)) (n : MapStep) (h : Hold) (held new : List Hold) → Advances (map_left (frames d) (grants d) m) access last (map_left (frames d) (grants d) n) → last ≡ Some (Ok h) → HoldsByAccess access last → new ≡ held ++ h ∷ [] → Changes (frames e) held p access new
  map_gains None last n h held new adv ok by more = absurd (subst (λ (x : Option (Result Hold GrantRefusal)). HoldsByAccess None x) ok by)
  map_gains (Some a) last n h held new adv ok by more =
      let b = subst (λ (x : Option (Result Hold GrantRefusal)). Advances (map_left (frames e) (grants e) m) (Some a) x (map_left (frames e) (grants e) n)) ok (along (Some a) last n adv) in
      let c = gains (frames e) (map_left (frames e) (grants e) m) a h (map_left (frames e) (grants e) n) held (left_tells (frames e) (grants e) m) b in
      changes_along (frames e) held held p (joined (map_left (frames e) (grants e) m) next) (Some a) new (held ++ h ∷ []) refl is more
      (within next (frames e) (map_left (frames e) (grants e) m) a held (held ++ h ∷ []) (advances_unfinished (map_left (frames e) (grants e) m) a (Some (Ok h)) (map_left (frames e) (grants e) n) b) c)

-- an access that is the known first of a plan
pub changes_first : {A : Type 0} (frames : ℕ) (old : List Hold) (p : Plan A) (want : Want) (note : Note) (more : ℕ → Plan A) (a : Access) (new : List Hold) → p ≡ Make want note more → ChangesBy frames old note a new → Changes frames old p (Some a) new
changes_first {A} frames old p want note more a new e c = subst (λ (q : Plan A). Changes frames old q (Some a) new) (sym e) c

-- the first page of those left is unmapped again
pub undo_changes : (frames : ℕ) (held rest : List Hold) (h : Hold) (r : GrantRefusal) (a : Access) (new : List Hold) → held ≡ h ∷ rest → new ≡ rest → Changes frames held (walk.undo_plan held r) (Some a) new
undo_changes frames held rest h r a new e n = subst (λ l. Changes frames l (walk.undo_plan l r) (Some a) new) (sym e) ([], rest, refl, n)

-- a refusal where nothing is held
pub refused_changes : (frames : ℕ) (held : List Hold) (old : Plan Walked) (access : Option Access) (pages : List Hold) (r : GrantRefusal) → pages ≡ [] → Leads old access (walk.undo_plan pages r) → Stand frames held old access pages → Changes frames held old access pages
refused_changes frames held old None pages r none leads stand =
    subst (λ (p : Plan Walked). Changes frames held p None pages) (sym (leads ∙ ap (λ hs. walk.undo_plan hs r) none)) (sym stand)
refused_changes frames held old (Some a) pages r none leads stand = stand

pub stand_changes : (frames : ℕ) (held : List Hold) (old : Plan Walked) (access : Option Access) (pages : List Hold) → is_some access ≡ true → Stand frames held old access pages → Changes frames held old access pages
stand_changes frames held old None pages some stand = let wrong : ⊥ = cc in absurd wrong
stand_changes frames held old (Some a) pages some stand = stand

-- a page behind the last, and the directory page
pub insert_last : (xs : List Hold) (n : ℕ) (d : Hold) → n ≡ length xs → insert xs n d ≡ xs ++ d ∷ []
insert_last xs n d e = ap (λ k. insert xs k d) e ∙ at_end_of xs d
  where
    at_end_of : (ys : List Hold) (x : Hold) → insert ys (length ys) x ≡ ys ++ x ∷ []
    at_end_of [] x = refl
    at_end_of (y ∷ ys) x = ap (λ l. y ∷ l) (at_end_of ys x)

pub insert_push : (xs : List Hold) (n : ℕ) (d h : Hold) → n ≤ length xs → insert (xs ++ h ∷ []) n d ≡ insert xs n d ++ h ∷ []
insert_push xs zero d h l = refl
insert_push [] (suc n) d h l = absurd (omega (arith, l))
insert_push (y ∷ ys) (suc n) d h l = ap (λ k. y ∷ k) (insert_push ys n d h (omega (arith, l)))

-- the directory page is unmapped
pub leaves_directory : (frames : ℕ) (pages : List Hold) (begins : ℕ) (d : Hold) (a : Access) (new : List Hold) → new ≡ pages → ChangesBy frames (insert pages begins d) (Ends d) a new
leaves_directory frames pages begins d a new e = (take begins pages, drop begins pages, refl, e ∙ sym (take-append-drop begins pages))
