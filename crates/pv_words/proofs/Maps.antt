-- What each access of a map leads to.
use Rattle.std.proofs.Common.{◌≡◌, ◌≢◌, ℕ, ◌+◌, ◌<◌, ◌≤◌, ◌==◌, true, false, cond, nat_lt, Some, None, Result, Ok, Err, refl, sym, ◌∙◌, ap, arith}
use Rattle.std.proofs.lemmas.Bool.Decides.{nat_tests}
use Rattle.pv_words.specs.declared.access.Access.TheVariants as access
use Rattle.pv_words.specs.declared.grant.Hold.{Hold}
use Rattle.pv_words.specs.declared.grant.Mode.{Mode}
use Rattle.pv_words.specs.declared.grant.GrantRefusal.{GrantRefusal}
use Rattle.pv_words.specs.declared.grant.GrantRefusal.TheVariants.{NoEntry, Moved, BadFrame}
use Rattle.pv_words.specs.Held.{in_use}
use Rattle.pv_words.specs.Plan.{Finished, Make, Load, Swap, Clear, Plain, Begins, Frames, Undoes}
use Rattle.pv_words.specs.declared.map.MapStage.{MapStage}
use Rattle.pv_words.specs.declared.map.MapStage.TheVariants as stage
use Rattle.pv_words.specs.Flags.{flags_place, frame_place, refusal_of}
use Rattle.pv_words.specs.Mapping.{flags_plan, with_flags, begin_plan, with_seen, frame_plan, with_frame, undo_plan, hold_of, Advances}
use Rattle.pv_words.specs.MapLeft.{map_rest}
use Rattle.pv_words.proofs.Plans.{goes_from}

module _ (frames grants dom gref : ℕ) (mode : Mode) (s : MapStage) where
  pub start_head : s ≡ stage.Start → gref < grants → map_rest frames grants dom gref mode s ≡ flags_plan frames dom gref mode
  start_head e h =
      let test : nat_lt gref grants ≡ true = grind (arith, nat_tests) in
      ap (map_rest frames grants dom gref mode) e ∙ ap (λ b. cond b (flags_plan frames dom gref mode) (Finished (Err (NoEntry gref)))) test

  pub start_ends : s ≡ stage.Start → grants ≤ gref → Advances (map_rest frames grants dom gref mode s) None (Some (Err (NoEntry gref))) (Finished (Err (NoEntry gref)))
  start_ends e h =
      let test : nat_lt gref grants ≡ false = grind (arith, nat_tests) in
      (ap (map_rest frames grants dom gref mode) e ∙ ap (λ b. cond b (flags_plan frames dom gref mode) (Finished (Err (NoEntry gref)))) test, refl)

  pub flags_refuse : s ≡ stage.Start → gref < grants → (word : ℕ) (r : GrantRefusal) → refusal_of word mode ≡ Some r → Advances (map_rest frames grants dom gref mode s) (Some (access.Load (flags_place dom gref) word)) (Some (Err r)) (Finished (Err r))
  flags_refuse e h word r refused =
      let next : with_flags frames dom gref mode word (refusal_of word mode) ≡ Finished (Err r) = ap (with_flags frames dom gref mode word) refused in
      (goes_from (map_rest frames grants dom gref mode s) (Load (flags_place dom gref)) Plain (λ w. with_flags frames dom gref mode w (refusal_of w mode)) (access.Load (flags_place dom gref) word) (Finished (Err r)) (start_head e h) (refl, sym next), refl)

  pub flags_permit : s ≡ stage.Start → gref < grants → (word : ℕ) → refusal_of word mode ≡ None → Advances (map_rest frames grants dom gref mode s) (Some (access.Load (flags_place dom gref) word)) None (begin_plan frames dom gref mode word)
  flags_permit e h word none =
      let next : with_flags frames dom gref mode word (refusal_of word mode) ≡ begin_plan frames dom gref mode word = ap (with_flags frames dom gref mode word) none in
      (goes_from (map_rest frames grants dom gref mode s) (Load (flags_place dom gref)) Plain (λ w. with_flags frames dom gref mode w (refusal_of w mode)) (access.Load (flags_place dom gref) word) (begin_plan frames dom gref mode word) (start_head e h) (refl, sym next), tt)

  -- the code knows the in-use bits as b
  pub begin_head : (word b : ℕ) → s ≡ stage.Begin word → b ≡ in_use mode → map_rest frames grants dom gref mode s ≡ Make (Swap (flags_place dom gref) word (word + b)) (Begins gref) (with_seen frames dom gref mode word)
  begin_head word b e bits =
      ap (map_rest frames grants dom gref mode) e ∙ ap (λ x. Make (Swap (flags_place dom gref) word (word + x)) (Begins gref) (with_seen frames dom gref mode word)) (sym bits)

  pub begin_moved : (word b seen : ℕ) → s ≡ stage.Begin word → b ≡ in_use mode → seen ≢ word → Advances (map_rest frames grants dom gref mode s) (Some (access.Cas (flags_place dom gref) word (word + b) seen)) (Some (Err (Moved word seen))) (Finished (Err (Moved word seen)))
  begin_moved word b seen e bits other =
      let test : (seen == word) ≡ false = grind (arith, nat_tests) in
      let next : with_seen frames dom gref mode word seen ≡ Finished (Err (Moved word seen)) = ap (λ t. cond t (frame_plan frames dom gref mode) (Finished (Err (Moved word seen)))) test in
      (goes_from (map_rest frames grants dom gref mode s) (Swap (flags_place dom gref) word (word + b)) (Begins gref) (with_seen frames dom gref mode word) (access.Cas (flags_place dom gref) word (word + b) seen) (Finished (Err (Moved word seen))) (begin_head word b e bits) (refl, sym next), refl)

  pub begin_holds : (word b seen : ℕ) → s ≡ stage.Begin word → b ≡ in_use mode → seen ≡ word → Advances (map_rest frames grants dom gref mode s) (Some (access.Cas (flags_place dom gref) word (word + b) seen)) None (frame_plan frames dom gref mode)
  begin_holds word b seen e bits same =
      let test : (seen == word) ≡ true = grind (arith, nat_tests) in
      let next : with_seen frames dom gref mode word seen ≡ frame_plan frames dom gref mode = ap (λ t. cond t (frame_plan frames dom gref mode) (Finished (Err (Moved word seen)))) test in
      (goes_from (map_rest frames grants dom gref mode s) (Swap (flags_place dom gref) word (word + b)) (Begins gref) (with_seen frames dom gref mode word) (access.Cas (flags_place dom gref) word (word + b) seen) (frame_plan frames dom gref mode) (begin_head word b e bits) (refl, sym next), tt)

  pub name_head : s ≡ stage.Name → map_rest frames grants dom gref mode s ≡ frame_plan frames dom gref mode
  name_head e = ap (map_rest frames grants dom gref mode) e

  pub name_ends : (frame : ℕ) → s ≡ stage.Name → frame < frames → Advances (map_rest frames grants dom gref mode s) (Some (access.Load (frame_place dom gref) frame)) (Some (Ok (hold_of dom gref mode frame))) (Finished (Ok (hold_of dom gref mode frame)))
  name_ends frame e h =
      let test : nat_lt frame frames ≡ true = grind (arith, nat_tests) in
      let next : with_frame frames dom gref mode frame ≡ Finished (Ok (hold_of dom gref mode frame)) = ap (λ t. cond t (Finished (Ok (hold_of dom gref mode frame))) (undo_plan dom gref mode frame)) test in
      (goes_from (map_rest frames grants dom gref mode s) (Load (frame_place dom gref)) (Frames gref) (with_frame frames dom gref mode) (access.Load (frame_place dom gref) frame) (Finished (Ok (hold_of dom gref mode frame))) (name_head e) (refl, sym next), refl)

  pub name_undoes : (frame : ℕ) → s ≡ stage.Name → frames ≤ frame → Advances (map_rest frames grants dom gref mode s) (Some (access.Load (frame_place dom gref) frame)) None (undo_plan dom gref mode frame)
  name_undoes frame e h =
      let test : nat_lt frame frames ≡ false = grind (arith, nat_tests) in
      let next : with_frame frames dom gref mode frame ≡ undo_plan dom gref mode frame = ap (λ t. cond t (Finished (Ok (hold_of dom gref mode frame))) (undo_plan dom gref mode frame)) test in
      (goes_from (map_rest frames grants dom gref mode s) (Load (frame_place dom gref)) (Frames gref) (with_frame frames dom gref mode) (access.Load (frame_place dom gref) frame) (undo_plan dom gref mode frame) (name_head e) (refl, sym next), tt)

  pub undo_head : (frame b : ℕ) → s ≡ stage.Undo frame → b ≡ in_use mode → map_rest frames grants dom gref mode s ≡ Make (Clear (flags_place dom gref) b) Undoes (λ _. Finished (Err (BadFrame frame)))
  undo_head frame b e bits =
      ap (map_rest frames grants dom gref mode) e ∙ ap (λ x. Make (Clear (flags_place dom gref) x) Undoes (λ _. Finished (Err (BadFrame frame)))) (sym bits)

  pub undo_ends : (frame b seen : ℕ) → s ≡ stage.Undo frame → b ≡ in_use mode → Advances (map_rest frames grants dom gref mode s) (Some (access.Clear (flags_place dom gref) b seen)) (Some (Err (BadFrame frame))) (Finished (Err (BadFrame frame)))
  undo_ends frame b seen e bits =
      (goes_from (map_rest frames grants dom gref mode s) (Clear (flags_place dom gref) b) Undoes (λ _. Finished (Err (BadFrame frame))) (access.Clear (flags_place dom gref) b seen) (Finished (Err (BadFrame frame))) (undo_head frame b e bits) (refl, refl), refl)

  pub over_ends : (r : Result Hold GrantRefusal) → s ≡ stage.Over r → Advances (map_rest frames grants dom gref mode s) None (Some r) (Finished r)
  over_ends r e = (ap (map_rest frames grants dom gref mode) e, refl)
