-- What each access of a permit and of an end leads to.
use Rattle.std.proofs.Common.{◌≡◌, ◌≢◌, ℕ, ◌==◌, true, false, cond, Some, None, refl, sym, ◌∙◌, ap, arith}
use Rattle.std.proofs.lemmas.Bool.Decides.{nat_tests}
use Rattle.pv_words.specs.declared.access.Access.TheVariants as access
use Rattle.pv_words.specs.declared.place.Frame.{Frame}
use Rattle.pv_words.specs.declared.grant.Mode.{Mode}
use Rattle.pv_words.specs.Memory.{without}
use Rattle.pv_words.specs.Plan.{Plan, Finished, Make, Load, Store, Swap, Plain, Turns, IsUnfinished}
use Rattle.grant_table.specs.declared.owner.Owned.{Owned}
use Rattle.grant_table.specs.declared.owner.Owned.TheVariants.{AlreadyOpen}
use Rattle.grant_table.specs.declared.owner.OwnerStage.{OwnerStage}
use Rattle.grant_table.specs.declared.owner.OwnerStage.TheVariants as stage
use Rattle.pv_words.specs.Flags.{flags_place, frame_place, used}
use Rattle.grant_table.specs.Owning.{permit_plan, name_plan, open_plan, end_plan, close_plan, granting, opened_at, ended_at}
use Rattle.grant_table.specs.OwnerLeft.{permit_rest, end_rest}
use Rattle.pv_words.proofs.Plans.{goes_from}

module _ (dom gref : ℕ) (s : OwnerStage) where
  pub start_head : (frame : Frame) (mode : Mode) → s ≡ stage.Start frame mode → permit_rest dom gref s ≡ permit_plan dom gref frame.0 mode
  start_head frame mode e = ap (permit_rest dom gref) e

  pub start_refuses : (frame : Frame) (mode : Mode) (word : ℕ) (new : Plan Owned) → s ≡ stage.Start frame mode → word ≢ 0 → Turns (permit_rest dom gref s) (Some (access.Load (flags_place dom gref) word)) (Some (AlreadyOpen word)) new
  start_refuses frame mode word new e taken =
      let test : (word == 0) ≡ false = grind (arith, nat_tests) in
      let next : cond (word == 0) (name_plan dom gref frame.0 mode) (Finished (AlreadyOpen word)) ≡ Finished (AlreadyOpen word) = ap (λ t. cond t (name_plan dom gref frame.0 mode) (Finished (AlreadyOpen word))) test in
      goes_from (permit_rest dom gref s) (Load (flags_place dom gref)) Plain (λ w. cond (w == 0) (name_plan dom gref frame.0 mode) (Finished (AlreadyOpen w))) (access.Load (flags_place dom gref) word) (Finished (AlreadyOpen word)) (start_head frame mode e) (refl, sym next)

  pub start_goes_on : (frame : Frame) (mode : Mode) (word : ℕ) → s ≡ stage.Start frame mode → word ≡ 0 → Turns (permit_rest dom gref s) (Some (access.Load (flags_place dom gref) word)) None (name_plan dom gref frame.0 mode)
  start_goes_on frame mode word e free =
      let test : (word == 0) ≡ true = grind (arith, nat_tests) in
      let next : cond (word == 0) (name_plan dom gref frame.0 mode) (Finished (AlreadyOpen word)) ≡ name_plan dom gref frame.0 mode = ap (λ t. cond t (name_plan dom gref frame.0 mode) (Finished (AlreadyOpen word))) test in
      (goes_from (permit_rest dom gref s) (Load (flags_place dom gref)) Plain (λ w. cond (w == 0) (name_plan dom gref frame.0 mode) (Finished (AlreadyOpen w))) (access.Load (flags_place dom gref) word) (name_plan dom gref frame.0 mode) (start_head frame mode e) (refl, sym next), tt)

  pub name_head : (frame : Frame) (mode : Mode) → s ≡ stage.Name frame mode → permit_rest dom gref s ≡ name_plan dom gref frame.0 mode
  name_head frame mode e = ap (permit_rest dom gref) e

  pub name_goes_on : (frame : Frame) (mode : Mode) → s ≡ stage.Name frame mode → Turns (permit_rest dom gref s) (Some (access.Store (frame_place dom gref) frame.0)) None (open_plan dom gref mode)
  name_goes_on frame mode e =
      (goes_from (permit_rest dom gref s) (Store (frame_place dom gref) frame.0) Plain (λ _. open_plan dom gref mode) (access.Store (frame_place dom gref) frame.0) (open_plan dom gref mode) (name_head frame mode e) (refl, refl), tt)

  -- the code knows the word of the grant as v
  pub open_head : (mode : Mode) (v : ℕ) → s ≡ stage.Open mode → v ≡ granting mode → permit_rest dom gref s ≡ Make (Swap (flags_place dom gref) 0 v) Plain (λ seen. Finished (opened_at seen))
  open_head mode v e value =
      ap (permit_rest dom gref) e ∙ ap (λ x. Make (Swap (flags_place dom gref) 0 x) Plain (λ seen. Finished (opened_at seen))) (sym value)

  pub open_ends : (mode : Mode) (v seen : ℕ) (r : Owned) (new : Plan Owned) → s ≡ stage.Open mode → v ≡ granting mode → r ≡ opened_at seen → Turns (permit_rest dom gref s) (Some (access.Cas (flags_place dom gref) 0 v seen)) (Some r) new
  open_ends mode v seen r new e value told =
      goes_from (permit_rest dom gref s) (Swap (flags_place dom gref) 0 v) Plain (λ x. Finished (opened_at x)) (access.Cas (flags_place dom gref) 0 v seen) (Finished r) (open_head mode v e value) (refl, ap Finished told)

  pub check_head : s ≡ stage.Check → end_rest dom gref s ≡ end_plan dom gref
  check_head e = ap (end_rest dom gref) e

  pub check_goes_on : (word : ℕ) → s ≡ stage.Check → Turns (end_rest dom gref s) (Some (access.Load (flags_place dom gref) word)) None (close_plan dom gref word)
  check_goes_on word e =
      (goes_from (end_rest dom gref s) (Load (flags_place dom gref)) Plain (close_plan dom gref) (access.Load (flags_place dom gref) word) (close_plan dom gref word) (check_head e) (refl, refl), tt)

  pub close_head : (word : ℕ) → s ≡ stage.Close word → end_rest dom gref s ≡ close_plan dom gref word
  close_head word e = ap (end_rest dom gref) e

  pub close_ends : (word seen : ℕ) (r : Owned) (new : Plan Owned) → s ≡ stage.Close word → r ≡ ended_at word seen → Turns (end_rest dom gref s) (Some (access.Cas (flags_place dom gref) (without word used) 0 seen)) (Some r) new
  close_ends word seen r new e told =
      goes_from (end_rest dom gref s) (Swap (flags_place dom gref) (without word used) 0) Plain (λ x. Finished (ended_at word x)) (access.Cas (flags_place dom gref) (without word used) 0 seen) (Finished r) (close_head word e) (refl, ap Finished told)

-- a stage of the other kind, or none, leaves nothing
pub no_permit : (dom gref : ℕ) (s : OwnerStage) → ((frame : Frame) (mode : Mode) → s ≡ stage.Start frame mode → ⊥) → ((frame : Frame) (mode : Mode) → s ≡ stage.Name frame mode → ⊥) → ((mode : Mode) → s ≡ stage.Open mode → ⊥) → IsUnfinished (permit_rest dom gref s) → ⊥
no_permit dom gref (stage.Start frame mode) not_start not_name not_open h = not_start frame mode refl
no_permit dom gref (stage.Name frame mode) not_start not_name not_open h = not_name frame mode refl
no_permit dom gref (stage.Open mode) not_start not_name not_open h = not_open mode refl
no_permit dom gref stage.Check not_start not_name not_open h = h
no_permit dom gref (stage.Close word) not_start not_name not_open h = h
no_permit dom gref stage.Over not_start not_name not_open h = h

pub no_end : (dom gref : ℕ) (s : OwnerStage) → (s ≡ stage.Check → ⊥) → ((word : ℕ) → s ≡ stage.Close word → ⊥) → IsUnfinished (end_rest dom gref s) → ⊥
no_end dom gref (stage.Start frame mode) not_check not_close h = h
no_end dom gref (stage.Name frame mode) not_check not_close h = h
no_end dom gref (stage.Open mode) not_check not_close h = h
no_end dom gref stage.Check not_check not_close h = not_check refl
no_end dom gref (stage.Close word) not_check not_close h = not_close word refl
no_end dom gref stage.Over not_check not_close h = h
