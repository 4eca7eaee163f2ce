-- A map's refusal is the one that the words show which it found.
use Rattle.std.proofs.Common.{◌≡◌, ℕ, ◌==◌, Bool, true, false, cond, nat_lt, Option, Some, None, is_some, Result, Ok, Err, refl, sym, subst, ◌∙◌, ap, arith}
use Rattle.std.proofs.lemmas.Bool.Decides.{nat_tests}
use Rattle.pv_words.specs.declared.grant.Hold.{Hold}
use Rattle.pv_words.specs.declared.grant.Mode.{Mode}
use Rattle.pv_words.specs.declared.grant.GrantRefusal.{GrantRefusal}
use Rattle.pv_words.specs.declared.grant.GrantRefusal.TheVariants as refusal
use Rattle.pv_words.specs.Found.{Found, finding}
use Rattle.pv_words.specs.Held.{permits}
use Rattle.pv_words.specs.Plan.{Plan, Finished, Note, FitsFrom, IsUntouched}
use Rattle.pv_words.specs.Flags.{refusal_of, denies, forbids, has, is_foreign, used}
use Rattle.pv_words.specs.Mapping.{hold_of, undo_plan, frame_plan, with_flags, flags_plan}
use Rattle.pv_words.specs.MapLaws.{MapsShow, AreFound, HasLoaded, Shows}
use Rattle.pv_words.proofs.Holdings.{caused, permitted, some_same}
use Rattle.pv_words.proofs.Outcomes.{refuses_exactly}

module _ (frames grants dom gref : ℕ) (mode : Mode) (first : Found) where
  abbrev Fit : Found → Plan (Result Hold GrantRefusal) → Type 0
  Fit f p = FitsFrom (λ g want note. IsUntouched note) (λ g (note : Note) a. finding g a) (λ g r. Shows frames grants gref mode g r × (g.word ≡ first.word)) f p

  -- the words of a refusal by the flags are the flags
  told : (f : Found) (word : ℕ) (d g w u : Bool) (r : GrantRefusal) → HasLoaded gref word f → cond d (Some (refusal.NotPermitted word)) (cond g (Some (refusal.OtherDomain word)) (cond w (Some (refusal.ReadOnly word)) (cond u (Some (refusal.InUse word)) None))) ≡ Some r → AreFound gref f r
  told f word true g w u r l e = subst (λ x. AreFound gref f x) (some_same (refusal.NotPermitted word) r e) l
  told f word false true w u r l e = subst (λ x. AreFound gref f x) (some_same (refusal.OtherDomain word) r e) l
  told f word false false true u r l e = subst (λ x. AreFound gref f x) (some_same (refusal.ReadOnly word) r e) l
  told f word false false false true r l e = subst (λ x. AreFound gref f x) (some_same (refusal.InUse word) r e) l
  told f word false false false false r l e = let wrong : ⊥ = cc in absurd wrong

  named : (f : Found) (word k : ℕ) (b : Bool) → f.word ≡ first.word → HasLoaded gref word f → f.seen ≡ Some word → nat_lt k frames ≡ b → Fit (record f { frame = Some k }) (cond b (Finished (Ok (hold_of dom gref mode k))) (undo_plan dom gref mode k))
  named f word k true same l s e = (tt, same)
  named f word k false same l s e = (tt, λ v. ((grind (arith, nat_tests), ((word, l, s), refl)), same))

  swapped : (f : Found) (word seen : ℕ) (b : Bool) → f.word ≡ first.word → HasLoaded gref word f → permits word mode ≡ true → (seen == word) ≡ b → Fit (record f { seen = Some seen }) (cond b (frame_plan frames dom gref mode) (Finished (Err (refusal.Moved word seen))))
  swapped f word seen true kept l ok e =
      let same : seen ≡ word = grind (arith, nat_tests) in
      (tt, λ k. named (record f { seen = Some seen }) word k (nat_lt k frames) kept l (ap Some same) refl)
  swapped f word seen false kept l ok e = (((ok, e), (l, refl)), kept)

  asked : (f : Found) (word : ℕ) (o : Option GrantRefusal) → f.word ≡ first.word → HasLoaded gref word f → refusal_of word mode ≡ o → Fit f (with_flags frames dom gref mode word o)
  asked f word (Some x) kept l e = (
    (
      caused frames grants gref word mode (denies word) (is_foreign word) (forbids word mode) (has word used) x refl refl refl refl e,
      told f word (denies word) (is_foreign word) (forbids word mode) (has word used) x l e,
    ),
    kept,
  )
  asked f word None kept l e =
      let ok = permitted (permits word mode) (sym (ap is_some e) ∙ refuses_exactly word mode) in
      (tt, λ seen. swapped f word seen (seen == word) kept l ok refl)

  maps : Fit first (flags_plan frames dom gref mode)
  maps = (tt, λ word. asked (record { gref = gref; flags = Some word; seen = None; frame = None; word = first.word }) word (refusal_of word mode) refl (refl, refl) refl)

  entered : (b : Bool) → nat_lt gref grants ≡ b → Fit first (cond b (flags_plan frames dom gref mode) (Finished (Err (refusal.NoEntry gref))))
  entered true e = maps
  entered false e = (((refl, grind (arith, nat_tests)), tt), refl)

pub maps_show : MapsShow
maps_show frames grants dom gref mode f = entered frames grants dom gref mode f (nat_lt gref grants) refl
