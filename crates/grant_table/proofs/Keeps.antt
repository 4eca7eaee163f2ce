-- Permits and ends go to their entry, as they may, and answer by whether the grant is open.
use Rattle.std.proofs.Common.{◌≡◌, ℕ, ◌==◌, ◌+◌, ◌-◌, ◌^◌, ◌<◌, not, Bool, true, false, cond, Option, Some, None, inl, inr, refl, sym, ◌∙◌, ap, arith, bit_and}
use Rattle.std.proofs.lemmas.Bool.Decides.{Decides-eqb}
use Rattle.std.proofs.lemmas.Nat.{and_comm, and-not}
use Rattle.pv_words.specs.declared.place.Half.TheVariants.{Flags}
use Rattle.pv_words.specs.Keeping.{KeepsTo}
use Rattle.pv_words.specs.Memory.{without}
use Rattle.pv_words.specs.Plan.{Finished}
use Rattle.pv_words.specs.Port.{FitsHalf, Opening}
use Rattle.pv_words.proofs.Keeping.{open_word}
use Rattle.grant_table.specs.declared.owner.Owned.TheVariants.{Opened, AlreadyOpen, Ended, Busy, Moved}
use Rattle.grant_table.specs.Laws.{PermitsAtEntry, EndsAtEntry, OpensExactly, FreesExactly}
use Rattle.grant_table.specs.Owning.{name_plan}
use Rattle.pv_words.proofs.Bits.{without_used}

pub permits_at_entry : PermitsAtEntry
permits_at_entry dom gref frame mode = ((refl, refl), λ v. by v (v == 0))
  where
    by : (v : ℕ) (t : Bool) → KeepsTo dom gref frame (record { unclaimed = t; named = false }) (cond t (name_plan dom gref frame mode) (Finished (AlreadyOpen v)))
    by v true = (((refl, refl), refl, refl), λ w. (((refl, refl), inl (refl, (mode, refl), refl)), λ seen. tt))
    by v false = tt

pub ends_at_entry : EndsAtEntry
ends_at_entry dom gref frame = ((refl, refl), λ word. (((refl, refl), inr (without_used word, refl)), λ seen. tt))

other : (seen : ℕ) (t : Bool) → (seen == 0) ≡ t → cond t Opened (AlreadyOpen seen) ≡ Opened → seen ≡ 0
other seen true e o = (Decides-eqb seen 0).0 e
other seen false e o = let wrong : ⊥ = cc (o) in absurd wrong

pub opens_exactly : OpensExactly
opens_exactly None seen fits = (λ h. refl, λ h. ap (λ t. cond t Opened (AlreadyOpen seen)) ((Decides-eqb seen 0).1 fits))
opens_exactly (Some o) seen fits =
    (λ h. absurd (open_word o seen fits (other seen (seen == 0) refl h)), λ h. let wrong : ⊥ = cc (h) in absurd wrong)

-- a word with no in-use bit is the one without them
unused : (seen : ℕ) → seen < 2 ^ 32 → bit_and seen 24 ≡ 0 → without seen 24 ≡ seen
unused seen small e =
    let parts : bit_and (2 ^ 32 - 1 - 24) seen + bit_and 24 seen ≡ seen = and-not 32 24 seen (omega arith) small in
    let turned : bit_and 24 seen ≡ 0 = and_comm 24 seen ∙ e in
    let rest : without seen 24 ≡ bit_and (2 ^ 32 - 1 - 24) seen = and_comm seen (2 ^ 32 - 1 - 24) in
    omega (arith, parts, turned, rest)

one_word : (o : Option Opening) (word seen : ℕ) → FitsHalf Flags o word → FitsHalf Flags o seen → without word 24 ≡ without seen 24
one_word None word seen f g = ap (λ (x : ℕ). without x 24) (f ∙ sym g)
one_word (Some o) word seen f g = f ∙ sym g

pub frees_exactly : FreesExactly
frees_exactly o word seen small f g = by (bit_and seen 24 == 0) refl
  where
    by : (t : Bool) → (bit_and seen 24 == 0) ≡ t → cond (not t) (Busy seen) (cond (seen == without word 24) Ended (Moved word seen)) ≡ cond (not t) (Busy seen) Ended
    by false e = refl
    by true e =
        let none : bit_and seen 24 ≡ 0 = (Decides-eqb (bit_and seen 24) 0).0 e in
        ap (λ t. cond t Ended (Moved word seen)) ((Decides-eqb seen (without word 24)).1 (sym (one_word o word seen f g ∙ unused seen small none)))
