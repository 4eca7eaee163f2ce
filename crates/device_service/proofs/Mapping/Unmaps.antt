-- Pages that are unmapped in order are held no longer then.
use Rattle.std.proofs.Common.{◌≡◌, ℕ, ◌+◌, List, [], ◌∷◌, ap, arith}
use Rattle.pv_words.specs.declared.grant.Hold.{Hold}
use Rattle.pv_words.specs.Held.{Holds, IsProper, holding}
use Rattle.pv_words.specs.Plan.{Plan, Ends, FitsFrom, found}
use Rattle.pv_words.specs.Mapping.{unmap_want}
use Rattle.pv_words.proofs.Refusing.{unmap_leaves}
use Rattle.page_directory.specs.Same.{times}
use Rattle.page_directory.proofs.Counts.{times_append, times_unheld}
use Rattle.link_core.specs.Activities.{unmaps}

module _ (frames grants : ℕ → ℕ) (dom : ℕ) where
  pub unmaps_come : {A : Type 0} (Q : Holds → A → Type 0) (hs : List Hold) (more : Plan A) (s : Holds) → FitsFrom (IsProper frames grants dom) (holding frames) Q s (unmaps hs more) → (t : Holds) × FitsFrom (IsProper frames grants dom) (holding frames) Q t more × ((k : Hold) → times k s.held ≡ times k hs + times k t.held)
  unmaps_come Q [] more s f = (s, f, λ k. omega arith)
  unmaps_come Q (h ∷ hs) more s f =
      let u = unmap_leaves frames grants dom h s 0 f.0 in
      let rest = unmaps_come Q hs more (holding frames s (Ends h) (found (unmap_want h) 0)) (f.1 0) in
      (rest.0, rest.1, λ k. omega (arith, times_unheld k h s.held u.0, ap (times k) u.1, rest.2 k, times_append k (h ∷ []) hs))
