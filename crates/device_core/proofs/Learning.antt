-- An activity by which a device both holds and finds what it should.
use Rattle.std.proofs.Common.{ℕ, List, refl, ◌≡◌, [], ◌∷◌}
use Rattle.pv_words.specs.Along.{after, Along}
use Rattle.pv_words.specs.Found.{Found, finding}
use Rattle.pv_words.specs.Held.{Holds, Made, holding}
use Rattle.pv_words.specs.Plan.{Plan, Finished, Make, Want, Note, FitsFrom, IsUntouched, found, wanted}
use Rattle.device_core.specs.Learned.{Learned, learning}

module _ (frames : ℕ → ℕ) where
  pub fits_learned : {A : Type 0} (May : Holds → Want → Note → Type 0) (P : Holds → A → Type 0) (Q : Found → A → Type 0) (l : Learned) (p : Plan A) → FitsFrom May (holding frames) P l.holds p → FitsFrom (λ g want note. IsUntouched note) (λ g (note : Note) a. finding g a) Q l.found p → FitsFrom (λ (k : Learned) want note. May k.holds want note × IsUntouched note) (learning frames) (λ (k : Learned) x. P k.holds x × Q k.found x) l p
  fits_learned May P Q l (Finished x) a b = (a, b)
  fits_learned May P Q l (Make want note more) a b =
      ((a.0, b.0), λ v. fits_learned May P Q (learning frames l note (found want v)) (more v) (a.1 v) (b.1 v))

  -- what it holds is by the same accesses alone
  pub holds_learned : (l : Learned) (made : List Made) → (after (λ (k : Learned) (m : Made). learning frames k m.note m.access) l made).holds ≡ after (λ h (m : Made). holding frames h m.note m.access) l.holds made
  holds_learned l [] = refl
  holds_learned l (m ∷ ms) = holds_learned (learning frames l m.note m.access) ms

  pub along_learned : (May : Holds → Want → Note → Type 0) (l : Learned) (made : List Made) → Along (λ (k : Learned) (m : Made). learning frames k m.note m.access) (λ k m. May k.holds (wanted m.access) m.note) l made → Along (λ h (m : Made). holding frames h m.note m.access) (λ h m. May h (wanted m.access) m.note) l.holds made
  along_learned May l [] h = tt
  along_learned May l (m ∷ ms) h = (h.0, along_learned May (learning frames l m.note m.access) ms h.1)
