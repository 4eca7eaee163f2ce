-- What an activity makes of what was done so far: a plan from smaller ones, and two facts of one plan.
use Rattle.pv_words.specs.declared.access.Access.{Access}
use Rattle.pv_words.specs.Plan.{Plan, Finished, Make, Want, Note, FitsFrom, found, mapped, joined}

module _ {S : Type 0} (May : S → Want → Note → Type 0) (after : S → Note → Access → S) where
  pub fits_mapped : {A B : Type 0} (f : A → B) (Q : S → B → Type 0) (s : S) (p : Plan A) → FitsFrom May after (λ t x. Q t (f x)) s p → FitsFrom May after Q s (mapped f p)
  fits_mapped f Q s (Finished x) h = h
  fits_mapped f Q s (Make want note more) h = (h.0, λ v. fits_mapped f Q (after s note (found want v)) (more v) (h.1 v))

  pub fits_joined : {A B : Type 0} (f : A → Plan B) (Q : S → B → Type 0) (s : S) (p : Plan A) → FitsFrom May after (λ t x. FitsFrom May after Q t (f x)) s p → FitsFrom May after Q s (joined p f)
  fits_joined f Q s (Finished x) h = h
  fits_joined f Q s (Make want note more) h = (h.0, λ v. fits_joined f Q (after s note (found want v)) (more v) (h.1 v))

  -- a joined plan that fits, as its first part
  pub fits_first : {A B : Type 0} (f : A → Plan B) (Q : S → B → Type 0) (s : S) (p : Plan A) → FitsFrom May after Q s (joined p f) → FitsFrom May after (λ t x. FitsFrom May after Q t (f x)) s p
  fits_first f Q s (Finished x) h = h
  fits_first f Q s (Make want note more) h = (h.0, λ v. fits_first f Q (after s note (found want v)) (more v) (h.1 v))

  -- an end that is so is also otherwise
  pub fits_so : {A : Type 0} (P Q : S → A → Type 0) → ((t : S) (x : A) → P t x → Q t x) → (s : S) (p : Plan A) → FitsFrom May after P s p → FitsFrom May after Q s p
  fits_so P Q so s (Finished x) h = so s x h
  fits_so P Q so s (Make want note more) h = (h.0, λ v. fits_so P Q so (after s note (found want v)) (more v) (h.1 v))

  -- a plan, and what follows each end of its first part
  pub fits_then : {A B : Type 0} (P : S → A → Type 0) (Q : S → B → Type 0) (f : A → Plan B) (s : S) (p : Plan A) → FitsFrom May after P s p → ((t : S) (x : A) → P t x → FitsFrom May after Q t (f x)) → FitsFrom May after Q s (joined p f)
  fits_then P Q f s p h more = fits_joined f Q s p (fits_so P (λ t x. FitsFrom May after Q t (f x)) more s p h)
