-- What a Sleep over all parts, a Raise and a Publish find, and that they touch no word of a name.
use Rattle.std.proofs.Common.{◌≡◌, ℕ, ◌+◌, ◌<◌, nat_lt, Bool, true, false, cond, List, [], ◌∷◌, length, Some, None, refl, arith}
use Rattle.std.proofs.lemmas.Bool.Decides.{nat_tests}
use Rattle.pv_words.specs.Found.{Found, finding}
use Rattle.pv_words.specs.Plan.{Plan, Finished, Make, Note, IsUntouched, joined}
use Rattle.ring_words.specs.Ring.{since}
use Rattle.link_core.specs.Activities.{Joined, Page, sleep_plan, stores}
use Rattle.link_core.proofs.PlanFits.{fits_stores}
use Rattle.link_core.proofs.Shown.{FitFound, TouchesNone, sleep_none}
use Rattle.link_core.specs.declared.link.Put.{Put}
use Rattle.link_core.specs.declared.link.Put.TheVariants as put
use Rattle.link_core.specs.declared.link.event.Layout.{Layout}
use Rattle.link_core.specs.Raise.{event_place, publish_events, put_events, unless_barred}
use Rattle.device_service.specs.Work.{ring_page, sleep_all, sleeps_on}

none_joined : {A B : Type 0} (p : Plan A) (next : A → Plan B) → TouchesNone p → ((x : A) → TouchesNone (next x)) → TouchesNone (joined p next)
none_joined (Finished x) next h more = more x
none_joined (Make want note then) next h more = (h.0, λ v. none_joined (then v) next (h.1 v) more)

pub sleeps_none : (js : List Joined) → TouchesNone (sleep_all js)
sleeps_none [] = tt
sleeps_none (j ∷ js) = none_joined (sleep_plan (ring_page j) j.rsp) (sleeps_on (sleep_all js)) (sleep_none (ring_page j) j.rsp) (λ b. then b (sleeps_none js))
  where
    then : (b : Bool) → TouchesNone (sleep_all js) → TouchesNone (sleeps_on (sleep_all js) b)
    then true h = h
    then false h = tt

module _ (Q : Found → Put → Type 0) (stored : (g : Found) → Q g put.Done) (full : (g : Found) → Q g put.Full) (layout : Layout) (page : Page) (prod n : ℕ) (words : List ℕ) where
  put_so : (g : Found) (cons : ℕ) (tight bad : Bool) → (bad ≡ true → Q g (put.BadCons prod cons)) → FitFound Q g (unless_barred (cond bad (Some (put.BadCons prod cons)) (cond tight (Some put.Full) None)) (stores (event_place layout page prod) (publish_events page prod n) 0 words))
  put_so g cons tight true h = h refl
  put_so g cons true false h = full g
  put_so g cons false false h =
      fits_stores (λ (g : Found) want note. IsUntouched note) (λ g (note : Note) a. finding g a) Q g (event_place layout page prod) (publish_events page prod n) (length words) (λ i v small. tt) (λ i v. refl) (tt, λ v. stored g) 0 words (omega arith)

  pub put_shows : (f : Found) → ((g : Found) (cons : ℕ) → g.word ≡ Some cons → layout.slots < since cons prod → Q g (put.BadCons prod cons)) → FitFound Q f (put_events layout page prod n words)
  put_shows f bad =
      (tt, λ cons. put_so (record f { word = Some cons }) cons (nat_lt layout.slots (since cons prod + n)) (nat_lt layout.slots (since cons prod)) (λ h. bad (record f { word = Some cons }) cons refl (grind (arith, nat_tests, h))))
