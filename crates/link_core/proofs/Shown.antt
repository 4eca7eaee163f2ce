-- What the words show that an activity found, and that it touches no word of a name.
use Rattle.std.proofs.Common.{◌≡◌, inl, inr, ℕ, zero, suc, ◌+◌, List, [], ◌∷◌, ◌++◌, Option, Some, None, Result, Ok, Err, refl}
use Rattle.pv_words.specs.declared.grant.GrantRefusal.{GrantRefusal}
use Rattle.pv_words.specs.declared.grant.Hold.{Hold}
use Rattle.pv_words.specs.declared.grant.Mode.TheVariants.{Write}
use Rattle.pv_words.specs.declared.place.Place.{Place}
use Rattle.pv_words.specs.Found.{Found, finding}
use Rattle.pv_words.specs.Plan.{Plan, Finished, Make, Note, Fits, FitsFrom, IsUntouched, found, joined}
use Rattle.pv_words.proofs.Fits.{fits_then}
use Rattle.pv_words.specs.MapLaws.{IsShown, Shows}
use Rattle.pv_words.specs.Mapping.{map_plan}
use Rattle.pv_words.proofs.Shown.{maps_show}
use Rattle.link_core.specs.Activities.{Connected, Page, loads, stores, take_plan, answer_plan, sleep_plan, with_event, event_map_plan, with_ring, slot_place, publish_plan, unmaps}
use Rattle.link_core.specs.Laws.{ConnectsShow, LooksShow, HasShown}

-- an activity that touches no word of a name, with what it found at its ends
abbrev pub FitFound : {A : Type 0} → (Found → A → Type 0) → Found → Plan A → Type 0
FitFound Q f p = FitsFrom (λ g want note. IsUntouched note) (λ g (note : Note) a. finding g a) Q f p

-- it touches no word of a name
abbrev pub TouchesNone : {A : Type 0} → Plan A → Type 0
TouchesNone p = Fits (λ want note. IsUntouched note) (λ x. Unit {0}) p

-- whatever it finds
pub found_any : {A : Type 0} (Q : Found → A → Type 0) → ((g : Found) (x : A) → Q g x) → (f : Found) (p : Plan A) → TouchesNone p → FitFound Q f p
found_any Q all f (Finished x) h = all f x
found_any Q all f (Make want note more) h = (h.0, λ v. found_any Q all (finding f (found want v)) (more v) (h.1 v))

loads_none : {A : Type 0} (at : ℕ → Place) (more : List ℕ → Plan A) (n i : ℕ) (taken : List ℕ) → ((words : List ℕ) → TouchesNone (more words)) → TouchesNone (loads at more n i taken)
unfolding loads
loads_none at more zero i taken h = h taken
loads_none at more (suc n) i taken h = (tt, λ v. loads_none at more n (i + 1) (taken ++ v ∷ []) h)

stores_none : {A : Type 0} (at : ℕ → Place) (more : Plan A) (i : ℕ) (words : List ℕ) → TouchesNone more → TouchesNone (stores at more i words)
unfolding stores
stores_none at more i [] h = h
stores_none at more i (v ∷ vs) h = (tt, λ x. stores_none at more (i + 1) vs h)

pub take_none : (page : Page) (rsp : ℕ) → TouchesNone (take_plan page rsp)
take_none page rsp = loads_none (slot_place page rsp) Finished 16 0 [] (λ words. tt)

pub answer_none : (page : Page) (rsp : ℕ) (reply : List ℕ) → TouchesNone (answer_plan page rsp reply)
answer_none page rsp reply = stores_none (slot_place page rsp) (publish_plan page rsp) 0 reply (tt, λ v. (tt, λ x. tt))

pub sleep_none : (page : Page) (rsp : ℕ) → TouchesNone (sleep_plan page rsp)
sleep_none page rsp = (tt, λ v. (tt, λ x. tt))

-- an unmap finds nothing
pub unmaps_found : {A : Type 0} (Q : Found → A → Type 0) (f : Found) (hs : List Hold) (more : Plan A) → FitFound Q f more → FitFound Q f (unmaps hs more)
unmaps_found Q f [] more h = h
unmaps_found Q f (k ∷ ks) more h = (tt, λ v. unmaps_found Q f ks more h)

pub looks_show : LooksShow
looks_show page rsp f = (tt, λ prod. (prod, refl, refl))

module _ (frames grants dom event : ℕ) (ring : Option ℕ) where
  abbrev Fit : Found → Plan Connected → Type 0
  Fit f p = FitFound (HasShown frames grants ring event) f p

  map_shows : (gref : ℕ) (f : Found) (next : Result Hold GrantRefusal → Plan Connected) → ((h : Hold) (g : Found) → Fit g (next (Ok h))) → ((why : GrantRefusal) (g : Found) → IsShown frames grants gref Write g why → Fit g (next (Err why))) → Fit f (joined (map_plan frames grants dom gref Write) next)
  map_shows gref f next goes refuses =
      fits_then (λ g want note. IsUntouched note) (λ g (note : Note) a. finding g a) (λ g r. Shows frames grants gref Write g r × (g.word ≡ f.word)) (HasShown frames grants ring event) next f (map_plan frames grants dom gref Write) (maps_show frames grants dom gref Write f) ended
    where
      ended : (g : Found) (r : Result Hold GrantRefusal) → Shows frames grants gref Write g r × (g.word ≡ f.word) → Fit g (next r)
      ended g (Ok h) e = goes h g
      ended g (Err why) e = refuses why g e.0

  event_shows : (o : Option Hold) (rsp : ℕ) (f : Found) → Fit f (event_map_plan frames grants dom event o rsp)
  event_shows o rsp f = map_shows event f (with_event o rsp) (λ h g. (tt, λ v. tt)) (λ why g is. (event, inr refl, is))

  ring_shows : (gref : ℕ) (f : Found) → ring ≡ Some gref → Fit f (joined (map_plan frames grants dom gref Write) (with_ring frames grants dom event))
  ring_shows gref f e =
      map_shows gref f (with_ring frames grants dom event) (λ h g. (tt, λ rsp. event_shows (Some h) rsp (record g { word = Some rsp }))) (λ why g is. (gref, inl e, is))

pub connects_show : ConnectsShow
connects_show frames grants dom event None f = event_shows frames grants dom event None None 0 f
connects_show frames grants dom event (Some gref) f = ring_shows frames grants dom event (Some gref) gref f refl
