-- What an activity makes of what was done so far: each access is as it may be, and each end as it is to be.
use Rattle.std.proofs.Common.{◌≡◌, inl, inr, ℕ, zero, suc, ◌+◌, ◌≤◌, ◌<◌, ◌==◌, ◌&&◌, true, cond, List, [], ◌∷◌, ◌++◌, length, Option, Some, None, Result, Ok, Err, refl, sym, ap, subst, ◌∙◌, arith}
use Rattle.std.proofs.lemmas.Bool.Decides.{nat_tests}
use Rattle.std.proofs.lemmas.List.{append_assoc, append-nil}
use Rattle.pv_words.specs.declared.access.Access.{Access}
use Rattle.pv_words.specs.declared.access.Access.TheVariants as access
use Rattle.pv_words.specs.declared.grant.GrantRefusal.{GrantRefusal}
use Rattle.pv_words.specs.declared.grant.Hold.{Hold}
use Rattle.pv_words.specs.declared.grant.Mode.{Mode}
use Rattle.pv_words.specs.declared.grant.Mode.TheVariants.{Read, Write}
use Rattle.pv_words.specs.declared.place.Place.{Place}
use Rattle.pv_words.specs.Held.{Covers, Has, Holds, IsProper, holding, holds_of, same_hold, same_mode, unheld}
use Rattle.pv_words.specs.Plan.{Plan, Finished, Want, Load, Store, Note, Plain, FitsFrom}
pub use Rattle.pv_words.proofs.Fits.{fits_mapped, fits_joined, fits_so}
use Rattle.pv_words.specs.MapLaws.{IsHold, IsCause, IsResult, with_result}
use Rattle.pv_words.specs.Mapping.{map_plan}
use Rattle.pv_words.proofs.Holdings.{holds_exactly, unmaps_exactly}
use Rattle.link_core.specs.Activities.{Connected, Joined, Joins, Refuses, hold_list, page_at, pages_of, word_of, loads, stores, prod_plan, with_event, event_map_plan, rsp_plan, with_ring, connect_plan, unmaps}
use Rattle.link_core.specs.Laws.{AreOf, ConnectsExactly, DropsExactly, IsEnd, IsRefused, IsRing, kept_by}

module _ {S : Type 0} (May : S → Want → Note → Type 0) (after : S → Note → Access → S) where
  -- loads that change nothing of what was done so far
  pub fits_loads : {A : Type 0} (Q : S → A → Type 0) (s : S) (at : ℕ → Place) (more : List ℕ → Plan A) (end : ℕ) → ((i : ℕ) → i < end → May s (Load (at i)) Plain) → ((i v : ℕ) → after s Plain (access.Load (at i) v) ≡ s) → ((vs : List ℕ) → FitsFrom May after Q s (more vs)) → (n i : ℕ) (taken : List ℕ) → i + n ≤ end → FitsFrom May after Q s (loads at more n i taken)
  unfolding loads
  fits_loads Q s at more end each same last zero i taken h = last taken
  fits_loads Q s at more end each same last (suc n) i taken h =
      (each i (omega arith), λ v. subst (λ (t : S). FitsFrom May after Q t (loads at more n (i + 1) (taken ++ v ∷ []))) (sym (same i v)) (fits_loads Q s at more end each same last n (i + 1) (taken ++ v ∷ []) (omega arith)))

  pub fits_stores : {A : Type 0} (Q : S → A → Type 0) (s : S) (at : ℕ → Place) (more : Plan A) (end : ℕ) → ((i v : ℕ) → i < end → May s (Store (at i) v) Plain) → ((i v : ℕ) → after s Plain (access.Store (at i) v) ≡ s) → FitsFrom May after Q s more → (i : ℕ) (vs : List ℕ) → i + length vs ≤ end → FitsFrom May after Q s (stores at more i vs)
  unfolding stores
  fits_stores Q s at more end each same last i [] h = last
  fits_stores Q s at more end each same last i (v ∷ vs) h =
      (each i v (omega arith), λ _. subst (λ (t : S). FitsFrom May after Q t (stores at more (i + 1) vs)) (sym (same i v)) (fits_stores Q s at more end each same last (i + 1) vs (omega arith)))

-- the last page of a list covers its own frame
pub covers_last : (held : List Hold) (h : Hold) → Has (Covers h.dom.0 h.frame.0) (held ++ h ∷ [])
covers_last [] h = inl (refl, refl)
covers_last (k ∷ ks) h = inr (covers_last ks h)

module _ (frames grants : ℕ → ℕ) (dom event : ℕ) (ring : Option ℕ) (held : List Hold) (Q : Holds → Connected → Type 0) (joins : (j : Joined) → IsRing (frames dom) (grants dom) dom ring j.ring → IsHold (frames dom) (grants dom) dom event Write j.event → Q (holds_of (held ++ pages_of j)) (Joins j)) (refuses : (hs : List Hold) (r : GrantRefusal) → IsRefused (frames dom) (grants dom) dom ring event hs r → Q (holds_of (held ++ hs)) (Refuses hs r)) where
  -- a load from the page that was just mapped
  loads_page : (before : List Hold) (gref w : ℕ) (h : Hold) → w < 1024 → IsHold (frames dom) (grants dom) dom gref Write h → IsProper frames grants dom (holds_of (before ++ h ∷ [])) (Load (word_of (page_at h) w)) Plain
  loads_page before gref w h in_page is =
      ((subst (λ d. h.frame.0 < frames d) (sym is.dom_is) is.frame_in, in_page), (covers_last before h, tt))

  -- from the map of the event page on
  module _ (o : Option Hold) (is_ring : IsRing (frames dom) (grants dom) dom ring o) (late : (r : GrantRefusal) → IsCause (frames dom) (grants dom) event Write r → IsRefused (frames dom) (grants dom) dom ring event (hold_list o) r) (rsp : ℕ) where
    event_ends : (s : Holds) (r : Result Hold GrantRefusal) → (s ≡ holds_of (with_result (held ++ hold_list o) r)) × IsResult (frames dom) (grants dom) dom event Write r → FitsFrom (IsProper frames grants dom) (holding frames) Q s (with_event o rsp r)
    event_ends s (Err r) h = subst (λ (t : Holds). Q t (Refuses (hold_list o) r)) (sym h.0) (refuses (hold_list o) r (late r h.1))
    event_ends s (Ok e) h =
        subst (λ (t : Holds). FitsFrom (IsProper frames grants dom) (holding frames) Q t (prod_plan o rsp e)) (sym h.0)
        (loads_page (held ++ hold_list o) event 1 e (omega arith) h.1, λ v. subst (λ (hs : List Hold). Q (holds_of hs) (Joins (record { ring = o; event = e; rsp = rsp; prod = v }))) (sym (append_assoc held (hold_list o) (e ∷ []))) (joins (record { ring = o; event = e; rsp = rsp; prod = v }) is_ring h.1))

    event_fits : FitsFrom (IsProper frames grants dom) (holding frames) Q (holds_of (held ++ hold_list o)) (event_map_plan (frames dom) (grants dom) dom event o rsp)
    event_fits =
        fits_joined (IsProper frames grants dom) (holding frames) (with_event o rsp) Q (holds_of (held ++ hold_list o)) (map_plan (frames dom) (grants dom) dom event Write)
        (fits_so (IsProper frames grants dom) (holding frames) (λ h r. (h ≡ holds_of (with_result (held ++ hold_list o) r)) × IsResult (frames dom) (grants dom) dom event Write r) (λ h r. FitsFrom (IsProper frames grants dom) (holding frames) Q h (with_event o rsp r)) event_ends (holds_of (held ++ hold_list o)) (map_plan (frames dom) (grants dom) dom event Write) (holds_exactly frames grants dom event Write (held ++ hold_list o)))

ring_ends : (frames grants : ℕ → ℕ) (dom event gref : ℕ) (held : List Hold) (Q : Holds → Connected → Type 0) → ((j : Joined) → IsRing (frames dom) (grants dom) dom (Some gref) j.ring → IsHold (frames dom) (grants dom) dom event Write j.event → Q (holds_of (held ++ pages_of j)) (Joins j)) → ((hs : List Hold) (r : GrantRefusal) → IsRefused (frames dom) (grants dom) dom (Some gref) event hs r → Q (holds_of (held ++ hs)) (Refuses hs r)) → (s : Holds) (r : Result Hold GrantRefusal) → (s ≡ holds_of (with_result held r)) × IsResult (frames dom) (grants dom) dom gref Write r → FitsFrom (IsProper frames grants dom) (holding frames) Q s (with_ring (frames dom) (grants dom) dom event r)
ring_ends frames grants dom event gref held Q joins refuses s (Err r) h =
    subst (λ (t : Holds). Q t (Refuses [] r)) (ap holds_of (append-nil held) ∙ sym h.0) (refuses [] r (inl (refl, h.1)))
ring_ends frames grants dom event gref held Q joins refuses s (Ok k) h =
    subst (λ (t : Holds). FitsFrom (IsProper frames grants dom) (holding frames) Q t (rsp_plan (frames dom) (grants dom) dom event k)) (sym h.0)
    (loads_page frames grants dom event (Some gref) held Q joins refuses held gref 2 k (omega arith) h.1, λ v. event_fits frames grants dom event (Some gref) held Q joins refuses (Some k) h.1 (λ r cause. inr (k, refl, h.1, cause)) v)

-- the whole of a Connect
pub fits_connect : (frames grants : ℕ → ℕ) (dom event : ℕ) (ring : Option ℕ) (held : List Hold) (Q : Holds → Connected → Type 0) → ((j : Joined) → IsRing (frames dom) (grants dom) dom ring j.ring → IsHold (frames dom) (grants dom) dom event Write j.event → Q (holds_of (held ++ pages_of j)) (Joins j)) → ((hs : List Hold) (r : GrantRefusal) → IsRefused (frames dom) (grants dom) dom ring event hs r → Q (holds_of (held ++ hs)) (Refuses hs r)) → FitsFrom (IsProper frames grants dom) (holding frames) Q (holds_of held) (connect_plan (frames dom) (grants dom) dom ring event)
fits_connect frames grants dom event None held Q joins refuses =
    subst (λ (hs : List Hold). FitsFrom (IsProper frames grants dom) (holding frames) Q (holds_of hs) (event_map_plan (frames dom) (grants dom) dom event None 0)) (append-nil held)
    (event_fits frames grants dom event None held Q joins refuses None tt (λ r cause. (refl, cause)) 0)
fits_connect frames grants dom event (Some gref) held Q joins refuses =
    fits_joined (IsProper frames grants dom) (holding frames) (with_ring (frames dom) (grants dom) dom event) Q (holds_of held) (map_plan (frames dom) (grants dom) dom gref Write)
    (fits_so (IsProper frames grants dom) (holding frames) (λ h r. (h ≡ holds_of (with_result held r)) × IsResult (frames dom) (grants dom) dom gref Write r) (λ h r. FitsFrom (IsProper frames grants dom) (holding frames) Q h (with_ring (frames dom) (grants dom) dom event r)) (ring_ends frames grants dom event gref held Q joins refuses) (holds_of held) (map_plan (frames dom) (grants dom) dom gref Write) (holds_exactly frames grants dom gref Write held))

pub connects_exactly : ConnectsExactly
connects_exactly frames grants dom event ring held =
    fits_connect frames grants dom event ring held (λ h c. (h ≡ holds_of (held ++ kept_by c)) × IsEnd (frames dom) (grants dom) dom ring event c) (λ j r e. (refl, (r, e))) (λ hs r why. (refl, why))

same_modes : (m : Mode) → same_mode m m ≡ true
same_modes Read = refl
same_modes Write = refl

same_self : (h : Hold) → same_hold h h ≡ true
same_self h =
    let d : (h.dom.0 == h.dom.0) ≡ true = grind (arith, nat_tests) in
    let g : (h.gref.0 == h.gref.0) ≡ true = grind (arith, nat_tests) in
    let f : (h.frame.0 == h.frame.0) ≡ true = grind (arith, nat_tests) in
    ap (λ b. b && ((h.gref.0 == h.gref.0) && ((h.frame.0 == h.frame.0) && same_mode h.mode h.mode))) d ∙ (ap (λ b. b && ((h.frame.0 == h.frame.0) && same_mode h.mode h.mode)) g ∙ (ap (λ b. b && same_mode h.mode h.mode) f ∙ same_modes h.mode))

-- the first page is no longer held
first_goes : (h : Hold) (hs : List Hold) → unheld h (h ∷ hs) ≡ hs
first_goes h hs = ap (λ b. cond b hs (h ∷ unheld h hs)) (same_self h)

-- what comes after the unmaps of the first pages that are held
pub fits_unmaps : {A : Type 0} (frames grants : ℕ → ℕ) (dom : ℕ) (Q : Holds → A → Type 0) (hs held : List Hold) (p : Plan A) → AreOf (grants dom) dom hs → FitsFrom (IsProper frames grants dom) (holding frames) Q (holds_of held) p → FitsFrom (IsProper frames grants dom) (holding frames) Q (holds_of (hs ++ held)) (unmaps hs p)
fits_unmaps frames grants dom Q [] held p are h = h
fits_unmaps {A} frames grants dom Q (k ∷ ks) held p are h =
    ((unmaps_exactly frames grants dom k (k ∷ (ks ++ held)) 0 are.0 are.1 (inl refl)).0, λ v. subst (λ (t : Holds). FitsFrom (IsProper frames grants dom) (holding frames) Q t (unmaps ks p)) (sym ((unmaps_exactly frames grants dom k (k ∷ (ks ++ held)) v are.0 are.1 (inl refl)).1 ∙ ap holds_of (first_goes k (ks ++ held)))) (fits_unmaps frames grants dom Q ks held p are.2 h))

pub drops_exactly : DropsExactly
drops_exactly frames grants dom dropped held are =
    fits_unmaps frames grants dom (λ h (u : Unit {0}). h ≡ holds_of held) dropped held (Finished tt) are refl
