-- Pages that are the device's own: what may be accessed where they are held, and how they come and go.
use Rattle.std.proofs.Common.{◌≡◌, inl, inr, ℕ, ◌<◌, List, [], ◌∷◌, ◌++◌, Option, Some, None, refl, sym, ◌∙◌, ap, subst, arith}
use Rattle.pv_words.specs.declared.grant.GrantRefusal.{GrantRefusal}
use Rattle.pv_words.specs.declared.grant.Hold.{Hold}
use Rattle.pv_words.specs.declared.grant.Mode.TheVariants.{Write}
use Rattle.pv_words.specs.Held.{Has, Holds, Covers, CoversToWrite, IsProper, holding, holds_of, unheld}
use Rattle.pv_words.specs.Plan.{Plan, Load, Store, Plain, FitsFrom}
use Rattle.pv_words.specs.MapLaws.{IsHold}
use Rattle.link_core.specs.Activities.{hold_list, page_at, word_of, unmaps}
use Rattle.link_core.specs.Laws.{AreOf, IsRing, IsRefused}
use Rattle.pv_words.proofs.Holdings.{unmaps_exactly}
use Rattle.page_directory.specs.Same.{AreSame}
use Rattle.page_directory.proofs.Counts.{times_here, times_unheld, has_counted}
use Rattle.device_service.proofs.Soundness.Same.{IsIn}

covered : (h : Hold) (held : List Hold) → IsIn h held → Has (Covers h.dom.0 h.frame.0) held
covered h [] at = absurd at
covered h (k ∷ ks) (inl e) = inl (ap (λ (x : Hold). x.dom.0) e, ap (λ (x : Hold). x.frame.0) e)
covered h (k ∷ ks) (inr at) = inr (covered h ks at)

covered_to_write : (h : Hold) (held : List Hold) → h.mode ≡ Write → IsIn h held → Has (CoversToWrite h.dom.0 h.frame.0) held
covered_to_write h [] m at = absurd at
covered_to_write h (k ∷ ks) m (inl e) = inl ((ap (λ (x : Hold). x.dom.0) e, ap (λ (x : Hold). x.frame.0) e), ap (λ (x : Hold). x.mode) e ∙ m)
covered_to_write h (k ∷ ks) m (inr at) = inr (covered_to_write h ks m at)

module _ (frames grants : ℕ → ℕ) (dom : ℕ) where
  abbrev pub Fit : {A : Type 0} → (Holds → A → Type 0) → Holds → Plan A → Type 0
  Fit Q s p = FitsFrom (IsProper frames grants dom) (holding frames) Q s p

  -- a page of the domain's, mapped for writing
  abbrev pub IsOwn : Hold → Type 0
  IsOwn h = IsHold (frames dom) (grants dom) dom h.gref.0 Write h

  abbrev pub AllOwn : List Hold → Type 0
  AllOwn [] = Unit {0}
  AllOwn (h ∷ hs) = IsOwn h × AllOwn hs

  pub own_is : (gref : ℕ) (h : Hold) → IsHold (frames dom) (grants dom) dom gref Write h → IsOwn h
  own_is gref h o = record { dom_is = o.dom_is; gref_is = refl; mode_is = o.mode_is; frame_in = o.frame_in; gref_in = subst (λ g. g < grants dom) (sym o.gref_is) o.gref_in }

  pub own_in : (h : Hold) (hs : List Hold) → AllOwn hs → IsIn h hs → IsOwn h
  own_in h [] all at = absurd at
  own_in h (k ∷ ks) all (inl e) = subst IsOwn e all.0
  own_in h (k ∷ ks) all (inr at) = own_in h ks all.1 at

  pub own_append : (xs ys : List Hold) → AllOwn xs → AllOwn ys → AllOwn (xs ++ ys)
  own_append [] ys a b = b
  own_append (x ∷ xs) ys a b = (a.0, own_append xs ys a.1 b)

  pub own_behind : (xs ys : List Hold) → AllOwn (xs ++ ys) → AllOwn ys
  own_behind [] ys a = a
  own_behind (x ∷ xs) ys a = own_behind xs ys a.1

  -- a word of a page that is held may be loaded, and stored
  pub may_load : (h : Hold) (held : List Hold) (w : ℕ) → IsOwn h → IsIn h held → w < 1024 → IsProper frames grants dom (holds_of held) (Load (word_of (page_at h) w)) Plain
  may_load h held w o at small = ((subst (λ d. h.frame.0 < frames d) (sym o.dom_is) o.frame_in, small), (covered h held at, tt))

  pub may_store : (h : Hold) (held : List Hold) (w v : ℕ) → IsOwn h → IsIn h held → w < 1024 → IsProper frames grants dom (holds_of held) (Store (word_of (page_at h) w) v) Plain
  may_store h held w v o at small = ((subst (λ d. h.frame.0 < frames d) (sym o.dom_is) o.frame_in, small), (covered_to_write h held o.mode_is at, tt))

  pub own_are : (hs : List Hold) → AllOwn hs → AreOf (grants dom) dom hs
  own_are [] all = tt
  own_are (h ∷ hs) all = (all.0.dom_is, all.0.gref_in, own_are hs all.1)

  -- pages that are unmapped in order are held no longer, the others still are
  pub fits_drop : {A : Type 0} (Q : Holds → A → Type 0) (more : Plan A) (rest hs held : List Hold) → AreOf (grants dom) dom hs → AreSame held (hs ++ rest) → ((left : List Hold) → AreSame left rest → Fit Q (holds_of left) more) → Fit Q (holds_of held) (unmaps hs more)
  fits_drop Q more rest [] held are same last = last held same
  fits_drop Q more rest (h ∷ hs) held are same last =
      let has : IsIn h held = has_counted h held (omega (arith, same h, times_here h (hs ++ rest))) in
      let left : AreSame (unheld h held) (hs ++ rest) = λ k. omega (arith, same k, times_unheld k h held has) in (
        (unmaps_exactly frames grants dom h held 0 are.0 are.1 has).0,
        λ v. subst (λ (t : Holds). Fit Q t (unmaps hs more)) (sym (unmaps_exactly frames grants dom h held v are.0 are.1 has).1) (fits_drop Q more rest hs (unheld h held) are.2 left last),
      )

  -- the pages of a link that is joined by these references
  pub own_joined : (ring : Option ℕ) (event : ℕ) (o : Option Hold) (e : Hold) → IsRing (frames dom) (grants dom) dom ring o → IsHold (frames dom) (grants dom) dom event Write e → AllOwn (hold_list o ++ e ∷ [])
  own_joined ring event None e r is = (own_is event e is, tt)
  own_joined None event (Some h) e r is = absurd r
  own_joined (Some ring) event (Some h) e r is = (own_is ring h r, (own_is event e is, tt))

  -- the pages of one that was refused
  pub refused_own : (ring : Option ℕ) (event : ℕ) (hs : List Hold) (why : GrantRefusal) → IsRefused (frames dom) (grants dom) dom ring event hs why → AllOwn hs
  refused_own None event hs why h = subst AllOwn (sym h.0) tt
  refused_own (Some ring) event hs why (inl h) = subst AllOwn (sym h.0) tt
  refused_own (Some ring) event hs why (inr h) = subst AllOwn (sym h.1) (own_is ring h.0 h.2, tt)
