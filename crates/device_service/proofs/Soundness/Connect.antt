-- A Connect maps the pages of each part, or unmaps all that it mapped.
use Rattle.std.proofs.Common.{◌≡◌, ◌⊎◌, inl, inr, ℕ, suc, ◌+◌, true, false, List, [], ◌∷◌, ◌++◌, Option, Some, None, Result, Err, refl, sym, ◌∙◌, ap, subst, arith, length, length-append}
use Rattle.pv_words.specs.declared.grant.GrantRefusal.{GrantRefusal}
use Rattle.pv_words.specs.declared.grant.Hold.{Hold}
use Rattle.pv_words.specs.declared.grant.Mode.TheVariants.{Write}
use Rattle.pv_words.specs.Found.{Found, finding}
use Rattle.pv_words.specs.Held.{Holds, IsProper, holding, holds_of}
use Rattle.pv_words.specs.Plan.{Plan, Finished, Note, IsUntouched}
use Rattle.pv_words.proofs.Fits.{fits_joined, fits_mapped, fits_then}
use Rattle.pv_words.specs.MapLaws.{IsHold}
use Rattle.page_directory.specs.Same.{times}
use Rattle.page_directory.proofs.Counts.{times_append}
use Rattle.link_core.specs.Activities as link
use Rattle.link_core.specs.Activities.{Connected, Joined, Joins, Refuses, connect_plan, unmaps}
use Rattle.link_core.specs.Laws.{IsRing, IsRefused, HasShown}
use Rattle.link_core.proofs.PlanFits.{fits_connect}
use Rattle.link_core.proofs.Shown.{FitFound, connects_show, unmaps_found}
use Rattle.xenbus_states.specs.Needs.{Problem, first_fault}
use Rattle.device_service.specs.Nodes.{Refs, IsAskedFor, needs_of, refs_from}
use Rattle.device_service.specs.Work.{Work, all_pages, after_part, connect_parts, connected, connect_all, shut, settled}
use Rattle.device_service.proofs.Soundness.Parts.{pages_last}
use Rattle.device_service.proofs.Soundness.Plans.{Fit, AllOwn, own_append, own_joined, own_are, refused_own, fits_drop}
use Rattle.device_service.proofs.Soundness.Refs.{AllAsked, IsRingAsked, all_asked}
use Rattle.device_service.proofs.Soundness.Settles.{no_reason}
use Rattle.device_service.proofs.Soundness.Work.{Lawful, site, IsSane, EndsSo, EndsFoundSo}

module _ {X A V Y M : Type 0} (D : Lawful X A V Y M) where
  open D use {s, t, r, known, frames, grants, dom, parts, l}

  pub shut_pages : (w : Work X V) (k : Hold) → known.Sane w.service → s.pages w.service ≡ [] → times k (s.pages (shut s w).service ++ []) ≡ 0
  shut_pages w k sane bare = ap (λ hs. times k (hs ++ [])) ((l.drops w.service sane).1 ∙ bare)

  -- what it holds
  module _ (w : Work X V) (q : IsSane D w) (connecting : w.connecting ≡ true) (still : w.closing ≡ false) (bare : s.pages w.service ≡ []) where
    abbrev Ends : Holds → Result (List Joined) GrantRefusal → Type 0
    Ends h r = EndsSo D w h (connected r)

    abbrev FitsSo : Holds → Plan (Result (List Joined) GrantRefusal) → Type 0
    FitsSo h p = Fit frames grants dom Ends h p

    module _ (a : Refs) (rs : List Refs) (met : List Joined) (own : AllOwn frames grants dom (all_pages met)) where
      joins_one : (rest : (more : List Joined) → AllOwn frames grants dom (all_pages more) → length more + length rs ≡ parts → FitsSo (holds_of (all_pages more)) (connect_parts (site D) rs more)) → length met + suc (length rs) ≡ parts → (j : Joined) → IsRing (frames dom) (grants dom) dom a.ring j.ring → IsHold (frames dom) (grants dom) dom a.event Write j.event → FitsSo (holds_of (all_pages met ++ link.pages_of j)) (connect_parts (site D) rs (met ++ j ∷ []))
      joins_one rest all j ring event =
          let owns = subst (λ x. AllOwn frames grants dom x) (sym (pages_last met j)) (own_append frames grants dom (all_pages met) (link.pages_of j) own (own_joined frames grants dom a.ring a.event j.ring j.event ring event)) in
          subst (λ x. FitsSo (holds_of x) (connect_parts (site D) rs (met ++ j ∷ []))) (pages_last met j) (rest (met ++ j ∷ []) owns (omega (arith, all, length-append met (j ∷ []))))

      refuses_one : (hs : List Hold) (why : GrantRefusal) → IsRefused (frames dom) (grants dom) dom a.ring a.event hs why → FitsSo (holds_of (all_pages met ++ hs)) (unmaps (all_pages met ++ hs) (Finished (Err why)))
      unfolding settled
      refuses_one hs why e =
          let owns = own_append frames grants dom (all_pages met) hs own (refused_own frames grants dom a.ring a.event hs why e) in
          fits_drop frames grants dom Ends (Finished (Err why)) [] (all_pages met ++ hs) (all_pages met ++ hs) (own_are frames grants dom (all_pages met ++ hs) owns)
          (λ k. omega (arith, times_append k (all_pages met ++ hs) []))
          (λ left gone. ((refl, (λ k. omega (arith, gone k, shut_pages w k q.sane bare))), (still, bare)))

    module _ (found : first_fault w.read (needs_of t.kind (site D)) ≡ None) where
      fits_parts : (rs : List Refs) (met : List Joined) → AllOwn frames grants dom (all_pages met) → length met + length rs ≡ parts → FitsSo (holds_of (all_pages met)) (connect_parts (site D) rs met)
      unfolding settled
      fits_parts [] met own all =
          ((refl, (λ k. ap (λ hs. times k (hs ++ all_pages met)) (sym (l.begun_sane w.service w.read).2))), (connecting, own, omega (arith, all), found, bare))
      fits_parts (a ∷ rs) met own all =
          fits_joined (IsProper frames grants dom) (holding frames) (after_part met (connect_parts (site D) rs)) Ends (holds_of (all_pages met)) (connect_plan (frames dom) (grants dom) dom a.ring a.event)
          (fits_connect frames grants dom a.event a.ring (all_pages met) (λ h x. FitsSo h (after_part met (connect_parts (site D) rs) x))
          (joins_one a rs met own (λ more o e. fits_parts rs more o e) all) (refuses_one a rs met own))

    pub fits_all : (x : Option Problem) → first_fault w.read (needs_of t.kind (site D)) ≡ x → Fit frames grants dom (EndsSo D w) (holds_of []) (connect_all (site D) x (refs_from t.kind w.read 0 parts))
    unfolding settled
    fits_all (Some problem) e = ((refl, (λ k. sym (shut_pages w k q.sane bare))), (still, bare))
    fits_all None e =
        let asked = all_asked t.kind (site D) w.read 0 parts (omega arith) e in
        fits_mapped (IsProper frames grants dom) (holding frames) connected (EndsSo D w) (holds_of []) (connect_parts (site D) (refs_from t.kind w.read 0 parts) []) (fits_parts e (refs_from t.kind w.read 0 parts) [] tt (omega (arith, asked.1)))

  -- what it finds
  module _ (w : Work X V) (connecting : w.connecting ≡ true) (none : w.kept ≡ None) where
    asked_at : (a : Refs) (gref : ℕ) → IsRingAsked t.kind (site D) w.read a.ring × IsAskedFor t.kind (site D) w.read a.event → (a.ring ≡ Some gref) ⊎ (a.event ≡ gref) → IsAskedFor t.kind (site D) w.read gref
    asked_at a gref are (inl e) = subst (λ x. IsRingAsked t.kind (site D) w.read x) e are.0
    asked_at a gref are (inr e) = subst (λ g. IsAskedFor t.kind (site D) w.read g) e are.1

    abbrev Finds : Found → Result (List Joined) GrantRefusal → Type 0
    Finds f r = EndsFoundSo D w f (connected r)

    found_parts : (rs : List Refs) (met : List Joined) (f : Found) → AllAsked t.kind (site D) w.read rs → FitFound Finds f (connect_parts (site D) rs met)
    unfolding settled
    found_parts [] met f are = ((λ why e. absurd (no_reason None why refl e)), λ ts. tt)
    found_parts (a ∷ rs) met f are =
        fits_then (λ (g : Found) want note. IsUntouched note) (λ g (note : Note) c. finding g c) (HasShown (frames dom) (grants dom) a.ring a.event) Finds (after_part met (connect_parts (site D) rs)) f (connect_plan (frames dom) (grants dom) dom a.ring a.event) (connects_show (frames dom) (grants dom) dom a.event a.ring f) (ended (λ more g. found_parts rs more g are.1))
      where
        ended : ((more : List Joined) (g : Found) → FitFound Finds g (connect_parts (site D) rs more)) → (g : Found) (c : Connected) → HasShown (frames dom) (grants dom) a.ring a.event g c → FitFound Finds g (after_part met (connect_parts (site D) rs) c)
        ended rest g (Joins j) e = rest (met ++ j ∷ []) g
        ended rest g (Refuses held why) e =
            unmaps_found Finds g (all_pages met ++ held) (Finished (Err why)) ((λ x h. absurd (no_reason None x refl h)), λ ts. (connecting, (e.0, asked_at a e.0 are.0 e.1, e.2)))

    pub found_all : (x : Option Problem) (f : Found) → first_fault w.read (needs_of t.kind (site D)) ≡ x → FitFound (EndsFoundSo D w) f (connect_all (site D) x (refs_from t.kind w.read 0 parts))
    unfolding settled
    found_all (Some problem) f e = ((λ why h. absurd (no_reason None why refl h)), λ ts. (connecting, e))
    found_all None f e =
        fits_mapped (λ (g : Found) want note. IsUntouched note) (λ g (note : Note) c. finding g c) connected (EndsFoundSo D w) f (connect_parts (site D) (refs_from t.kind w.read 0 parts) []) (found_parts (refs_from t.kind w.read 0 parts) [] f (all_asked t.kind (site D) w.read 0 parts (omega arith) e).0)
