-- What a link holds while a Connect is under way: what is left of it tells what is held.
use Rattle.std.proofs.Common.{◌≡◌, ◌⊎◌, inl, inr, ℕ, true, nat_lt, List, [], ◌∷◌, ◌++◌, Option, Some, refl, sym, ap, subst, ◌∙◌}
use Rattle.std.proofs.lemmas.Bool.{false≢true}
use Rattle.pv_words.specs.declared.grant.GrantRefusal.{GrantRefusal}
use Rattle.pv_words.specs.declared.grant.Hold.{Hold}
use Rattle.pv_words.specs.declared.grant.Mode.TheVariants.{Write}
use Rattle.pv_words.specs.Held.{Holds, holding, kept}
use Rattle.pv_words.specs.Plan.{Note, FitsFrom, Want}
use Rattle.pv_words.proofs.Fits.{fits_first}
use Rattle.pv_words.proofs.Refusing.{map_none, start_none}
use Rattle.pv_words.specs.Mapping.{map_plan}
use Rattle.pv_words.specs.MapLeft.{map_left}
use Rattle.link_core.specs.declared.link.Link.{Link}
use Rattle.link_core.specs.declared.link.Stage.{Stage}
use Rattle.link_core.specs.declared.link.Stage.TheVariants as stage
use Rattle.link_core.specs.Activities.{Connected, Joined, Joins, Refuses, hold_list, pages_of, with_event, with_ring}
use Rattle.link_core.specs.Laws.{kept_by}
use Rattle.link_core.specs.Link.{connect_left, connect_rest, connects, dom_of, held_of, is_in_connect}
use Rattle.link_core.specs.Stage.{agrees, held_in, ring_in}
use Rattle.link_core.proofs.Links.{held_before, held_nothing, held_pages, ring_alone}

module _ (frames grants : ℕ → ℕ) (May : Holds → Want → Note → Type 0) (Q : Holds → Connected → Type 0) where
  -- One way on a Connect is refused while these pages are held, or it is joined to just these; and what is held stays so far.
  abbrev pub Comes : Holds → List Hold → Type 0
  Comes s pages =
      ((t : Holds) × (why : GrantRefusal) × Q t (Refuses pages why) × (t.held ≡ s.held)) ⊎ ((t : Holds) × (j : Joined) × Q t (Joins j) × (pages_of j ≡ pages) × (t.held ≡ s.held))

  refused : (s t : Holds) (pages told : List Hold) (why : GrantRefusal) → told ≡ pages → Q t (Refuses told why) → t.held ≡ s.held → Comes s pages
  refused s t pages told why e q same = inl (t, why, subst (λ hs. Q t (Refuses hs why)) e q, same)

  stage_comes : (l : Link) (k : Stage) (ring : Option ℕ) (event : ℕ) (s : Holds) → is_in_connect k ≡ true → agrees k l.kept ≡ true → FitsFrom May (holding frames) Q s (connect_rest (frames l.dom.0) (grants l.dom.0) ring event l k) → Comes s (held_in l.kept l.ring_page l.event_page)
  stage_comes l stage.Rest ring event s is a h = absurd (false≢true is)
  stage_comes l stage.Take ring event s is a h = absurd (false≢true is)
  stage_comes l stage.Answer ring event s is a h = absurd (false≢true is)
  stage_comes l stage.Sleep ring event s is a h = absurd (false≢true is)
  stage_comes l stage.Raise ring event s is a h = absurd (false≢true is)
  stage_comes l stage.Ring ring event s is a h =
      let F = frames l.dom.0 in
      let G = grants l.dom.0 in
      let none = map_none frames May (λ t r. FitsFrom May (holding frames) Q t (with_ring F G l.dom.0 event r)) F G l.map s (ap frames (sym l.whose)) l.going (fits_first May (holding frames) (with_ring F G l.dom.0 event) Q s (map_left F G l.map) h) in
      refused s none.0 (held_in l.kept l.ring_page l.event_page) [] none.1 (sym (held_nothing l.kept l.ring_page l.event_page a)) none.2 none.3
  stage_comes l stage.Index ring event s is a h =
      let F = frames l.dom.0 in
      let G = grants l.dom.0 in
      let o : Option Hold = Some l.ring_page in
      let none = start_none frames May (λ t r. FitsFrom May (holding frames) Q t (with_event o 0 r)) F l.dom.0 event Write (nat_lt event G) (kept s) (fits_first May (holding frames) (with_event o 0) Q (kept s) (map_plan F G l.dom.0 event Write) (h.1 0)) in
      refused s none.0 (held_in l.kept l.ring_page l.event_page) (l.ring_page ∷ []) none.1 (sym (ap (λ x. held_in x l.ring_page l.event_page) (ring_alone l.kept a))) none.2 none.3
  stage_comes l stage.Event ring event s is a h =
      let F = frames l.dom.0 in
      let G = grants l.dom.0 in
      let o = ring_in l.kept l.ring_page in
      let none = map_none frames May (λ t r. FitsFrom May (holding frames) Q t (with_event o l.ring r)) F G l.map s (ap frames (sym l.whose)) l.going (fits_first May (holding frames) (with_event o l.ring) Q s (map_left F G l.map) h) in
      refused s none.0 (held_in l.kept l.ring_page l.event_page) (hold_list o) none.1 (sym (held_before l.kept l.ring_page l.event_page a)) none.2 none.3
  stage_comes l stage.Prod ring event s is a h =
      let j : Joined = record { ring = ring_in l.kept l.ring_page; event = l.event_page; rsp = l.ring; prod = 0 } in
      inr (kept s, j, h.1 0, sym (held_pages l.kept l.ring_page l.event_page a), refl)

  -- what is left of a Connect that is under way tells what its link holds
  pub connect_comes : (l : Link) (ring : Option ℕ) (event : ℕ) (s : Holds) → connects l ≡ true → FitsFrom May (holding frames) Q s (connect_left (frames (dom_of l)) (grants (dom_of l)) ring event l) → Comes s (held_of l)
  unfolding connect_left connects dom_of held_of
  connect_comes l ring event s is h = stage_comes l l.stage ring event s is l.agrees h

-- where what is left of a Connect ends with exactly the pages that it tells, the link holds what was mapped since
pub held_during : (frames grants : ℕ → ℕ) (May : Holds → Want → Note → Type 0) (held : List Hold) (Q : Holds → Connected → Type 0) (exact : (t : Holds) (c : Connected) → Q t c → t.held ≡ held ++ kept_by c) (l : Link) (ring : Option ℕ) (event : ℕ) (s : Holds) → connects l ≡ true → FitsFrom May (holding frames) Q s (connect_left (frames (dom_of l)) (grants (dom_of l)) ring event l) → s.held ≡ held ++ held_of l
held_during frames grants May held Q exact l ring event s is h = by_end (connect_comes frames grants May Q l ring event s is h)
  where
    by_end : Comes frames grants May Q s (held_of l) → s.held ≡ held ++ held_of l
    by_end (inl e) = sym e.3 ∙ exact e.0 (Refuses (held_of l) e.1) e.2
    by_end (inr e) = sym e.4 ∙ (exact e.0 (Joins e.1) e.2 ∙ ap (λ x. held ++ x) e.3)
