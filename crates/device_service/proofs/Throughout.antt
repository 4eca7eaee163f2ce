-- Where a backend stands, it tells just the pages that its accesses hold: one way on from there ends what is under way.
use Rattle.std.proofs.Common.{◌≡◌, inl, inr, ℕ, ◌+◌, ◌<◌, ◌++◌, Bool, true, false, List, [], ◌∷◌, Option, Some, None, Result, Ok, Err, is_some, drop, length, slice_get, refl, sym, ap, subst, ◌∙◌, arith}
use Rattle.pv_words.specs.declared.device.NodeValue.{NodeValue}
use Rattle.pv_words.specs.declared.device.Reason.{Reason}
use Rattle.pv_words.specs.declared.device.Reason.TheVariants as reason
use Rattle.pv_words.specs.declared.grant.GrantRefusal.{GrantRefusal}
use Rattle.pv_words.specs.declared.grant.Hold.{Hold}
use Rattle.pv_words.specs.Held.{Holds, IsProper, holding}
use Rattle.pv_words.specs.Plan.{Plan, Finished, Make, mapped}
use Rattle.pv_words.proofs.Fits.{fits_so}
use Rattle.page_directory.specs.Same.{AreSame, times}
use Rattle.link_core.specs.Activities.{Joined}
use Rattle.device_core.specs.Learned.{Learned, learned_of}
use Rattle.device_core.specs.Order.{Stand, Between, During, made_by}
use Rattle.device_core.specs.Touched.{Carried}
use Rattle.device_core.proofs.Learning.{holds_learned}
use Rattle.device_core.proofs.MachineRun.{carried_after, good_after, own_after}
use Rattle.device_service.specs.declared.backend.Activity.{Activity}
use Rattle.device_service.specs.declared.backend.Activity.TheVariants as activity
use Rattle.device_service.specs.declared.backend.Backend.{Backend}
use Rattle.device_service.specs.declared.parts.Doing.{Doing}
use Rattle.device_service.specs.declared.parts.Doing.TheVariants as doing
use Rattle.device_service.specs.declared.parts.Parts.{Parts}
use Rattle.device_service.specs.declared.round.Hand.{Hand}
use Rattle.device_service.specs.declared.serve.Serve.{Ghosts}
use Rattle.device_service.specs.Activity.{StandsAs, hand_part, is_leaving, is_open, is_working, may_hold, resting}
use Rattle.device_service.specs.Claims.{KeepsLaws, site_of}
use Rattle.device_service.specs.Held.{HoldsAsMany, HoldsPage, TellsWhatIsHeld, holds_by}
use Rattle.device_service.specs.Laws.{AreHeld}
use Rattle.device_service.specs.Parts as of_parts
use Rattle.device_service.specs.Parts.{answer_from, connect_left, connects, count_of, doing_of, is_asleep, joined_of, kept_by, raise_from, sleeping, slept_to, take_from}
use Rattle.device_service.specs.Stand.{dom_of, given_up, held_of, known_in, leaving_plan, parts_of, site_at, stand_at, stand_in, stand_of, stuck, why_of, work_of}
use Rattle.device_service.specs.Throughout.{HoldsThroughout}
use Rattle.device_service.specs.Work.{Work, End, Took, Own, Done, Answered, Slept, Raised, Shut, after_answer, all_pages, connected, device, first_station, part_of, settled}
use Rattle.device_service.proofs.InPages.{fits_before, in_answer, in_raise, in_sleeping, in_take, stays}
use Rattle.device_service.proofs.PartsLaws.{held_bare, held_open, held_told, joined_count, joined_none}
use Rattle.device_service.proofs.Holding.Lengths.{same_length, times_at}
use Rattle.device_service.proofs.Sound.{Good, Lies, first_carried, first_good, fits_during, sound, tells_between}
use Rattle.device_service.proofs.Soundness.Connect.{shut_pages}
use Rattle.device_service.proofs.Soundness.Parts.{counted_pages}
use Rattle.device_service.proofs.Soundness.Plans.{Fit}
use Rattle.device_service.proofs.Soundness.Same.{same_append}
use Rattle.device_service.proofs.Soundness.Serves.{raise_pages}
use Rattle.device_service.proofs.Soundness.Work.{Lawful, EndsSo, IsSane, held_pages, learned, site, sleep_pages}
use Rattle.device_service.proofs.Mapping.Unmaps.{unmaps_come}
use Rattle.page_directory.specs.Lists.{left_nil}

-- parts that rest hold the pages of what they are joined to
parts_held : (p : Parts) (o : Bool) → doing_of p ≡ resting o → all_pages (joined_of p) ≡ of_parts.held_of p
parts_held p true rests = sym (held_open p (ap of_parts.is_open rests))
parts_held p false rests = ap all_pages (joined_none p (ap of_parts.is_open rests)) ∙ sym (held_bare p rests)

-- as do those that sleep
open_asleep : (d : Doing) → is_asleep d ≡ true → of_parts.is_open d ≡ true
open_asleep (doing.Sleeping part) e = refl
open_asleep doing.Bare e = let wrong : ⊥ = cc in absurd wrong
open_asleep (doing.Connecting part) e = let wrong : ⊥ = cc in absurd wrong
open_asleep (doing.Undoing why) e = let wrong : ⊥ = cc in absurd wrong
open_asleep doing.Open e = let wrong : ⊥ = cc in absurd wrong
open_asleep (doing.Taking part) e = let wrong : ⊥ = cc in absurd wrong
open_asleep (doing.Answering part) e = let wrong : ⊥ = cc in absurd wrong
open_asleep (doing.Raising part) e = let wrong : ⊥ = cc in absurd wrong
open_asleep doing.Dropping e = let wrong : ⊥ = cc in absurd wrong

module _ {X A V Y M : Type 0} (D : Lawful X A V Y M) (w : Work X V) (k : Carried Learned) where
  open D use {s, t, r, known, frames, grants, dom, parts, l}

  -- just these pages are held
  abbrev HoldsJust : List Hold → Type 0
  HoldsJust pages = AreSame k.own.holds.held pages

  between_holds : Good D (Between w) k → HoldsJust (held_pages s w)
  between_holds g = (tells_between D w k g).1.1

  taking_holds : (part : ℕ) (p : Parts) → Good D (During w (mapped Took (of_parts.take_left part p))) k → HoldsJust (held_pages s w)
  unfolding settled of_parts.take_left
  taking_holds part p g x =
      let plan = take_from (slice_get p.links.items part) in
      let f = (fits_during D w (mapped Took plan) k g).1 in
      let n = stays frames (IsProper frames grants dom) (λ h y. EndsSo D w h (Took y)) k.own.holds plan (in_take (slice_get p.links.items part)) (fits_before frames (IsProper frames grants dom) Took (EndsSo D w) k.own.holds plan f) in
      sym (ap (times x) n.3) ∙ (n.2.0.1 x ∙ ap (λ hs. times x (hs ++ all_pages w.parts)) (l.takes_pages w.service w.at n.1))

  sleeping_holds : (p : Parts) → Good D (During w (mapped Slept (of_parts.sleep_left p))) k → HoldsJust (held_pages s w)
  unfolding settled of_parts.sleep_left
  sleeping_holds p g x =
      let plan = sleeping (slept_to p.doing) p.links.items in
      let f = (fits_during D w (mapped Slept plan) k g).1 in
      let n = stays frames (IsProper frames grants dom) (λ h y. EndsSo D w h (Slept y)) k.own.holds plan (in_sleeping (drop (slept_to p.doing + 1) p.links.items) (slice_get p.links.items (slept_to p.doing))) (fits_before frames (IsProper frames grants dom) Slept (EndsSo D w) k.own.holds plan f) in
      sym (ap (times x) n.3) ∙ (n.2.0.1 x ∙ ap (times x) (sleep_pages D w n.1))

  -- an answer leaves the pages as they are
  answered_same : (x : Option Hand) → known.Sane w.service → known.Has true w.service → s.ready w.service ≡ true → AreSame (held_pages s w) (held_pages s (after_answer s w x))
  answered_same None sane has ready = λ h. refl
  answered_same (Some h) sane has ready =
      same_append (s.pages w.service) (s.pages (s.answered w.service)) (all_pages w.parts) (all_pages (after_answer s w (Some h)).parts) (l.answers w.service sane has ready).2
      (λ y. ap (times y) (sym (counted_pages w.parts h.part (part_of s w h) refl)))

  answering_holds : (part : ℕ) (reply : List ℕ) (p : Parts) → Good D (During w (mapped Answered (of_parts.answer_left part reply p))) k → HoldsJust (held_pages s w)
  unfolding settled of_parts.answer_left
  answering_holds part reply p g x =
      let plan = answer_from reply (slice_get p.links.items part) in
      let d = fits_during D w (mapped Answered plan) k g in
      let n = stays frames (IsProper frames grants dom) (λ h y. EndsSo D w h (Answered y)) k.own.holds plan (in_answer reply (slice_get p.links.items part)) (fits_before frames (IsProper frames grants dom) Answered (EndsSo D w) k.own.holds plan d.1) in
      let a = n.2.1 in
      sym (ap (times x) n.3) ∙ (n.2.0.1 x ∙ sym (answered_same w.hand d.0.sane a.2 a.3 x))

  raising_holds : (part : ℕ) (e : Option V) (words : List ℕ) (p : Parts) → Good D (During w (mapped (Raised part e) (of_parts.raise_left part words p))) k → HoldsJust (held_pages s w)
  unfolding settled of_parts.raise_left
  raising_holds part e words p g x =
      let plan = raise_from words (slice_get p.links.items part) in
      let d = fits_during D w (mapped (Raised part e) plan) k g in
      let n = stays frames (IsProper frames grants dom) (λ h y. EndsSo D w h (Raised part e y)) k.own.holds plan (in_raise words (slice_get p.links.items part)) (fits_before frames (IsProper frames grants dom) (Raised part e) (EndsSo D w) k.own.holds plan d.1) in
      sym (ap (times x) n.3) ∙ (n.2.0.1 x ∙ ap (times x) (raise_pages D w part e n.1 d.0 n.2.1.0))

  -- what an activity of the service leaves, of the request in hand or of an event
  abbrev Leaves : Holds → A → Type 0
  Leaves h a = AreHeld h (s.pages (s.after w.service a) ++ all_pages w.parts)

  working_fits : (p : Plan A) → Good D (During w (mapped Own p)) k → IsSane D w × Fit frames grants dom Leaves k.own.holds p
  unfolding settled
  working_fits p g =
      let d = fits_during D w (mapped Own p) k g in
      (d.0, fits_so (IsProper frames grants dom) (holding frames) (λ h a. EndsSo D w h (Own a)) Leaves (λ h a e. e.0) k.own.holds p (fits_before frames (IsProper frames grants dom) Own (EndsSo D w) k.own.holds p d.1))

  serving_fits : (p : Plan A) → Good D (During w (mapped Done p)) k → IsSane D w × Fit frames grants dom Leaves k.own.holds p
  unfolding settled
  serving_fits p g =
      let d = fits_during D w (mapped Done p) k g in
      (d.0, fits_so (IsProper frames grants dom) (holding frames) (λ h a. EndsSo D w h (Done a)) Leaves (λ h a e. e.0) k.own.holds p (fits_before frames (IsProper frames grants dom) Done (EndsSo D w) k.own.holds p d.1))

  -- with its parts joined, its service has come so far
  has_come : (n : ℕ) → n < length w.parts → IsSane D w → known.Has (is_some w.hand) w.service
  has_come n lt q = elim q.opened [ inl bare ↦ absurd (omega (arith, lt, ap length bare.0)) | inr o ↦ o.1 ]

  -- all pages are given up, one after another
  leaving_holds : (why : Reason) (hs : List Hold) → (hs ≡ [] → s.pages w.service ≡ []) → Good D (stand_at w (leaving_plan why hs)) k → HoldsJust hs
  unfolding settled
  leaving_holds why [] none g x =
      (tells_between D (stuck w why) k g).1.1 x ∙ ap (λ ps. times x (ps ++ [])) (none refl)
  leaving_holds why (h ∷ hs) none g x =
      let f = fits_during D w (leaving_plan why (h ∷ hs)) k g in
      let u = unmaps_come frames grants dom (EndsSo D w) (h ∷ hs) (Finished (Shut why)) k.own.holds f.1 in
      let none : times x u.0.held ≡ 0 = u.1.0.1 x ∙ shut_pages D w x f.0.sane u.1.1.1 in
      omega (arith, u.2 x, none)

  -- a Connect isn't over at once
  stuck_apart : (o : Result (List Joined) GrantRefusal) → IsSane D (stuck w (why_of (connected {A = A} {V = V} o))) → ⊥
  stuck_apart (Ok js) q = let far = (q.kept (reason.Overrun 0 0) refl).0.1 in omega (arith, far)
  stuck_apart (Err why) q = (q.kept (reason.Refused why) refl).0

  connecting_fits : (p : Plan (Result (List Joined) GrantRefusal)) → Good D (stand_at w (mapped connected p)) k → IsSane D w × Fit frames grants dom (λ h o. EndsSo D w h (connected o)) k.own.holds p
  connecting_fits (Finished o) g = absurd (stuck_apart o (tells_between D (stuck w (why_of (connected o))) k g).0)
  connecting_fits (Make want note more) g =
      let d = fits_during D w (mapped connected (Make want note more)) k g in
      (d.0, fits_before frames (IsProper frames grants dom) connected (EndsSo D w) k.own.holds (Make want note more) d.1)

  -- what is held once a Connect is over
  connected_holds : known.Sane w.service → s.pages w.service ≡ [] → (h : Holds) (o : Result (List Joined) GrantRefusal) → EndsSo D w h (connected o) → AreSame h.held (kept_by o)
  unfolding settled
  connected_holds sane bare h (Ok js) e x = e.0.1 x ∙ ap (λ ps. times x (ps ++ all_pages js)) (l.begun_sane w.service w.read).2
  connected_holds sane bare h (Err why) e x = e.0.1 x ∙ shut_pages D w x sane bare

  connecting_holds : (nodes : List NodeValue) (p : Parts) → connects (doing_of p) ≡ true → s.pages w.service ≡ [] → of_parts.dom_of p ≡ dom → Good D (stand_at w (mapped connected (connect_left (site_of frames grants dom (count_of p)) nodes p))) k → HoldsJust (of_parts.held_of p)
  connecting_holds nodes p under bare home g = by_domain dom home (fits_so (IsProper frames grants dom) (holding frames) (λ h o. EndsSo D w h (connected o)) (λ h o. AreSame h.held (kept_by o)) (connected_holds f.0.sane bare) k.own.holds plan f.1)
    where
      plan : Plan (Result (List Joined) GrantRefusal)
      plan = connect_left (site_of frames grants dom (count_of p)) nodes p

      f : IsSane D w × Fit frames grants dom (λ h o. EndsSo D w h (connected o)) k.own.holds plan
      f = connecting_fits plan g

      FitsIn : ℕ → Type 0
      FitsIn n = Fit frames grants n (λ h o. AreSame h.held (kept_by o)) k.own.holds (connect_left (site_of frames grants n (count_of p)) nodes p)

      by_domain : (n : ℕ) → of_parts.dom_of p ≡ n → FitsIn n → HoldsJust (of_parts.held_of p)
      by_domain n e fits = held_told frames grants nodes [] k.own.holds p under (subst FitsIn (sym e) fits)

-- a backend's service, and the site that it stands at
abbrev lawful : {S E : Type 0} {g : Ghosts S E} → KeepsLaws g.service g.table g.shows g.known → (frames grants : ℕ → ℕ) → Backend S E g → Lawful g.Known g.End E g.Rows g.Naming
lawful {S} {E} {g} laws frames grants d =
    record {
      s = g.service;
      t = g.table;
      r = g.shows;
      frames = frames;
      grants = grants;
      dom = d.dom.0;
      parts = count_of d.parts;
      known = g.known frames grants d.dom.0 (count_of d.parts);
      l = laws frames grants d.dom.0 (count_of d.parts);
    }

module _ {S E : Type 0} {g : Ghosts S E} (laws : KeepsLaws g.service g.table g.shows g.known) (throughout : HoldsThroughout g.service g.known g.knows g.going g.left g.is_of g.holds) (frames grants : ℕ → ℕ) (d : Backend S E g) where
  abbrev D : Lawful g.Known g.End E g.Rows g.Naming
  D = lawful laws frames grants d

  abbrev known_at : Bool → g.Known
  known_at leaving = known_in g.service.stripped leaving (g.knows d.service)

  module _ (k : Carried Learned) (w : Work g.Known E) (joins : w.parts ≡ joined_of d.parts) where
    -- what it tells
    abbrev told : List Hold
    told = g.holds d.service ++ of_parts.held_of d.parts

    -- between two activities of its service, where its parts hold the pages of what they are joined to
    as_told : w.service ≡ g.knows d.service → g.going d.service ≡ false → all_pages (joined_of d.parts) ≡ of_parts.held_of d.parts → held_pages g.service w ≡ told
    as_told knows idle all =
        ap (λ (x : g.Known). g.service.pages x ++ all_pages w.parts) knows
        ∙ (ap (λ hs. hs ++ all_pages w.parts) (sym (g.holds_pages d.service idle))
        ∙ ap (λ hs. g.holds d.service ++ hs) (ap all_pages joins ∙ all))

    holds_told : w.service ≡ g.knows d.service → g.going d.service ≡ false → all_pages (joined_of d.parts) ≡ of_parts.held_of d.parts → AreSame k.own.holds.held (held_pages g.service w) → AreSame k.own.holds.held told
    holds_told knows idle all same = subst (λ hs. AreSame k.own.holds.held hs) (as_told knows idle all) same

    opened_all : of_parts.is_open (doing_of d.parts) ≡ true → all_pages (joined_of d.parts) ≡ of_parts.held_of d.parts
    opened_all opened = sym (held_open d.parts opened)

    -- an activity of the service is under way
    service_holds : w.service ≡ g.knows d.service → g.going d.service ≡ true → g.is_of d.dom.0 d.service ≡ true → of_parts.is_open (doing_of d.parts) ≡ true → IsSane D w × Fit frames grants d.dom.0 (Leaves D w k) k.own.holds (g.left (site D) d.service) → AreSame k.own.holds.held told
    service_holds knows going home opened f =
        let lt : d.at < length w.parts = omega (arith, d.at_in, joined_count d.parts opened, ap length joins) in
        let has = has_come D w k d.at lt f.0 in
        let sane = subst (λ (x : g.Known). (g.known frames grants d.dom.0 (count_of d.parts)).Sane x) knows f.0.sane in
        let has_so = subst (λ (x : g.Known). (g.known frames grants d.dom.0 (count_of d.parts)).Has (is_some w.hand) x) knows has in
        let fits = subst (λ (x : g.Known). Fit frames grants d.dom.0 (λ h a. AreHeld h (g.service.pages (g.service.after x a) ++ all_pages w.parts)) k.own.holds (g.left (site D) d.service)) knows f.1 in
        let all = throughout frames grants d.dom.0 (count_of d.parts) d.service (is_some w.hand) (all_pages w.parts) k.own.holds going home sane has_so fits in
        subst (λ hs. AreSame k.own.holds.held (g.holds d.service ++ hs)) (ap all_pages joins ∙ opened_all opened) all

    -- no page is held for the service
    alone : g.going d.service ≡ false → g.service.pages (g.knows d.service) ≡ [] → of_parts.held_of d.parts ≡ told
    alone idle bare = ap (λ hs. hs ++ of_parts.held_of d.parts) (sym (g.holds_pages d.service idle ∙ bare))

    gone : given_up d ≡ [] → g.service.pages (known_at true) ≡ []
    unfolding given_up
    gone e =
        let bare = left_nil (g.service.pages (g.knows d.service)) (of_parts.held_of d.parts) e in
        ap g.service.pages (g.stays_bare (g.knows d.service) bare) ∙ bare

    all_given : g.going d.service ≡ false → given_up d ≡ told
    unfolding given_up
    all_given idle = ap (λ hs. hs ++ of_parts.held_of d.parts) (sym (g.holds_pages d.service idle))

    -- where a backend stands, it tells what its accesses hold
    holds_in : (a : Activity) → w.service ≡ known_at (is_leaving a) → StandsAs a (is_open a d.closing d.connection.back) (doing_of d.parts) d.at d.hand → g.going d.service ≡ is_working a → (is_working a ≡ true → g.is_of d.dom.0 d.service ≡ true) → (may_hold a (is_open a d.closing d.connection.back) ≡ false → g.service.pages (g.knows d.service) ≡ []) → Good D (stand_in (site D) d w a) k → AreSame k.own.holds.held told
    holds_in activity.Between knows stands works home bare good =
        holds_told knows works (parts_held d.parts (is_open activity.Between d.closing d.connection.back) stands) (between_holds D w k good)
    holds_in activity.Connecting knows stands works home bare good =
        subst (λ hs. AreSame k.own.holds.held hs) (alone works (bare refl))
        (connecting_holds D w k d.read d.parts stands (ap g.service.pages knows ∙ bare refl) d.dom_is good)
    holds_in (activity.Leaving why) knows stands works home bare good =
        subst (λ hs. AreSame k.own.holds.held hs) (all_given works)
        (leaving_holds D w k why (given_up d) (λ e. ap g.service.pages knows ∙ gone e) good)
    holds_in activity.Taking knows stands works home bare good =
        holds_told knows works (opened_all (ap of_parts.is_open stands.1)) (taking_holds D w k d.at d.parts good)
    holds_in activity.Working knows stands works home bare good =
        service_holds knows works (home refl) (ap of_parts.is_open stands.1) (working_fits D w k (g.left (site D) d.service) good)
    holds_in activity.Serving knows stands works home bare good =
        service_holds knows works (home refl) (ap of_parts.is_open stands.1) (serving_fits D w k (g.left (site D) d.service) good)
    holds_in activity.Answering knows stands works home bare good =
        holds_told knows works (opened_all (ap of_parts.is_open stands.1)) (answering_holds D w k (hand_part d.hand) d.outgoing d.parts good)
    holds_in (activity.Raising part) knows stands works home bare good =
        holds_told knows works (opened_all (ap of_parts.is_open stands.1)) (raising_holds D w k part d.cause d.outgoing d.parts good)
    holds_in activity.Sleeping knows stands works home bare good =
        holds_told knows works (opened_all (open_asleep (doing_of d.parts) stands.1)) (sleeping_holds D w k d.parts good)

  pub backend_holds : (k : Carried Learned) → Good D (stand_of (site D) d) k → AreSame k.own.holds.held (held_of d)
  unfolding stand_of held_of work_of
  backend_holds k good =
      holds_in k (work_of d) refl d.activity refl d.stands d.works d.of_domain d.bare good

module _ {S E : Type 0} {g : Ghosts S E} (laws : KeepsLaws g.service g.table g.shows g.known) (throughout : HoldsThroughout g.service g.known g.knows g.going g.left g.is_of g.holds) (d : Backend S E g) where
  pub tells_held : TellsWhatIsHeld d
  unfolding dom_of parts_of
  tells_held frames grants x es by =
      let of = device g.service (site (lawful laws frames grants d)) in
      let reads = learned (lawful laws frames grants d) in
      let lies = Lies (lawful laws frames grants d) in
      let proved = sound (lawful laws frames grants d) in
      let first = first_carried (lawful laws frames grants d) in
      let begins = first_good (lawful laws frames grants d) x by.0 in
      let at = first_station x in
      let k = carried_after of reads lies proved at first es in
      let good = good_after of reads lies proved at es first (begins.0, begins.1) by.1 in
      let here = subst (λ (s : Stand (Work g.Known E) (End g.End E)). Good (lawful laws frames grants d) s k) (sym by.2) good in
      let is : k.own.holds ≡ holds_by g.service frames (site (lawful laws frames grants d)) x es = ap (λ (l : Learned). l.holds) (own_after of reads lies proved at es first) ∙ holds_learned frames (learned_of []) (made_by of at es) in
      subst (λ (h : Holds). AreSame h.held (held_of d)) is (backend_holds laws throughout frames grants d k here)

  -- so it tells as many pages as they hold, and each is one of these
  pub counts_held : (n : ℕ) → n ≡ length (held_of d) → HoldsAsMany d n
  counts_held n e frames grants x es by =
      e ∙ sym (same_length (holds_by g.service frames (site_at frames grants d) x es).held (held_of d) (tells_held frames grants x es by))

  pub one_held : (i : ℕ) (h : Hold) → slice_get (held_of d) i ≡ Some h → HoldsPage d h
  one_held i h e frames grants x es by = omega (arith, times_at (held_of d) i h e, tells_held frames grants x es by h)
