-- The pages of the parts are held along each activity of a connected device.
use Rattle.std.proofs.Common.{◌≡◌, inl, inr, ℕ, zero, suc, ◌+◌, ◌*◌, ◌%◌, ◌<◌, ◌≤◌, ◌==◌, nat_lt, Bool, true, false, cond, List, [], ◌∷◌, ◌++◌, Option, Some, None, refl, sym, ◌∙◌, ap, subst, arith, length, append_assoc, append-nil, slice_get, slice_set, set, length-set, ◌^◌}
use Rattle.pv_words.specs.declared.grant.Hold.{Hold}
use Rattle.pv_words.specs.Held.{Holds, IsProper, holding, holds_of}
use Rattle.pv_words.specs.Plan.{Plan, Finished}
use Rattle.ring_words.specs.declared.Looked.{Looked}
use Rattle.ring_words.specs.Ring.{next_index, looked_of, slot_of, since}
use Rattle.link_core.specs.declared.link.Put.{Put}
use Rattle.link_core.specs.declared.link.Put.TheVariants as put
use Rattle.link_core.specs.declared.link.event.Layout.{Layout}
use Rattle.link_core.specs.Raise.{IsInPage, event_place, publish_events, put_events, unless_barred, word_at}
use Rattle.std.proofs.lemmas.Bool.Decides.{nat_tests}
use Rattle.link_core.specs.Activities.{Joined, page_at, stores, slot_place, pages_of, hold_list, look_plan, take_plan, answer_plan}
use Rattle.link_core.specs.Activities as link
use Rattle.link_core.proofs.PlanFits.{fits_loads, fits_stores}
use Rattle.link_core.proofs.Slots.{in_page}
use Rattle.device_service.specs.Work.{ring_hold, ring_page, all_pages, sleep_all, sleeps_on, counted, with_event}
use Rattle.device_service.proofs.Soundness.Plans.{Fit, IsOwn, AllOwn, own_in, own_behind, may_load, may_store}
use Rattle.device_service.proofs.Soundness.Same.{IsIn, in_left, in_right}

ring_first : (ring : Option Hold) (event : Hold) → IsIn (ring_hold event ring) (hold_list ring ++ event ∷ [])
ring_first None event = inl refl
ring_first (Some h) event = inl refl

-- the page of a part's ring is one of the pages
pub ring_in : (j : Joined) (js : List Joined) → IsIn (ring_hold j.event j.ring) (all_pages (j ∷ js))
ring_in j js = in_left (ring_hold j.event j.ring) (pages_of j) (all_pages js) (ring_first j.ring j.event)

pub part_in : (js : List Joined) (k : ℕ) (j : Joined) → slice_get js k ≡ Some j → IsIn (ring_hold j.event j.ring) (all_pages js)
part_in [] k j e = let wrong : ⊥ = cc in absurd wrong
part_in (i ∷ js) zero j e =
    let same : i ≡ j = cc in subst (λ (x : Joined). IsIn (ring_hold x.event x.ring) (all_pages (i ∷ js))) same (ring_in i js)
part_in (i ∷ js) (suc k) j e = in_right (ring_hold j.event j.ring) (pages_of i) (all_pages js) (part_in js k j e)

-- so is its event page
event_last : (ring : Option Hold) (event : Hold) → IsIn event (hold_list ring ++ event ∷ [])
event_last None event = inl refl
event_last (Some h) event = inr (inl refl)

pub event_in : (js : List Joined) (k : ℕ) (j : Joined) → slice_get js k ≡ Some j → IsIn j.event (all_pages js)
event_in [] k j e = let wrong : ⊥ = cc in absurd wrong
event_in (i ∷ js) zero j e =
    let same : i ≡ j = cc in
    subst (λ (x : Joined). IsIn x.event (all_pages (i ∷ js))) same (in_left i.event (pages_of i) (all_pages js) (event_last i.ring i.event))
event_in (i ∷ js) (suc k) j e = in_right j.event (pages_of i) (all_pages js) (event_in js k j e)

-- a part that counts a reply has its pages still
pub set_pages : (js : List Joined) (k : ℕ) (i j : Joined) → slice_get js k ≡ Some i → pages_of j ≡ pages_of i → all_pages (set js k j) ≡ all_pages js
set_pages [] k i j e same = let wrong : ⊥ = cc in absurd wrong
set_pages (x ∷ js) zero i j e same =
    let is : x ≡ i = cc in ap (λ y. y ++ all_pages js) (same ∙ ap (λ (y : Joined). pages_of y) (sym is))
set_pages (x ∷ js) (suc k) i j e same = ap (λ y. pages_of x ++ y) (set_pages js k i j e same)

-- a part that has one event more has its pages still
pub evented_pages : (js : List Joined) (k : ℕ) (x : Option Joined) → slice_get js k ≡ x → all_pages (with_event js k x) ≡ all_pages js
evented_pages js k None e = refl
evented_pages js k (Some j) e = set_pages js k j (record j { prod = next_index j.prod }) e refl

pub evented_length : (js : List Joined) (k : ℕ) (x : Option Joined) → length (with_event js k x) ≡ length js
evented_length js k None = refl
evented_length js k (Some j) = length-set js k (record j { prod = next_index j.prod })

-- one part more
pub pages_last : (js : List Joined) (j : Joined) → all_pages (js ++ j ∷ []) ≡ all_pages js ++ pages_of j
pages_last [] j = append-nil (pages_of j)
pages_last (i ∷ js) j = ap (λ x. pages_of i ++ x) (pages_last js j) ∙ sym (append_assoc (pages_of i) (all_pages js) (pages_of j))

-- where there is no part
pub counted_none : (js : List Joined) (k : ℕ) (x : Option Joined) → js ≡ [] → counted js k x ≡ []
counted_none js k None e = e
counted_none js k (Some j) e = ap (λ (is : List Joined). slice_set is k (record j { rsp = next_index j.rsp })) e

pub evented_none : (js : List Joined) (k : ℕ) (x : Option Joined) → js ≡ [] → with_event js k x ≡ []
evented_none js k None e = e
evented_none js k (Some j) e = ap (λ (is : List Joined). slice_set is k (record j { prod = next_index j.prod })) e

-- a part that counts a reply has its pages still
pub counted_pages : (js : List Joined) (k : ℕ) (x : Option Joined) → slice_get js k ≡ x → all_pages (counted js k x) ≡ all_pages js
counted_pages js k None e = refl
counted_pages js k (Some j) e = set_pages js k j (record j { rsp = next_index j.rsp }) e refl

pub counted_length : (js : List Joined) (k : ℕ) (x : Option Joined) → length (counted js k x) ≡ length js
counted_length js k None = refl
counted_length js k (Some j) = length-set js k (record j { rsp = next_index j.rsp })

module _ (frames grants : ℕ → ℕ) (dom : ℕ) (held : List Hold) where
  -- the page of the ring is the domain's own, and is held
  module _ (j : Joined) (own : IsOwn frames grants dom (ring_hold j.event j.ring)) (at : IsIn (ring_hold j.event j.ring) held) where
    pub fits_look : (Q : Holds → Looked → Type 0) → ((prod : ℕ) → Q (holds_of held) (looked_of j.rsp prod)) → Fit frames grants dom Q (holds_of held) (look_plan (ring_page j) j.rsp)
    fits_look Q h = (may_load frames grants dom (ring_hold j.event j.ring) held 0 own at (omega arith), λ v. h v)

    pub fits_take : (Q : Holds → List ℕ → Type 0) → ((words : List ℕ) → Q (holds_of held) words) → Fit frames grants dom Q (holds_of held) (take_plan (ring_page j) j.rsp)
    fits_take Q h =
        fits_loads (IsProper frames grants dom) (holding frames) Q (holds_of held) (slot_place (ring_page j) j.rsp) Finished 16
        (λ i small. may_load frames grants dom (ring_hold j.event j.ring) held (slot_of j.rsp i) own at (omega arith)) (λ i v. refl) h 16 0 [] (omega arith)

    pub fits_answer : (Q : Holds → Bool → Type 0) (reply : List ℕ) → length reply ≤ 16 → ((b : Bool) → Q (holds_of held) b) → Fit frames grants dom Q (holds_of held) (answer_plan (ring_page j) j.rsp reply)
    fits_answer Q reply short h =
        fits_stores (IsProper frames grants dom) (holding frames) Q (holds_of held) (slot_place (ring_page j) j.rsp) (link.publish_plan (ring_page j) j.rsp) 16
        (λ i v small. may_store frames grants dom (ring_hold j.event j.ring) held (slot_of j.rsp i) v own at (omega arith)) (λ i v. refl)
        (may_store frames grants dom (ring_hold j.event j.ring) held 2 (next_index j.rsp) own at (omega arith), λ v. (may_load frames grants dom (ring_hold j.event j.ring) held 3 own at (omega arith), λ event. h _))
        0 reply (omega (arith, short))

  -- events are put into a page of their own
  module _ (layout : Layout) (fits : IsInPage layout) (event : Hold) (own : IsOwn frames grants dom event) (at : IsIn event held) where
    puts_so : (Q : Holds → Put → Type 0) (prod cons n : ℕ) (words : List ℕ) (full bad : Bool) → Q (holds_of held) put.Done → Q (holds_of held) put.Full → (bad ≡ true → Q (holds_of held) (put.BadCons prod cons)) → Fit frames grants dom Q (holds_of held) (unless_barred (cond bad (Some (put.BadCons prod cons)) (cond full (Some put.Full) None)) (stores (event_place layout (page_at event) prod) (publish_events (page_at event) prod n) 0 words))
    puts_so Q prod cons n words full true a b c = c refl
    puts_so Q prod cons n words true false a b c = b
    puts_so Q prod cons n words false false a b c =
        fits_stores (IsProper frames grants dom) (holding frames) Q (holds_of held) (event_place layout (page_at event) prod) (publish_events (page_at event) prod n) (length words)
        (λ i v small. may_store frames grants dom event held (word_at layout prod i) v own at (in_page layout fits prod i))
        (λ i v. refl) (may_store frames grants dom event held 1 ((prod + n) % 2 ^ 32) own at (omega arith), λ v. a) 0 words (omega arith)

    pub fits_put : (Q : Holds → Put → Type 0) (prod n : ℕ) (words : List ℕ) → Q (holds_of held) put.Done → Q (holds_of held) put.Full → ((cons : ℕ) → layout.slots < since cons prod → Q (holds_of held) (put.BadCons prod cons)) → Fit frames grants dom Q (holds_of held) (put_events layout (page_at event) prod n words)
    fits_put Q prod n words a b c =
        (may_load frames grants dom event held 0 own at (omega arith), λ cons. puts_so Q prod cons n words (nat_lt layout.slots (since cons prod + n)) (nat_lt layout.slots (since cons prod)) a b (λ h. c cons (grind (arith, nat_tests, h))))

  module _ (Q : Holds → Bool → Type 0) (last : (b : Bool) → Q (holds_of held) b) where
    sleeps_so : (more : Plan Bool) (b : Bool) → Fit frames grants dom Q (holds_of held) more → Fit frames grants dom Q (holds_of held) (sleeps_on more b)
    sleeps_so more true f = f
    sleeps_so more false f = last false

    pub fits_sleeps : (js : List Joined) → AllOwn frames grants dom (all_pages js) → ((h : Hold) → IsIn h (all_pages js) → IsIn h held) → Fit frames grants dom Q (holds_of held) (sleep_all js)
    fits_sleeps [] own sub = last true
    fits_sleeps (j ∷ js) own sub =
        let at = sub (ring_hold j.event j.ring) (ring_in j js) in
        let o = own_in frames grants dom (ring_hold j.event j.ring) (all_pages (j ∷ js)) own (ring_in j js) in
        let rest = fits_sleeps js (own_behind frames grants dom (pages_of j) (all_pages js) own) (λ h i. sub h (in_right h (pages_of j) (all_pages js) i)) in (
          may_store frames grants dom (ring_hold j.event j.ring) held 1 (next_index j.rsp) o at (omega arith),
          λ v. (may_load frames grants dom (ring_hold j.event j.ring) held 0 o at (omega arith), λ prod. sleeps_so (sleep_all js) (prod == j.rsp) rest),
        )
