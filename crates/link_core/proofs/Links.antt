-- A link that rests has the whole of each activity before it; what it holds.
use Rattle.pv_words.specs.declared.grant.Mode.TheVariants.{Write}
use Rattle.pv_words.specs.Plan.{Plan, Finished, Make, joined}
use Rattle.pv_words.specs.Mapping.{map_plan}
use Rattle.pv_words.specs.MapLeft.{map_left}
use Rattle.std.proofs.Common.{◌≡◌, ◌≢◌, ℕ, ◌<◌, ◌++◌, true, List, [], ◌∷◌, Option, Some, None, Result, Ok, Err, length, slice_get, refl, ap, subst, ◌∙◌, arith, ◌≤◌}
use Rattle.std.proofs.lemmas.Bool.{false≢true}
use Rattle.pv_words.specs.declared.grant.GrantRefusal.{GrantRefusal}
use Rattle.pv_words.specs.declared.grant.Hold.{Hold}
use Rattle.link_core.specs.declared.link.Kept.{Kept}
use Rattle.link_core.specs.declared.link.Kept.TheVariants as kept
use Rattle.link_core.specs.declared.link.Link.{Link}
use Rattle.link_core.specs.declared.link.Stage.{Stage}
use Rattle.link_core.specs.declared.link.Stage.TheVariants as stage
use Rattle.link_core.specs.Activities.{Page, page_at, hold_list, take_plan, answer_plan, sleep_plan, connect_plan, pages_of, Joined, Joins, with_ring, with_event}
use Rattle.link_core.specs.Link.{dom_of, joined_of, page_of, rsp_of, take_left, answer_left, sleep_left, connect_left, connect_rest, AfterConnect, idle, rests, take_rest, answer_rest, sleep_rest, held_of, rings}
use Rattle.link_core.specs.Stage.{taken_in, answered_in, slept_in, agrees, held_in, ring_in, lacks_event, has_event, has_ring_alone, has_nothing, and_event, has_both, ring_comes}

take_of : (page : Page) (rsp n : ℕ) (words : List ℕ) (s : Stage) → rests s ≡ true → take_rest page rsp (taken_in s n) words ≡ take_plan page rsp
take_of page rsp n words stage.Rest h = refl
take_of page rsp n words stage.Take h = absurd (false≢true h)
take_of page rsp n words stage.Answer h = absurd (false≢true h)
take_of page rsp n words stage.Sleep h = absurd (false≢true h)
take_of page rsp n words stage.Raise h = absurd (false≢true h)
take_of page rsp n words stage.Ring h = absurd (false≢true h)
take_of page rsp n words stage.Index h = absurd (false≢true h)
take_of page rsp n words stage.Event h = absurd (false≢true h)
take_of page rsp n words stage.Prod h = absurd (false≢true h)

answer_of : (page : Page) (rsp n : ℕ) (reply : List ℕ) (s : Stage) → rests s ≡ true → answer_rest page rsp (answered_in s n) reply ≡ answer_plan page rsp reply
answer_of page rsp n reply stage.Rest h = refl
answer_of page rsp n reply stage.Take h = absurd (false≢true h)
answer_of page rsp n reply stage.Answer h = absurd (false≢true h)
answer_of page rsp n reply stage.Sleep h = absurd (false≢true h)
answer_of page rsp n reply stage.Raise h = absurd (false≢true h)
answer_of page rsp n reply stage.Ring h = absurd (false≢true h)
answer_of page rsp n reply stage.Index h = absurd (false≢true h)
answer_of page rsp n reply stage.Event h = absurd (false≢true h)
answer_of page rsp n reply stage.Prod h = absurd (false≢true h)

sleep_of : (page : Page) (rsp n : ℕ) (s : Stage) → rests s ≡ true → sleep_rest page rsp (slept_in s n) ≡ sleep_plan page rsp
sleep_of page rsp n stage.Rest h = refl
sleep_of page rsp n stage.Take h = absurd (false≢true h)
sleep_of page rsp n stage.Answer h = absurd (false≢true h)
sleep_of page rsp n stage.Sleep h = absurd (false≢true h)
sleep_of page rsp n stage.Raise h = absurd (false≢true h)
sleep_of page rsp n stage.Ring h = absurd (false≢true h)
sleep_of page rsp n stage.Index h = absurd (false≢true h)
sleep_of page rsp n stage.Event h = absurd (false≢true h)
sleep_of page rsp n stage.Prod h = absurd (false≢true h)

pub whole_take : (l : Link) → idle l ≡ true → take_left l ≡ take_plan (page_of l) (rsp_of l)
unfolding idle take_left page_of rsp_of
whole_take l h = take_of (page_of l) (rsp_of l) l.count l.words l.stage h

pub whole_answer : (l : Link) (reply : List ℕ) → idle l ≡ true → answer_left l reply ≡ answer_plan (page_of l) (rsp_of l) reply
unfolding idle answer_left page_of rsp_of
whole_answer l reply h = answer_of (page_of l) (rsp_of l) l.count reply l.stage h

pub whole_sleep : (l : Link) → idle l ≡ true → sleep_left l ≡ sleep_plan (page_of l) (rsp_of l)
unfolding idle sleep_left page_of rsp_of
whole_sleep l h = sleep_of (page_of l) (rsp_of l) l.count l.stage h

connect_of : (frames grants : ℕ) (ring : Option ℕ) (event : ℕ) (l : Link) (s : Stage) → rests s ≡ true → connect_rest frames grants ring event l s ≡ connect_plan frames grants l.dom.0 ring event
connect_of frames grants ring event l stage.Rest h = refl
connect_of frames grants ring event l stage.Take h = absurd (false≢true h)
connect_of frames grants ring event l stage.Answer h = absurd (false≢true h)
connect_of frames grants ring event l stage.Sleep h = absurd (false≢true h)
connect_of frames grants ring event l stage.Raise h = absurd (false≢true h)
connect_of frames grants ring event l stage.Ring h = absurd (false≢true h)
connect_of frames grants ring event l stage.Index h = absurd (false≢true h)
connect_of frames grants ring event l stage.Event h = absurd (false≢true h)
connect_of frames grants ring event l stage.Prod h = absurd (false≢true h)

pub whole_connect : (frames grants : ℕ) (ring : Option ℕ) (event : ℕ) (l : Link) → idle l ≡ true → connect_left frames grants ring event l ≡ connect_plan frames grants (dom_of l) ring event
unfolding idle connect_left dom_of
whole_connect frames grants ring event l h = connect_of frames grants ring event l l.stage h

pub agrees_at_rest : (s : Stage) (k : Kept) → rests s ≡ true → agrees s k ≡ true
agrees_at_rest stage.Rest k h = refl
agrees_at_rest stage.Take k h = refl
agrees_at_rest stage.Answer k h = refl
agrees_at_rest stage.Sleep k h = refl
agrees_at_rest stage.Raise k h = refl
agrees_at_rest stage.Ring k h = absurd (false≢true h)
agrees_at_rest stage.Index k h = absurd (false≢true h)
agrees_at_rest stage.Event k h = absurd (false≢true h)
agrees_at_rest stage.Prod k h = absurd (false≢true h)

-- what is held, where an event page is and where it isn't
pub held_pages : (k : Kept) (r e : Hold) → has_event k ≡ true → held_in k r e ≡ hold_list (ring_in k r) ++ e ∷ []
held_pages kept.Nothing r e h = absurd (false≢true h)
held_pages kept.Ring r e h = absurd (false≢true h)
held_pages kept.Event r e h = refl
held_pages kept.Both r e h = refl

pub held_before : (k : Kept) (r e : Hold) → lacks_event k ≡ true → held_in k r e ≡ hold_list (ring_in k r)
held_before kept.Nothing r e h = refl
held_before kept.Ring r e h = refl
held_before kept.Event r e h = absurd (false≢true h)
held_before kept.Both r e h = absurd (false≢true h)

pub held_nothing : (k : Kept) (r e : Hold) → has_nothing k ≡ true → held_in k r e ≡ []
held_nothing kept.Nothing r e h = refl
held_nothing kept.Ring r e h = absurd (false≢true h)
held_nothing kept.Event r e h = absurd (false≢true h)
held_nothing kept.Both r e h = absurd (false≢true h)

pub ring_alone : (k : Kept) → has_ring_alone k ≡ true → k ≡ kept.Ring
ring_alone kept.Nothing h = absurd (false≢true h)
ring_alone kept.Ring h = refl
ring_alone kept.Event h = absurd (false≢true h)
ring_alone kept.Both h = absurd (false≢true h)

pub ring_stays : (k : Kept) (r : Hold) → ring_in (and_event k) r ≡ ring_in k r
ring_stays kept.Nothing r = refl
ring_stays kept.Ring r = refl
ring_stays kept.Event r = refl
ring_stays kept.Both r = refl

pub rsp_joined : (l : Link) → rsp_of l ≡ (joined_of l).rsp
unfolding joined_of rsp_of
rsp_joined l = refl

-- the pages at their places
module _ (k : Kept) (r e : Hold) (i : ℕ) where
  pub at_nothing : (h : Hold) → k ≡ kept.Nothing → i < length (held_in k r e) → slice_get (held_in k r e) i ≡ Some h
  at_nothing h is within =
      let none : i < 0 = subst (λ x. i < length (held_in x r e)) is within in absurd (omega (arith, none))

  pub at_ring : k ≡ kept.Ring → i < length (held_in k r e) → slice_get (held_in k r e) i ≡ Some r
  at_ring is within =
      let one : i < 1 = subst (λ x. i < length (held_in x r e)) is within in
      let first : i ≡ 0 = omega (arith, one) in
      ap (λ x. slice_get (held_in x r e) i) is ∙ ap (slice_get (r ∷ [])) first

  pub at_event : k ≡ kept.Event → i < length (held_in k r e) → slice_get (held_in k r e) i ≡ Some e
  at_event is within =
      let one : i < 1 = subst (λ x. i < length (held_in x r e)) is within in
      let first : i ≡ 0 = omega (arith, one) in
      ap (λ x. slice_get (held_in x r e) i) is ∙ ap (slice_get (e ∷ [])) first

  pub at_both_first : k ≡ kept.Both → i ≡ 0 → slice_get (held_in k r e) i ≡ Some r
  at_both_first is first = ap (λ x. slice_get (held_in x r e) i) is ∙ ap (slice_get (r ∷ e ∷ [])) first

  pub at_both_second : k ≡ kept.Both → i < length (held_in k r e) → i ≢ 0 → slice_get (held_in k r e) i ≡ Some e
  at_both_second is within other =
      let two : i < 2 = subst (λ x. i < length (held_in x r e)) is within in
      let second : i ≡ 1 = omega (arith, two, other) in
      ap (λ x. slice_get (held_in x r e) i) is ∙ ap (slice_get (r ∷ e ∷ [])) second

-- a Connect that is done leaves the link idle
pub idle_ended : (done : Option (Result (Unit {0}) GrantRefusal)) (end : Result (Unit {0}) GrantRefusal) (l : Link) → done ≡ Some end → AfterConnect done l → idle l ≡ true
idle_ended None end l e h = let wrong : ⊥ = cc in absurd wrong
idle_ended (Some (Ok u)) end l e h = h.0
idle_ended (Some (Err r)) end l e h = h.0

-- the ring's page isn't passed over
pub both_after : (k : Kept) → has_ring_alone k ≡ true → has_both (and_event k) ≡ true
both_after kept.Nothing h = absurd (false≢true h)
both_after kept.Ring h = refl
both_after kept.Event h = absurd (false≢true h)
both_after kept.Both h = absurd (false≢true h)

pub both_held : (k : Kept) (r e : Hold) → has_both k ≡ true → length (held_in k r e) ≡ 2
both_held kept.Nothing r e h = absurd (false≢true h)
both_held kept.Ring r e h = absurd (false≢true h)
both_held kept.Event r e h = absurd (false≢true h)
both_held kept.Both r e h = refl

comes_at_rest : (s : Stage) (k : Kept) → rests s ≡ true → ring_comes s k ≡ true
comes_at_rest stage.Rest k h = refl
comes_at_rest stage.Take k h = absurd (false≢true h)
comes_at_rest stage.Answer k h = absurd (false≢true h)
comes_at_rest stage.Sleep k h = absurd (false≢true h)
comes_at_rest stage.Raise k h = absurd (false≢true h)
comes_at_rest stage.Ring k h = absurd (false≢true h)
comes_at_rest stage.Index k h = absurd (false≢true h)
comes_at_rest stage.Event k h = absurd (false≢true h)
comes_at_rest stage.Prod k h = absurd (false≢true h)

pub idle_rings : (l : Link) → idle l ≡ true → rings l ≡ true
unfolding idle rings
idle_rings l h = comes_at_rest l.stage l.kept h

-- a link that holds both pages holds those that it is joined to, and its ring's page is the first
both_pages : (k : Kept) (r e : Hold) → length (held_in k r e) ≡ 2 → (held_in k r e ≡ hold_list (ring_in k r) ++ e ∷ []) × (ring_in k r ≡ Some r)
both_pages kept.Nothing r e h = let wrong : ⊥ = omega (arith, h) in absurd wrong
both_pages kept.Ring r e h = let wrong : ⊥ = omega (arith, h) in absurd wrong
both_pages kept.Event r e h = let wrong : ⊥ = omega (arith, h) in absurd wrong
both_pages kept.Both r e h = (refl, refl)

pub pages_joined : (l : Link) → length (held_of l) ≡ 2 → held_of l ≡ pages_of (joined_of l)
unfolding held_of joined_of
pages_joined l h = (both_pages l.kept l.ring_page l.event_page h).0

pub page_held : (l : Link) → length (held_of l) ≡ 2 → (r : Hold) × ((joined_of l).ring ≡ Some r) × (page_of l ≡ page_at r)
unfolding held_of joined_of page_of
page_held l h = (l.ring_page, (both_pages l.kept l.ring_page l.event_page h).1, refl)

-- it holds at most two pages
at_most_two : (k : Kept) (r e : Hold) → length (held_in k r e) ≤ 2
at_most_two kept.Nothing r e = omega arith
at_most_two kept.Ring r e = omega arith
at_most_two kept.Event r e = omega arith
at_most_two kept.Both r e = omega arith

pub holds_at_most : (l : Link) → length (held_of l) ≤ 2
unfolding held_of
holds_at_most l = at_most_two l.kept l.ring_page l.event_page

-- a Connect is over with Ok by an access alone
ring_never : (frames grants dom event : ℕ) (p : Plan (Result Hold GrantRefusal)) (j : Joined) → joined p (with_ring frames grants dom event) ≡ Finished (Joins j) → ⊥
ring_never frames grants dom event (Finished (Ok h)) j e = let wrong : ⊥ = cc in wrong
ring_never frames grants dom event (Finished (Err r)) j e = let wrong : ⊥ = cc in wrong
ring_never frames grants dom event (Make want note more) j e = let wrong : ⊥ = cc in wrong

event_never : (ring : Option Hold) (rsp : ℕ) (p : Plan (Result Hold GrantRefusal)) (j : Joined) → joined p (with_event ring rsp) ≡ Finished (Joins j) → ⊥
event_never ring rsp (Finished (Ok h)) j e = let wrong : ⊥ = cc in wrong
event_never ring rsp (Finished (Err r)) j e = let wrong : ⊥ = cc in wrong
event_never ring rsp (Make want note more) j e = let wrong : ⊥ = cc in wrong

plan_never : (frames grants dom : ℕ) (ring : Option ℕ) (event : ℕ) (j : Joined) → connect_plan frames grants dom ring event ≡ Finished (Joins j) → ⊥
plan_never frames grants dom None event j e = event_never None 0 (map_plan frames grants dom event Write) j e
plan_never frames grants dom (Some ring) event j e = ring_never frames grants dom event (map_plan frames grants dom ring Write) j e

rest_never : (frames grants : ℕ) (ring : Option ℕ) (event : ℕ) (l : Link) (j : Joined) (s : Stage) → connect_rest frames grants ring event l s ≡ Finished (Joins j) → ⊥
rest_never frames grants ring event l j stage.Rest e = plan_never frames grants l.dom.0 ring event j e
rest_never frames grants ring event l j stage.Take e = plan_never frames grants l.dom.0 ring event j e
rest_never frames grants ring event l j stage.Answer e = plan_never frames grants l.dom.0 ring event j e
rest_never frames grants ring event l j stage.Sleep e = plan_never frames grants l.dom.0 ring event j e
rest_never frames grants ring event l j stage.Raise e = plan_never frames grants l.dom.0 ring event j e
rest_never frames grants ring event l j stage.Ring e = ring_never frames grants l.dom.0 event (map_left frames grants l.map) j e
rest_never frames grants ring event l j stage.Index e = let wrong : ⊥ = cc in wrong
rest_never frames grants ring event l j stage.Event e = event_never (ring_in l.kept l.ring_page) l.ring (map_left frames grants l.map) j e
rest_never frames grants ring event l j stage.Prod e = let wrong : ⊥ = cc in wrong

pub joins_by_access : (frames grants : ℕ) (ring : Option ℕ) (event : ℕ) (l : Link) (j : Joined) → connect_left frames grants ring event l ≡ Finished (Joins j) → ⊥
unfolding connect_left
joins_by_access frames grants ring event l j e = rest_never frames grants ring event l j l.stage e
