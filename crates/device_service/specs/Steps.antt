-- The steps of a backend, as its clauses name them.
use Rattle.std.specs.Prelude.{◌≡◌, ℕ, Bool, List, Option, slice_get}
use Rattle.pv_words.specs.declared.access.Access.{Access}
use Rattle.pv_words.specs.declared.device.NodeValue.{NodeValue}
use Rattle.pv_words.specs.declared.device.Reason.{Reason}
use Rattle.pv_words.specs.declared.device.Said.{Said}
use Rattle.pv_words.specs.declared.device.State.{State}
use Rattle.pv_words.specs.declared.words.Words.{Ghosts as Words}
use Rattle.pv_words.specs.Plan.{Plan, mapped}
use Rattle.ring_words.specs.declared.Looked.{Looked}
use Rattle.xenbus_states.specs.declared.back.Action.TheVariants as action
use Rattle.device_core.specs.Order.{GoesOn, Heard, Order, Sets, Went, next}
use Rattle.device_core.specs.Site.{Site}
use Rattle.device_service.specs.declared.backend.Backend.{Backend}
use Rattle.device_service.specs.declared.serve.Serve.{Ghosts}
use Rattle.device_service.specs.Activity.{hand_part}
use Rattle.device_service.specs.Goes.{GoesOut}
use Rattle.device_service.specs.Parts as of_parts
use Rattle.device_service.specs.Stand.{BeginsAt, given_up, leaving_plan, parts_of, site_at, stand_of, work_of}
use Rattle.device_service.specs.Work.{Done, End, Own, Saw, Slept, Took, Work, choice, connected, decides_by, device, serves_by, with_action, with_hand}

module _ {S E : Type 0} {g : Ghosts S E} where
  -- what the order of work gives next; where a request is in hand, or an event waits; and where a Connect is due
  abbrev pub chosen : Site → Backend S E g → Order (Work g.Known E) (End g.End E)
  chosen site d = choice g.service site (work_of d)

  abbrev pub served : Site → Backend S E g → Order (Work g.Known E) (End g.End E)
  served site d = with_hand g.service site (work_of d) d.hand

  abbrev pub decided : Site → Backend S E g → ℕ → Order (Work g.Known E) (End g.End E)
  decided site d part = decides_by g.service site (work_of d) (slice_get (of_parts.joined_of d.parts) part)

  abbrev pub event_served : Backend S E g → E → Order (Work g.Known E) (End g.End E)
  event_served d e = serves_by g.service (work_of d) e (slice_get (of_parts.joined_of d.parts) (g.service.at e))

  abbrev pub connect_due : Site → Backend S E g → Order (Work g.Known E) (End g.End E)
  connect_due site d = with_action g.service site (work_of d) action.Connect

  -- the first step of each
  abbrev pub Chooses : Site → Backend S E g → Option Access → Option Said → Backend S E g → Type 0
  Chooses site old access said new = BeginsAt site (chosen site old) access said new

  abbrev pub ServesNext : Site → Backend S E g → Option Access → Option Said → Backend S E g → Type 0
  ServesNext site old access said new = BeginsAt site (served site old) access said new

  abbrev pub Decides : Site → Backend S E g → ℕ → Option Access → Option Said → Backend S E g → Type 0
  Decides site old part access said new = BeginsAt site (decided site old part) access said new

  abbrev pub ServesEvent : Site → Backend S E g → E → Option Access → Option Said → Backend S E g → Type 0
  ServesEvent site old e access said new = BeginsAt site (event_served old e) access said new

  abbrev pub BeginsConnect : Site → Backend S E g → Option Access → Option Said → Backend S E g → Type 0
  BeginsConnect site old access said new = BeginsAt site (connect_due site old) access said new

  -- one step of an activity of which this is left
  abbrev pub GoesAt : Site → Plan (End g.End E) → Backend S E g → Option Access → Option Said → Backend S E g → Type 0
  GoesAt site left old access said new = GoesOn (device g.service site) (work_of old) left access said (stand_of site new)

  -- one of a Connect, or a Close, of which this is left
  abbrev pub GoesOutAt : Site → Plan (End g.End E) → Backend S E g → Option Access → Option Said → Backend S E g → Type 0
  GoesOutAt site left old access said new = GoesOut g.service site (work_of old) left access said (stand_of site new)

  -- what is left of a Connect, of a Close for this reason, and of an activity of the service
  abbrev pub connect_left_at : Site → Backend S E g → Plan (End g.End E)
  connect_left_at site d = mapped connected (of_parts.connect_left site d.read d.parts)

  abbrev pub close_left : Backend S E g → Reason → Plan (End g.End E)
  close_left d why = leaving_plan why (given_up d)

  abbrev pub work_left : Site → Backend S E g → Plan g.End
  work_left site d = g.left site d.service

  -- what a Take, a Sleep, a Look at this part and an Answer come to, and what is left of them
  abbrev pub take_left : Backend S E g → Plan (End g.End E)
  take_left d = mapped Took (of_parts.take_left d.at d.parts)

  abbrev pub sleep_left : Backend S E g → Plan (End g.End E)
  sleep_left d = mapped Slept (of_parts.sleep_left d.parts)

  abbrev pub look_left : Backend S E g → ℕ → Plan Looked
  look_left d part = of_parts.look_of (slice_get (of_parts.joined_of d.parts) part)

  abbrev pub answer_left : Backend S E g → Plan Bool
  answer_left d = of_parts.answer_left (hand_part d.hand) d.outgoing d.parts

  abbrev pub first_answer : Backend S E g → Plan Bool
  first_answer d = of_parts.answer_of (g.service.reply (g.knows d.service)) (slice_get (of_parts.joined_of d.parts) (hand_part d.hand))

  -- the frontend set its state, while the nodes stood so
  abbrev pub HearsAt : Site → Backend S E g → State → List NodeValue → Backend S E g → Type 0
  HearsAt site old front nodes new = stand_of site new ≡ next (device g.service site) (stand_of site old) (Heard (Sets front nodes))

  -- its site, by the numbers of frames and grant entries that these words have
  abbrev pub site_over : {W : Type 0} → Words W → W → Backend S E g → Site
  site_over m words d = site_at (m.frames_of words) (m.grants_of words) d

  -- one step of a Connect, of a Close for this reason that was begun, of an activity of the service for a request or an event, and of a
  -- Look at this part
  abbrev pub ConnectsOn : Site → Backend S E g → Option Access → Option Said → Backend S E g → Type 0
  ConnectsOn site old access said new = GoesOutAt site (connect_left_at site old) old access said new

  abbrev pub WentToClose : Site → Backend S E g → Reason → Option Said → Backend S E g → Type 0
  WentToClose site old why said new = Went (device g.service site) (work_of old) (close_left old why) said (stand_of site new)

  abbrev pub WorksOn : Site → Backend S E g → Option Access → Option Said → Backend S E g → Type 0
  WorksOn site old access said new = GoesAt site (mapped Own (work_left site old)) old access said new

  abbrev pub ServesOn : Site → Backend S E g → Option Access → Option Said → Backend S E g → Type 0
  ServesOn site old access said new = GoesAt site (mapped Done (work_left site old)) old access said new

  abbrev pub LooksAtPart : Site → Backend S E g → ℕ → Option Access → Option Said → Backend S E g → Type 0
  LooksAtPart site old part access said new =
      site.parts ≡ parts_of old → GoesAt site (mapped Saw (look_left old part)) old access said new
