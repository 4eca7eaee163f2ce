-- A connected device with rings rests only where it slept over all its parts.
use Rattle.std.proofs.Common.{◌≡◌, ℕ, zero, suc, nat_lt, Bool, true, false, List, [], ◌∷◌, Option, Some, None, refl, slice_get}
use Rattle.pv_words.specs.declared.device.Reason.{Reason}
use Rattle.pv_words.specs.declared.device.State.{State}
use Rattle.pv_words.specs.declared.device.State.TheVariants as state
use Rattle.xenbus_states.specs.declared.back.Action.{Action}
use Rattle.xenbus_states.specs.declared.back.Action.TheVariants as action
use Rattle.xenbus_states.specs.Connection.{action_of}
use Rattle.link_core.specs.Activities.{Joined}
use Rattle.device_core.specs.Order.{Rest}
use Rattle.device_core.specs.Site.{Site}
use Rattle.device_service.specs.Claims.{RestsAsleep}
use Rattle.device_service.specs.Nodes.{Kind, Ringed, Ringless}
use Rattle.link_core.specs.Raise.{limit}
use Rattle.device_service.specs.Rows.{Hand}
use Rattle.device_service.specs.Service.{Service, Job, Works, Starves, Owed, Deed, Runs, Raises}
use Rattle.device_service.specs.Work.{Work, Round, Looks, Sleeps, Idles, raises_if, does_event, pays, with_owed, looks_at, in_round, takes_from, with_left, with_rings, does, decides, decides_by, part_of, serves_by, with_waiting, with_hand, with_state, with_action, with_kept, with_closing, choice}

module _ {X A V : Type 0} (s : Service X A V) (w v : Work X V) (ringed : s.kind ≡ Ringed) where
  never_looks : (x : Option Joined) → looks_at s w x ≡ Rest v → ⊥
  never_looks None e = cc
  never_looks (Some j) e = cc

  asleep_round : (x : Round) → w.round ≡ x → in_round s w x ≡ Rest v → w.round ≡ Idles
  asleep_round (Looks part served) is e = absurd (never_looks (slice_get w.parts part) e)
  asleep_round Sleeps is e = let wrong : ⊥ = cc in absurd wrong
  asleep_round Idles is e = is

  never_takes : (x : Option Joined) → takes_from s w x ≡ Rest v → ⊥
  never_takes None e = cc
  never_takes (Some j) e = cc

  asleep_left : (n : ℕ) → with_left s w n ≡ Rest v → w.round ≡ Idles
  asleep_left zero e = asleep_round w.round refl e
  asleep_left (suc n) e = absurd (never_takes (slice_get w.parts w.at) e)

  asleep_rings : (k : Kind) → s.kind ≡ k → with_rings s w k ≡ Rest v → w.round ≡ Idles
  asleep_rings Ringed is e = asleep_left w.left e
  asleep_rings Ringless is e = let wrong : ⊥ = cc in absurd wrong

  never_raises : (x : Option V) (part : ℕ) (words : ℕ → List ℕ) (j : Joined) (b : Bool) → raises_if s w x part words j b ≡ Rest v → ⊥
  never_raises x part words j true e = cc
  never_raises x part words j false e = cc

  never_does_event : (x : V) (d : Deed A) (j : Joined) → does_event s w x d j ≡ Rest v → ⊥
  never_does_event x (Runs p) j e = cc
  never_does_event x (Raises words) j e = never_raises (Some x) (s.at x) words j (nat_lt j.prod limit) e

  never_serves : (x : V) (j : Option Joined) → serves_by s w x j ≡ Rest v → ⊥
  never_serves x None e = cc
  never_serves x (Some j) e = never_does_event x (s.event w.service x) j e

  asleep_waiting : (xs : List V) → with_waiting s w xs ≡ Rest v → w.round ≡ Idles
  asleep_waiting [] e = asleep_rings s.kind refl e
  asleep_waiting (x ∷ xs) e = absurd (never_serves x (slice_get w.parts (s.at x)) e)

  never_does : (x : Job X A) (j : Joined) → does s w x j ≡ Rest v → ⊥
  never_does (Works y p) j e = cc
  never_does (Starves u y p) j e = cc

  module _ (of : Site) where
    never_decides : (b : Bool) (j : Joined) → decides s of w b j ≡ Rest v → ⊥
    never_decides true j e = cc
    never_decides false j e = never_does (s.job of w.service) j e

    never_in_hand : (x : Option Joined) → decides_by s of w x ≡ Rest v → ⊥
    never_in_hand None e = cc
    never_in_hand (Some j) e = never_decides (s.ready w.service) j e

    asleep_hand : (x : Option Hand) → with_hand s of w x ≡ Rest v → w.round ≡ Idles
    asleep_hand None e = asleep_waiting w.waiting e
    asleep_hand (Some h) e = absurd (never_in_hand (part_of s w h) e)

    asleep_state : (b : State) → b ≡ state.Connected → with_state s of w b ≡ Rest v → w.round ≡ Idles
    asleep_state state.Connected back e = asleep_hand w.hand e
    asleep_state state.Unknown back e = let wrong : ⊥ = cc in absurd wrong
    asleep_state state.Initialising back e = let wrong : ⊥ = cc in absurd wrong
    asleep_state state.InitWait back e = let wrong : ⊥ = cc in absurd wrong
    asleep_state state.Initialised back e = let wrong : ⊥ = cc in absurd wrong
    asleep_state state.Closing back e = let wrong : ⊥ = cc in absurd wrong
    asleep_state state.Closed back e = let wrong : ⊥ = cc in absurd wrong
    asleep_state state.Reconfiguring back e = let wrong : ⊥ = cc in absurd wrong
    asleep_state state.Reconfigured back e = let wrong : ⊥ = cc in absurd wrong

    module _ (back : w.connection.back ≡ state.Connected) where
      asleep_action : (a : Action) → with_action s of w a ≡ Rest v → w.round ≡ Idles
      asleep_action action.Connect e = let wrong : ⊥ = cc in absurd wrong
      asleep_action (action.Close x) e = let wrong : ⊥ = cc in absurd wrong
      asleep_action action.Renew e = let wrong : ⊥ = cc in absurd wrong
      asleep_action action.Stay e = asleep_state w.connection.back back e

      asleep_pays : (o : Owed) (x : Option Joined) → pays s of w o x ≡ Rest v → w.round ≡ Idles
      asleep_pays o None e = asleep_action (action_of w.connection) e
      asleep_pays o (Some j) e = absurd (never_raises None o.part o.words j (nat_lt j.prod limit) e)

      asleep_owed : (x : Option Owed) → with_owed s of w x ≡ Rest v → w.round ≡ Idles
      asleep_owed None e = asleep_action (action_of w.connection) e
      asleep_owed (Some o) e = asleep_pays o (slice_get w.parts o.part) e

      asleep_kept : (x : Option Reason) → with_kept s of w x ≡ Rest v → w.round ≡ Idles
      asleep_kept (Some why) e = let wrong : ⊥ = cc in absurd wrong
      asleep_kept None e = asleep_owed (s.owes w.service) e

      asleep_closing : (x : Bool) → with_closing s of w x ≡ Rest v → w.round ≡ Idles
      asleep_closing true e = let wrong : ⊥ = cc in absurd wrong
      asleep_closing false e = asleep_kept w.kept e

      pub asleep : choice s of w ≡ Rest v → w.round ≡ Idles
      unfolding choice
      asleep e = asleep_closing w.closing e

pub rests_asleep : {X A V : Type 0} (s : Service X A V) → RestsAsleep s
rests_asleep s site w v ringed back e = asleep s w v ringed site back e
