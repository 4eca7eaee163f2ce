use Rattle.std.proofs.Common.{sym, ap, ◌∙◌, subst, refl, drop, ◌+◌, drop_of_length-le}
use Rattle.multitouch.specs.Pressed.{after, Accepts}
use Rattle.multitouch.proofs.Events.{after_next, next_can_be, rest_can_be}
use Rattle.multitouch.proofs.contacts.follow.Goals as goal

pub loop-event-init : goal.loop-event-init
loop-event-init c = record { fits = subst (Accepts c.args.panel.now) (sym c.events-event-items.ensures.events) c.requires; same = refl }

pub apply-requires : goal.apply-requires
apply-requires c = next_can_be c.loop-event.panel c.events-event-items.result.now c.loop-event.event-index _ c.loop-event-test.true c.loop-event.invariant.fits

pub loop-event-preserved : goal.loop-event-preserved
loop-event-preserved c =
    let items = c.events-event-items.result.now in
    let i = c.loop-event.event-index in
    record {
      fits = subst (λ p. Accepts p (drop (i + 1) items)) (sym c.apply.ensures) (rest_can_be c.loop-event.panel items i _ c.loop-event-test.true c.loop-event.invariant.fits);
      same = ap (λ p. after p (drop (i + 1) items)) c.apply.ensures ∙ after_next c.loop-event.panel items i _ c.loop-event-test.true ∙ c.loop-event.invariant.same;
    }

pub returns : goal.returns
returns c =
    sym (ap (after c.loop-event.panel) (drop_of_length-le c.events-event-items.result.now c.loop-event-test.false))
    ∙ c.loop-event.invariant.same
    ∙ ap (after c.args.panel.now) c.events-event-items.ensures.events
