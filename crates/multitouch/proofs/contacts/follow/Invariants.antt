use Rattle.std.proofs.Common.{◌≡◌, drop}
use Rattle.multitouch.specs.Pressed.{after, Accepts}
use Rattle.multitouch.proofs.contacts.follow.Given as goal

abbrev pub invariant-loop-event : goal.invariant-loop-event
invariant-loop-event l = record {
  fits : Accepts l.panel (drop l.event-index l.event-items);
  same : after l.panel (drop l.event-index l.event-items) ≡ after l.initial.panel l.event-items;
}
