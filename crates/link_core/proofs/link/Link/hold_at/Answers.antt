use Rattle.link_core.specs.Link.{held_of}
use Rattle.link_core.proofs.Links.{at_nothing, at_ring, at_event, at_both_first, at_both_second}
use Rattle.link_core.proofs.link.Link.hold_at.Goals as goal

pub returns-in-Nothing : goal.returns-in-Nothing
unfolding held_of
returns-in-Nothing c = at_nothing c.args.self.now.kept c.args.self.now.ring_page c.args.self.now.event_page c.args.i c.args.self.now.ring_page c.in-Nothing.is c.requires

pub returns-in-Ring : goal.returns-in-Ring
unfolding held_of
returns-in-Ring c = at_ring c.args.self.now.kept c.args.self.now.ring_page c.args.self.now.event_page c.args.i c.in-Ring.is c.requires

pub returns-in-Event : goal.returns-in-Event
unfolding held_of
returns-in-Event c = at_event c.args.self.now.kept c.args.self.now.ring_page c.args.self.now.event_page c.args.i c.in-Event.is c.requires

pub returns-then-i-eq0 : goal.returns-then-i-eq0
unfolding held_of
returns-then-i-eq0 c = at_both_first c.args.self.now.kept c.args.self.now.ring_page c.args.self.now.event_page c.args.i c.in-Both.is c.if-i-eq0.true

pub returns-else-i-eq0 : goal.returns-else-i-eq0
unfolding held_of
returns-else-i-eq0 c = at_both_second c.args.self.now.kept c.args.self.now.ring_page c.args.self.now.event_page c.args.i c.in-Both.is c.requires c.if-i-eq0.false
