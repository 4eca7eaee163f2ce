use Rattle.std.proofs.Common.{ap, sym, length}
use Rattle.link_core.specs.Link.{held_of}
use Rattle.link_core.specs.Stage.{held_in}
use Rattle.link_core.proofs.link.Link.held.Goals as goal

pub returns-in-Nothing : goal.returns-in-Nothing
unfolding held_of
returns-in-Nothing c = sym (ap (λ k. length (held_in k c.args.self.now.ring_page c.args.self.now.event_page)) c.in-Nothing.is)

pub returns-in-Ring : goal.returns-in-Ring
unfolding held_of
returns-in-Ring c = sym (ap (λ k. length (held_in k c.args.self.now.ring_page c.args.self.now.event_page)) c.in-Ring.is)

pub returns-in-Event : goal.returns-in-Event
unfolding held_of
returns-in-Event c = sym (ap (λ k. length (held_in k c.args.self.now.ring_page c.args.self.now.event_page)) c.in-Event.is)

pub returns-in-Both : goal.returns-in-Both
unfolding held_of
returns-in-Both c = sym (ap (λ k. length (held_in k c.args.self.now.ring_page c.args.self.now.event_page)) c.in-Both.is)
