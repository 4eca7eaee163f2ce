use Rattle.std.proofs.Common.{ap, ◌∙◌}
use Rattle.multitouch.specs.Known.{next_group}
use Rattle.multitouch.specs.Repair.{repair_of}
use Rattle.multitouch.proofs.Soundness.{oldest_first, oldest_none}
use Rattle.multitouch.proofs.contacts.Contacts.next_group.Goals as goal

pub returns-in-Some : goal.returns-in-Some
returns-in-Some c =
    c.of.ensures
    ∙ oldest_first c.self.inside.queue.items c.in-Some.event.now (repair_of c.self.inside.told c.self.inside.real) c.in-Some.ensures
    ∙ ap next_group c.self.view_is

pub returns-in-None : goal.returns-in-None
returns-in-None c =
    c.repair_group.ensures
    ∙ oldest_none c.self.inside.queue.items (repair_of c.self.inside.told c.self.inside.real) c.in-None.ensures
    ∙ ap next_group c.self.view_is
