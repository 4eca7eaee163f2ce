use Rattle.std.proofs.Common.{refl, ap}
use Rattle.pv_words.specs.Plan.{Finished}
use Rattle.link_core.specs.Link.{page_of, rsp_of, held_of}
use Rattle.link_core.proofs.Stays.{in_ring}
use Rattle.link_core.proofs.link.Link.look_step.Goals as goal

pub returns-clause-stays : goal.returns-clause-stays
unfolding held_of
returns-clause-stays g c = λ h. in_ring c.args.self.now.kept c.args.self.now.ring_page c.args.self.now.event_page h

pub load-prod-requires : goal.load-prod-requires
unfolding page_of rsp_of
load-prod-requires g c = c.requires

pub returns-clause-turns : goal.returns-clause-turns
unfolding page_of rsp_of
returns-clause-turns g c = λ new. (refl, ap Finished c.look.ensures)
