use Rattle.pv_words.proofs.Keeping.{may_begin}
use Rattle.grant_table.specs.Owning.{permit_plan}
use Rattle.grant_table.proofs.Keeps.{permits_at_entry}
use Rattle.pv_world.specs.declared.owner.Owning.TheVariants as owning
use Rattle.pv_world.specs.Owner.{left_of}
use Rattle.pv_world.specs.World.{memory_of}
use Rattle.pv_world.proofs.world.World.permit.Goals as goal

pub own-requires-clause-goes : goal.own-requires-clause-goes
own-requires-clause-goes g c =
    may_begin (g.W.Words.port (memory_of c.args.self.now)) c.args.dom.0 c.args.gref.0 c.args.frame.0 (left_of (owning.Permits c.permit-step.result)) (permit_plan c.args.dom.0 c.args.gref.0 c.args.frame.0 c.args.mode) (permits_at_entry c.args.dom.0 c.args.gref.0 c.args.frame.0 c.args.mode) c.permit-step.ensures
