use Rattle.pv_words.proofs.Keeping.{may_begin}
use Rattle.grant_table.specs.Owning.{end_plan}
use Rattle.grant_table.proofs.Keeps.{ends_at_entry}
use Rattle.pv_world.specs.declared.owner.Owning.TheVariants as owning
use Rattle.pv_world.specs.Owner.{left_of}
use Rattle.pv_world.specs.World.{memory_of}
use Rattle.pv_world.proofs.world.World.end_grant.Goals as goal

pub own-requires-clause-goes : goal.own-requires-clause-goes
own-requires-clause-goes g c =
    may_begin (g.W.Words.port (memory_of c.args.self.now)) c.args.dom.0 c.args.gref.0 0 (left_of (owning.Ends c.end-step.result)) (end_plan c.args.dom.0 c.args.gref.0) (ends_at_entry c.args.dom.0 c.args.gref.0 0) c.end-step.ensures
