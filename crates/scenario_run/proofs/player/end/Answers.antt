use Rattle.std.proofs.Common.{◌∙◌, arith}
use Rattle.std.proofs.lemmas.Result.{err_from_is_err_and}
use Rattle.scenario_text.specs.declared.statement.Statement.TheVariants.{End}
use Rattle.pv_world.specs.World.{devices_of, memory_of}
use Rattle.pv_world.proofs.Seen.{seen}
use Rattle.scenario_run.specs.Follows.{closing}
use Rattle.scenario_run.proofs.Grants.{each_next, each_stops}
use Rattle.scenario_run.proofs.player.end.Goals as goal

pub returns-in_err-end_grant-clause-played : goal.returns-in_err-end_grant-clause-played
returns-in_err-end_grant-clause-played g c = λ frames grants m st e.
    let p = err_from_is_err_and c.from_residual.result c.from_residual.ensures.1 in
    let o = c.args.closing.now in
    rw (p.1, p.2) (each_stops frames grants o.dom o.gref (closing o) o.count (End o) (λ h x. x) (λ rides h x. x) c.loop-k.k (omega (arith, c.loop-k-test.true)) (seen g.W.Words g.W.Machine) (memory_of c.loop-k.world) (memory_of c.end_grant.new.self) (devices_of c.loop-k.world) (devices_of c.end_grant.new.self) c.loop-k.journal.entries c.end_grant.new.journal.entries m c.in_err-end_grant.field-0.0 (c.loop-k.invariant.steps frames grants m st e) (λ n s d. c.in_err-end_grant.ensures.owns frames grants n s d))

pub loop-k-preserved : goal.loop-k-preserved
loop-k-preserved g c =
    let o = c.args.closing.now in
    record {
      grants = c.end_grant.ensures.grants ∙ c.loop-k.invariant.grants;
      devices = c.end_grant.ensures.devices ∙ c.loop-k.invariant.devices;
      keeps = λ dom. c.end_grant.ensures.keeps dom ∙ c.loop-k.invariant.keeps dom;
      steps = λ frames grants m st e.
          each_next (seen g.W.Words g.W.Machine) frames grants o.dom o.gref (closing o) (tt {0}) (memory_of c.loop-k.world) (memory_of c.end_grant.new.self) (devices_of c.loop-k.world) (devices_of c.end_grant.new.self) c.loop-k.k c.loop-k.journal.entries c.end_grant.new.journal.entries m (c.loop-k.invariant.steps frames grants m st e) (λ n s d. c.in_ok-end_grant.ensures.owns frames grants n s d);
    }
