use Rattle.std.proofs.Common.{◌∙◌, arith}
use Rattle.std.proofs.lemmas.Result.{err_from_is_err_and}
use Rattle.scenario_text.specs.declared.statement.Statement.TheVariants.{Open}
use Rattle.pv_world.specs.World.{devices_of, memory_of}
use Rattle.pv_world.proofs.Seen.{seen}
use Rattle.scenario_run.specs.Follows.{opening}
use Rattle.scenario_run.proofs.Grants.{each_next, each_stops}
use Rattle.scenario_run.proofs.player.open.Goals as goal

pub returns-in_err-permit-clause-played : goal.returns-in_err-permit-clause-played
returns-in_err-permit-clause-played g c = λ frames grants m st e.
    let p = err_from_is_err_and c.from_residual.result c.from_residual.ensures.1 in
    let o = c.args.opening.now in
    rw (p.1, p.2) (each_stops frames grants o.dom o.gref (opening o) o.count (Open o) (λ h x. x) (λ rides h x. x) c.loop-k.k (omega (arith, c.loop-k-test.true)) (seen g.W.Words g.W.Machine) (memory_of c.loop-k.world) (memory_of c.permit.new.self) (devices_of c.loop-k.world) (devices_of c.permit.new.self) c.loop-k.journal.entries c.permit.new.journal.entries m c.in_err-permit.field-0.0 (c.loop-k.invariant.steps frames grants m st e) (λ n s d. c.in_err-permit.ensures.owns frames grants n s d))

pub loop-k-preserved : goal.loop-k-preserved
loop-k-preserved g c =
    let o = c.args.opening.now in
    record {
      grants = c.permit.ensures.grants ∙ c.loop-k.invariant.grants;
      devices = c.permit.ensures.devices ∙ c.loop-k.invariant.devices;
      keeps = λ dom. c.permit.ensures.keeps dom ∙ c.loop-k.invariant.keeps dom;
      steps = λ frames grants m st e.
          each_next (seen g.W.Words g.W.Machine) frames grants o.dom o.gref (opening o) (tt {0}) (memory_of c.loop-k.world) (memory_of c.permit.new.self) (devices_of c.loop-k.world) (devices_of c.permit.new.self) c.loop-k.k c.loop-k.journal.entries c.permit.new.journal.entries m (c.loop-k.invariant.steps frames grants m st e) (λ n s d. c.in_ok-permit.ensures.owns frames grants n s d);
    }
