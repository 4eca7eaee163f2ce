use Rattle.std.proofs.Common.{◌∙◌}
use Rattle.pv_ports.proofs.Octets.{Gave-fill}
use Rattle.scenario_io.proofs.Buffer.{within-put_mid}
use Rattle.scenario_io.proofs.script.fill.Goals as goal

pub loop-done-preserved : goal.loop-done-preserved
loop-done-preserved g c =
    record {
      within = within-put_mid _ _ _ _ _ c.loop-done.invariant.within c.in_ok-count.ensures.fits;
      gave = Gave-fill _ _ _ _ _ _ _ _ c.loop-done.invariant.within c.in_ok-count.ensures.fits c.loop-done.invariant.gave c.in_ok-count.ensures.gave;
      steady = c.in_ok-count.ensures.cause.passed ∙ c.loop-done.invariant.steady;
    }
