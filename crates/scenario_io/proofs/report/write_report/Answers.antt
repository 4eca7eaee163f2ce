use Rattle.std.proofs.Common.{◌∙◌, sym, refl}
use Rattle.std.proofs.lemmas.Result.{err_from_is_err_and}
use Rattle.pv_ports.proofs.Octets.{Appended-nothing}
use Rattle.scenario_io.proofs.Lines.{Appended-line, AppendedPrefix-line}
use Rattle.scenario_io.proofs.report.write_report.Goals as goal
use Rattle.scenario_io.proofs.report.write_report.Goals.{then-has_line+in_ok-write_one, else-has_line}

pub returns-in_err-write_one-clause-err : goal.returns-in_err-write_one-clause-err
returns-in_err-write_one-clause-err g c =
    let failed = err_from_is_err_and c.from_residual.result c.from_residual.ensures.1 in
    rw failed.1 (AppendedPrefix-line _ _ _ _ _ _ _ _ c.at-then-has_line.ensures refl c.loop-i.invariant.written c.in_err-write_one.ensures.err)

pub loop-i-preserved : goal.loop-i-preserved
loop-i-preserved g c =
    elim c.if-has_line.branch [
      | then-has_line+in_ok-write_one w ↦
          rw w.sink-is (record {
            written = Appended-line _ _ _ _ _ _ _ _ w.at-then-has_line.ensures refl c.loop-i.invariant.written w.in_ok-write_one.ensures.ok;
            steady = w.in_ok-write_one.ensures.cause.passed ∙ c.loop-i.invariant.steady;
          })
      | else-has_line w ↦
          rw w.sink-is (record {
            written = Appended-line _ _ _ _ _ _ _ _ c.at.ensures (sym (c.has_line.ensures.none w.if-has_line.false)) c.loop-i.invariant.written (Appended-nothing _);
            steady = c.loop-i.invariant.steady;
          })
    ]
