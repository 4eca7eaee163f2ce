use Rattle.std.proofs.Common.{◌≡◌, take}
use Rattle.pv_ports.specs.Port.{Appended}
use Rattle.report_text.specs.Report.{text}
use Rattle.scenario_io.proofs.report.write_report.Given as goal

abbrev pub invariant-loop-i : goal.invariant-loop-i
invariant-loop-i g l =
    record {
      written : Appended (g.K.Sink.bytes l.fn.sink) (g.K.Sink.bytes l.sink) (text (take l.i l.fn.journal.entries) l.with_words);
      steady : g.K.Sink.faults l.sink ≡ g.K.Sink.faults l.fn.sink;
    }
