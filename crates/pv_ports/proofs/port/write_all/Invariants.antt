use Rattle.std.proofs.Common.{◌≡◌, ◌≤◌, ◌-◌, length, take}
use Rattle.pv_ports.specs.Port.{Appended}
use Rattle.pv_ports.proofs.port.write_all.Given as goal

abbrev pub invariant-loop-done : goal.invariant-loop-done
invariant-loop-done g l =
    record {
      within : l.done ≤ length l.piece;
      appended : Appended (g.K.Sink.bytes l.fn.sink) (g.K.Sink.bytes l.sink) (take l.done l.piece);
      steady : g.K.Sink.faults l.sink ≡ g.K.Sink.faults l.fn.sink;
    }

abbrev pub decreases-loop-done : goal.decreases-loop-done
decreases-loop-done g l = length l.piece - l.done
