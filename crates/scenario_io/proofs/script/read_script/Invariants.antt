use Rattle.std.proofs.Common.{◌≡◌, ◌+◌, ◌-◌, ◌<◌, ◌≤◌, ◌%◌, take, vec_len}
use Rattle.pv_ports.specs.Port.{Gave, IsAtEnd}
use Rattle.scenario_io.specs.declared.script.TheConstants.{SCRIPT_LIMIT}
use Rattle.scenario_io.proofs.script.read_script.Given as goal

abbrev pub invariant-loop-len : goal.invariant-loop-len
invariant-loop-len g l =
    record {
      within : l.len ≤ vec_len l.buffer;
      small : vec_len l.buffer ≤ SCRIPT_LIMIT + 1;
      blocks : vec_len l.buffer ≤ SCRIPT_LIMIT → vec_len l.buffer % 65536 ≡ 0;
      gave : Gave (g.S.Source.rest l.fn.source) (g.S.Source.rest l.source) (take l.len l.buffer.items);
      end : l.len < vec_len l.buffer → IsAtEnd (g.S.Source.rest l.source);
      steady : g.S.Source.faults l.source ≡ g.S.Source.faults l.fn.source;
    }

abbrev pub decreases-loop-len : goal.decreases-loop-len
decreases-loop-len g l = SCRIPT_LIMIT + 1 - vec_len l.buffer
