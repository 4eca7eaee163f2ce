use Rattle.std.proofs.Common.{◌≡◌, ◌+◌, ◌≤◌, length}
use Rattle.script_tokens.specs.Lines.{lines}
use Rattle.scenario_text.specs.Scenario.{drafted}
use Rattle.scenario_text.specs.Reading.{scenario_from, scenario_of}
use Rattle.scenario_text.proofs.ReadLemmas.{HeldSoFar}
use Rattle.scenario_text.proofs.reading.read.Given as goal

abbrev pub invariant-loop-rest : goal.invariant-loop-rest
invariant-loop-rest l = record {
  first : 1 ≤ l.line;
  short : l.line + length l.rest ≤ length l.text + 1;
  same : scenario_from l.line (lines l.rest) (drafted l.draft) ≡ scenario_of l.text;
  held : HeldSoFar l.text l.rest (drafted l.draft);
}

abbrev pub decreases-loop-rest : goal.decreases-loop-rest
decreases-loop-rest l = length l.rest
