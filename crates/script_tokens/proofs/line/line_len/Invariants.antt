use Rattle.std.proofs.Common.{◌≡◌, ℕ, ◌<◌, false, get_or}
use Rattle.script_tokens.specs.Lines.{is_line_end}
use Rattle.script_tokens.proofs.line.line_len.Given as goal

abbrev pub invariant-loop-len : goal.invariant-loop-len
invariant-loop-len l = (k : ℕ) → k < l.len → is_line_end (get_or l.text k 0) ≡ false
