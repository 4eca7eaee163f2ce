use Rattle.std.proofs.Common.{◌≡◌, ℕ, ◌<◌, false, get_or}
use Rattle.script_tokens.specs.Lines.{ends_code}
use Rattle.script_tokens.proofs.line.code_len.Given as goal

abbrev pub invariant-loop-len : goal.invariant-loop-len
invariant-loop-len l = (k : ℕ) → k < l.len → ends_code (get_or l.text k 0) ≡ false
