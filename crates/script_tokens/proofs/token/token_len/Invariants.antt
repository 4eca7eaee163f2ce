use Rattle.std.proofs.Common.{◌≡◌, ℕ, ◌<◌, false, get_or}
use Rattle.script_tokens.specs.Tokens.{is_blank}
use Rattle.script_tokens.proofs.token.token_len.Given as goal

abbrev pub invariant-loop-len : goal.invariant-loop-len
invariant-loop-len l = (k : ℕ) → k < l.len → is_blank (get_or l.octets k 0) ≡ false
