use Rattle.std.proofs.Common.{length, sym, arith}
use Rattle.std.proofs.lemmas.List.Sums.{position_or_len_is}
use Rattle.script_tokens.specs.Lines.{ends_code}
use Rattle.script_tokens.proofs.line.code_len.Goals as goal

pub returns-clause-value : goal.returns-clause-value
returns-clause-value c = sym (position_or_len_is ends_code c.args.text.now (length c.args.text.now) 0 (omega arith) (λ k lt. c.loop-len.invariant k (omega arith)) (λ lt. absurd (omega arith)))
