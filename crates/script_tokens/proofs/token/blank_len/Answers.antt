use Rattle.std.proofs.Common.{length, sym, arith, not}
use Rattle.std.proofs.lemmas.List.Sums.{position_or_len_is}
use Rattle.script_tokens.specs.Tokens.{is_blank}
use Rattle.script_tokens.proofs.token.blank_len.Goals as goal

pub returns-clause-value : goal.returns-clause-value
returns-clause-value c = sym (position_or_len_is (λ b. not (is_blank b)) c.args.octets.now (length c.args.octets.now) 0 (omega arith) (λ k lt. c.loop-len.invariant k (omega arith)) (λ lt. absurd (omega arith)))
