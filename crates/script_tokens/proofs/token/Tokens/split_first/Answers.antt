use Rattle.script_tokens.proofs.TokenLemmas.{first_is_none, first_is, no_blank_within}
use Rattle.script_tokens.proofs.token.Tokens.split_first.Goals as goal

pub returns-in_err-start : goal.returns-in_err-start
returns-in_err-start c = rw c.from_residual.ensures (first_is_none _ _ c.in_err-start.ensures.at)

pub invariant_of-result : goal.invariant_of-result
invariant_of-result c = record { unbroken = rw (c.split_at.ensures.front, c.token_len.ensures.value) (no_blank_within c.in_ok-start.rest.now) }

pub returns : goal.returns
returns c = first_is _ _ _ _ _ c.in_ok-start.rest.now c.args.self.code.now c.in_ok-start.ensures.at c.in_ok-start.ensures.place.1 c.token_len.ensures.value c.split_at.ensures.front
