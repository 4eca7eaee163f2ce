use Rattle.script_tokens.proofs.NextLemmas.{number_is_missing, number_is_bad, number_is}
use Rattle.script_tokens.proofs.token.Tokens.read_number.Goals as goal

pub returns-in_default-clause-value : goal.returns-in_default-clause-value
returns-in_default-clause-value c = number_is_missing _ _ c.in_default.ensures.at

pub returns-in_default-front_number-clause-value : goal.returns-in_default-front_number-clause-value
returns-in_default-front_number-clause-value c = number_is_bad _ _ _ c.in-Some.rest.now c.in-Some.ensures.at c.in_default-front_number.ensures.value

pub returns-clause-value : goal.returns-clause-value
returns-clause-value c = number_is _ _ _ _ _ c.in-Some.rest.now c.args.code.now c.in-Some.ensures.at c.in-Some.ensures.place.1 c.in-Some-front_number.ensures.value c.in-Some-front_number.ensures.len
