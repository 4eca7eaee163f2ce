use Rattle.script_tokens.proofs.NumberLemmas.{Reads}
use Rattle.script_tokens.proofs.number.front_digits.Given as goal

abbrev pub invariant-loop-len : goal.invariant-loop-len
invariant-loop-len l = Reads l.base l.value l.octets l.len
