use Rattle.std.proofs.Common.{◌≡◌, true, false, take, drop, ap, sym, ◌∙◌}
use Rattle.std.specs.Prelude.{codes}
use Rattle.std.specs.Str.{bytes_eq}
use Rattle.script_tokens.specs.Numbers.{in_64_bits}
use Rattle.script_tokens.proofs.NumberLemmas.{hex_value, decimal_front}
use Rattle.script_tokens.proofs.number.front_number.Goals as goal

pub returns-in_err-value-in-Some-clause-value : goal.returns-in_err-value-in-Some-clause-value
returns-in_err-value-in-Some-clause-value c =
    let is_hex : bytes_eq (take 2 c.args.octets.now) (codes "0x") ≡ true = rw c.as_slice.ensures at c.in-Some.ensures.cases.0 in
    let behind : c.in-Some.digits.now ≡ drop 2 c.args.octets.now = rw c.as_slice.ensures at c.in-Some.ensures.cases.1 in
    rw c.from_residual.ensures (c.in_err-value-in-Some.ensures.value ∙ hex_value c.args.octets.now c.in-Some.digits.now is_hex behind)

pub returns-in_ok-value-in-Some-clause-value : goal.returns-in_ok-value-in-Some-clause-value
returns-in_ok-value-in-Some-clause-value c =
    let is_hex : bytes_eq (take 2 c.args.octets.now) (codes "0x") ≡ true = rw c.as_slice.ensures at c.in-Some.ensures.cases.0 in
    let behind : c.in-Some.digits.now ≡ drop 2 c.args.octets.now = rw c.as_slice.ensures at c.in-Some.ensures.cases.1 in
    c.in_ok-value-in-Some.ensures.value ∙ hex_value c.args.octets.now c.in-Some.digits.now is_hex behind

pub returns-in-None-clause-value : goal.returns-in-None-clause-value
returns-in-None-clause-value c =
    let other : bytes_eq (take 2 c.args.octets.now) (codes "0x") ≡ false = rw c.as_slice.ensures at c.in-None.ensures.cases in
    c.front_digits-in-None.ensures.value ∙ ap in_64_bits (sym (decimal_front c.args.octets.now other))
