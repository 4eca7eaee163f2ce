use Rattle.std.proofs.Common.{◌≡◌, ◌+◌, ◌*◌, length, sym, ◌∙◌, arith}
use Rattle.std.proofs.lemmas.Bool.{eqb-true, eqb-false}
use Rattle.script_tokens.proofs.NumberLemmas.{front_ends, front_is_none, front_starts, no_front_digit, next_front_digit, too_many_front_digits}
use Rattle.script_tokens.proofs.number.front_digits.Goals.{else-len-gt0-via-then-len-gt0+else-is_blank, else-len-gt0-via-else-len-gt0}
use Rattle.script_tokens.proofs.number.front_digits.Goals as goal

pub returns-then-is_blank-clause-value : goal.returns-then-is_blank-clause-value
returns-then-is_blank-clause-value c = (front_ends _ _ _ _ c.loop-len.invariant (λ lt. sym c.if-is_blank.ensures) (omega arith) (λ e. absurd (omega arith))).1

pub returns-then-is_blank-clause-len : goal.returns-then-is_blank-clause-len
returns-then-is_blank-clause-len c = (front_ends _ _ _ _ c.loop-len.invariant (λ lt. sym c.if-is_blank.ensures) (omega arith) (λ e. absurd (omega arith))).0

pub returns-in_default-clause-value : goal.returns-in_default-clause-value
returns-in_default-clause-value c =
    elim c.else-len-gt0.branch [
      | else-len-gt0-via-then-len-gt0+else-is_blank w ↦ no_front_digit _ _ _ _ c.loop-len.invariant c.loop-len-test.true (sym w.is_blank.ensures ∙ w.if-is_blank.false) c.in_default.ensures
      | else-len-gt0-via-else-len-gt0 w ↦ front_starts _ _ _ _ c.loop-len.invariant c.loop-len-test.true c.in_default.ensures (omega arith)
    ]

pub returns-in_err-checked_mul-clause-value : goal.returns-in_err-checked_mul-clause-value
returns-in_err-checked_mul-clause-value c =
    rw c.from_residual.ensures (too_many_front_digits _ _ _ _ c.in-Some.digit c.loop-len.invariant c.loop-len-test.true c.in-Some.ensures c.requires (omega (arith, c.in_err-checked_mul.ensures)))

pub returns-in_err-value-clause-value : goal.returns-in_err-value-clause-value
returns-in_err-value-clause-value c =
    rw c.from_residual-in_err-value.ensures (too_many_front_digits _ _ _ _ c.in-Some.digit c.loop-len.invariant c.loop-len-test.true c.in-Some.ensures c.requires (omega (arith, c.in_err-value.ensures, c.in_ok-checked_mul.ensures)))

pub loop-len-preserved : goal.loop-len-preserved
loop-len-preserved c =
    let e : c.in_ok-value.value ≡ c.loop-len.value * c.args.base + c.in-Some.digit = omega (arith, c.in_ok-value.ensures, c.in_ok-checked_mul.ensures) in
    rw e (next_front_digit _ _ _ _ c.in-Some.digit c.loop-len.invariant c.loop-len-test.true c.in-Some.ensures (omega (arith, c.in_ok-value.ensures, c.in_ok-checked_mul.ensures)))

pub returns-then-is_empty-clause-value : goal.returns-then-is_empty-clause-value
returns-then-is_empty-clause-value c =
    let none : length c.args.octets.now ≡ 0 = eqb-true _ _ (sym c.is_empty.ensures ∙ c.if-is_empty.true) in
    front_is_none _ _ _ _ c.loop-len.invariant (λ lt. absurd (omega arith)) c.loop-len.auto.len-end (omega arith)

pub returns-clause-value : goal.returns-clause-value
returns-clause-value c = (front_ends _ _ _ _ c.loop-len.invariant (λ lt. absurd (omega arith)) c.loop-len.auto.len-end (λ e. eqb-false _ _ (sym c.is_empty.ensures ∙ c.if-is_empty.false) (omega arith))).1
