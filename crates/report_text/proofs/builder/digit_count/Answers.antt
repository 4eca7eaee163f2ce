use Rattle.std.proofs.Common.{◌≤◌, length, arith}
use Rattle.std.specs.Fmt.{decimal}
use Rattle.report_text.proofs.Digits.{length-decimal-step, length-decimal-digit, most_digits_64}
use Rattle.report_text.proofs.builder.digit_count.Goals as goal

pub overflow_add-count : goal.overflow_add-count
overflow_add-count c =
    let most : length (decimal c.args.n) ≤ 20 = most_digits_64 c.args.n c.ranges.n.fits in
    omega (arith, c.loop-left.invariant.1)

pub loop-left-preserved : goal.loop-left-preserved
loop-left-preserved c =
    let step = length-decimal-step c.loop-left.left (omega arith) c.loop-left.invariant.0 in
    (omega arith, omega (arith, c.loop-left.invariant.1, step))

pub returns : goal.returns
returns c =
    let last = length-decimal-digit c.loop-left.left (omega arith) in
    omega (arith, c.loop-left.invariant.1, last)
