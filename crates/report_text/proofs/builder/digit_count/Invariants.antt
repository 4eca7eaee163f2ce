-- Each turn takes one digit away and counts it.
use Rattle.std.proofs.Common.{◌+◌, ◌≡◌, ◌<◌, ◌^◌, length}
use Rattle.std.specs.Fmt.{decimal}
use Rattle.report_text.proofs.builder.digit_count.Given as goal

abbrev pub invariant-loop-left : goal.invariant-loop-left
invariant-loop-left l = (l.left < 2 ^ 64) × (l.count + length (decimal l.left) ≡ 1 + length (decimal l.fn.n))

abbrev pub decreases-loop-left : goal.decreases-loop-left
decreases-loop-left l = l.left
