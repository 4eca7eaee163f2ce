-- What is written, with the numbers that are left behind it, is what is to be written.
use Rattle.std.proofs.Common.{◌+◌, ◌*◌, ◌≡◌, ◌≤◌, length, drop, map}
use Rattle.std.specs.Fmt.{decimal}
use Rattle.report_text.specs.Fields.{with_fields}
use Rattle.report_text.proofs.builder.Line.push_numbers.Given as goal

abbrev pub invariant-loop-n : goal.invariant-loop-n
invariant-loop-n l =
    (with_fields l.self (map decimal (drop l.n-index l.numbers)) ≡ with_fields l.initial.self (map decimal l.numbers)) × (length l.self ≤ length l.initial.self + 11 * l.n-index)
