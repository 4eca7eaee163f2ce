use Rattle.std.proofs.Common.{◌≡◌, false}
use Rattle.picture_scan.specs.Scan.{is_over, shape_of}
use Rattle.picture_scan.proofs.tests.scanned.Given as goal

abbrev pub invariant-words : goal.invariant-words
invariant-words l = (shape_of l.scan ≡ l.fn.shape) × (is_over l.scan ≡ false)
