use Rattle.std.proofs.Common.{◌≡◌, ◌+◌, ◌-◌, false, arith}
use Rattle.picture_scan.specs.Scan.{is_over, left_of}
use Rattle.picture_scan.proofs.Rows.{row_inside, row_some}
use Rattle.picture_scan.proofs.Scans.{row_same, some_left}
use Rattle.picture_scan.proofs.scan.Scan.end_row.Goals as goal

pub invariant_of-self-2-clause-inside : goal.invariant_of-self-2-clause-inside
invariant_of-self-2-clause-inside c =
    let w = c.args.self.now in
    omega (arith, row_inside w.shape (w.row + 1) (omega (arith, w.bottom, c.if-self-eq0.false)) w.within.across, c.row_first-self.ensures, c.row_octets-self.ensures)

pub returns-clause-ends : goal.returns-clause-ends
unfolding left_of is_over
returns-clause-ends c =
    let w = c.args.self.now in
    let going : w.over ≡ false = c.requires in
    λ pages. (
      row_same w.shape pages w.key (w.row + 1) w.rows (w.rows - 1) w.pixels.mark c.row_first-self.result c.row_octets-self.result c.mark-mark.result c.new-self.result w.over w.within.depth (omega (arith, c.if-self-eq0.false)) c.row_first-self.ensures c.row_octets-self.ensures c.new-self.ensures c.mark-mark.ensures going,
      some_left w.shape pages w.key (w.row + 1 + 1) (w.rows - 1) c.row_first-self.result c.row_octets-self.result c.new-self.result w.over (omega (arith, c.row_octets-self.ensures, row_some w.shape w.within.depth w.within.columns)) going,
    )
