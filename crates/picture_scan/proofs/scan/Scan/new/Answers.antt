use Rattle.std.proofs.Common.{refl, arith}
use Rattle.picture_scan.specs.Scan.{left_of}
use Rattle.picture_scan.specs.Scanning.{scan_plan}
use Rattle.picture_scan.proofs.Scans.{row_same}
use Rattle.picture_scan.proofs.scan.Scan.new.Goals as goal

pub returns-clause-begins : goal.returns-clause-begins
unfolding left_of scan_plan
returns-clause-begins c =
    let s = c.args.shape in
    λ pages. row_same s pages c.args.key s.y s.rows _ 0 c.row_first.result c.row_octets.result 0 c.new.result _ c.requires.depth (omega (arith, c.requires.rows)) c.row_first.ensures c.row_octets.ensures c.new.ensures refl refl
