use Rattle.std.proofs.Common.{sym}
use Rattle.cookie_table.proofs.Rows.{find_all}
use Rattle.display_buffers.specs.Buffers.{has_cookie}
use Rattle.display_buffers.specs.Pixels.{IsWhole}
use Rattle.display_buffers.proofs.buffers.Buffers.get.Goals as goal

pub returns-clause-in_range : goal.returns-clause-in_range
returns-clause-in_range g c =
    (find_all (IsWhole g.P.PageList.holds) (has_cookie c.args.cookie) c.self.inside.table c.in_ok-get.field-0.now (sym c.in_ok-get.ensures) c.self.invariant).0
