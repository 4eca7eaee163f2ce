use Rattle.std.proofs.Common.{arith, ap, length}
use Rattle.cookie_table.proofs.Rows.{length_rows}
use Rattle.cookie_table.proofs.table.Table.nth.Goals as goal

pub ranked-requires-clause-within : goal.ranked-requires-clause-within
ranked-requires-clause-within g c =
    let count = length_rows c.self.inside.entries c.self.inside.order.items c.self.invariant.0.used in
    let now = ap length c.self.view_is in
    rw c.deref.ensures.value (omega (arith, count, now, c.requires))
