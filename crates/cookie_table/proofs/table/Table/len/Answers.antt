use Rattle.std.proofs.Common.{arith, ap, subst, length}
use Rattle.cookie_table.specs.Cookies.{AreDistinct, cookies}
use Rattle.cookie_table.proofs.Rows.{length_rows}
use Rattle.cookie_table.proofs.table.Table.len.Goals as goal

pub returns : goal.returns
returns g c =
    let count = length_rows c.self.inside.entries c.self.inside.order.items c.self.invariant.0.used in
    let now = ap length c.self.view_is in
    record {
      count = omega (arith, c.len.ensures, c.self.inside.order.ok, count, now);
      few = record {
        at_most = omega (arith, c.self.invariant.0.number, count, now);
        distinct = subst (λ xs. AreDistinct (cookies g.T.HasCookie.cookie_of xs)) c.self.view_is c.self.invariant.0.cookies_distinct;
      };
    }
