use Rattle.std.proofs.Common.{◌≤◌, vec_len, vec_capacity}
use Rattle.cookie_table.specs.Entries.{IsTable}
use Rattle.cookie_table.proofs.entries.take_all.Given as goal

-- there is a table at each moment, with the room for the keys
abbrev pub invariant-loop-key : goal.invariant-loop-key
invariant-loop-key g l = record {
  table : IsTable g.T.HasCookie.cookie_of l.entries l.order.items l.others.items;
  order_room : 64 ≤ vec_capacity l.order;
  others_room : 64 ≤ vec_capacity l.others;
}

abbrev pub decreases-loop-key : goal.decreases-loop-key
decreases-loop-key g l = vec_len l.order
