use Rattle.std.proofs.Common.{◌≡◌, drop}
use Rattle.cookie_table.specs.Cookies.{value_of}
use Rattle.cookie_table.specs.Entries.{rows}
use Rattle.cookie_table.proofs.entries.position.Given as goal

-- what is left of the order has the value, if the order has it
abbrev pub invariant-loop-at : goal.invariant-loop-at
invariant-loop-at g l = value_of g.T.HasCookie.cookie_of l.cookie (rows l.entries (drop l.at l.order)) ≡ value_of g.T.HasCookie.cookie_of l.cookie (rows l.entries l.order)
