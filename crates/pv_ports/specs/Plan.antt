-- When a port in memory fails.
use Rattle.std.specs.Prelude.{Contains}
use Rattle.pv_ports.specs.declared.plan.Plan.{Plan}

-- the call that comes next is one of those that the plan lets fail
abbrev pub FailsNext : Plan → Type 0
FailsNext plan = Contains plan.fails.items plan.calls
