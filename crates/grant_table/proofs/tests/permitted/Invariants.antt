use Rattle.pv_words.specs.Plan.{IsUnfinished}
use Rattle.grant_table.specs.OwnerLeft.{permit_left}
use Rattle.grant_table.proofs.tests.permitted.Given as goal

-- an access is left
abbrev pub invariant-loop : goal.invariant-loop
invariant-loop l = IsUnfinished (permit_left l.step)
