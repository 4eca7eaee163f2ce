use Rattle.pv_words.specs.Plan.{IsUnfinished}
use Rattle.grant_table.specs.OwnerLeft.{end_left}
use Rattle.grant_table.proofs.tests.ended.Given as goal

-- an access is left
abbrev pub invariant-loop : goal.invariant-loop
invariant-loop l = IsUnfinished (end_left l.step)
