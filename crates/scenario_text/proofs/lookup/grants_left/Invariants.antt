use Rattle.std.proofs.Common.{◌≡◌, ◌-◌, take}
use Rattle.std.specs.Prelude.{sum_by}
use Rattle.pv_words.specs.Sizes.{size_limit}
use Rattle.scenario_text.proofs.lookup.grants_left.Given as goal

abbrev pub invariant-loop-size : goal.invariant-loop-size
invariant-loop-size l = l.left ≡ size_limit - sum_by (λ s. s.grants) (take l.size-index l.sizes)
