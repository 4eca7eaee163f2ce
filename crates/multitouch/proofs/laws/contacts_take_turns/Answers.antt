use Rattle.std.proofs.Common.{ap, subst, is_some}
use Rattle.std.specs.Ordering.{nat_cmp}
use Rattle.std.specs.FinMap as finite
use Rattle.multitouch.specs.History.{TakeTurns, history_from, start}
use Rattle.multitouch.specs.Pressed.{nothing}
use Rattle.multitouch.proofs.Histories.{all_kept}
use Rattle.multitouch.proofs.Turns.{take_turns}
use Rattle.multitouch.proofs.laws.contacts_take_turns.Goals as goal

pub returns : goal.returns
returns c = λ ms id. subst (λ down. TakeTurns id down (history_from start ms).said) (ap is_some (finite.get-empty nat_cmp id)) (take_turns id nothing (history_from start ms).said (all_kept ms).in_turn)
