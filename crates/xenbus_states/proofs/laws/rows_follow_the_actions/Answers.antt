use Rattle.xenbus_states.proofs.Actions.{rows_follow}
use Rattle.xenbus_states.proofs.Faults.{causes_stay}
use Rattle.xenbus_states.proofs.laws.rows_follow_the_actions.Goals as goal

pub returns-clause-follow : goal.returns-clause-follow
returns-clause-follow c = rows_follow

pub returns-clause-stay : goal.returns-clause-stay
returns-clause-stay c = causes_stay
