use Rattle.xenbus_states.proofs.Faults.{all_numbers, first_is, none_among}
use Rattle.xenbus_states.proofs.laws.finds_the_first_fault.Goals as goal

pub returns-clause-first : goal.returns-clause-first
returns-clause-first c = first_is

pub returns-clause-none : goal.returns-clause-none
returns-clause-none c = λ nodes needs. (all_numbers nodes needs, none_among nodes needs)
