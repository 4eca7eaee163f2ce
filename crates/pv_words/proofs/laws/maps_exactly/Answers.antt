use Rattle.pv_words.proofs.Outcomes.{refuses_exactly, maps_exactly, succeeds_exactly}
use Rattle.pv_words.proofs.Shown.{maps_show}
use Rattle.pv_words.proofs.laws.maps_exactly.Goals as goal

pub returns-clause-refused : goal.returns-clause-refused
returns-clause-refused c = refuses_exactly

pub returns-clause-comes_to : goal.returns-clause-comes_to
returns-clause-comes_to c = maps_exactly

pub returns-clause-held : goal.returns-clause-held
returns-clause-held c = succeeds_exactly

pub returns-clause-shown : goal.returns-clause-shown
returns-clause-shown c = maps_show
