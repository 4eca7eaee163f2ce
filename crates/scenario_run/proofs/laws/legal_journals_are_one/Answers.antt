use Rattle.scenario_run.proofs.Alike.{legal_journals_are_one as are_one}
use Rattle.scenario_run.proofs.laws.legal_journals_are_one.Goals as goal

pub returns : goal.returns
returns c = are_one
