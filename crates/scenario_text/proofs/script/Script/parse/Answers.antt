use Rattle.scenario_text.specs.Scenario.{drafted}
use Rattle.scenario_text.proofs.PlayLemmas.{is_playable}
use Rattle.scenario_text.proofs.script.Script.parse.Goals as goal

pub invariant_of-result : goal.invariant_of-result
invariant_of-result c = rw (c.new.ensures, c.new-2.ensures) (is_playable c.args.text.now (drafted c.in_ok-draft.draft) c.in_ok-draft.ensures)

pub returns-clause-playable : goal.returns-clause-playable
returns-clause-playable c = invariant_of-result c
