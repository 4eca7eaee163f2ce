use Rattle.link_core.proofs.Shown.{connects_show, looks_show}
use Rattle.link_core.proofs.laws.shows_words.Goals as goal

pub returns-clause-connects : goal.returns-clause-connects
returns-clause-connects c = connects_show

pub returns-clause-looks : goal.returns-clause-looks
returns-clause-looks c = looks_show
