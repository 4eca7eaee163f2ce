use Rattle.multitouch.proofs.Histories.{all_kept}
use Rattle.multitouch.proofs.laws.groups_keep_up.Goals as goal

pub returns : goal.returns
returns c = all_kept
