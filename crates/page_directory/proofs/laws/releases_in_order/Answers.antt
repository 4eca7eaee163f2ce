use Rattle.page_directory.proofs.Releases.{drops_goes}
use Rattle.page_directory.proofs.laws.releases_in_order.Goals as goal

pub returns : goal.returns
returns g c hs left a more d = drops_goes hs left a more d
