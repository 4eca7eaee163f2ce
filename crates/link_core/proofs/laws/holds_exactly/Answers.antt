use Rattle.std.proofs.Common.{◌≡◌, ◌++◌, ap}
use Rattle.pv_words.specs.Held.{holds_of, IsProper}
use Rattle.link_core.specs.Laws.{kept_by}
use Rattle.link_core.specs.Link.{dom_of}
use Rattle.link_core.proofs.Holding.{held_during}
use Rattle.link_core.proofs.PlanFits.{connects_exactly, drops_exactly}
use Rattle.link_core.proofs.laws.holds_exactly.Goals as goal

pub returns-clause-connects : goal.returns-clause-connects
returns-clause-connects c = connects_exactly

pub returns-clause-drops : goal.returns-clause-drops
returns-clause-drops c = drops_exactly

pub returns-clause-throughout : goal.returns-clause-throughout
returns-clause-throughout c = λ frames grants event ring held l now is fits. held_during frames grants (IsProper frames grants (dom_of l)) held (λ h c. h ≡ holds_of (held ++ kept_by c)) (λ t c e. ap (λ h. h.held) e) l ring event now is fits
