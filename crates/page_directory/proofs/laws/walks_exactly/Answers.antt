use Rattle.page_directory.proofs.Remaining.{holds_throughout}
use Rattle.page_directory.proofs.Shown.{walks_show}
use Rattle.page_directory.proofs.WalkAlong.{walks_exactly}
use Rattle.page_directory.proofs.laws.walks_exactly.Goals as goal

pub returns-clause-holds : goal.returns-clause-holds
returns-clause-holds c = walks_exactly

pub returns-clause-throughout : goal.returns-clause-throughout
returns-clause-throughout c = holds_throughout

pub returns-clause-shown : goal.returns-clause-shown
returns-clause-shown c = walks_show
