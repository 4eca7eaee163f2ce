use Rattle.std.proofs.Common.{arith, length-drop}
use Rattle.page_directory.specs.Release.{left_of}
use Rattle.page_directory.proofs.release.Release.left.Goals as goal

pub returns-clause-count : goal.returns-clause-count
unfolding left_of
returns-clause-count g c =
    omega (arith, c.len.ensures, c.saturating_sub.ensures, length-drop c.args.self.now.gone (g.P.PageList.holds c.args.pages.now))
