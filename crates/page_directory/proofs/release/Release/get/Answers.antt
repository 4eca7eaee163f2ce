use Rattle.std.proofs.Common.{arith, length-drop, ◌∙◌}
use Rattle.page_directory.specs.Release.{left_of}
use Rattle.page_directory.proofs.Releases.{get_drop}
use Rattle.page_directory.proofs.release.Release.get.Goals as goal

pub prove-unreachable-requires : goal.prove-unreachable-requires
unfolding left_of
prove-unreachable-requires g c =
    omega (arith, c.requires, c.if-prove.true, c.len.ensures, length-drop c.args.self.now.gone (g.P.PageList.holds c.args.pages.now))

pub overflow_add-self : goal.overflow_add-self
unfolding left_of
overflow_add-self g c =
    omega (arith, c.requires, c.len.ensures, c.len.type_inv, length-drop c.args.self.now.gone (g.P.PageList.holds c.args.pages.now))

pub get-requires : goal.get-requires
unfolding left_of
get-requires g c =
    omega (arith, c.requires, length-drop c.args.self.now.gone (g.P.PageList.holds c.args.pages.now))

pub returns : goal.returns
unfolding left_of
returns g c = get_drop c.args.self.now.gone c.args.i (g.P.PageList.holds c.args.pages.now) ∙ c.get.ensures
