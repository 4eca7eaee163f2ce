use Rattle.std.proofs.Common.{arith, sym, length-drop}
use Rattle.std.proofs.lemmas.List.{drop-drop}
use Rattle.page_directory.specs.Release.{left_of}
use Rattle.page_directory.proofs.Releases.{drops_this, may_this}
use Rattle.page_directory.proofs.release.Release.step.Goals as goal

pub prove-unreachable-requires : goal.prove-unreachable-requires
unfolding left_of
prove-unreachable-requires g c =
    omega (arith, c.requires.some, c.if-prove.true, c.len.ensures, length-drop c.args.self.now.gone (g.P.PageList.holds c.args.pages.now))

pub unmap-requires : goal.unmap-requires
unmap-requires g c =
    may_this (g.W.Words.may c.args.words.now) (left_of c.args.self.now (g.P.PageList.holds c.args.pages.now)) c.get-hold.result c.get-hold.ensures c.requires.may

pub returns-clause-drops : goal.returns-clause-drops
unfolding left_of
returns-clause-drops g c =
    let pages = g.P.PageList.holds c.args.pages.now in
    let gone = c.args.self.now.gone in
    drops_this (left_of c.args.self.now pages) _ c.get-hold.result c.unmap.result c.get-hold.ensures c.unmap.ensures.clears (sym (drop-drop 1 gone pages))
