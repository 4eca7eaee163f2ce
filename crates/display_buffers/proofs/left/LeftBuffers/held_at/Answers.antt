use Rattle.std.proofs.Common.{◌<◌, sym, ap, ◌∙◌, arith, length}
use Rattle.display_buffers.proofs.Lefts.{count_left, pages_left}
use Rattle.display_buffers.proofs.left.LeftBuffers.held_at.Goals as goal

pub pages_at-pages-requires : goal.pages_at-pages-requires
pages_at-pages-requires c =
    omega (arith, c.requires, count_left c.self.inside.buffers c.args.self.now c.self.inside.releases.items c.self.view_is)

pub index-requires : goal.index-requires
index-requires c =
    omega (arith, c.requires, count_left c.self.inside.buffers c.args.self.now c.self.inside.releases.items c.self.view_is, c.self.invariant.0)

pub returns-clause-count : goal.returns-clause-count
returns-clause-count c =
    let bs = c.self.inside.buffers in
    let releases = c.self.inside.releases in
    let count = count_left bs c.args.self.now releases.items c.self.view_is in
    let within : c.args.k < length releases.items = omega (arith, c.requires, count, c.self.invariant.0, releases.ok.0) in
    let here = pages_left bs c.args.self.now releases.items c.self.view_is c.args.k within c.pages_at-pages.result.now c.pages_at-pages.ensures c.index.result.now c.index.ensures in
    c.left.ensures.count ∙ ap length (sym here)
