use Rattle.std.proofs.Common.{◌<◌, arith, length, sym}
use Rattle.display_buffers.proofs.Lefts.{count_left, pages_left}
use Rattle.display_buffers.proofs.left.LeftBuffers.pages_at.Goals as goal

pub pages_at-requires : goal.pages_at-requires
pages_at-requires c =
    omega (arith, c.requires, count_left c.self.inside.buffers c.args.self.now c.self.inside.releases.items c.self.view_is)

pub index-requires : goal.index-requires
index-requires c =
    omega (arith, c.requires, count_left c.self.inside.buffers c.args.self.now c.self.inside.releases.items c.self.view_is, c.self.invariant.0)

pub returns : goal.returns
returns c =
    let bs = c.self.inside.buffers in
    let releases = c.self.inside.releases in
    let count = count_left bs c.args.self.now releases.items c.self.view_is in
    let within : c.args.k < length releases.items = omega (arith, c.requires, count, c.self.invariant.0, releases.ok.0) in
    sym (pages_left bs c.args.self.now releases.items c.self.view_is c.args.k within c.pages_at.result.now c.pages_at.ensures c.index.result.now c.index.ensures)
