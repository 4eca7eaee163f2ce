use Rattle.std.proofs.Common.{ap, ◌∙◌, arith, length, slice_get}
use Rattle.display_buffers.proofs.Lefts.{count_left, pages_left, within_left}
use Rattle.display_buffers.proofs.Places.{pages_within}
use Rattle.display_buffers.proofs.left.LeftBuffers.hold_at.Goals as goal

pub index-requires : goal.index-requires
index-requires c =
    let place = pages_within c.args.self.now c.args.k (omega (arith, c.requires)) in
    omega (arith, place, count_left c.self.inside.buffers c.args.self.now c.self.inside.releases.items c.self.view_is, c.self.invariant.0)

pub pages_at-requires : goal.pages_at-requires
pages_at-requires c =
    let place = pages_within c.args.self.now c.args.k (omega (arith, c.requires)) in
    omega (arith, place, count_left c.self.inside.buffers c.args.self.now c.self.inside.releases.items c.self.view_is)

pub get-requires : goal.get-requires
get-requires c =
    let bs = c.self.inside.buffers in
    let rs = c.self.inside.releases in
    let within = within_left bs c.args.self.now rs.items _ c.args.k c.self.view_is c.self.invariant.0 rs.ok.0 (omega (arith, c.requires)) in
    let here = pages_left bs c.args.self.now rs.items c.self.view_is c.args.k within c.pages_at.result.now c.pages_at.ensures c.index.result.now c.index.ensures in
    omega (arith, c.requires, ap length here)

pub returns : goal.returns
returns c =
    let bs = c.self.inside.buffers in
    let rs = c.self.inside.releases in
    let within = within_left bs c.args.self.now rs.items _ c.args.k c.self.view_is c.self.invariant.0 rs.ok.0 (omega (arith, c.requires)) in
    let here = pages_left bs c.args.self.now rs.items c.self.view_is c.args.k within c.pages_at.result.now c.pages_at.ensures c.index.result.now c.index.ensures in
    ap (λ hs. slice_get hs c.args.i) here ∙ c.get.ensures
