use Rattle.std.proofs.Common.{ap, arith, length, subst}
use Rattle.pv_words.specs.Release.{MayDrop}
use Rattle.display_buffers.proofs.Lefts.{count_left, pages_left, step_left, within_left}
use Rattle.display_buffers.proofs.Places.{pages_within}
use Rattle.display_buffers.proofs.left.LeftBuffers.unmap_at.Goals as goal

pub index-requires : goal.index-requires
index-requires g c =
    let place = pages_within c.args.self.now c.args.k c.requires.some in
    omega (arith, place, count_left c.self.inside.buffers c.args.self.now c.self.inside.releases.items c.self.view_is, c.self.invariant.0)

pub pages_at-requires : goal.pages_at-requires
pages_at-requires g c =
    let place = pages_within c.args.self.now c.args.k c.requires.some in
    omega (arith, place, count_left c.self.inside.buffers c.args.self.now c.self.inside.releases.items c.self.view_is)

pub step-access-requires-clause-some : goal.step-access-requires-clause-some
step-access-requires-clause-some g c =
    let bs = c.self.inside.buffers in
    let rs = c.self.inside.releases in
    let within = within_left bs c.args.self.now rs.items _ c.args.k c.self.view_is c.self.invariant.0 rs.ok.0 c.requires.some in
    let here = pages_left bs c.args.self.now rs.items c.self.view_is c.args.k within c.pages_at.result.now c.pages_at.ensures c.index.result.now c.index.ensures in
    omega (arith, c.requires.some, ap length here)

pub step-access-requires-clause-may : goal.step-access-requires-clause-may
step-access-requires-clause-may g c =
    let bs = c.self.inside.buffers in
    let rs = c.self.inside.releases in
    let within = within_left bs c.args.self.now rs.items _ c.args.k c.self.view_is c.self.invariant.0 rs.ok.0 c.requires.some in
    let here = pages_left bs c.args.self.now rs.items c.self.view_is c.args.k within c.pages_at.result.now c.pages_at.ensures c.index.result.now c.index.ensures in
    subst (MayDrop (g.W.Words.may c.args.words.now)) here c.requires.may

pub index_mut-requires : goal.index_mut-requires
index_mut-requires g c =
    let place = pages_within c.args.self.now c.args.k c.requires.some in
    omega (arith, place, count_left c.self.inside.buffers c.args.self.now c.self.inside.releases.items c.self.view_is, c.self.invariant.0)

pub returns-clause-drops : goal.returns-clause-drops
returns-clause-drops g c =
    let bs = c.self.inside.buffers in
    let rs = c.self.inside.releases in
    let within = within_left bs c.args.self.now rs.items _ c.args.k c.self.view_is c.self.invariant.0 rs.ok.0 c.requires.some in
    (step_left bs c.args.self.now rs.items c.self.view_is c.args.k within c.pages_at.result.now c.pages_at.ensures c.index.result.now c.step-access.new.self c.step-access.result c.index.ensures c.step-access.ensures.drops).0

pub returns-clause-less : goal.returns-clause-less
returns-clause-less g c =
    let bs = c.self.inside.buffers in
    let rs = c.self.inside.releases in
    let within = within_left bs c.args.self.now rs.items _ c.args.k c.self.view_is c.self.invariant.0 rs.ok.0 c.requires.some in
    (step_left bs c.args.self.now rs.items c.self.view_is c.args.k within c.pages_at.result.now c.pages_at.ensures c.index.result.now c.step-access.new.self c.step-access.result c.index.ensures c.step-access.ensures.drops).1
