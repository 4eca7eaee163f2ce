use Rattle.std.proofs.Common.{◌<◌, arith, ap, length}
use Rattle.std.proofs.lemmas.List.{take_all}
use Rattle.display_buffers.specs.Stock.{buffer_pages}
use Rattle.display_buffers.proofs.Places.{pages_more}
use Rattle.display_buffers.proofs.left.LeftBuffers.find.Goals as goal

pub returns-then-rest-held : goal.returns-then-rest-held
returns-then-rest-held c = (omega (arith, c.if-rest-held.true, c.held_at-held.ensures.count), c.loop-k.invariant)

pub loop-k-preserved : goal.loop-k-preserved
loop-k-preserved c =
    let within : c.loop-k.k < length c.args.self.now = omega arith in
    omega (arith, c.loop-k.invariant, c.held_at-held.ensures.count, c.if-rest-held.false, pages_more c.args.self.now c.loop-k.k within)

pub unreachable-requires : goal.unreachable-requires
unreachable-requires c =
    let all = ap (λ bs. length (buffer_pages bs)) (take_all c.loop-k.k c.args.self.now (omega arith)) in
    omega (arith, c.requires, c.loop-k.invariant, all)
