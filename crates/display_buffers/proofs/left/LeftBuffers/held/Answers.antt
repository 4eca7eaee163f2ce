use Rattle.std.proofs.Common.{◌<◌, arith, ap, ◌∙◌, length}
use Rattle.std.proofs.lemmas.List.{take_all}
use Rattle.display_buffers.specs.Stock.{buffer_pages}
use Rattle.display_buffers.proofs.Places.{pages_more}
use Rattle.display_buffers.proofs.left.LeftBuffers.held.Goals as goal

pub loop-k-preserved : goal.loop-k-preserved
loop-k-preserved c =
    let within : c.loop-k.k < length c.args.self.now = omega arith in
    record {
      count = omega (arith, c.loop-k.invariant.count, c.held_at-held.ensures.count, pages_more c.args.self.now c.loop-k.k within);
      few = omega (arith, c.loop-k.invariant.few, c.held_at-held.ensures.few);
    }

pub returns-clause-count : goal.returns-clause-count
returns-clause-count c =
    c.loop-k.invariant.count ∙ ap (λ bs. length (buffer_pages bs)) (take_all c.loop-k.k c.args.self.now (omega arith))
