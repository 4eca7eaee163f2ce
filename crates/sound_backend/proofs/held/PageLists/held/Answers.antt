use Rattle.std.proofs.Common.{◌<◌, arith, ap, ◌∙◌, length}
use Rattle.std.proofs.lemmas.List.{take_all}
use Rattle.sound_backend.specs.Held.{pages_in}
use Rattle.sound_backend.proofs.Lists.{pages_more}
use Rattle.sound_backend.proofs.held.PageLists.held.Goals as goal

pub loop-k-preserved : goal.loop-k-preserved
loop-k-preserved c =
    let within : c.loop-k.k < length c.args.self.now = omega arith in
    record {
      count = omega (arith, c.loop-k.invariant.count, c.held_at-held.ensures.count, pages_more c.args.self.now c.loop-k.k within);
      few = omega (arith, c.loop-k.invariant.few, c.held_at-held.ensures.few);
    }

pub returns-clause-count : goal.returns-clause-count
returns-clause-count c =
    c.loop-k.invariant.count ∙ ap (λ lists. length (pages_in lists)) (take_all c.loop-k.k c.args.self.now (omega arith))
