use Rattle.std.proofs.Common.{◌≢◌, ◌<◌, length, length-set, get_or-set_same, get_or-set_other, below_more, arith}
use Rattle.std.proofs.lemmas.List.Sums.{sum_by_more}
use Rattle.pv_words.proofs.list_words.starts_of.Goals as goal

pub loop-b-preserved : goal.loop-b-preserved
loop-b-preserved c =
    let more = sum_by_more (λ n. n) c.args.blocks.now c.loop-b.b 0 (omega arith) in
    record {
      long = rw length-set c.loop-b.invariant.long;
      before = below_more _ _
          (λ k h. let ne : k ≢ c.loop-b.b = omega arith in rw get_or-set_other (c.loop-b.invariant.before k h))
          (let lt : c.loop-b.b < length c.loop-b.starts = omega arith in rw get_or-set_same c.loop-b.invariant.next);
      next = omega (arith, more, c.loop-b.invariant.next);
      small = omega (arith, c.requires c.loop-b.b (omega arith), c.loop-b.invariant.small);
    }
