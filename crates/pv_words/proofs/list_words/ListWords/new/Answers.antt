use Rattle.std.proofs.Common.{◌≡◌, ◌≤◌, ◌+◌, get_or, sum, ◌∙◌, ap, arith}
use Rattle.pv_words.specs.Layout.{start_of}
use Rattle.pv_words.specs.Sizes.{blocks_by}
use Rattle.pv_words.proofs.Blocks.{small_blocks, frames_of_blocks, grants_of_blocks, last_ends, last_start}
use Rattle.pv_words.proofs.list_words.ListWords.new.Goals as goal
use Rattle.pv_words.proofs.list_words.ListWords.new.Goals.{After-starts_of-starts}

pub starts_of-starts-requires : goal.starts_of-starts-requires
starts_of-starts-requires c = λ b h.
    let same : c.blocks_of-blocks.result ≡ blocks_by c.args.sizes.now = c.blocks_of-blocks.ensures ∙ ap blocks_by c.as_slice.ensures in
    rw same (small_blocks c.args.sizes.now c.requires b)

pub overflow_add-starts : goal.overflow_add-starts
overflow_add-starts c =
    let blocks = c.blocks_of-blocks.result in
    let same : blocks ≡ blocks_by c.args.sizes.now = c.blocks_of-blocks.ensures ∙ ap blocks_by c.as_slice.ensures in
    let start : start_of blocks 9 ≤ 150994944 = rw same (last_start c.args.sizes.now c.requires) in
    let last : get_or blocks 9 0 ≤ 16777216 = rw same (small_blocks c.args.sizes.now c.requires 9) in
    omega (arith, c.starts_of-starts.ensures 9 (omega arith))

pub invariant_of-result : goal.invariant_of-result
invariant_of-result c =
    let blocks = c.blocks_of-blocks.result in
    let same : blocks ≡ blocks_by c.args.sizes.now = c.blocks_of-blocks.ensures ∙ ap blocks_by c.as_slice.ensures in
    let ends : start_of blocks 9 + get_or blocks 9 0 ≡ sum blocks = rw same (last_ends c.args.sizes.now) in
    record {
      small = λ b h. rw same (small_blocks c.args.sizes.now c.requires b);
      whole = omega (arith, c.starts_of-starts.ensures 9 (omega arith), c.in_ok-words.ensures.len, ends);
      laid_out = c.starts_of-starts.ensures;
    }

pub returns-clause-frames : goal.returns-clause-frames
returns-clause-frames c = λ d.
    let same : c.blocks_of-blocks.result ≡ blocks_by c.args.sizes.now = c.blocks_of-blocks.ensures ∙ ap blocks_by c.as_slice.ensures in
    rw same (frames_of_blocks c.args.sizes.now c.requires d)

pub returns-clause-grants : goal.returns-clause-grants
returns-clause-grants c = λ d.
    let same : c.blocks_of-blocks.result ≡ blocks_by c.args.sizes.now = c.blocks_of-blocks.ensures ∙ ap blocks_by c.as_slice.ensures in
    rw same (grants_of_blocks c.args.sizes.now c.requires d)
