use Rattle.std.proofs.Common.{◌≡◌, ◌≤◌, arith, refl}
use Rattle.pcm_stream.proofs.Octets.{captures-none, captures-more, mark-captured, queue-captured}
use Rattle.pcm_stream.proofs.line.capture.Goals as goal

pub loop-left-init : goal.loop-left-init
loop-left-init c =
    rw c.from-next.ensures
    (captures-none c.args.queue.now.items c.args.queue.now.capacity c.args.first c.args.count c.args.queue.now c.requires.line refl)

pub overflow_sub-next : goal.overflow_sub-next
overflow_sub-next c = omega (arith, c.loop-left.invariant.place)

pub line_piece-piece-requires : goal.line_piece-piece-requires
line_piece-piece-requires c = omega (arith, c.loop-left.invariant.place, c.min-size.ensures)

pub loop-left-smaller : goal.loop-left-smaller
loop-left-smaller c = omega (arith, c.loop-left.invariant.place, c.min-size.ensures)

pub loop-left-preserved : goal.loop-left-preserved
loop-left-preserved c =
    let small : c.min-size.result ≤ c.loop-left.left = omega (arith, c.min-size.ensures) in
    rw (c.extend_mark-mark.ensures, c.fill_from_slice-next.ensures.items)
    (captures-more _ _ _ _ _ _ _ _ _ _ _ c.loop-left.invariant c.requires.room small
    c.line_piece-piece.ensures c.fill_from_slice-next.ensures.count)

pub returns-clause-mark : goal.returns-clause-mark
returns-clause-mark c =
    let none : c.loop-left.left ≡ 0 = omega arith in
    mark-captured _ _ _ _ _ _ _ _ c.loop-left.invariant none

pub returns-clause-appended : goal.returns-clause-appended
returns-clause-appended c =
    let none : c.loop-left.left ≡ 0 = omega arith in
    queue-captured _ _ _ _ _ _ _ _ c.loop-left.invariant none
