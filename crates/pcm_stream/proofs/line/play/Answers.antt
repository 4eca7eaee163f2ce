use Rattle.pcm_stream.proofs.Octets.{mark-take-both}
use Rattle.pcm_stream.proofs.line.play.Goals as goal

pub returns-clause-mark : goal.returns-clause-mark
returns-clause-mark c =
    let both = mark-take-both c.args.count c.as_slices.result.0.now c.as_slices.result.1.now c.args.queue.now.items c.as_slices.ensures in
    let first = c.extend_mark-mark.ensures in
    let second = c.extend_mark-mark-2.ensures in
    let from_front = c.min-from_front.ensures in
    cc
