use Rattle.pcm_stream.proofs.Octets.{Captured}
use Rattle.pcm_stream.proofs.line.capture.Given as goal

abbrev pub invariant-loop-left : goal.invariant-loop-left
invariant-loop-left l =
    Captured l.initial.queue.items l.initial.queue.capacity l.first l.count l.left l.next l.mark l.queue

abbrev pub decreases-loop-left : goal.decreases-loop-left
decreases-loop-left l = l.left
