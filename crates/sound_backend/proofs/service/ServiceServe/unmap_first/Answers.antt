use Rattle.std.proofs.Common.{ap}
use Rattle.device_service.proofs.Mapping.Steps.{drops_same}
use Rattle.sound_backend.specs.Course.{stock_at}
use Rattle.sound_backend.specs.Stock.{Stock, pages_of}
use Rattle.sound_backend.specs.Store.{queue_of, stock_of}
use Rattle.sound_backend.proofs.Serviced.{at_rest, knowing, stands_less, strips_less}
use Rattle.sound_backend.proofs.service.ServiceServe.unmap_first.Goals as goal

pub invariant_of-self : goal.invariant_of-self
invariant_of-self g c =
    let d = c.args.self.now in
    record { stands = stands_less d.course d.hand d.progress (stock_of d.store).held (stock_of c.unmap_first.new.self).held (queue_of d.store) (queue_of c.unmap_first.new.self) c.requires.idle c.unmap_first.ensures.queue d.stands }

pub returns-clause-drops : goal.returns-clause-drops
returns-clause-drops g c =
    let d = c.args.self.now in
    let s = stock_of d.store in
    let t = stock_of c.unmap_first.new.self in
    drops_same pages_of s t (stock_at d.course s) (stock_at d.course t) c.unmap_first.result (at_rest d.course s c.requires.idle) (at_rest d.course t c.requires.idle) c.unmap_first.ensures.drops

pub returns-clause-strips : goal.returns-clause-strips
returns-clause-strips g c =
    let d = c.args.self.now in
    ap (λ (x : Stock). knowing x d.hand d.progress) (strips_less d.course (stock_of d.store) (stock_of c.unmap_first.new.self) c.requires.idle c.unmap_first.ensures.stock)
