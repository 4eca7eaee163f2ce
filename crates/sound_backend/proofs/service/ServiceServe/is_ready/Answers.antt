use Rattle.std.proofs.Common.{sym}
use Rattle.sound_backend.specs.Store.{queue_of, stock_of}
use Rattle.sound_backend.proofs.Serviced.{ready_freeing}
use Rattle.sound_backend.proofs.service.ServiceServe.is_ready.Goals as goal

pub returns-in-Frees : goal.returns-in-Frees
returns-in-Frees c =
    let d = c.args.self.now in
    sym (ready_freeing d.course c.in-Frees.field-0 d.hand d.progress (stock_of d.store) (queue_of d.store) c.in-Frees.is d.stands)
