use Rattle.std.proofs.Common.{sym}
use Rattle.display_backend.specs.Showing.{scene_of}
use Rattle.display_buffers.specs.Store.{stock_of, count_of}
use Rattle.display_backend.proofs.Serviced.{ready_freeing}
use Rattle.display_backend.proofs.service.ServiceServe.is_ready.Goals as goal

pub returns-in-Frees : goal.returns-in-Frees
returns-in-Frees c =
    let d = c.args.self.now in
    sym (ready_freeing d.course c.in-Frees.field-0 d.hand d.progress (stock_of d.store) (scene_of d.scene) (count_of d.store) c.in-Frees.is d.stands)
