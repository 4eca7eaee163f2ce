use Rattle.std.proofs.Common.{not, ap, sym, ◌∙◌}
use Rattle.device_core.specs.Order.{Stand, at_rest}
use Rattle.device_service.specs.Stand.{stand_in, stand_of, work_of}
use Rattle.device_service.specs.Work.{End, Work, device}
use Rattle.device_service.proofs.Hearing.{stand_busy}
use Rattle.device_service.proofs.backend.Backend.due.Goals as goal

pub returns-in-Between : goal.returns-in-Between
unfolding stand_of
returns-in-Between g c = λ site parts.
    let d = c.args.self.now in
    c.chooses.ensures site ∙ ap (λ (x : Stand (Work g.S.Serve.Known g.row.S-Event.Denot) (End g.S.Serve.End g.row.S-Event.Denot)). not (at_rest (device g.S.Serve.service site) x)) (sym (ap (stand_in site d (work_of d)) c.in-Between.is))

pub returns-in_default : goal.returns-in_default
unfolding stand_of
returns-in_default g c = λ site parts.
    let d = c.args.self.now in
    stand_busy site d (work_of d) d.activity c.in_default.not-Between
