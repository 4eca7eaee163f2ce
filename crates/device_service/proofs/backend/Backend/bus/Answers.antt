use Rattle.std.proofs.Common.{◌≡◌, refl, sym, subst}
use Rattle.xenbus_states.specs.Connection.{Connection}
use Rattle.device_core.specs.Order.{Heard, Sets, next}
use Rattle.device_service.specs.Stand.{dom_of, given_up, held_of, parts_of, stand_in, stand_of, work_of}
use Rattle.device_service.specs.Work.{device}
use Rattle.device_service.proofs.Hearing.{heard_in}
use Rattle.device_service.proofs.backend.Backend.bus.Goals as goal

pub returns-clause-hears : goal.returns-clause-hears
unfolding stand_of work_of given_up
returns-clause-hears g c = λ site.
    let d = c.args.self.now in
    subst
    (λ (k : Connection). stand_in site d (record (work_of d) { connection = k; seen = c.args.nodes.now }) d.activity ≡ next (device g.S.Serve.service site) (stand_of site d) (Heard (Sets c.args.front c.args.nodes.now)))
    (sym c.front_set.ensures)
    (heard_in site d (work_of d) d.activity (Sets c.args.front c.args.nodes.now))

pub returns-clause-held : goal.returns-clause-held
unfolding held_of
returns-clause-held g c = refl

pub returns-clause-same : goal.returns-clause-same
unfolding dom_of parts_of
returns-clause-same g c = (refl, refl, refl)
