use Rattle.std.proofs.Common.{List, ◌≡◌, ◌++◌, ◌∷◌, [], Some, true, inl, refl, sym, ◌∙◌, ap, subst, slice_get, slice_set, arith}
use Rattle.std.proofs.lemmas.Option.{slice_get_within}
use Rattle.std.proofs.lemmas.Result.{err_from_is_err_and}
use Rattle.pv_words.specs.declared.entry.Entry.{Entry}
use Rattle.pv_words.specs.declared.entry.Entry.TheVariants as entry
use Rattle.pv_words.specs.declared.place.DevId.{DevId}
use Rattle.pv_world.specs.declared.world.Placed.{Placed}
use Rattle.backend_core.specs.Marked.{Entered, host_items}
use Rattle.backend_core.specs.Device.{fits_to}
use Rattle.backend_core.specs.History.{Belongs, IsHistory, site_of, takes_by}
use Rattle.backend_core.specs.Marked.{own}
use Rattle.backend_core.proofs.EachKind.{fits_one}
use Rattle.host_events.specs.Queue.{refusal_in}
use Rattle.pv_world.specs.Record.{EntersHost}
use Rattle.pv_world.specs.World.{IsPlaced, Stands, setups}
use Rattle.pv_world.proofs.Seen.{seen}
use Rattle.pv_world.proofs.Entering.{refused_one}
use Rattle.pv_world.proofs.News.{event_history, host_stands, hosted_as}
use Rattle.backend_core.proofs.Items.{dev_same}
use Rattle.pv_world.proofs.Devices.{at_index, declared_found, read_is, setups_set, takes_at}
use Rattle.pv_world.proofs.world.World.host.Goals as goal

pub returns-in_err-admit-clause-hosted : goal.returns-in_err-admit-clause-hosted
returns-in_err-admit-clause-hosted g c = λ frames grants m st e.
    let sees = seen g.W.Words g.W.Machine in
    let w = c.args.self.now in
    let p = err_from_is_err_and c.from_residual.result c.from_residual.ensures.1 in
    let x = declared_found w.devices.items c.args.dev.0 c.requires.declared in
    let same = dev_same x.1.setup.dev c.args.dev x.3 in
    let belongs = subst (λ (d : DevId). Belongs (setups w.devices.items) (entry.Host d c.args.e)) (sym same) (c.requires.declared, c.requires.fits) in
    let history = event_history sees frames grants w.memory w.devices.items x.0 x.1 m c.args.e x.2 belongs st in
    rw (p.1, p.2) (inl (refused_one (Unit {0}) sees frames grants w.memory w.devices.items (Entered (entry.Host c.args.dev c.args.e)) m c.args.journal.now.entries c.admit.new.journal.entries c.in_err-admit.field-0.0 st e (subst (λ (d : DevId). IsHistory frames grants (setups w.devices.items) (m ++ Entered (entry.Host d c.args.e) ∷ [])) same history) c.admit.ensures.same c.in_err-admit.ensures.cause))

pub index_mut-requires : goal.index_mut-requires
index_mut-requires g c = let x = c.position-i.ensures in let within = slice_get_within c.args.self.now.devices.items c.position-i.result x.0 x.1 in let same = c.args.self.now.devices.ok in omega (arith, within, same)

pub host-answer-requires : goal.host-answer-requires
host-answer-requires g c =
    let sees = seen g.W.Words g.W.Machine in
    let w = c.args.self.now in
    let x = c.position-i.ensures in
    let i = c.position-i.result in
    let p = c.index_mut.result.now in
    let s = c.requires.standing in
    let st = s.3 in
    let read = read_is w.devices.items i x.0 p x.1 c.index_mut.ensures.value in
    let placed = at_index (IsPlaced sees s.0 s.1 w.memory s.2) w.devices.items i x.0 x.1 st.placed in
    let fits = fits_one x.0.setup.kind (site_of s.0 s.1 x.0.setup) x.0.device (own x.0.setup.dev.0 s.2) c.args.e refl placed.stands in
    let takes = sym (takes_at w.devices.items i x.0 c.args.e st.apart x.1) ∙ ap (λ (d : DevId). takes_by (setups w.devices.items) d.0 c.args.e) x.2 in
    subst (λ (q : Placed). fits_to q.device c.args.e ≡ true) (sym read) (fits ∙ (takes ∙ c.requires.fits))

pub returns-clause-hosted : goal.returns-clause-hosted
returns-clause-hosted g c = λ frames grants m st e.
    let sees = seen g.W.Words g.W.Machine in
    let w = c.args.self.now in
    let x = c.position-i.ensures in
    let i = c.position-i.result in
    let p = c.index_mut.result.now in
    let r : Placed = record { setup = p.setup; device = c.host-answer.new.self; nodes = p.nodes } in
    let read = read_is w.devices.items i x.0 p x.1 c.index_mut.ensures.value in
    let at = subst (λ (q : Placed). slice_get w.devices.items i ≡ Some q) (sym read) x.1 in
    let dev = ap (λ (q : Placed). q.setup.dev) read ∙ x.2 in
    let belongs = subst (λ (d : DevId). Belongs (setups w.devices.items) (entry.Host d c.args.e)) (sym dev) (c.requires.declared, c.requires.fits) in
    hosted_as sees frames grants w.memory (slice_set w.devices.items i r) c.args.dev c.args.e c.host-answer.result m c.args.journal.now.entries c.enter_host.new.journal.entries c.enter_host.result
    (subst (λ (d : DevId). Stands sees frames grants w.memory (slice_set w.devices.items i r) (m ++ host_items d c.args.e (refusal_in c.host-answer.result))) dev (host_stands sees frames grants w.memory w.devices.items i p r m c.args.e c.host-answer.result at belongs c.host-answer.ensures.hears refl refl st)) e
    (subst (λ (es : List Entry). EntersHost c.args.dev c.args.e c.host-answer.result es c.enter_host.new.journal.entries c.enter_host.result) c.admit.ensures.same c.enter_host.ensures)

pub returns-clause-devices : goal.returns-clause-devices
returns-clause-devices g c =
    let w = c.args.self.now in
    let x = c.position-i.ensures in
    let p = c.index_mut.result.now in
    let r : Placed = record { setup = p.setup; device = c.host-answer.new.self; nodes = p.nodes } in
    let read = read_is w.devices.items c.position-i.result x.0 p x.1 c.index_mut.ensures.value in
    setups_set w.devices.items c.position-i.result x.0 r x.1 (ap (λ (q : Placed). q.setup) read)
