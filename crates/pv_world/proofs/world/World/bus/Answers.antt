use Rattle.std.proofs.Common.{List, ◌≡◌, ◌++◌, ◌∷◌, [], Some, refl, sym, ◌∙◌, ap, subst, slice_get, slice_set, arith}
use Rattle.std.proofs.lemmas.Option.{slice_get_within}
use Rattle.std.proofs.lemmas.Result.{err_from_is_err_and}
use Rattle.pv_words.specs.declared.entry.Entry.{Entry}
use Rattle.pv_words.specs.declared.entry.Entry.TheVariants as entry
use Rattle.pv_words.specs.declared.place.DevId.{DevId}
use Rattle.pv_world.specs.declared.world.Placed.{Placed}
use Rattle.backend_core.specs.Marked.{Entered}
use Rattle.pv_words.specs.declared.entry.End.TheVariants as end
use Rattle.backend_core.specs.History.{IsHistory}
use Rattle.pv_world.specs.World.{Stands, setups}
use Rattle.pv_world.proofs.Seen.{seen}
use Rattle.pv_world.proofs.Entering.{entered_one, refused_one}
use Rattle.pv_world.proofs.News.{bus_history, bus_stands}
use Rattle.backend_core.proofs.Items.{dev_same}
use Rattle.pv_world.proofs.Devices.{declared_found, read_is, setups_set}
use Rattle.pv_world.proofs.world.World.bus.Goals as goal

pub returns-in_err-admit-clause-heard : goal.returns-in_err-admit-clause-heard
returns-in_err-admit-clause-heard g c = λ frames grants m st e.
    let sees = seen g.W.Words g.W.Machine in
    let w = c.args.self.now in
    let p = err_from_is_err_and c.from_residual.result c.from_residual.ensures.1 in
    let x = declared_found w.devices.items c.args.dev.0 c.requires.declared in
    let history = bus_history sees frames grants w.memory w.devices.items x.0 x.1 m c.args.s x.2 st in
    rw (p.1, p.2) (refused_one (Unit {0}) sees frames grants w.memory w.devices.items (Entered (entry.Bus c.args.dev end.Front c.args.s)) m c.args.journal.now.entries c.admit.new.journal.entries c.in_err-admit.field-0.0 st e (subst (λ (d : DevId). IsHistory frames grants (setups w.devices.items) (m ++ Entered (entry.Bus d end.Front c.args.s) ∷ [])) (dev_same x.1.setup.dev c.args.dev x.3) history) c.admit.ensures.same c.in_err-admit.ensures.cause)

pub index_mut-placed-requires : goal.index_mut-placed-requires
index_mut-placed-requires g c = let x = c.position-i.ensures in let within = slice_get_within c.args.self.now.devices.items c.position-i.result x.0 x.1 in let same = c.args.self.now.devices.ok in omega (arith, within, same)

pub returns-clause-heard : goal.returns-clause-heard
returns-clause-heard g c = λ frames grants m st e.
    let sees = seen g.W.Words g.W.Machine in
    let w = c.args.self.now in
    let x = c.position-i.ensures in
    let i = c.position-i.result in
    let p = c.index_mut-placed.result.now in
    let r : Placed = record { setup = p.setup; device = c.bus.new.self; nodes = p.nodes } in
    let read = read_is w.devices.items i x.0 p x.1 c.index_mut-placed.ensures.value in
    let at = subst (λ (q : Placed). slice_get w.devices.items i ≡ Some q) (sym read) x.1 in
    let dev = ap (λ (q : Placed). q.setup.dev) read ∙ x.2 in
    entered_one sees frames grants w.memory (slice_set w.devices.items i r) (entry.Bus c.args.dev end.Front c.args.s) m c.args.journal.now.entries c.push.new.self.entries (tt {0})
    (subst (λ (d : DevId). Stands sees frames grants w.memory (slice_set w.devices.items i r) (m ++ Entered (entry.Bus d end.Front c.args.s) ∷ [])) dev (bus_stands sees frames grants w.memory w.devices.items i p r m c.args.s at c.bus.ensures.hears refl refl st)) e
    (c.push.ensures.pushed ∙ ap (λ (es : List Entry). es ++ entry.Bus c.args.dev end.Front c.args.s ∷ []) c.admit.ensures.same)

pub returns-clause-devices : goal.returns-clause-devices
returns-clause-devices g c =
    let w = c.args.self.now in
    let x = c.position-i.ensures in
    let p = c.index_mut-placed.result.now in
    let r : Placed = record { setup = p.setup; device = c.bus.new.self; nodes = p.nodes } in
    let read = read_is w.devices.items c.position-i.result x.0 p x.1 c.index_mut-placed.ensures.value in
    setups_set w.devices.items c.position-i.result x.0 r x.1 (ap (λ (q : Placed). q.setup) read)
