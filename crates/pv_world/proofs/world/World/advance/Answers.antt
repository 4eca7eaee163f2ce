use Rattle.std.proofs.Common.{◌≡◌, List, ◌++◌, Some, refl, sym, ◌∙◌, ap, subst, slice_get, slice_set}
use Rattle.backend_core.specs.Marked.{items_of}
use Rattle.pv_words.specs.declared.place.DevId.{DevId}
use Rattle.pv_words.specs.declared.setup.DeviceSetup.{DeviceSetup}
use Rattle.pv_words.specs.declared.place.Who.TheVariants.{Dev}
use Rattle.std.proofs.lemmas.Result.{err_from_is_err_and}
use Rattle.pv_world.specs.declared.world.Placed.{Placed}
use Rattle.pv_world.specs.World.{IsPlaced, Rides, Stands, setups}
use Rattle.pv_world.proofs.Seen.{seen}
use Rattle.pv_world.proofs.Devices.{at_index, is_at_set, read_is, setups_set}
use Rattle.pv_world.proofs.Serving.{recorded, wanting}
use Rattle.pv_world.proofs.Standings.{Behaves, Hands, turned_stands}
use Rattle.pv_world.proofs.Stepping.{may_step, step_rides, step_stands}
use Rattle.pv_world.proofs.Keeps.{keeps_on}
use Rattle.pv_world.proofs.world.World.advance.Goals as goal

pub returns-in_err-make_room-clause-advanced : goal.returns-in_err-make_room-clause-advanced
returns-in_err-make_room-clause-advanced g c = λ frames grants m st e.
    let sees = seen g.W.Words g.W.Machine in
    let w = c.args.self.now in
    let p = err_from_is_err_and c.from_residual.result c.from_residual.ensures.1 in
    rw (p.1, p.2) (wanting sees frames grants w.memory w.devices.items c.args.dev c.in_err-make_room.field-0.0 c.args.journal.now.entries c.make_room.new.journal.entries m st e c.make_room.ensures.same c.in_err-make_room.ensures.err.0 c.in_err-make_room.ensures.err.1)

pub step-step-requires : goal.step-step-requires
step-step-requires g c =
    let sees = seen g.W.Words g.W.Machine in
    let w = c.args.self.now in
    let hands : Hands sees (Dev c.args.dev) w.memory c.turn.new.self = record { turned = c.turn.ensures.turned; words = c.turn.ensures.words; frames = c.turn.ensures.frames; grants = c.turn.ensures.grants; whole = c.turn.ensures.whole; devices = c.turn.ensures.devices; domains = c.turn.ensures.domains } in
    let s = c.requires.standing in
    let x = c.requires.at in
    let read = read_is w.devices.items c.args.i x.0 c.index_mut.result.now x.1 c.index_mut.ensures.value in
    let at = subst (λ (p : Placed). slice_get w.devices.items c.args.i ≡ Some p) (sym read) x.1 in
    let dev = ap (λ (p : Placed). p.setup.dev) read ∙ x.2 in
    let st = turned_stands sees s.0 s.1 (Dev c.args.dev) w.memory c.turn.new.self w.devices.items s.2 hands s.3 in
    let placed = at_index (IsPlaced sees s.0 s.1 w.memory s.2) w.devices.items c.args.i c.index_mut.result.now at s.3.placed in
    may_step sees s.0 s.1 g.W.Words.may g.met.W.Words.allows c.turn.new.self w.devices.items c.args.i c.index_mut.result.now s.2 at (c.turn.ensures.turned.device ∙ ap (λ (d : DevId). Some d.0) (sym dev)) (c.turn.ensures.turned.serves c.index_mut.result.now.setup.dom.0 (subst (λ (d : DevId). g.W.Machine.knows_device w.memory d.0 c.index_mut.result.now.setup.dom.0) dev placed.known)) st

pub returns-clause-advanced : goal.returns-clause-advanced
returns-clause-advanced g c = λ frames grants m st e.
    let sees = seen g.W.Words g.W.Machine in
    let behaves : Behaves sees g.W.Words.makes = record { frames = g.met.W.Words.keeps_frames; grants = g.met.W.Words.keeps_grants; remembers = g.met.W.Machine.remembers; leaves = g.met.W.Words.leaves; whole = g.met.W.Machine.keeps_whole; devices = g.met.W.Machine.keeps_devices; domains = g.met.W.Machine.keeps_domains } in
    let w = c.args.self.now in
    let hands : Hands sees (Dev c.args.dev) w.memory c.turn.new.self = record { turned = c.turn.ensures.turned; words = c.turn.ensures.words; frames = c.turn.ensures.frames; grants = c.turn.ensures.grants; whole = c.turn.ensures.whole; devices = c.turn.ensures.devices; domains = c.turn.ensures.domains } in
    let x = c.requires.at in
    let p = c.index_mut.result.now in
    let r : Placed = record { setup = p.setup; device = c.step-step.new.self; nodes = p.nodes } in
    let read = read_is w.devices.items c.args.i x.0 p x.1 c.index_mut.ensures.value in
    let at = subst (λ (q : Placed). slice_get w.devices.items c.args.i ≡ Some q) (sym read) x.1 in
    let dev = ap (λ (q : Placed). q.setup.dev) read ∙ x.2 in
    let turned = turned_stands sees frames grants (Dev c.args.dev) w.memory c.turn.new.self w.devices.items m hands st in
    let later = step_stands sees frames grants g.W.Words.makes behaves c.turn.new.self c.step-step.new.words w.devices.items c.args.i p r m c.step-step.result.access c.step-step.result.said at c.step-step.ensures.made (c.turn.ensures.turned.device ∙ ap (λ (d : DevId). Some d.0) (sym dev)) c.step-step.ensures.steps refl refl turned in
    let rides = step_rides sees frames grants g.W.Words.makes behaves c.turn.new.self w.devices.items c.args.i p m c.step-step.result.access c.step-step.result.said at c.step-step.ensures.rides turned in
    recorded sees frames grants c.step-step.new.words (slice_set w.devices.items c.args.i r) c.args.dev c.step-step.result.access c.step-step.result.said c.make_room.new.journal.entries c.record.new.journal.entries m c.record.result
    (subst (λ (d : DevId). Stands sees frames grants c.step-step.new.words (slice_set w.devices.items c.args.i r) (m ++ items_of d c.step-step.result.access c.step-step.result.said)) dev later) (e ∙ sym c.make_room.ensures.same) c.record.ensures.records
    (subst (λ (ds : List DeviceSetup). Rides frames grants ds c.args.dev m c.step-step.result.access c.step-step.result.said) (sym (setups_set w.devices.items c.args.i p r at refl)) (subst (λ (d : DevId). Rides frames grants (setups w.devices.items) d m c.step-step.result.access c.step-step.result.said) dev rides))

pub returns-clause-at : goal.returns-clause-at
returns-clause-at g c =
    let w = c.args.self.now in
    let x = c.requires.at in
    let p = c.index_mut.result.now in
    let r : Placed = record { setup = p.setup; device = c.step-step.new.self; nodes = p.nodes } in
    let read = read_is w.devices.items c.args.i x.0 p x.1 c.index_mut.ensures.value in
    (r, is_at_set w.devices.items c.args.i x.0 r x.1, ap (λ (q : Placed). q.setup.dev) read ∙ x.2)

pub returns-clause-devices : goal.returns-clause-devices
returns-clause-devices g c =
    let w = c.args.self.now in
    let x = c.requires.at in
    let p = c.index_mut.result.now in
    let r : Placed = record { setup = p.setup; device = c.step-step.new.self; nodes = p.nodes } in
    let read = read_is w.devices.items c.args.i x.0 p x.1 c.index_mut.ensures.value in
    setups_set w.devices.items c.args.i x.0 r x.1 (ap (λ (q : Placed). q.setup) read)

pub returns-clause-keeps : goal.returns-clause-keeps
returns-clause-keeps g c =
    keeps_on g.W.Words.frames_of g.W.Words.grants_of g.W.Words.port g.W.Words.makes g.met.W.Words.leaves c.args.self.now.memory c.turn.new.self c.step-step.new.words (c.step-step.result.access) c.turn.ensures.turned.keeps c.step-step.ensures.made
