use Rattle.std.proofs.Common.{List, Ok, [], ◌∷◌, ◌++◌, Some, refl, sym, subst, ◌∙◌, ap}
use Rattle.std.proofs.lemmas.Result.{err_from_is_err_and}
use Rattle.pv_words.specs.declared.access.Access.TheVariants as access
use Rattle.pv_words.specs.declared.entry.Entry.{Entry}
use Rattle.pv_words.specs.declared.entry.Entry.TheVariants as entry
use Rattle.pv_words.specs.declared.place.DomId.{DomId}
use Rattle.pv_words.specs.declared.place.Who.TheVariants.{Dom}
use Rattle.pv_words.specs.Plan as plan
use Rattle.pv_words.proofs.Listing.{port_may_own, owns_store, unkept_turned}
use Rattle.backend_core.specs.Marked.{Entered}
use Rattle.pv_world.specs.World.{Enters, Stands, front_store}
use Rattle.pv_world.proofs.Seen.{seen}
use Rattle.backend_core.proofs.Histories.{in_range_from}
use Rattle.pv_world.proofs.Entering.{entered_one, refused_one}
use Rattle.pv_world.proofs.Standings.{Behaves, Hands, front_history, front_stands, turned_stands}
use Rattle.pv_world.proofs.Keeps.{keeps_on}
use Rattle.pv_world.proofs.world.World.put.Goals as goal

pub returns-in_err-admit-clause-stored : goal.returns-in_err-admit-clause-stored
returns-in_err-admit-clause-stored g c = λ frames grants m st e.
    let sees = seen g.W.Words g.W.Machine in
    let w = c.args.self.now in
    let p = err_from_is_err_and c.from_residual.result c.from_residual.ensures.1 in
    let range = in_range_from (g.W.Words.frames_of w.memory) frames (g.W.Words.grants_of w.memory) grants st.frames_are st.grants_are c.args.place c.requires.range in
    rw (p.1, p.2) (refused_one (Unit {0}) sees frames grants w.memory w.devices.items (front_store c.args.place c.args.v) m c.args.journal.now.entries c.admit.new.journal.entries c.in_err-admit.field-0.0 st e (front_history sees frames grants w.memory w.devices.items m (access.Store c.args.place c.args.v) (range, tt) st) c.admit.ensures.same c.in_err-admit.ensures.cause)

pub store-requires : goal.store-requires
store-requires g c =
    let w = c.args.self.now in
    let dom = c.domain-dom.result in
    let range = in_range_from (g.W.Words.frames_of w.memory) (g.W.Words.frames_of c.turn.new.self) (g.W.Words.grants_of w.memory) (g.W.Words.grants_of c.turn.new.self) (λ d. sym (c.turn.ensures.frames d)) (λ d. sym (c.turn.ensures.grants d)) c.args.place c.requires.range in
    g.met.W.Words.allows c.turn.new.self (plan.Store c.args.place c.args.v) (port_may_own (g.W.Words.frames_of c.turn.new.self) (g.W.Words.grants_of c.turn.new.self) (g.W.Words.port c.turn.new.self) dom.0 (plan.Store c.args.place c.args.v) c.turn.ensures.turned.device (c.turn.ensures.turned.serves dom.0 refl) range (owns_store (g.W.Words.port c.turn.new.self) dom.0 c.args.place c.args.v (sym (ap (λ (d : DomId). d.0) c.domain-dom.ensures)) (unkept_turned (g.W.Words.port w.memory) (g.W.Words.port c.turn.new.self) (g.W.Machine.knows_device w.memory) (Dom dom) c.args.place c.turn.ensures.turned c.requires.unkept)))

pub returns-clause-stored : goal.returns-clause-stored
returns-clause-stored g c = λ frames grants m st e.
    let sees = seen g.W.Words g.W.Machine in
    let behaves : Behaves sees g.W.Words.makes = record { frames = g.met.W.Words.keeps_frames; grants = g.met.W.Words.keeps_grants; remembers = g.met.W.Machine.remembers; leaves = g.met.W.Words.leaves; whole = g.met.W.Machine.keeps_whole; devices = g.met.W.Machine.keeps_devices; domains = g.met.W.Machine.keeps_domains } in
    let w = c.args.self.now in
    let hands : Hands sees (Dom c.domain-dom.result) w.memory c.turn.new.self = record { turned = c.turn.ensures.turned; words = c.turn.ensures.words; frames = c.turn.ensures.frames; grants = c.turn.ensures.grants; whole = c.turn.ensures.whole; devices = c.turn.ensures.devices; domains = c.turn.ensures.domains } in
    let range = in_range_from (g.W.Words.frames_of w.memory) frames (g.W.Words.grants_of w.memory) grants st.frames_are st.grants_are c.args.place c.requires.range in
    subst (λ (d : DomId). Enters sees frames grants c.store.new.self w.devices.items (Entered (entry.Front d (access.Store c.args.place c.args.v))) c.push.new.self.entries m (Ok (tt {0}))) c.domain-dom.ensures
    (entered_one sees frames grants c.store.new.self w.devices.items (entry.Front c.domain-dom.result (access.Store c.args.place c.args.v)) m c.args.journal.now.entries c.push.new.self.entries (tt {0})
    (subst (λ (d : DomId). Stands sees frames grants c.store.new.self w.devices.items (m ++ Entered (entry.Front d (access.Store c.args.place c.args.v)) ∷ [])) (sym c.domain-dom.ensures)
    (front_stands sees frames grants g.W.Words.makes behaves c.turn.new.self c.store.new.self w.devices.items m (access.Store c.args.place c.args.v) c.turn.ensures.turned.device range c.store.ensures (turned_stands sees frames grants (Dom c.domain-dom.result) w.memory c.turn.new.self w.devices.items m hands st))) e
    (c.push.ensures.pushed ∙ ap (λ (es : List Entry). es ++ entry.Front c.domain-dom.result (access.Store c.args.place c.args.v) ∷ []) c.admit.ensures.same))

pub returns-clause-keeps : goal.returns-clause-keeps
returns-clause-keeps g c =
    keeps_on g.W.Words.frames_of g.W.Words.grants_of g.W.Words.port g.W.Words.makes g.met.W.Words.leaves c.args.self.now.memory c.turn.new.self c.store.new.self (Some (access.Store c.args.place c.args.v)) c.turn.ensures.turned.keeps c.store.ensures
