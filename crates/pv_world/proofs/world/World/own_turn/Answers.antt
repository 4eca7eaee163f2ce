use Rattle.std.proofs.Common.{◌<◌, refl, sym, subst, ◌∙◌}
use Rattle.std.proofs.lemmas.Result.{err_from_is_err_and}
use Rattle.pv_words.specs.declared.place.Who.TheVariants.{Dom}
use Rattle.pv_world.proofs.Seen.{seen}
use Rattle.pv_world.proofs.Standings.{Behaves, Hands, turned_stands}
use Rattle.pv_world.specs.Owner.{left_of}
use Rattle.pv_words.proofs.Keeping.{IsOwning, may_go_on, goes_on_turned, owning_next}
use Rattle.pv_world.proofs.Owners.{goes_further, owned_turn, owns_nothing}
use Rattle.pv_world.proofs.Keeps.{keeps_on}
use Rattle.pv_world.proofs.world.World.own_turn.Goals as goal

pub returns-in_err-admit-clause-owns : goal.returns-in_err-admit-clause-owns
returns-in_err-admit-clause-owns g c = λ frames grants m st e.
    let sees = seen g.W.Words g.W.Machine in
    let w = c.args.self.now in
    let p = err_from_is_err_and c.from_residual.result c.from_residual.ensures.1 in
    rw (p.1, p.2) (owns_nothing sees frames grants w.memory w.devices.items c.args.dom c.args.gref (left_of c.args.owning.now) (g.W.Words.port w.memory) c.in_err-admit.field-0.0 m c.args.journal.now.entries c.admit.new.journal.entries c.requires.goes (subst (λ n. c.args.gref.0 < n) (st.grants_are c.args.dom.0) c.requires.range) c.requires.live st e c.admit.ensures.same c.in_err-admit.ensures.cause)

pub step-turn-requires-clause-may : goal.step-turn-requires-clause-may
step-turn-requires-clause-may g c =
    may_go_on (g.W.Words.may c.turn.new.self) (g.W.Words.frames_of c.turn.new.self) (g.W.Words.grants_of c.turn.new.self) (g.W.Words.port c.turn.new.self) c.args.dom.0 c.args.gref.0 (left_of c.args.owning.now) (goes_on_turned (g.W.Words.port c.args.self.now.memory) (g.W.Words.port c.turn.new.self) (g.W.Machine.knows_device c.args.self.now.memory) (Dom c.args.dom) c.args.dom.0 c.args.gref.0 (left_of c.args.owning.now) c.turn.ensures.turned c.requires.goes) (subst (λ n. c.args.gref.0 < n) (sym (c.turn.ensures.grants c.args.dom.0)) c.requires.range) c.turn.ensures.turned.device (c.turn.ensures.turned.serves c.args.dom.0 refl) (g.met.W.Words.allows c.turn.new.self)

pub returns-clause-owns : goal.returns-clause-owns
returns-clause-owns g c = λ frames grants m st e.
    let sees = seen g.W.Words g.W.Machine in
    let behaves : Behaves sees g.W.Words.makes = record { frames = g.met.W.Words.keeps_frames; grants = g.met.W.Words.keeps_grants; remembers = g.met.W.Machine.remembers; leaves = g.met.W.Words.leaves; whole = g.met.W.Machine.keeps_whole; devices = g.met.W.Machine.keeps_devices; domains = g.met.W.Machine.keeps_domains } in
    let w = c.args.self.now in
    let hands : Hands sees (Dom c.args.dom) w.memory c.turn.new.self = record { turned = c.turn.ensures.turned; words = c.turn.ensures.words; frames = c.turn.ensures.frames; grants = c.turn.ensures.grants; whole = c.turn.ensures.whole; devices = c.turn.ensures.devices; domains = c.turn.ensures.domains } in
    owned_turn sees frames grants g.W.Words.makes behaves c.turn.new.self c.step-turn.new.words w.devices.items c.args.dom c.args.gref (left_of c.args.owning.now) (left_of c.step-turn.new.self) c.step-turn.result.access c.step-turn.result.done c.admit.new.journal.entries c.enter_turn.new.journal.entries m c.enter_turn.result (goes_on_turned (g.W.Words.port w.memory) (g.W.Words.port c.turn.new.self) (g.W.Machine.knows_device w.memory) (Dom c.args.dom) c.args.dom.0 c.args.gref.0 (left_of c.args.owning.now) c.turn.ensures.turned c.requires.goes) (subst (λ n. c.args.gref.0 < n) (st.grants_are c.args.dom.0) c.requires.range) c.turn.ensures.turned.device (turned_stands sees frames grants (Dom c.args.dom) w.memory c.turn.new.self w.devices.items m hands st) c.step-turn.ensures.made c.step-turn.ensures.turns (e ∙ sym c.admit.ensures.same) c.enter_turn.ensures.enters

pub returns-clause-live : goal.returns-clause-live
returns-clause-live g c = λ e.
    let w = c.args.self.now in
    let plan = left_of c.args.owning.now in
    let left = left_of c.step-turn.new.self in
    let n = goes_further c.args.dom c.args.gref plan left c.step-turn.result.access c.step-turn.result.done c.admit.new.journal.entries c.enter_turn.new.journal.entries c.enter_turn.result c.enter_turn.ensures.enters c.step-turn.ensures.turns e in
    let first : IsOwning g.W.Words.frames_of g.W.Words.grants_of g.W.Words.port g.W.Words.makes g.met.W.Words.keeps_grants g.met.W.Words.leaves g.met.W.Words.tells c.turn.new.self c.args.dom.0 c.args.gref.0 plan = record {
      device = c.turn.ensures.turned.device;
      serves = c.turn.ensures.turned.serves c.args.dom.0 refl;
      range = subst (λ n. c.args.gref.0 < n) (sym (c.turn.ensures.grants c.args.dom.0)) c.requires.range;
      goes = goes_on_turned (g.W.Words.port w.memory) (g.W.Words.port c.turn.new.self) (g.W.Machine.knows_device w.memory) (Dom c.args.dom) c.args.dom.0 c.args.gref.0 plan c.turn.ensures.turned c.requires.goes;
    } in
    let then = owning_next g.W.Words.frames_of g.W.Words.grants_of g.W.Words.port g.W.Words.makes g.met.W.Words.keeps_grants g.met.W.Words.leaves g.met.W.Words.tells c.turn.new.self c.step-turn.new.words c.args.dom.0 c.args.gref.0 plan left c.step-turn.result.access c.step-turn.result.done first c.step-turn.ensures.turns n.0 c.step-turn.ensures.made in
    (n.1, then.goes)

pub returns-clause-keeps : goal.returns-clause-keeps
returns-clause-keeps g c =
    keeps_on g.W.Words.frames_of g.W.Words.grants_of g.W.Words.port g.W.Words.makes g.met.W.Words.leaves c.args.self.now.memory c.turn.new.self c.step-turn.new.words (c.step-turn.result.access) c.turn.ensures.turned.keeps c.step-turn.ensures.made
