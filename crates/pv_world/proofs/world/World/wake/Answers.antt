use Rattle.std.proofs.Common.{List, ◌++◌, ◌∷◌, [], ◌∙◌, ap}
use Rattle.std.proofs.lemmas.Result.{err_from_is_err_and}
use Rattle.pv_words.specs.declared.entry.Entry.{Entry}
use Rattle.pv_words.specs.declared.entry.Entry.TheVariants as entry
use Rattle.backend_core.specs.Marked.{Entered}
use Rattle.pv_world.proofs.Seen.{seen}
use Rattle.pv_world.proofs.Entering.{entered_one, refused_one}
use Rattle.pv_world.proofs.News.{wake_history, wake_stands}
use Rattle.pv_world.proofs.world.World.wake.Goals as goal

pub returns-in_err-admit-clause-woken : goal.returns-in_err-admit-clause-woken
returns-in_err-admit-clause-woken g c = λ frames grants m st e.
    let sees = seen g.W.Words g.W.Machine in
    let w = c.args.self.now in
    let p = err_from_is_err_and c.from_residual.result c.from_residual.ensures.1 in
    rw (p.1, p.2) (refused_one (Unit {0}) sees frames grants w.memory w.devices.items (Entered (entry.Wake c.args.dev)) m c.args.journal.now.entries c.admit.new.journal.entries c.in_err-admit.field-0.0 st e (wake_history sees frames grants w.memory w.devices.items m c.args.dev c.requires.declared st) c.admit.ensures.same c.in_err-admit.ensures.cause)

pub returns-clause-woken : goal.returns-clause-woken
returns-clause-woken g c = λ frames grants m st e.
    let sees = seen g.W.Words g.W.Machine in
    let w = c.args.self.now in
    entered_one sees frames grants w.memory w.devices.items (entry.Wake c.args.dev) m c.args.journal.now.entries c.push.new.self.entries (tt {0}) (wake_stands sees frames grants w.memory w.devices.items m c.args.dev c.requires.declared st) e (c.push.ensures.pushed ∙ ap (λ (es : List Entry). es ++ entry.Wake c.args.dev ∷ []) c.admit.ensures.same)
