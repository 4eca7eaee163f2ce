use Rattle.std.proofs.Common.{None, Some, refl, sym, ap, subst}
use Rattle.pv_words.specs.declared.device.Said.TheVariants as said
use Rattle.pv_words.specs.Plan.{Finished, mapped}
use Rattle.device_service.specs.Operating.{Continues}
use Rattle.device_service.specs.declared.deed.Now.TheVariants.{GoesOn, Over}
use Rattle.display_backend.specs.declared.course.Course.{Course}
use Rattle.display_backend.specs.Course.{ReadsPicture, Stands, left_at, scan_left, stock_at}
use Rattle.display_backend.specs.Service.{Freed, Pictured, display}
use Rattle.display_backend.specs.Showing.{scene_of}
use Rattle.display_buffers.specs.Store.{stock_of, count_of}
use Rattle.display_backend.proofs.Loads.{in_stock, read_ends, read_goes}
use Rattle.display_backend.proofs.Serviced.{knowing}
use Rattle.display_backend.proofs.service.Service.read.Goals as goal

pub step-turn-requires-clause-reads : goal.step-turn-requires-clause-reads
step-turn-requires-clause-reads g c =
    let d = c.args.self.now in
    (subst (λ (k : Course). Stands k d.hand d.progress (stock_of d.store).buffers (count_of d.store)) c.in-Reads.is d.stands).1

pub step-turn-requires-clause-may : goal.step-turn-requires-clause-may
step-turn-requires-clause-may g c =
    subst (λ (k : Course). ReadsPicture (g.W.Words.may c.args.words.now) (stock_of c.args.self.now.store).buffers k) c.in-Reads.is c.requires

pub returns-in_default-done-clause-goes : goal.returns-in_default-done-clause-goes
returns-in_default-done-clause-goes g c = λ site.
    let d = c.args.self.now in
    let s = stock_of d.store in
    let turn = c.step-turn in
    let r = c.in-Reads.reading in
    let x = knowing s (scene_of d.scene) d.hand d.progress in
    let left = mapped (Pictured turn.new.self.part) (scan_left s.buffers turn.new.self) in
    subst (λ (k : Course). Continues display (knowing (stock_at k s) (scene_of d.scene) d.hand d.progress) (left_at site k s) turn.result.access GoesOn None x left) (sym c.in-Reads.is)
    (read_goes x x (scan_left s.buffers r) (scan_left s.buffers turn.new.self) r.part turn.result.access turn.result.done left c.in_default-done.is refl turn.ensures.turns
    (ap (λ n. mapped (Pictured n) (scan_left s.buffers turn.new.self)) turn.ensures.part))

pub returns-in_default-done-clause-stays : goal.returns-in_default-done-clause-stays
returns-in_default-done-clause-stays g c =
    in_stock c.step-turn.result.access c.in-Reads.reading.place (stock_of c.args.self.now.store) c.step-turn.ensures.stays

pub returns-clause-goes : goal.returns-clause-goes
returns-clause-goes g c = λ site.
    let d = c.args.self.now in
    let s = stock_of d.store in
    let turn = c.step-turn in
    let r = c.in-Reads.reading in
    let shown = c.in-Some.shown in
    let x = knowing s (scene_of d.scene) d.hand d.progress in
    let told = Some (said.Shown r.part shown.pixels shown.mark) in
    subst (λ (k : Course). Continues display (knowing (stock_at k s) (scene_of d.scene) d.hand d.progress) (left_at site k s) turn.result.access Over told x (Finished Freed)) (sym c.in-Reads.is)
    (read_ends x x (scan_left s.buffers r) (scan_left s.buffers turn.new.self) r.part turn.result.access turn.result.done shown told (Finished Freed) c.in-Some.is turn.ensures.turns refl refl)

pub returns-clause-stays : goal.returns-clause-stays
returns-clause-stays g c =
    in_stock c.step-turn.result.access c.in-Reads.reading.place (stock_of c.args.self.now.store) c.step-turn.ensures.stays
