use Rattle.std.proofs.Common.{IfSome, is_some, subst, sym, ap, ◌∙◌}
use Rattle.pv_words.specs.Plan.{MayGo, Turns}
use Rattle.picture_scan.specs.Scan.{LiesIn, left_of, shape_of}
use Rattle.picture_scan.specs.Steps.{IsInPages}
use Rattle.display_buffers.specs.Left.{pages_at}
use Rattle.display_buffers.specs.Store.{stock_of}
use Rattle.display_buffers.proofs.Places.{pages_within}
use Rattle.display_backend.proofs.Loads.{lies_some}
use Rattle.display_backend.proofs.picture.Reading.step.Goals as goal

pub pages_at-pages-requires : goal.pages_at-pages-requires
pages_at-pages-requires g c =
    let bs = (stock_of c.args.store.now).buffers in
    let r = c.args.self.now in
    pages_within bs r.place (lies_some (pages_at bs r.place) (shape_of r.scan) c.requires.reads.lies)

pub step-requires-clause-lies : goal.step-requires-clause-lies
step-requires-clause-lies g c =
    subst (λ ps. LiesIn ps (shape_of c.args.self.now.scan)) (sym c.pages_at-pages.ensures) c.requires.reads.lies

pub step-requires-clause-may : goal.step-requires-clause-may
step-requires-clause-may g c =
    subst (λ ps. MayGo (g.W.Words.may c.args.words.now) (left_of ps c.args.self.now.scan)) (sym c.pages_at-pages.ensures) c.requires.may

pub returns-clause-turns : goal.returns-clause-turns
returns-clause-turns g c =
    subst (λ ps. Turns (left_of ps c.args.self.now.scan) c.step.result.access c.step.result.done (left_of ps c.step.new.self)) c.pages_at-pages.ensures c.step.ensures.turns

pub returns-clause-stays : goal.returns-clause-stays
returns-clause-stays g c = subst (λ ps. IfSome c.step.result.access (IsInPages ps)) c.pages_at-pages.ensures c.step.ensures.stays

pub returns-clause-still : goal.returns-clause-still
returns-clause-still g c = λ e.
    let r = c.args.self.now in
    let pages = pages_at (stock_of c.args.store.now).buffers r.place in
    record {
      going = c.step.ensures.goes_on.over ∙ ap is_some e;
      lies = subst (λ s. LiesIn pages s) (sym c.step.ensures.goes_on.shape) c.requires.reads.lies;
    }
