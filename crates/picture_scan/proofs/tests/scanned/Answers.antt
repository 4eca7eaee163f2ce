use Rattle.std.proofs.Common.{sym, subst}
use Rattle.pv_words.proofs.Plans.{may_any}
use Rattle.picture_scan.specs.declared.shape.Shape.{Shape}
use Rattle.picture_scan.specs.Scan.{LiesIn}
use Rattle.picture_scan.proofs.tests.scanned.Goals as goal

pub step-turn-requires-clause-lies : goal.step-turn-requires-clause-lies
step-turn-requires-clause-lies c =
    let P : Shape → Type 0 = λ s. LiesIn c.args.pages.now.holds.items s in subst P (sym c.words.invariant.0) c.requires.lies

pub step-turn-requires-clause-may : goal.step-turn-requires-clause-may
step-turn-requires-clause-may c = may_any _
