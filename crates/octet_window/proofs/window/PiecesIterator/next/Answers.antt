use Rattle.std.proofs.Common.{◌≡◌, ◌∙◌, [], length, sym, ap, arith}
use Rattle.octet_window.specs.Pieces.{pieces_in}
use Rattle.octet_window.proofs.Walks.{pieces_none, steps_on}
use Rattle.octet_window.proofs.window.PiecesIterator.next.Goals as goal

pub returns-then-self-eq0-clause-steps : goal.returns-then-self-eq0-clause-steps
returns-then-self-eq0-clause-steps g c =
    let w = c.self.inside in
    let pages = g.P.PageList.holds w.pages.now in
    let none : c.args.self.now ≡ [] = sym c.self.view_is ∙ (ap (pieces_in pages w.octet) c.if-self-eq0.true ∙ pieces_none pages w.octet) in
    (none, none)

pub returns-clause-steps : goal.returns-clause-steps
returns-clause-steps g c =
    let w = c.self.inside in
    let pages = g.P.PageList.holds w.pages.now in
    sym c.self.view_is ∙ steps_on pages w.octet w.more c.min-len.result c.from.result c.get-page.result
    (omega (arith, c.if-self-eq0.false)) c.min-len.ensures c.from.ensures c.get-page.ensures

pub returns-clause-goes : goal.returns-clause-goes
returns-clause-goes g c =
    let w = c.self.inside in
    let pages = g.P.PageList.holds w.pages.now in
    let step = sym c.self.view_is ∙ steps_on pages w.octet w.more c.min-len.result c.from.result c.get-page.result
    (omega (arith, c.if-self-eq0.false)) c.min-len.ensures c.from.ensures c.get-page.ensures in
    record { on = λ h. (tt, tt, omega (arith, ap length step)); keeps = tt; rests = λ h. tt }
