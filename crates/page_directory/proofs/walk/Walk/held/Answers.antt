use Rattle.std.proofs.Common.{◌≤◌, length, sym, ◌∙◌, ap, arith, length-drop}
use Rattle.page_directory.specs.Stages.{undone}
use Rattle.page_directory.specs.WalkLeft.{held_by}
use Rattle.page_directory.proofs.Helds.{held_some, held_none, undone_some, length_insert}
use Rattle.page_directory.proofs.walk.Walk.held.Goals as goal

pub returns-in-Some : goal.returns-in-Some
unfolding held_by
returns-in-Some c =
    let w = c.args.self.now in
    let d = c.in-Some.field-0 in
    let is = sym c.directory.ensures ∙ c.in-Some.is in
    let held = ap length (held_some w.stage w.begins w.pages.items d is) in
    let within : w.begins ≤ length w.pages.items = omega (arith, w.begin, w.pages.ok) in
    omega (arith, held, length_insert w.pages.items w.begins d within, w.pages.ok, c.undone.ensures, undone_some w.stage d is)

pub returns-in-None : goal.returns-in-None
unfolding held_by
returns-in-None c =
    let w = c.args.self.now in
    let held = ap length (held_none w.stage w.begins w.pages.items (sym c.directory.ensures ∙ c.in-None.is)) in
    omega (arith, held, length-drop (undone w.stage) w.pages.items, w.pages.ok, c.undone.ensures)
