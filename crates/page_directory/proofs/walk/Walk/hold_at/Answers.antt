use Rattle.std.proofs.Common.{◌≡◌, suc, ◌+◌, ◌-◌, ◌<◌, ◌≤◌, length, get_or, slice_get, sym, ◌∙◌, ap, arith, length-drop}
use Rattle.std.specs.List.{insert}
use Rattle.page_directory.specs.Stages.{undone}
use Rattle.page_directory.specs.WalkLeft.{held_by}
use Rattle.page_directory.proofs.Helds.{held_some, held_none, length_insert, get_before, get_here, get_behind, read_at, read_behind}
use Rattle.page_directory.proofs.walk.Walk.hold_at.Goals as goal

pub index-requires : goal.index-requires
unfolding held_by
index-requires c =
    let w = c.args.self.now in
    let held = ap length (held_none w.stage w.begins w.pages.items (sym c.directory.ensures ∙ c.in-None.is)) in
    omega (arith, held, length-drop (undone w.stage) w.pages.items, w.pages.ok, c.undone.ensures)

pub index-requires-else-i-self-2 : goal.index-requires-else-i-self-2
unfolding held_by
index-requires-else-i-self-2 c =
    let w = c.args.self.now in
    let held = ap length (held_some w.stage w.begins w.pages.items c.in-Some.directory (sym c.directory.ensures ∙ c.in-Some.is)) in
    let within : w.begins ≤ length w.pages.items = omega (arith, w.begin, w.pages.ok) in
    omega (arith, held, length_insert w.pages.items w.begins c.in-Some.directory within, w.pages.ok)

pub returns-in-None : goal.returns-in-None
unfolding held_by
returns-in-None c =
    let w = c.args.self.now in
    let held = held_none w.stage w.begins w.pages.items (sym c.directory.ensures ∙ c.in-None.is) in
    let within : undone w.stage + c.args.i < length w.pages.items = omega (arith, ap length held, length-drop (undone w.stage) w.pages.items) in
    let read = c.index.ensures ∙ ap (λ n. get_or w.pages.items (n + c.args.i) c.index.result.now) c.undone.ensures in
    ap (λ hs. slice_get hs c.args.i) held ∙ read_behind w.pages.items (undone w.stage) c.args.i c.index.result.now within read

pub returns-then-i-self : goal.returns-then-i-self
unfolding held_by
returns-then-i-self c =
    let w = c.args.self.now in
    let d = c.in-Some.directory in
    let held = held_some w.stage w.begins w.pages.items d (sym c.directory.ensures ∙ c.in-Some.is) in
    let within : w.begins ≤ length w.pages.items = omega (arith, w.begin, w.pages.ok) in
    let inside : c.args.i < length w.pages.items = omega arith in
    ap (λ hs. slice_get hs c.args.i) held
    ∙ get_before w.pages.items w.begins c.args.i d c.if-i-self.true within
    ∙ read_at w.pages.items c.args.i c.index-then-i-self.result.now inside c.index-then-i-self.ensures

pub returns-then-i-self-2 : goal.returns-then-i-self-2
unfolding held_by
returns-then-i-self-2 c =
    let w = c.args.self.now in
    let d = c.in-Some.directory in
    let held = held_some w.stage w.begins w.pages.items d (sym c.directory.ensures ∙ c.in-Some.is) in
    let within : w.begins ≤ length w.pages.items = omega (arith, w.begin, w.pages.ok) in
    ap (λ hs. slice_get hs c.args.i) held
    ∙ ap (slice_get (insert w.pages.items w.begins d)) c.if-i-self-2.true
    ∙ get_here w.pages.items w.begins d within

pub returns-else-i-self-2 : goal.returns-else-i-self-2
unfolding held_by
returns-else-i-self-2 c =
    let w = c.args.self.now in
    let d = c.in-Some.directory in
    let i = c.args.i - 1 in
    let held = held_some w.stage w.begins w.pages.items d (sym c.directory.ensures ∙ c.in-Some.is) in
    let within : w.begins ≤ length w.pages.items = omega (arith, w.begin, w.pages.ok) in
    let next : c.args.i ≡ suc (c.args.i - 1) = omega (arith, c.if-i-self.false, c.if-i-self-2.false) in
    let behind : w.begins ≤ c.args.i - 1 = omega (arith, c.if-i-self.false, c.if-i-self-2.false) in
    let inside : c.args.i - 1 < length w.pages.items = omega (arith, ap length held, length_insert w.pages.items w.begins d within) in
    ap (λ hs. slice_get hs c.args.i) held
    ∙ ap (slice_get (insert w.pages.items w.begins d)) next
    ∙ get_behind w.pages.items w.begins i d behind within
    ∙ read_at w.pages.items i c.index-else-i-self-2.result.now inside c.index-else-i-self-2.ensures
