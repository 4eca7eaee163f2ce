use Rattle.std.proofs.Common.{◌≡◌, ◌+◌, ◌-◌, ◌<◌, ◌≤◌, List, length, drop, slice_get, refl, sym, ap, ◌∙◌, length-append, arith}
use Rattle.link_core.specs.declared.link.Link.{Link}
use Rattle.link_core.specs.Link.{held_of as link_held}
use Rattle.device_service.specs.Doing.{all_held}
use Rattle.device_service.specs.Parts.{held_of}
use Rattle.device_service.proofs.Lists.{drop_get, drop_past, get_left, get_right}
use Rattle.device_service.proofs.Holding.Held.{here}
use Rattle.device_service.proofs.parts.Parts.hold_at.Goals as goal

pub loop-part-init : goal.loop-part-init
unfolding held_of
loop-part-init c = (c.requires, refl)

pub loop-part-preserved : goal.loop-part-preserved
unfolding held_of
loop-part-preserved c =
    let d = c.args.self.now in
    let part = c.loop-part.part in
    let l = c.index.result.now in
    let place = c.loop-part.place in
    let rest = all_held (drop (part + 1) d.links.items) in
    let short : part < length d.links.items = omega arith in
    let at = here d.links.items part l _ short c.index.ensures in
    let pages = ap (λ (ls : List Link). all_held ls) (drop_get d.links.items part l at) in
    let long = ap (λ hs. length hs) pages ∙ length-append (link_held l) rest in
    let lt = c.loop-part.invariant.0 in
    let past : length (link_held l) ≤ place = omega (arith, c.held-here.ensures, c.if-place-here.false) in (
      omega (arith, long, lt, c.held-here.ensures, past),
      ap (λ n. slice_get rest (place - n)) c.held-here.ensures
          ∙ (sym (get_right (link_held l) rest place past) ∙ (ap (λ hs. slice_get hs place) (sym pages) ∙ c.loop-part.invariant.1)),
    )

pub returns-then-place-here : goal.returns-then-place-here
unfolding held_of
returns-then-place-here c =
    let d = c.args.self.now in
    let part = c.loop-part.part in
    let l = c.index-then-place-here.result.now in
    let place = c.loop-part.place in
    let short : part < length d.links.items = omega arith in
    let at = here d.links.items part l _ short c.index-then-place-here.ensures in
    sym c.loop-part.invariant.1
    ∙ (ap (λ (ls : List Link). slice_get (all_held ls) place) (drop_get d.links.items part l at)
    ∙ get_left (link_held l) (all_held (drop (part + 1) d.links.items)) place c.hold_at.result c.hold_at.ensures)

pub unreachable-requires : goal.unreachable-requires
unfolding held_of
unreachable-requires c =
    let d = c.args.self.now in
    let rest : length (all_held (drop c.loop-part.part d.links.items)) ≡ 0 = ap (λ (ls : List Link). length (all_held ls)) (drop_past d.links.items c.loop-part.part (omega arith)) in
    let lt = c.loop-part.invariant.0 in
    omega (arith, rest, lt)
