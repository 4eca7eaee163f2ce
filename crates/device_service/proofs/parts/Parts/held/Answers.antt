use Rattle.std.proofs.Common.{◌≡◌, ◌+◌, ◌*◌, ◌<◌, ◌≤◌, List, length, drop, ap, ◌∙◌, length-append, arith}
use Rattle.link_core.specs.declared.link.Link.{Link}
use Rattle.link_core.specs.Link.{held_of as link_held}
use Rattle.link_core.proofs.Links.{holds_at_most}
use Rattle.device_service.specs.Doing.{all_held}
use Rattle.device_service.specs.Parts.{held_of}
use Rattle.device_service.proofs.Lists.{drop_get, drop_past}
use Rattle.device_service.proofs.Holding.Held.{here}
use Rattle.device_service.proofs.parts.Parts.held.Goals as goal

pub overflow_add-count : goal.overflow_add-count
overflow_add-count c =
    let d = c.args.self.now in
    let most = holds_at_most c.index.result.now in
    let few = d.whole.few in
    let before : c.loop-part.count ≤ 2 * c.loop-part.part = c.loop-part.invariant.1 in
    omega (arith, most, few, before, c.held-count.ensures)

pub loop-part-init : goal.loop-part-init
loop-part-init c = (omega arith, omega arith)

pub loop-part-preserved : goal.loop-part-preserved
loop-part-preserved c =
    let d = c.args.self.now in
    let part = c.loop-part.part in
    let l = c.index.result.now in
    let short : part < length d.links.items = omega arith in
    let at = here d.links.items part l _ short c.index.ensures in
    let split : length (all_held (drop part d.links.items)) ≡ length (link_held l) + length (all_held (drop (part + 1) d.links.items)) =
    ap (λ (ls : List Link). length (all_held ls)) (drop_get d.links.items part l at) ∙ length-append (link_held l) (all_held (drop (part + 1) d.links.items)) in
    let whole = c.loop-part.invariant.0 in
    let before = c.loop-part.invariant.1 in
    let most = holds_at_most l in
    (omega (arith, split, whole, c.held-count.ensures), omega (arith, before, most, c.held-count.ensures))

pub returns-clause-count : goal.returns-clause-count
unfolding held_of
returns-clause-count c =
    let d = c.args.self.now in
    let rest : length (all_held (drop c.loop-part.part d.links.items)) ≡ 0 = ap (λ (ls : List Link). length (all_held ls)) (drop_past d.links.items c.loop-part.part (omega arith)) in
    let whole = c.loop-part.invariant.0 in
    omega (arith, rest, whole)

pub returns-clause-few : goal.returns-clause-few
returns-clause-few c =
    let few = c.args.self.now.whole.few in
    let most = c.loop-part.invariant.1 in
    omega (arith, few, most)
