use Rattle.std.proofs.Common.{◌<◌, arith, ap, length}
use Rattle.std.proofs.lemmas.List.{take_all}
use Rattle.sound_backend.specs.Held.{pages_in}
use Rattle.sound_backend.proofs.Lists.{pages_more}
use Rattle.sound_backend.proofs.held.PageLists.find.Goals as goal

pub returns-then-rest-held : goal.returns-then-rest-held
returns-then-rest-held c = (omega (arith, c.if-rest-held.true, c.held_at-held.ensures.count), c.loop-k.invariant)

pub loop-k-preserved : goal.loop-k-preserved
loop-k-preserved c =
    let within : c.loop-k.k < length c.args.self.now = omega arith in
    omega (arith, c.loop-k.invariant, c.held_at-held.ensures.count, c.if-rest-held.false, pages_more c.args.self.now c.loop-k.k within)

pub unreachable-requires : goal.unreachable-requires
unreachable-requires c =
    let all = ap (λ lists. length (pages_in lists)) (take_all c.loop-k.k c.args.self.now (omega arith)) in
    omega (arith, c.requires, c.loop-k.invariant, all)
