use Rattle.std.proofs.Common.{sym, subst}
use Rattle.std.specs.List.{AllByRecursion}
use Rattle.cookie_table.proofs.Names.{all_without}
use Rattle.display_buffers.specs.Buffers.{cookie_of}
use Rattle.display_buffers.specs.Pixels.{IsWhole}
use Rattle.display_buffers.proofs.buffers.Buffers.destroy.Goals as goal

pub invariant_of-self : goal.invariant_of-self
invariant_of-self g c =
    let whole = IsWhole g.P.PageList.holds in
    subst (AllByRecursion whole) (sym c.remove.ensures.rest) (all_without cookie_of whole c.args.cookie c.self.inside.table c.self.invariant)

pub invariant_of-self-2 : goal.invariant_of-self-2
invariant_of-self-2 g c =
    let whole = IsWhole g.P.PageList.holds in
    subst (AllByRecursion whole) (sym c.remove.ensures.rest) (all_without cookie_of whole c.args.cookie c.self.inside.table c.self.invariant)
