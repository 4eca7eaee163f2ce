use Rattle.std.proofs.Common.{arith, sym, ap, subst, ◌∙◌, length, [], ◌∷◌, ◌++◌}
use Rattle.cookie_table.specs.Cookies.{cookies, IsFresh}
use Rattle.cookie_table.specs.Entries.{IsTable, IsUnused, rows}
use Rattle.cookie_table.proofs.Changes.{pushed, pushed_rows}
use Rattle.cookie_table.proofs.Keys.{all_middle}
use Rattle.cookie_table.proofs.Rows.{fresh_cookie, length_rows}
use Rattle.cookie_table.proofs.table.Table.push.Goals as goal

pub unreachable-requires : goal.unreachable-requires
unreachable-requires g c =
    let count = length_rows c.self.inside.entries c.self.inside.order.items c.self.invariant.0.used in
    omega (arith, c.requires.room, count, ap length c.self.view_is, c.self.invariant.0.number, c.in_default.ensures.cases.0, c.self.inside.others.ok)

pub put-requires : goal.put-requires
put-requires g c =
    let inside = c.self.inside in
    let table = subst (λ ks. IsTable g.T.HasCookie.cookie_of inside.entries inside.order.items ks) c.in-Some.ensures.items c.self.invariant.0 in
    all_middle (IsUnused inside.entries) c.pop.new.self.items c.in-Some.key [] table.unused

pub invariant_of-self : goal.invariant_of-self
invariant_of-self g c =
    let name = g.T.HasCookie.cookie_of in
    let inside = c.self.inside in
    let order = inside.order.items in
    let table = subst (λ ks. IsTable name inside.entries order ks) c.in-Some.ensures.items c.self.invariant.0 in
    let fresh : IsFresh (name c.args.value) (cookies name (rows inside.entries order)) =
    subst (λ xs. IsFresh (name c.args.value) (cookies name xs)) (sym c.self.view_is) (fresh_cookie name (name c.args.value) c.args.self.now c.requires.fresh) in
    let now = pushed name inside.entries c.put.new.entries c.in-Some.key c.args.value order c.pop.new.self.items table c.put.ensures fresh in (
      rw c.push_reserved.ensures.items now,
      omega (arith, c.push_reserved.ensures.capacity, c.self.invariant.1),
      omega (arith, c.in-Some.ensures.capacity, c.self.invariant.2),
    )

pub returns : goal.returns
returns g c =
    let name = g.T.HasCookie.cookie_of in
    let inside = c.self.inside in
    let order = inside.order.items in
    let table = subst (λ ks. IsTable name inside.entries order ks) c.in-Some.ensures.items c.self.invariant.0 in
    ap (rows c.put.new.entries) c.push_reserved.ensures.items
    ∙ pushed_rows name inside.entries c.put.new.entries c.in-Some.key c.args.value order c.pop.new.self.items table c.put.ensures
    ∙ ap (λ xs. xs ++ c.args.value ∷ []) c.self.view_is
