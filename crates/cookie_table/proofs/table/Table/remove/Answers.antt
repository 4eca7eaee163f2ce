use Rattle.std.proofs.Common.{arith, sym, ap, subst, ◌∙◌, ◌≡◌, Some, None}
use Rattle.std.proofs.lemmas.List.{get_or_read}
use Rattle.cookie_table.specs.Cookies.{value_of, without}
use Rattle.cookie_table.specs.Entries.{Finds, entry_at, rows}
use Rattle.cookie_table.proofs.Changes.{taken_at, taken_rows_at}
use Rattle.cookie_table.proofs.Rows.{fresh_cookie, without_fresh}
use Rattle.cookie_table.proofs.table.Table.remove.Goals as goal

pub returns-in_err-at-clause-rest : goal.returns-in_err-at-clause-rest
returns-in_err-at-clause-rest g c =
    let name = g.T.HasCookie.cookie_of in
    let inside = c.self.inside in
    let absent : Finds name inside.entries inside.order.items c.args.cookie None =
    subst (λ ks. Finds name inside.entries ks c.args.cookie None) c.deref.ensures.value c.in_err-at.ensures in
    let none : value_of name c.args.cookie c.args.self.now ≡ None = ap (value_of name c.args.cookie) (sym c.self.view_is) ∙ absent in
    sym (without_fresh name c.args.cookie c.args.self.now (fresh_cookie name c.args.cookie c.args.self.now none))

pub invariant_of-self : goal.invariant_of-self
invariant_of-self g c =
    let name = g.T.HasCookie.cookie_of in
    let inside = c.self.inside in
    let order = inside.order.items in
    let found : Finds name inside.entries order c.args.cookie (Some c.in_ok-at.at) =
    subst (λ ks. Finds name inside.entries ks c.args.cookie (Some c.in_ok-at.at)) c.deref.ensures.value c.in_ok-at.ensures in
    let key = c.remove-key.result in
    let read = get_or_read order c.in_ok-at.at key found.0 c.remove-key.ensures.value 0 in
    let there : entry_at inside.entries key ≡ Some found.1.0 = ap (entry_at inside.entries) read ∙ found.1.1 in
    let now = taken_at name inside.entries c.take.new.entries key found.1.0 order inside.others.items c.in_ok-at.at found.0 c.remove-key.ensures.value c.self.invariant.0 there c.take.ensures.updates in (
      rw (c.remove-key.ensures.by_index.2, c.push_reserved.ensures.items) now,
      omega (arith, c.remove-key.ensures.capacity, c.self.invariant.1),
      omega (arith, c.push_reserved.ensures.capacity, c.self.invariant.2),
    )

pub returns-clause-rest : goal.returns-clause-rest
returns-clause-rest g c =
    let name = g.T.HasCookie.cookie_of in
    let inside = c.self.inside in
    let order = inside.order.items in
    let found : Finds name inside.entries order c.args.cookie (Some c.in_ok-at.at) =
    subst (λ ks. Finds name inside.entries ks c.args.cookie (Some c.in_ok-at.at)) c.deref.ensures.value c.in_ok-at.ensures in
    let key = c.remove-key.result in
    let read = get_or_read order c.in_ok-at.at key found.0 c.remove-key.ensures.value 0 in
    let there : entry_at inside.entries key ≡ Some found.1.0 = ap (entry_at inside.entries) read ∙ found.1.1 in
    ap (rows c.take.new.entries) c.remove-key.ensures.by_index.2
    ∙ taken_rows_at name inside.entries c.take.new.entries key found.1.0 order inside.others.items c.in_ok-at.at found.0 c.remove-key.ensures.value c.self.invariant.0 there c.take.ensures.updates c.args.cookie found.1.2
    ∙ ap (without name c.args.cookie) c.self.view_is
