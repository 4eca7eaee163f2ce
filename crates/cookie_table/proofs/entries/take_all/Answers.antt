use Rattle.std.proofs.Common.{[], ◌++◌, ◌∷◌, arith, subst}
use Rattle.std.proofs.lemmas.List.{append-nil}
use Rattle.cookie_table.specs.Entries.{IsTable}
use Rattle.cookie_table.proofs.Changes.{taken}
use Rattle.cookie_table.proofs.entries.take_all.Goals as goal

pub loop-key-preserved : goal.loop-key-preserved
loop-key-preserved g c =
    let name = g.T.HasCookie.cookie_of in
    let rest = c.pop.new.self.items in
    let others = c.loop-key.others.items in
    let whole : IsTable name c.loop-key.entries (rest ++ c.in-Some.key ∷ []) others =
    subst (λ ks. IsTable name c.loop-key.entries ks others) c.in-Some.ensures.items c.loop-key.invariant.table in
    let now = taken name c.loop-key.entries c.take.new.entries c.in-Some.key c.take.result rest [] others whole c.take.ensures.taken c.take.ensures.updates in
    record {
      table = rw c.push_reserved.ensures.items (subst (λ ks. IsTable name c.take.new.entries ks (others ++ c.in-Some.key ∷ [])) (append-nil rest) now);
      order_room = omega (arith, c.in-Some.ensures.capacity, c.loop-key.invariant.order_room);
      others_room = omega (arith, c.push_reserved.ensures.capacity, c.loop-key.invariant.others_room);
    }
