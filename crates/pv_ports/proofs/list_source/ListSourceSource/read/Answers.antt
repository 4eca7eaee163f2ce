use Rattle.std.proofs.Common.{◌≡◌, ◌-◌, length, take, drop, arith}
use Rattle.std.proofs.lemmas.Slice.{between_to_end}
use Rattle.pv_ports.proofs.Octets.{drop-between}
use Rattle.pv_ports.proofs.list_source.ListSourceSource.read.Goals as goal

pub returns-clause-gave : goal.returns-clause-gave
returns-clause-gave c =
    let bytes = c.deref.result.now in
    let at = c.args.self.now.at in
    let rest : take (length bytes - at) (drop at bytes) ≡ drop at bytes = between_to_end bytes at (length bytes) (omega arith) in
    drop-between c.args.self.now.bytes.items at c.copy_front-count.result _ (rw (rest, c.deref.ensures.value) at c.copy_front-count.ensures.front)
