use Rattle.std.proofs.Common.{length, ap, ◌∙◌}
use Rattle.sound_backend.proofs.Lists.{length_first}
use Rattle.sound_backend.proofs.store.Store.unmap_first.Goals as goal

pub invariant_of-self-2 : goal.invariant_of-self-2
invariant_of-self-2 g c =
    let d = c.args.self.now in
    record { same = ap length c.unmap_first-2.ensures.less ∙ (length_first d.held ∙ d.same) }
