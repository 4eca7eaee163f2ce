use Rattle.std.proofs.Common.{arith, sym, ap, subst, ◌∙◌}
use Rattle.display_buffers.specs.Buffers.{AreDistinct, cookies}
use Rattle.display_buffers.proofs.Lefts.{cookies_left, count_left}
use Rattle.display_buffers.proofs.left.LeftBuffers.count.Goals as goal

pub returns-clause-count : goal.returns-clause-count
returns-clause-count c =
    omega (arith, c.live.ensures.count, count_left c.self.inside.buffers c.args.self.now c.self.inside.releases.items c.self.view_is)

pub returns-clause-distinct : goal.returns-clause-distinct
returns-clause-distinct c =
    subst AreDistinct
    (sym (cookies_left c.self.inside.buffers c.self.inside.releases.items) ∙ ap cookies c.self.view_is)
    c.live.ensures.sound.distinct
