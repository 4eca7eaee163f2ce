use Rattle.std.proofs.Common.{◌≡◌, ◌∙◌, ap, length, arith}
use Rattle.connectors.specs.Connectors.{after_detach}
use Rattle.page_directory.proofs.Lists.{length_through, through_more}
use Rattle.display_backend.proofs.scene.Scene.detach.Goals as goal

pub loop-connector-preserved : goal.loop-connector-preserved
loop-connector-preserved c =
    let old = c.args.self.now in
    let loop = c.loop-connector in
    let four : length old.connectors ≡ 4 = old.four in
    let long : length loop.connector-items ≡ length old.connectors = ap length loop.invariant ∙ length_through (after_detach c.args.fb) old.connectors loop.connector-index in
    through_more (after_detach c.args.fb) old.connectors loop.connector-items loop.connector-index _ _ loop.invariant (omega (arith, four, long, c.loop-connector-test.true)) c.detached.ensures
