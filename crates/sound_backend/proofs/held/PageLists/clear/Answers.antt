use Rattle.std.proofs.Common.{[], arith, ap, List, length}
use Rattle.pv_words.specs.declared.grant.Hold.{Hold}
use Rattle.page_directory.proofs.Lists.{all_taken, through_more}
use Rattle.sound_backend.proofs.held.PageLists.clear.Goals as goal

abbrev none_of : List Hold → List Hold
none_of _ = []

pub loop-list-preserved : goal.loop-list-preserved
loop-list-preserved c =
    through_more none_of c.args.self.now c.loop-list.list-items c.loop-list.list-index c.take.new.self c.list-item.result c.loop-list.invariant (omega (arith, c.loop-list-test.true)) c.take.ensures.none

pub returns : goal.returns
returns c =
    all_taken none_of c.args.self.now c.loop-list.list-items _ c.loop-list.list-index c.self.inside.lists.len c.loop-list.invariant (omega (arith, c.loop-list-test.false)) (omega (arith, c.self.inside.lists.ok.0, ap length c.self.view_is))
