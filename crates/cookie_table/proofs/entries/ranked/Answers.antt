use Rattle.std.proofs.Common.{rules, ◌∙◌, ◌≡◌, Some, slice_index}
use Rattle.cookie_table.specs.Entries.{entry_at}
use Rattle.cookie_table.proofs.Rows.{row_at}
use Rattle.cookie_table.proofs.entries.ranked.Goals as goal

pub returns : goal.returns
returns g c =
    let there : entry_at c.args.entries.now (slice_index c.args.order.now c.args.rank) ≡ Some c.in-Some.value.now = search rules in
    row_at c.args.entries.now c.args.order.now c.args.rank c.requires.used c.requires.within ∙ there
