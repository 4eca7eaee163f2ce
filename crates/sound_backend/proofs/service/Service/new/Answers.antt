use Rattle.std.proofs.Common.{None, length, ap, ◌∙◌}
use Rattle.page_directory.specs.declared.progress.Progress.TheVariants as progress
use Rattle.sound_backend.specs.Stock.{pages_of}
use Rattle.sound_backend.specs.Store.{stock_of}
use Rattle.sound_backend.proofs.Lists.{none_among}
use Rattle.sound_backend.proofs.Serviced.{knowing}
use Rattle.sound_backend.proofs.Streams.{fresh_stock}
use Rattle.sound_backend.proofs.service.Service.new.Goals as goal

pub returns-clause-fresh : goal.returns-clause-fresh
returns-clause-fresh c =
    ap (λ s. knowing s None progress.Decided) (fresh_stock c.args.kinds.now (stock_of c.in_ok-new.field-0) c.in_ok-new.ensures.closed)

pub returns-clause-bare : goal.returns-clause-bare
returns-clause-bare c = ap pages_of c.in_ok-new.ensures.closed ∙ none_among (length c.args.kinds.now)
