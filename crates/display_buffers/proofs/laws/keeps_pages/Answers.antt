use Rattle.display_buffers.proofs.Order.{creating_keeps, destroying_keeps}
use Rattle.display_buffers.proofs.laws.keeps_pages.Goals as goal

pub returns : goal.returns
returns c s = (creating_keeps s, destroying_keeps s)
