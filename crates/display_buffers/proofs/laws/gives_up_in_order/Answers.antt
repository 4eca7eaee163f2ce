use Rattle.display_buffers.proofs.Order.{buffers_stay, first_goes, none_left}
use Rattle.display_buffers.proofs.laws.gives_up_in_order.Goals as goal

pub returns : goal.returns
returns c s = (first_goes s, buffers_stay s, none_left s)
