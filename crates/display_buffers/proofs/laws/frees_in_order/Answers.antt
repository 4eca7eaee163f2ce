use Rattle.display_buffers.proofs.Order.{first_of_one, none_under, others_stay, parted}
use Rattle.display_buffers.proofs.laws.frees_in_order.Goals as goal

pub returns : goal.returns
returns c cookie bs = (first_of_one cookie bs, others_stay cookie bs, none_under cookie bs, parted cookie bs)
