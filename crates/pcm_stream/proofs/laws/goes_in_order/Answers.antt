use Rattle.pcm_stream.proofs.Order.{all-in-order}
use Rattle.pcm_stream.proofs.laws.goes_in_order.Goals as goal

pub returns : goal.returns
returns c = all-in-order
