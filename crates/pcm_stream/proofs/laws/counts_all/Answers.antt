use Rattle.pcm_stream.proofs.Counts.{all-counted}
use Rattle.pcm_stream.proofs.laws.counts_all.Goals as goal

pub returns : goal.returns
returns c = all-counted
