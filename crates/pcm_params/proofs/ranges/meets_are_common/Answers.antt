use Rattle.pcm_params.proofs.Meets.{meets}
use Rattle.pcm_params.proofs.ranges.meets_are_common.Goals as goal

pub returns : goal.returns
returns c = meets
