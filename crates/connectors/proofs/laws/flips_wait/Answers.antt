use Rattle.std.proofs.Common.{refl}
use Rattle.connectors.proofs.Showing.{configured_pending, detached_pending, flips_alone}
use Rattle.connectors.proofs.laws.flips_wait.Goals as goal

pub returns : goal.returns
returns c = record {
  alone = flips_alone;
  begins = λ k fb. refl;
  configures = configured_pending;
  detaches = λ k fb. detached_pending fb k.flip;
  ends = λ k. refl;
}
