use Rattle.std.proofs.Common.{◌≡◌, drop}
use Rattle.pv_words.specs.Sizes.{frames_by, grants_by}
use Rattle.pv_words.proofs.list_words.size_of.Given as goal

-- no domain so far is the one
abbrev pub invariant-loop-size : goal.invariant-loop-size
invariant-loop-size l = record {
  frames : frames_by (drop l.size-index l.sizes) l.dom ≡ frames_by l.sizes l.dom;
  grants : grants_by (drop l.size-index l.sizes) l.dom ≡ grants_by l.sizes l.dom;
}
