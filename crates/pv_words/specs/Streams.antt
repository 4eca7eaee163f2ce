-- The streams that a sound device is declared with.
use Rattle.std.specs.Prelude.{List, [], ◌∷◌}
use Rattle.pv_words.specs.declared.device.StreamKind.{StreamKind}
use Rattle.pv_words.specs.declared.streams.Streams.{Streams}
use Rattle.pv_words.specs.declared.streams.Streams.TheVariants.{One, Two, Three, Four}

-- their kinds, in order
abbrev pub kinds_in : Streams → List StreamKind
kinds_in (One first) = first ∷ []
kinds_in (Two first second) = first ∷ second ∷ []
kinds_in (Three first second third) = first ∷ second ∷ third ∷ []
kinds_in (Four first second third fourth) = first ∷ second ∷ third ∷ fourth ∷ []
