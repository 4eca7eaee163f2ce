-- A port that may touch every place in range, and that keeps, lists and tells nothing.
use Rattle.std.specs.Prelude.{true, false, None}
use Rattle.pv_words.specs.Port.{Port, no_listing}

abbrev pub free_port : Port
free_port =
    record { device = None; serves = λ dom. true; everywhere = true; keeps = λ dom. false; opens = λ dom gref. None; listed = λ d. no_listing; told = λ at. None }
