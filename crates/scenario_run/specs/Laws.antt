-- What is so of all legal journals.
use Rattle.std.specs.Prelude.{◌≡◌, List}
use Rattle.pv_words.specs.declared.entry.Entry.{Entry}
use Rattle.pv_words.specs.Sizes.{frames_by, grants_by}
use Rattle.scenario_text.specs.Scenario.{Scenario}
use Rattle.backend_core.specs.History.{IsAmple}
use Rattle.backend_core.specs.Marked.{Item}
use Rattle.scenario_run.specs.Legal.{IsLegal}

-- in the scenario's world no device began to answer that memory was wanting
abbrev pub IsAmpleFor : Scenario → List Item → Type 0
IsAmpleFor s m = IsAmple (frames_by s.sizes) (grants_by s.sizes) s.devices m

-- Two legal journals of one scenario, in neither of which a device began to answer that memory was wanting, are equal.
abbrev pub LegalJournalsAreOne : Type 0
LegalJournalsAreOne =
    (s : Scenario) (es fs : List Entry) (a : IsLegal s es) (b : IsLegal s fs) → IsAmpleFor s a.marked → IsAmpleFor s b.marked → es ≡ fs
