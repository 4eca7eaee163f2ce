-- How the reading of a picture goes on.
use Rattle.std.specs.Prelude.{List}
use Rattle.pv_words.specs.declared.access.Turn.{Turn}
use Rattle.pv_words.specs.Plan.{Turns}
use Rattle.display_buffers.specs.Stock.{Held}
use Rattle.picture_scan.specs.declared.scan.Shown.{Shown}
use Rattle.display_backend.specs.declared.picture.Reading.{Reading}
use Rattle.display_backend.specs.Course.{scan_left}

-- its next load leads on so
abbrev pub ScansOn : List Held → (old : Reading) → Turn Shown → (new : Reading) → Type 0
ScansOn bs old turn new = Turns (scan_left bs old) turn.access turn.done (scan_left bs new)
