-- What a status says by itself: the number that the program ends with, whether all was written, and its text.
use Rattle.std.specs.Prelude.{ℕ, Bool, true, false, ◌&&◌, not, if◌then◌else◌, List, ◌++◌, codes}
use Rattle.std.specs.Fmt.{decimal}
use Rattle.scenario_text.specs.Texts.{kind_text}
use Rattle.scenario_cli.specs.declared.status.Status.{Status}
use Rattle.scenario_cli.specs.declared.status.Status.TheVariants.{Ok, Usage, Script, ReadFault}
use Rattle.scenario_cli.specs.declared.status.Status.TheVariants.{WriteFault, OutOfMemory, JournalFull, TooLong, NotLegal}

abbrev pub number_of : Status → ℕ
number_of Ok = 0
number_of Usage = 2
number_of (Script f) = 3
number_of ReadFault = 4
number_of WriteFault = 5
number_of OutOfMemory = 6
number_of JournalFull = 7
number_of TooLong = 8
number_of (NotLegal l) = 9

abbrev pub is_written : Status → Bool
is_written Ok = true
is_written Usage = false
is_written (Script f) = false
is_written ReadFault = false
is_written WriteFault = false
is_written OutOfMemory = false
is_written JournalFull = true
is_written TooLong = false
is_written (NotLegal l) = false

-- how the program ends once its output was flushed or not: with a fault exactly where the whole output was written and
-- the flush failed
abbrev pub ended_with : Status → (is_flushed : Bool) → Status
ended_with s is_flushed = if is_written s && not is_flushed then WriteFault else s

-- its name, and where the script is faulty
abbrev pub status_text : Status → List ℕ
status_text Ok = codes "Ok"
status_text Usage = codes "Usage"
status_text (Script f) = codes "Script " ++ (decimal f.line ++ (codes " " ++ (decimal f.column ++ (codes " " ++ kind_text f.kind))))
status_text ReadFault = codes "ReadFault"
status_text WriteFault = codes "WriteFault"
status_text OutOfMemory = codes "OutOfMemory"
status_text JournalFull = codes "JournalFull"
status_text TooLong = codes "TooLong"
status_text (NotLegal line) = codes "NotLegal " ++ decimal line
