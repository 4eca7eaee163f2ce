-- The kinds of faults, by name.
use Rattle.std.specs.Prelude.{ℕ, List, codes}
use Rattle.script_tokens.specs.declared.fault.FaultKind.{FaultKind}
use Rattle.script_tokens.specs.declared.fault.FaultKind.TheVariants as kind

-- the name of a kind
abbrev pub kind_text : FaultKind → List ℕ
kind_text kind.BadByte = codes "BadByte"
kind_text kind.UnknownStatement = codes "UnknownStatement"
kind_text kind.MissingWord = codes "MissingWord"
kind_text kind.ExtraWord = codes "ExtraWord"
kind_text kind.BadNumber = codes "BadNumber"
kind_text kind.OutOfRange = codes "OutOfRange"
kind_text kind.BadWord = codes "BadWord"
kind_text kind.Twice = codes "Twice"
kind_text kind.Late = codes "Late"
kind_text kind.Undeclared = codes "Undeclared"
kind_text kind.NotAllowed = codes "NotAllowed"
kind_text kind.WrongDevice = codes "WrongDevice"
