-- The text of a fault.
use Rattle.std.specs.Prelude.{ℕ, List, ◌++◌, codes}
use Rattle.std.specs.Fmt.{decimal}
use Rattle.scenario_text.specs.declared.fault.ScriptFault.{ScriptFault}
use Rattle.scenario_text.specs.declared.fault.ParseFault.{ParseFault}
use Rattle.scenario_text.specs.declared.fault.ParseFault.TheVariants.{Fault, OutOfMemory}
pub use Rattle.script_tokens.specs.Kinds.{kind_text}

-- where a script is faulty, and how
abbrev pub fault_text : ScriptFault → List ℕ
fault_text f = codes "line " ++ (decimal f.line ++ (codes ", column " ++ (decimal f.column ++ (codes ": " ++ kind_text f.kind))))

-- why a text wasn't read
abbrev pub parse_fault_text : ParseFault → List ℕ
parse_fault_text (Fault f) = fault_text f
parse_fault_text OutOfMemory = codes "out of memory"
