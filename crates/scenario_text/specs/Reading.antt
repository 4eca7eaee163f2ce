-- What a text says, line by line, up to its first fault.
use Rattle.std.specs.Prelude.{◌≡◌, ℕ, ◌+◌, Bool, true, false, List, [], ◌∷◌, Option, Some, None, Result, Ok, Err}
use Rattle.scenario_text.specs.declared.draft.Item.{Item}
use Rattle.script_tokens.specs.declared.fault.Flaw.{Flaw}
use Rattle.scenario_text.specs.declared.fault.ScriptFault.{ScriptFault}
use Rattle.scenario_text.specs.declared.fault.ParseFault.{ParseFault}
use Rattle.scenario_text.specs.declared.fault.ParseFault.TheVariants.{Fault, OutOfMemory}
use Rattle.script_tokens.specs.Flaws.{◌>>=◌}
use Rattle.script_tokens.specs.Lines.{lines, code_of}
use Rattle.scenario_text.specs.Scenario.{Scenario, nothing, with_item}
use Rattle.scenario_text.specs.Items.{item_of}

-- what a line holds
unfoldable pub line_item : Scenario → List ℕ → Result (Option Item) Flaw
line_item so_far line = code_of line >>= λ code. item_of so_far code

-- a fault of a line is one of this line's number
abbrev pub at_line : {A : Type 0} → ℕ → Result A Flaw → Result A ScriptFault
at_line line (Ok x) = Ok x
at_line line (Err f) = Err (record { line = line; column = f.column; kind = f.kind })

-- what lines say of which the first has this number, after what the lines before it say
unfoldable pub scenario_from : ℕ → List (List ℕ) → Scenario → Result Scenario ScriptFault
scenario_from line [] so_far = Ok so_far
scenario_from line (l ∷ ls) so_far = at_line line (line_item so_far l) >>= λ item. scenario_from (line + 1) ls (with_item item so_far)

-- what a text says, or its first fault
unfoldable pub scenario_of : List ℕ → Result Scenario ScriptFault
scenario_of text = scenario_from 1 (lines text) nothing

-- whether a line holds an item, and where it holds nothing whether one behind it does
abbrev pub or_behind : Result (Option Item) Flaw → Bool → Bool
or_behind (Ok (Some item)) behind = true
or_behind (Ok None) behind = behind
or_behind (Err f) behind = false

-- whether some of the lines holds an item, before the first fault: the first line that isn't blank does
unfoldable pub holds_item : List (List ℕ) → Bool
holds_item [] = false
holds_item (l ∷ ls) = or_behind (line_item nothing l) (holds_item ls)

-- what reading a text returned, seen by view: what the text says or its first fault; and memory may run out for an item
abbrev pub Tells : {X : Type 0} → (X → Scenario) → Result X ParseFault → List ℕ → Type 0
Tells view (Ok x) text = scenario_of text ≡ Ok (view x)
Tells view (Err (Fault f)) text = scenario_of text ≡ Err f
Tells view (Err OutOfMemory) text = holds_item (lines text) ≡ true
