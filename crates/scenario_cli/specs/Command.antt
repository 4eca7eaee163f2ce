-- What the words of the command line ask for.
use Rattle.std.specs.Prelude.{ℕ, Bool, true, false, ◌&&◌, if◌then◌else◌, List, []}
use Rattle.std.specs.Prelude.{◌∷◌, codes, Option, Some, None, String, string_bytes, bytes_eq}
use Rattle.scenario_cli.specs.declared.command.Command.{Command}
use Rattle.scenario_cli.specs.declared.command.Command.TheVariants.{Run}

-- whether a word has these octets
abbrev pub is_word : {A : Type 0} → String A → List ℕ → Bool
is_word word octets = bytes_eq (string_bytes word) octets

-- the command that these words ask for: `run` alone, or `run --words` with a line for every entry; no other words are a command
abbrev pub command_of : {A : Type 0} → List (String A) → Option Command
command_of [] = None
command_of (first ∷ []) = if is_word first (codes "run") then Some (Run false) else None
command_of (first ∷ second ∷ []) = if is_word first (codes "run") && is_word second (codes "--words") then Some (Run true) else None
command_of (first ∷ second ∷ third ∷ others) = None
