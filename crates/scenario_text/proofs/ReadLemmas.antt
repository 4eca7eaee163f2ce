-- Reading a text line by line, as a loop does.
use Rattle.std.proofs.Common.{◌≡◌, ◌≢◌, ◌⊎◌, ℕ, ◌+◌, true, List, [], length, Option, Some, None, IsSome, Result, Ok, Err, refl, sym, ap, ◌∙◌, inl, inr}
use Rattle.std.specs.List.{before_first, after_first}
use Rattle.std.proofs.lemmas.List.{nil_from_length}
use Rattle.scenario_text.specs.declared.draft.Item.{Item}
use Rattle.script_tokens.specs.declared.fault.Flaw.{Flaw}
use Rattle.scenario_text.specs.declared.fault.ScriptFault.{ScriptFault}
use Rattle.script_tokens.specs.Lines.{is_line_end, lines}
use Rattle.scenario_text.specs.Scenario.{Scenario, nothing, with_item}
use Rattle.scenario_text.specs.Reading.{line_item, scenario_from, scenario_of, or_behind, holds_item}
use Rattle.script_tokens.proofs.LineLemmas.{first_line, no_lines}

pub begins : (text : List ℕ) → scenario_from 1 (lines text) nothing ≡ scenario_of text
unfolding scenario_of
begins text = refl

pub goes_on : (line : ℕ) (text : List ℕ) (so_far : Scenario) (item : Option Item) (total : Result Scenario ScriptFault) → length text ≢ 0 → line_item so_far (before_first is_line_end text) ≡ Ok item
    → scenario_from line (lines text) so_far ≡ total → scenario_from (line + 1) (lines (after_first is_line_end text)) (with_item item so_far) ≡ total
unfolding scenario_from
goes_on line text so_far item total some found same =
    let one : scenario_from line (lines text) so_far ≡ scenario_from (line + 1) (lines (after_first is_line_end text)) (with_item item so_far) = rw (first_line text some, found) refl in
    sym one ∙ same

pub stops : (line : ℕ) (text : List ℕ) (so_far : Scenario) (flaw : Flaw) (total : Result Scenario ScriptFault) → length text ≢ 0 → line_item so_far (before_first is_line_end text) ≡ Err flaw
    → scenario_from line (lines text) so_far ≡ total → total ≡ Err (record { line = line; column = flaw.column; kind = flaw.kind })
unfolding scenario_from
stops line text so_far flaw total some found same =
    let one : scenario_from line (lines text) so_far ≡ Err (record { line = line; column = flaw.column; kind = flaw.kind }) = rw (first_line text some, found) refl in
    sym same ∙ one

pub is_over : (line : ℕ) (text : List ℕ) (so_far : Scenario) (total : Result Scenario ScriptFault) → length text ≡ 0 → scenario_from line (lines text) so_far ≡ total → total ≡ Ok so_far
unfolding scenario_from
is_over line text so_far total none same =
    let nothing_left : lines text ≡ [] = ap lines (nil_from_length text none) ∙ no_lines in
    let one : scenario_from line (lines text) so_far ≡ Ok so_far = rw nothing_left refl in
    sym same ∙ one

-- ---- whether a line held an item

-- some line of the text holds an item; or the lines that were read hold nothing, and those that are left decide
abbrev pub HeldSoFar : (text rest : List ℕ) → Scenario → Type 0
HeldSoFar text rest so_far = (holds_item (lines text) ≡ true) ⊎ ((so_far ≡ nothing) × (holds_item (lines rest) ≡ holds_item (lines text)))

next_held : (rest : List ℕ) (found : Result (Option Item) Flaw) → length rest ≢ 0 → line_item nothing (before_first is_line_end rest) ≡ found
    → holds_item (lines rest) ≡ or_behind found (holds_item (lines (after_first is_line_end rest)))
unfolding holds_item
next_held rest found some is = rw (first_line rest some, is) refl

pub item_held : (text rest : List ℕ) (so_far : Scenario) (item : Option Item) → length rest ≢ 0 → line_item so_far (before_first is_line_end rest) ≡ Ok item → HeldSoFar text rest so_far → IsSome item → holds_item (lines text) ≡ true
item_held text rest so_far None some found before is = absurd cc
item_held text rest so_far (Some item) some found (inl held) is = held
item_held text rest so_far (Some item) some found (inr p) is = sym p.1 ∙ next_held rest (Ok (Some item)) some (rw p.0 at found)

pub held_on : (text rest : List ℕ) (so_far : Scenario) (item : Option Item) → length rest ≢ 0 → line_item so_far (before_first is_line_end rest) ≡ Ok item → HeldSoFar text rest so_far
    → HeldSoFar text (after_first is_line_end rest) (with_item item so_far)
held_on text rest so_far (Some item) some found before = inl (item_held text rest so_far (Some item) some found before refl)
held_on text rest so_far None some found (inl held) = inl held
held_on text rest so_far None some found (inr p) = inr (p.0, sym (next_held rest (Ok None) some (rw p.0 at found)) ∙ p.1)
