-- The lines of a journal.
use Rattle.std.specs.Prelude.{◌≡◌, ℕ, Bool, true, false, List, [], ◌∷◌, codes, if◌then◌else◌, ◌||◌, not, filter}
use Rattle.std.specs.Fmt.{decimal}
use Rattle.std.specs.List.{flat_map}
use Rattle.pv_words.specs.declared.entry.Entry.{Entry}
use Rattle.pv_words.specs.declared.entry.Entry.TheVariants as entry
use Rattle.report_text.specs.Accesses.{access_fields}
use Rattle.report_text.specs.Devices.{bus_fields, node_fields, said_fields}
use Rattle.report_text.specs.Fields.{line_of_fields}
use Rattle.report_text.specs.Grants.{told_fields}
use Rattle.report_text.specs.Hosts.{event_fields, host_refusal_fields}

-- the fields of an entry's line
abbrev pub entry_fields : Entry → List (List ℕ)
entry_fields (entry.Front dom access) = codes "front" ∷ decimal dom.0 ∷ access_fields access
entry_fields (entry.Wake dev) = codes "wake" ∷ decimal dev.0 ∷ []
entry_fields (entry.Back dev access) = codes "back" ∷ decimal dev.0 ∷ access_fields access
entry_fields (entry.Host dev event) = codes "host" ∷ decimal dev.0 ∷ event_fields event
entry_fields (entry.Refused dev refusal) = codes "refused" ∷ decimal dev.0 ∷ host_refusal_fields refusal
entry_fields (entry.Bus dev end state) = bus_fields dev.0 end state
entry_fields (entry.Node dev part key value) = node_fields dev.0 part key value
entry_fields (entry.Said dev said) = said_fields dev.0 said
entry_fields (entry.Told dom told) = told_fields dom.0 told

-- whether an entry has a line only in a report with the words: an access, a device that was woken,
-- what its host told it, or a node that was set
abbrev pub is_with_words_only : Entry → Bool
is_with_words_only (entry.Front _ _) = true
is_with_words_only (entry.Wake _) = true
is_with_words_only (entry.Back _ _) = true
is_with_words_only (entry.Host _ _) = true
is_with_words_only (entry.Refused _ _) = false
is_with_words_only (entry.Bus _ _ _) = false
is_with_words_only (entry.Node _ _ _ _) = true
is_with_words_only (entry.Said _ _) = false
is_with_words_only (entry.Told _ _) = false

-- whether an entry has a line
abbrev pub has_line : Entry → Bool → Bool
has_line e with_words = with_words || not (is_with_words_only e)

-- the line of an entry, empty where it has none
unfoldable pub line : Entry → Bool → List ℕ
line e with_words = if has_line e with_words then line_of_fields (entry_fields e) else []

-- the lines of the entries, one after another
abbrev pub text : List Entry → Bool → List ℕ
text entries with_words = flat_map (λ e. line e with_words) entries

-- a report without words has the lines of the report with words that belong to entries which have one without words
abbrev pub PlainIsPart : Type 0
PlainIsPart = (entries : List Entry) → text entries false ≡ text (filter (λ e. has_line e false) entries) true
