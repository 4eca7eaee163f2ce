-- What a report without words has of the one with them.
use Rattle.std.proofs.Common.{◌≡◌, ℕ, Bool, true, false, List, [], ◌∷◌, ◌++◌, refl, ap, ◌∙◌, filter, not, if◌then◌else◌}
use Rattle.pv_words.specs.declared.entry.Entry.{Entry}
use Rattle.report_text.specs.Fields.{line_of_fields}
use Rattle.report_text.specs.Report.{entry_fields, is_with_words_only, has_line, line, text, PlainIsPart}

-- the first entry's line is kept with the entry, where it has one without words
first_line : (only : Bool) (full behind : List ℕ) (first : Entry) (others : List Entry) → full ≡ line first true → behind ≡ text others true → (if not only then full else []) ++ behind ≡ text (if not only then first ∷ others else others) true
first_line true full behind first others is rest = rest
first_line false full behind first others is rest = ap (λ piece. piece ++ behind) is ∙ ap (λ lines. line first true ++ lines) rest

pub plain_is_part : PlainIsPart
unfolding line
plain_is_part [] = refl
plain_is_part (e ∷ es) = first_line (is_with_words_only e) (line_of_fields (entry_fields e)) (text es false) e (filter (λ x. has_line x false) es) refl (plain_is_part es)
