-- A text that is written a line at a time.
use Rattle.std.proofs.Common.{◌≡◌, ℕ, ◌+◌, Bool, List, [], ◌∷◌, ◌++◌, Option, Some, take, drop, ◌∙◌, ap, sym}
use Rattle.std.proofs.lemmas.List.{take-append-drop, take_more, append-nil, append_assoc}
use Rattle.std.proofs.lemmas.List.Concat.{flat_map-append}
use Rattle.std.proofs.lemmas.Option.{get_or_from_slice_get, slice_get_within}
use Rattle.std.specs.List.{slice_get}
use Rattle.pv_words.specs.declared.entry.Entry.{Entry}
use Rattle.pv_ports.specs.Port.{Appended, AppendedPrefix}
use Rattle.pv_ports.proofs.Octets.{Appended-append, AppendedPrefix-append, AppendedPrefix-longer}
use Rattle.report_text.specs.Report.{line, text}

-- the lines of the entries up to this one are those before it, and its own
text_more : (es : List Entry) (i : ℕ) (with_words : Bool) (e : Entry) → slice_get es i ≡ Some e → text (take (i + 1) es) with_words ≡ text (take i es) with_words ++ line e with_words
text_more es i with_words e here =
    let up : take (i + 1) es ≡ take i es ++ e ∷ [] =
    take_more es i e (slice_get_within es i e here) ∙ ap (λ x. take i es ++ x ∷ []) (get_or_from_slice_get es i e e here) in
    ap (λ xs. text xs with_words) up
    ∙ flat_map-append (λ x. line x with_words) (take i es) (e ∷ [])
    ∙ ap (λ xs. text (take i es) with_words ++ xs) (append-nil (line e with_words))

-- all lines before it are written, and then its own
pub Appended-line : (old mid new : Option (List ℕ)) (es : List Entry) (i : ℕ) (with_words : Bool) (e : Entry) (piece : List ℕ) → slice_get es i ≡ Some e → piece ≡ line e with_words → Appended old mid (text (take i es) with_words) → Appended mid new piece → Appended old new (text (take (i + 1) es) with_words)
Appended-line old mid new es i with_words e piece here is written more =
    let last : Appended mid new (line e with_words) = (rw is at more) in
    let up : text (take (i + 1) es) with_words ≡ text (take i es) with_words ++ line e with_words = text_more es i with_words e here in
    rw up (Appended-append old mid new (text (take i es) with_words) (line e with_words) written last)

-- a front of its line after all lines before it is a front of the text
pub AppendedPrefix-line : (old mid new : Option (List ℕ)) (es : List Entry) (i : ℕ) (with_words : Bool) (e : Entry) (piece : List ℕ) → slice_get es i ≡ Some e → piece ≡ line e with_words → Appended old mid (text (take i es) with_words) → AppendedPrefix mid new piece → AppendedPrefix old new (text es with_words)
AppendedPrefix-line old mid new es i with_words e piece here is written front =
    let first : AppendedPrefix mid new (line e with_words) = rw is at front in
    let split : text es with_words ≡ text (take i es) with_words ++ (line e with_words ++ text (drop (i + 1) es) with_words) =
    sym (ap (λ xs. text xs with_words) (take-append-drop (i + 1) es))
    ∙ flat_map-append (λ x. line x with_words) (take (i + 1) es) (drop (i + 1) es)
    ∙ ap (λ xs. xs ++ text (drop (i + 1) es) with_words) (text_more es i with_words e here)
    ∙ append_assoc (text (take i es) with_words) (line e with_words) (text (drop (i + 1) es) with_words) in
    rw split (AppendedPrefix-append old mid new (text (take i es) with_words) (line e with_words ++ text (drop (i + 1) es) with_words) written (AppendedPrefix-longer mid new (line e with_words) (text (drop (i + 1) es) with_words) first))
