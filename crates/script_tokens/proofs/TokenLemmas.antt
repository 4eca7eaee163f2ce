-- The tokens of a line's code, one after the other.
use Rattle.std.proofs.Common.{◌≡◌, ◌≢◌, ℕ, suc, ◌+◌, ◌≤◌, true, false, not, List, [], ◌∷◌, length, take, drop, Some, None, refl, sym, ap, ◌∙◌, inl, inr, arith}
use Rattle.std.specs.Prelude.{filter}
use Rattle.std.specs.List.{position_or_len, before_first}
use Rattle.std.proofs.Math.Seq.{take-length}
use Rattle.std.proofs.lemmas.Bool.{cases_Bool}
use Rattle.std.proofs.lemmas.List.{drop-drop}
use Rattle.std.proofs.lemmas.List.Folds.{length-prefix_len}
use Rattle.std.proofs.lemmas.List.Sums.{prefix_len-le-length}
use Rattle.script_tokens.specs.Cursors.{StandsAt, first_of}
use Rattle.script_tokens.specs.Tokens.{Piece, is_blank, in_first_piece, pieces, has_octets, tokens}

-- the number of blanks at the front, and of octets that are none
abbrev pub blanks : List ℕ → ℕ
blanks bs = position_or_len (λ b. not (is_blank b)) bs

abbrev pub filled : List ℕ → ℕ
filled bs = position_or_len is_blank bs

-- what stands before the first blank
abbrev pub front : List ℕ → List ℕ
front octets = before_first is_blank octets

pub front_length : (octets : List ℕ) → length (front octets) ≡ filled octets
front_length octets = length-prefix_len (λ b. not (is_blank b)) octets

pub front_within : (octets : List ℕ) → filled octets ≤ length octets
front_within octets = prefix_len-le-length (λ b. not (is_blank b)) octets

no_tokens : (column : ℕ) → tokens column [] ≡ []
unfolding tokens pieces
no_tokens column = refl

-- a blank at the front counts for nothing but a column
blank_first : (column b : ℕ) (bs : List ℕ) → is_blank b ≡ true → tokens column (b ∷ bs) ≡ tokens (column + 1) bs
unfolding tokens pieces
blank_first column b bs passes = rw passes refl

skip_blanks : (column : ℕ) (bs : List ℕ) → tokens column bs ≡ tokens (column + blanks bs) (drop (blanks bs) bs)
skip_blanks column [] = ap (λ (n : ℕ). tokens n []) (omega arith)
skip_blanks column (b ∷ bs) =
    elim (cases_Bool (is_blank b)) [
      | inl passes ↦
          let n : blanks (b ∷ bs) ≡ suc (blanks bs) = rw passes (omega arith) in
          let c : column + suc (blanks bs) ≡ column + 1 + blanks bs = omega arith in
          rw (n, c) (blank_first column b bs passes ∙ skip_blanks (column + 1) bs)
      | inr fails ↦
          let n : blanks (b ∷ bs) ≡ 0 = rw fails refl in
          let c : column + 0 ≡ column = omega arith in
          rw (n, c) refl
    ]

-- behind the blanks stands no blank
stands : (bs : List ℕ) (b : ℕ) (rest : List ℕ) → drop (blanks bs) bs ≡ b ∷ rest → is_blank b ≡ false
stands [] b rest e = absurd cc
stands (a ∷ bs) b rest e =
    elim (cases_Bool (is_blank a)) [
      | inl passes ↦
          let n : blanks (a ∷ bs) ≡ suc (blanks bs) = rw passes (omega arith) in
          stands bs b rest (rw n at e)
      | inr fails ↦
          let n : blanks (a ∷ bs) ≡ 0 = rw fails refl in
          let f : a ∷ bs ≡ b ∷ rest = rw n at e in
          let h : a ≡ b = cc in
          rw (sym h) fails
    ]

grown : (column b next d : ℕ) (ps : List Piece) → filter has_octets (in_first_piece column b (in_first_piece next d ps)) ≡ in_first_piece column b (filter has_octets (in_first_piece next d ps))
grown column b next d [] = refl
grown column b next d (t ∷ ts) = refl

-- the token of an octet, and what follows it
abbrev Leads : ℕ → List ℕ → Type 0
Leads column bs = tokens column bs ≡ record { column = column; octets = take (filled bs) bs } ∷ tokens (column + filled bs) (drop (filled bs) bs)

leads_alone : (column b : ℕ) → is_blank b ≡ false → Leads column (b ∷ [])
unfolding tokens pieces
leads_alone column b fails = rw fails refl

leads_before_blank : (column b d : ℕ) (ds : List ℕ) → is_blank b ≡ false → is_blank d ≡ true → Leads column (b ∷ d ∷ ds)
unfolding tokens pieces
leads_before_blank column b d ds fails passes = rw (fails, passes) (rw passes refl)

leads_on : (column b d : ℕ) (ds : List ℕ) → is_blank b ≡ false → is_blank d ≡ false → tokens column (b ∷ d ∷ ds) ≡ in_first_piece column b (tokens (column + 1) (d ∷ ds))
unfolding tokens pieces
leads_on column b d ds fails also = rw (fails, also) (grown column b (column + 1) d (pieces (column + 1 + 1) ds))

leads : (column b : ℕ) (bs : List ℕ) → is_blank b ≡ false → Leads column (b ∷ bs)
leads column b [] fails = leads_alone column b fails
leads column b (d ∷ ds) fails =
    elim (cases_Bool (is_blank d)) [
      | inl passes ↦ leads_before_blank column b d ds fails passes
      | inr also ↦
          let n : filled (b ∷ d ∷ ds) ≡ suc (filled (d ∷ ds)) = rw fails (omega arith) in
          let c : column + suc (filled (d ∷ ds)) ≡ column + 1 + filled (d ∷ ds) = omega arith in
          rw (n, c) (leads_on column b d ds fails also ∙ ap (in_first_piece column b) (leads (column + 1) d ds also))
    ]

-- what stands behind some octets, in two steps
pub stands_behind : (code rest back : List ℕ) (read n : ℕ) → rest ≡ drop read code → back ≡ drop n rest → back ≡ drop (read + n) code
stands_behind code rest back read n rest-is back-is = back-is ∙ ap (drop n) rest-is ∙ drop-drop n read code

pub none_left : (column n : ℕ) (bs rest : List ℕ) → n ≡ blanks bs → rest ≡ drop n bs → length rest ≡ 0 → tokens column bs ≡ []
none_left column n bs [] n-is e len = skip_blanks column bs ∙ ap (tokens (column + blanks bs)) (sym (rw n-is at e)) ∙ no_tokens (column + blanks bs)
none_left column n bs (b ∷ rest) n-is e len = absurd (omega arith)

pub stands_at : (column n : ℕ) (bs rest : List ℕ) → n ≡ blanks bs → rest ≡ drop n bs → length rest ≢ 0 → StandsAt (column + n) rest (tokens column bs)
stands_at column n bs [] n-is rest-is some = absurd (some refl)
stands_at column n bs (b ∷ rest) n-is rest-is some =
    let e : drop (blanks bs) bs ≡ b ∷ rest = rw (sym n-is) (sym rest-is) in
    rw n-is (skip_blanks column bs ∙ ap (tokens (column + blanks bs)) e ∙ leads (column + blanks bs) b rest (stands bs b rest e))

-- no octet before the first blank is one
pub no_blank_within : (bs : List ℕ) → position_or_len is_blank (before_first is_blank bs) ≡ length (before_first is_blank bs)
no_blank_within [] = refl
no_blank_within (b ∷ bs) =
    elim (cases_Bool (is_blank b)) [
      | inl passes ↦
          let n : filled (b ∷ bs) ≡ 0 = rw passes refl in
          rw n refl
      | inr fails ↦
          let n : filled (b ∷ bs) ≡ suc (filled bs) = rw fails (omega arith) in
          rw n (rw fails (omega (arith, no_blank_within bs)))
    ]

-- octets of which none is a blank
pub whole_front : (bs : List ℕ) → position_or_len is_blank bs ≡ length bs → front bs ≡ bs
whole_front bs none = rw none (take-length bs)

-- ---- the first of some tokens

pub first_is_none : (past : ℕ) (ts : List Piece) → ts ≡ [] → None ≡ first_of (record { past = past; tokens = ts })
unfolding first_of
first_is_none past ts none = rw none refl

pub first_is : (past start len : ℕ) (ts : List Piece) (octets rest code : List ℕ) → StandsAt (start + 1) rest ts → rest ≡ drop start code → len ≡ filled rest → octets ≡ take len rest
    → Some (record { column = start + 1; octets = octets }, record { past = start + length octets + 1; tokens = tokens (start + length octets + 1) (drop (start + length octets) code) }) ≡ first_of (record { past = past; tokens = ts })
unfolding first_of
first_is past start len ts octets rest code stands rest-is len-is octets-is =
    let whole : octets ≡ front rest = rw (octets-is, len-is) refl in
    let n : length octets ≡ filled rest = rw whole (front_length rest) in
    let c : start + filled rest + 1 ≡ start + 1 + filled rest = omega arith in
    let d : drop (start + filled rest) code ≡ drop (filled rest) rest = sym (drop-drop (filled rest) start code) ∙ ap (drop (filled rest)) (sym rest-is) in
    rw (n, c, d, stands, whole) (rw (front_length rest) refl)
