-- The lines of a text, one after the other, and their code.
use Rattle.std.proofs.Common.{◌≡◌, ◌≢◌, ℕ, zero, suc, ◌+◌, ◌<◌, ◌≤◌, Bool, true, false, not, ◌||◌, List, [], ◌∷◌, length, get_or, take, drop, Option, Some, None, Ok, Err, ◌⊎◌, refl, sym, ap, ◌∙◌, inl, inr, arith}
use Rattle.std.specs.List.{position_or_len, position_from, before_first, after_first}
use Rattle.std.proofs.lemmas.Bool.{cases_Bool, eqb-true, ne_eqb}
use Rattle.std.proofs.lemmas.List.{length-take}
use Rattle.script_tokens.specs.declared.fault.FaultKind.TheVariants.{BadByte}
use Rattle.script_tokens.specs.Flaws.{flaw}
use Rattle.script_tokens.specs.Lines.{is_line_end, in_first_line, lines, is_hash, uncommented, is_plain, unless_bad, code_of, ends_code}

pub no_lines : lines [] ≡ []
unfolding lines
no_lines = refl

line_over : (b : ℕ) (bs : List ℕ) → is_line_end b ≡ true → lines (b ∷ bs) ≡ [] ∷ lines bs
unfolding lines
line_over b bs passes = rw passes refl

line_on : (b : ℕ) (bs : List ℕ) → is_line_end b ≡ false → lines (b ∷ bs) ≡ in_first_line b (lines bs)
unfolding lines
line_on b bs fails = rw fails refl

-- a text that isn't empty has a first line
pub first_line : (text : List ℕ) → length text ≢ 0 → lines text ≡ before_first is_line_end text ∷ lines (after_first is_line_end text)
first_line [] some = absurd (some refl)
first_line (b ∷ []) some =
    elim (cases_Bool (is_line_end b)) [
      | inl passes ↦ line_over b [] passes ∙ rw passes refl
      | inr fails ↦ line_on b [] fails ∙ ap (in_first_line b) no_lines ∙ rw fails (ap (λ (ls : List (List ℕ)). (b ∷ []) ∷ ls) (sym no_lines))
    ]
first_line (b ∷ d ∷ ds) some =
    elim (cases_Bool (is_line_end b)) [
      | inl passes ↦ line_over b (d ∷ ds) passes ∙ rw passes refl
      | inr fails ↦
          let n : position_or_len is_line_end (b ∷ d ∷ ds) ≡ suc (position_or_len is_line_end (d ∷ ds)) = rw fails (omega arith) in
          let m : suc (position_or_len is_line_end (d ∷ ds)) + 1 ≡ suc (position_or_len is_line_end (d ∷ ds) + 1) = omega arith in
          rw (n, m) (line_on b (d ∷ ds) fails ∙ ap (in_first_line b) (first_line (d ∷ ds) (λ e. absurd (omega arith))))
    ]

-- what follows the first line, seen from within it
pub after_within : (text : List ℕ) (k : ℕ) → k ≤ position_or_len is_line_end text → after_first is_line_end (drop k text) ≡ after_first is_line_end text
after_within text zero le = refl
after_within [] (suc k) le = refl
after_within (b ∷ bs) (suc k) le =
    elim (cases_Bool (is_line_end b)) [
      | inl passes ↦
          let n : position_or_len is_line_end (b ∷ bs) ≡ 0 = rw passes refl in
          absurd (omega arith)
      | inr fails ↦
          let n : position_or_len is_line_end (b ∷ bs) ≡ suc (position_or_len is_line_end bs) = rw fails (omega arith) in
          let m : suc (position_or_len is_line_end bs) + 1 ≡ suc (position_or_len is_line_end bs + 1) = omega arith in
          rw (n, m) (after_within bs k (omega arith))
    ]

-- ---- the code of the first line

abbrev first_code : List ℕ → List ℕ
first_code text = uncommented (before_first is_line_end text)

abbrev is_bad : ℕ → Bool
is_bad b = not (is_plain b)

no_code : (b : ℕ) (bs : List ℕ) → (b ≡ 10) ⊎ (b ≡ 35) → first_code (b ∷ bs) ≡ []
no_code b bs (inl e) = rw e refl
no_code b bs (inr e) =
    let n : position_or_len is_line_end (35 ∷ bs) ≡ suc (position_or_len is_line_end bs) = omega arith in
    rw (e, n) refl

more_code : (b : ℕ) (bs : List ℕ) → is_line_end b ≡ false → is_hash b ≡ false → first_code (b ∷ bs) ≡ b ∷ first_code bs
more_code b bs fails neither =
    let n : position_or_len is_line_end (b ∷ bs) ≡ suc (position_or_len is_line_end bs) = rw fails (omega arith) in
    let m : position_or_len is_hash (b ∷ take (position_or_len is_line_end bs) bs) ≡ suc (position_or_len is_hash (take (position_or_len is_line_end bs) bs)) = rw neither (omega arith) in
    rw (n, m) refl

-- an octet of a line's code is plain, and neither ends the line nor begins a comment
record IsCode (b : ℕ) : Type 0 where
  plain : is_bad b ≡ false
  no_hash : is_hash b ≡ false
  no_end : is_line_end b ≡ false

or_parts : (x y : Bool) → (x || y) ≡ false → (x ≡ false) × (y ≡ false)
or_parts true y e = absurd cc
or_parts false y e = (refl, e)

is_code : (b : ℕ) → ends_code b ≡ false → IsCode b
is_code b e =
    let parts = or_parts (is_hash b) (is_bad b) e in
    record {
      plain = parts.1;
      no_hash = parts.0;
      no_end = elim (cases_Bool (is_line_end b)) [
        | inl passes ↦
            let ten : b ≡ 10 = eqb-true b 10 passes in
            let bad : is_bad b ≡ true = rw ten refl in
            absurd (true_is_false (sym bad ∙ parts.1))
        | inr fails ↦ fails
      ];
    } where
      true_is_false : true ≡ false → ⊥
      true_is_false f = cc

-- where a line's code ends with the text, the line or before a comment, it has fails bad octet
code_ends : (text : List ℕ) (column : ℕ) → (position_or_len ends_code text < length text → (get_or text (position_or_len ends_code text) 0 ≡ 10) ⊎ (get_or text (position_or_len ends_code text) 0 ≡ 35))
    → (position_from is_bad column (first_code text) ≡ None) × (first_code text ≡ take (position_or_len ends_code text) text)
code_ends [] column stops = (refl, refl)
code_ends (b ∷ bs) column stops =
    elim (cases_Bool (ends_code b)) [
      | inl passes ↦
          let n : position_or_len ends_code (b ∷ bs) ≡ 0 = rw passes refl in
          let stop = rw n at stops in
          let none : first_code (b ∷ bs) ≡ [] = no_code b bs (stop (omega arith)) in
          rw (none, n) (refl, refl)
      | inr fails ↦
          let n : position_or_len ends_code (b ∷ bs) ≡ suc (position_or_len ends_code bs) = rw fails (omega arith) in
          let h = is_code b fails in
          let stop = rw n at stops in
          let rest = code_ends bs (column + 1) (λ lt. stop (omega arith)) in
          let more : first_code (b ∷ bs) ≡ b ∷ first_code bs = more_code b bs h.no_end h.no_hash in
          rw (more, n) (rw h.plain rest.0, ap (λ (r : List ℕ). b ∷ r) rest.1)
    ]

bad_part : (x y : Bool) → (x || y) ≡ true → x ≡ false → y ≡ true
bad_part true y either isnt = absurd cc
bad_part false y either isnt = either

code_is_bad : (text : List ℕ) (column : ℕ) → position_or_len ends_code text < length text → get_or text (position_or_len ends_code text) 0 ≢ 10 → get_or text (position_or_len ends_code text) 0 ≢ 35
    → position_from is_bad column (first_code text) ≡ Some (column + position_or_len ends_code text)
code_is_bad [] column lt not_end not_hash = absurd (omega arith)
code_is_bad (b ∷ bs) column lt not_end not_hash =
    elim (cases_Bool (ends_code b)) [
      | inl passes ↦
          let n : position_or_len ends_code (b ∷ bs) ≡ 0 = rw passes refl in
          let no_end = ne_eqb b 10 (rw n at not_end) in
          let no_hash = ne_eqb b 35 (rw n at not_hash) in
          let bad : is_bad b ≡ true = bad_part (is_hash b) (is_bad b) passes no_hash in
          let c : column + 0 ≡ column = omega arith in
          rw (more_code b bs no_end no_hash, n, bad, c) refl
      | inr fails ↦
          let n : position_or_len ends_code (b ∷ bs) ≡ suc (position_or_len ends_code bs) = rw fails (omega arith) in
          let h = is_code b fails in
          let more : first_code (b ∷ bs) ≡ b ∷ first_code bs = more_code b bs h.no_end h.no_hash in
          let within : suc (position_or_len ends_code bs) < suc (length bs) = rw n at lt in
          let rest = code_is_bad bs (column + 1) (omega arith) (rw n at not_end) (rw n at not_hash) in
          let c : column + suc (position_or_len ends_code bs) ≡ column + 1 + position_or_len ends_code bs = omega arith in
          rw (more, n, h.plain, c) rest
    ]

pub code_is_ok : (text : List ℕ) (n : ℕ) → n ≡ position_or_len ends_code text → (n < length text → (get_or text n 0 ≡ 10) ⊎ (get_or text n 0 ≡ 35)) → code_of (before_first is_line_end text) ≡ Ok (take n text)
unfolding code_of
code_is_ok text n is stops =
    let ends = code_ends text 1 (rw is at stops) in
    rw (is, ends.0) (ap (λ (code : List ℕ). Ok code) ends.1)

pub code_is_fault : (text : List ℕ) (n : ℕ) → n ≡ position_or_len ends_code text → n < length text → get_or text n 0 ≢ 10 → get_or text n 0 ≢ 35 → code_of (before_first is_line_end text) ≡ Err (flaw (n + 1) BadByte)
unfolding code_of
code_is_fault text n is lt not_end not_hash =
    let c : 1 + position_or_len ends_code text ≡ position_or_len ends_code text + 1 = omega arith in
    rw is (rw (code_is_bad text 1 (rw is at lt) (rw is at not_end) (rw is at not_hash), c) refl)

unless_ok : (o : Option ℕ) (found code : List ℕ) → unless_bad o found ≡ Ok code → found ≡ code
unless_ok None found code e = cc
unless_ok (Some column) found code e = absurd cc

-- a line's code lies within the line
pub code_within : (text code : List ℕ) → code_of (before_first is_line_end text) ≡ Ok code → length code ≤ position_or_len is_line_end text
unfolding code_of
code_within text code e =
    let same : first_code text ≡ code = unless_ok (position_from is_bad 1 (first_code text)) (first_code text) code e in
    rw (← same) (omega (arith, length-take (position_or_len is_hash (before_first is_line_end text)) (before_first is_line_end text), length-take (position_or_len is_line_end text) text))
