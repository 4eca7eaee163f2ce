-- What the next token of a line is read as, and what is true of it.
use Rattle.std.proofs.lemmas.List.{drop-drop}
use Rattle.std.proofs.Common.{ap, arith, ◌∙◌, ◌≡◌, ℕ, ◌+◌, ◌<◌, ◌≤◌, ◌&&◌, List, [], ◌∷◌, drop, Some, None, Ok, Err, refl, sym, subst, inl, inr}
use Rattle.std.specs.Prelude.{nat_le, nat_lt}
use Rattle.std.specs.List.{AllByRecursion}
use Rattle.std.specs.Str.{bytes_eq}
use Rattle.std.proofs.lemmas.Bool.{cases_Bool, and_parts, leb-true, ltb-true}
use Rattle.script_tokens.specs.declared.fault.FaultKind.TheVariants.{MissingWord, BadNumber}
use Rattle.script_tokens.specs.declared.number.Number.{Number}
use Rattle.script_tokens.specs.Flaws.{flaw}
use Rattle.script_tokens.specs.Numbers.{number_of, in_64_bits}
use Rattle.script_tokens.specs.Tokens.{Piece, tokens}
use Rattle.script_tokens.specs.Cursors.{Cursor, StandsAt, first_of, next_of}
use Rattle.script_tokens.specs.Next.{number_at, between_at, below_at, named}
use Rattle.script_tokens.proofs.OkLemmas.{bind_ok, test_ok}
use Rattle.script_tokens.proofs.TokenLemmas.{filled, front, front_length}

pub number_is_missing : (past : ℕ) (ts : List Piece) → ts ≡ [] → number_at (record { past = past; tokens = ts }) ≡ Err (flaw past MissingWord)
unfolding number_at next_of first_of
number_is_missing past ts none = rw none refl

pub number_is_bad : (past start : ℕ) (ts : List Piece) (rest : List ℕ) → StandsAt (start + 1) rest ts → None ≡ in_64_bits (number_of (front rest)) → number_at (record { past = past; tokens = ts }) ≡ Err (flaw (start + 1) BadNumber)
unfolding number_at next_of first_of
number_is_bad past start ts rest stands none = rw (stands, sym none) refl

pub number_is : (past start value len : ℕ) (ts : List Piece) (rest code : List ℕ) → StandsAt (start + 1) rest ts → rest ≡ drop start code → Some value ≡ in_64_bits (number_of (front rest)) → len ≡ filled rest
    → number_at (record { past = past; tokens = ts }) ≡ Ok (record { column = start + 1; value = value }, record { past = start + len + 1; tokens = tokens (start + len + 1) (drop (start + len) code) })
unfolding number_at next_of first_of
number_is past start value len ts rest code stands rest-is value-is len-is =
    let c : start + filled rest + 1 ≡ start + 1 + filled rest = omega arith in
    let d : drop (start + filled rest) code ≡ drop (filled rest) rest = sym (drop-drop (filled rest) start code) ∙ ap (drop (filled rest)) (sym rest-is) in
    rw (len-is, c, d, stands, sym value-is) (rw (front_length rest) refl)

pub between_gives : (low high : ℕ) (c : Cursor) (n : Number × Cursor) → between_at low high c ≡ Ok n → (low ≤ n.0.value) × (n.0.value ≤ high)
unfolding between_at
between_gives low high c n same =
    let number = bind_ok (number_at c) _ n same in
    let v : ℕ = number.0.0.value in
    let passed = test_ok (nat_le low v && nat_le v high) _ number.0 n number.2 in
    let parts = and_parts (nat_le low v) (nat_le v high) passed.0 in
    rw (← passed.1) (leb-true low v parts.0, leb-true v high parts.1)

pub below_gives : (limit : ℕ) (c : Cursor) (n : Number × Cursor) → below_at limit c ≡ Ok n → n.0.value < limit
unfolding below_at
below_gives limit c n same =
    let number = bind_ok (number_at c) _ n same in
    let passed = test_ok (nat_lt number.0.0.value limit) _ number.0 n number.2 in
    rw (← passed.1) (ltb-true number.0.0.value limit passed.0)

-- what a word names is one of the list's values
pub named_is : {A : Type 0} (P : A → Type 0) (octets : List ℕ) (list : List (List ℕ × A)) (x : A) → AllByRecursion (λ n. P n.1) list → named octets list ≡ Some x → P x
named_is P octets [] x all same = cc
named_is P octets (n ∷ ns) x all same =
    elim (cases_Bool (bytes_eq octets n.0)) [
      | inl passes ↦
          let found : Some n.1 ≡ Some x = rw passes at same in
          let one : n.1 ≡ x = cc in
          subst P one all.0
      | inr fails ↦
          let found : named octets ns ≡ Some x = rw fails at same in
          named_is P octets ns x all.1 found
    ]
