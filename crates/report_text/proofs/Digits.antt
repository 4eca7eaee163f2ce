-- How many digits numbers have.
use Rattle.std.proofs.Common.{◌≡◌, ℕ, ◌+◌, ◌/◌, ◌<◌, ◌≤◌, ◌^◌, length, ap, ◌∙◌, rules, length-append}
use Rattle.std.specs.Fmt.{decimal}
use Rattle.std.proofs.lemmas.Fmt.{decimal_digit, decimal_step, length-decimal-le}

-- a number has one digit more than its tenth
pub length-decimal-step : (n : ℕ) → 10 ≤ n → n < 2 ^ 64 → length (decimal n) ≡ length (decimal (n / 10)) + 1
length-decimal-step n more fits = ap length (decimal_step n more fits) ∙ length-append (decimal (n / 10)) _

-- a number below ten has one digit
pub length-decimal-digit : (n : ℕ) → n < 10 → length (decimal n) ≡ 1
length-decimal-digit n small = ap length (decimal_digit n small)

-- a number of 64 bits has at most 20 digits
pub most_digits_64 : (n : ℕ) → n < 2 ^ 64 → length (decimal n) ≤ 20
most_digits_64 n fits = search (rules, length-decimal-le 20)

-- a number of 32 bits has at most 10 digits
pub most_digits_32 : (n : ℕ) → n < 2 ^ 32 → length (decimal n) ≤ 10
most_digits_32 n fits = search (rules, length-decimal-le 10)

-- the digits of a number of 32 bits: one below ten, and at most 10
pub ruleset digits_32 = (decimal_digit, most_digits_32)
