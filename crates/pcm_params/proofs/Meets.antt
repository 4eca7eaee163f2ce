-- What two ranges have in common lies in both, and the other way round.
use Rattle.std.proofs.Common.{◌≡◌, ℕ, ◌^◌, ◌<◌, Bool, true, false, refl, arith, bit_and}
use Rattle.std.specs.Prelude.{Some, None, if◌then◌else◌}
use Rattle.std.specs.Int.{bit_at, trailing_zeros, w64}
use Rattle.std.proofs.lemmas.Nat.{and_le_l}
use Rattle.std.proofs.lemmas.Nat.Bits.{bit_at_and, bit_at-lt, bit_at-zero, bit_at-trailing_zeros}
use Rattle.std.proofs.lemmas.Bool.Decides.{nat_tests}
use Rattle.pcm_params.specs.declared.ranges.Ranges.{Ranges}
use Rattle.pcm_params.specs.Ranges.{Choice, Lies, IsCommon, MeetsAreCommon, common, is_empty}

bit_of_left : (a b i : ℕ) → bit_at (bit_and a b) i ≡ 1 → bit_at a i ≡ 1
bit_of_left a b i h = omega (arith, h, bit_at_and a b i, bit_at-lt a i, bit_at-lt b i)

bit_of_right : (a b i : ℕ) → bit_at (bit_and a b) i ≡ 1 → bit_at b i ≡ 1
bit_of_right a b i h = omega (arith, h, bit_at_and a b i, bit_at-lt a i, bit_at-lt b i)

bit_of_both : (a b i : ℕ) → bit_at a i ≡ 1 → bit_at b i ≡ 1 → bit_at (bit_and a b) i ≡ 1
bit_of_both a b i h k = omega (arith, h, k, bit_at_and a b i)

pub lies_in_left : (a b : Ranges) (c : Choice) → Lies (common a b) c → Lies a c
lies_in_left a b c l = record {
  format = bit_of_left _ _ _ l.format;
  rate = (omega (arith, l.rate.0), omega (arith, l.rate.1));
  channels = (omega (arith, l.channels.0), omega (arith, l.channels.1));
  buffer = (omega (arith, l.buffer.0), omega (arith, l.buffer.1));
  period = (omega (arith, l.period.0), omega (arith, l.period.1));
}

pub lies_in_right : (a b : Ranges) (c : Choice) → Lies (common a b) c → Lies b c
lies_in_right a b c l = record {
  format = bit_of_right _ _ _ l.format;
  rate = (omega (arith, l.rate.0), omega (arith, l.rate.1));
  channels = (omega (arith, l.channels.0), omega (arith, l.channels.1));
  buffer = (omega (arith, l.buffer.0), omega (arith, l.buffer.1));
  period = (omega (arith, l.period.0), omega (arith, l.period.1));
}

pub lies_in_common : (a b : Ranges) (c : Choice) → Lies a c → Lies b c → Lies (common a b) c
lies_in_common a b c l r = record {
  format = bit_of_both _ _ _ l.format r.format;
  rate = (omega (arith, l.rate, r.rate), omega (arith, l.rate, r.rate));
  channels = (omega (arith, l.channels, r.channels), omega (arith, l.channels, r.channels));
  buffer = (omega (arith, l.buffer, r.buffer), omega (arith, l.buffer, r.buffer));
  period = (omega (arith, l.period, r.period), omega (arith, l.period, r.period));
}

-- nothing lies in ranges one of which is empty
not_zero : (n i : ℕ) → n ≡ 0 → bit_at n i ≡ 1 → ⊥
not_zero n i z h = omega (arith, bit_at-zero i, (rw z at h))

pub empty_has_none : (r : Ranges) (c : Choice) → is_empty r ≡ true → Lies r c → ⊥
empty_has_none r c e l = grind (arith, nat_tests, not_zero r.formats c.format, l.format)

-- something lies in ranges none of which is empty
pub rest_has_some : (r : Ranges) → r.formats < 2 ^ 64 → is_empty r ≡ false → (c : Choice) × Lies r c
rest_has_some r fits e =
    let positive : 0 < r.formats = grind (arith, nat_tests) in
    let lowest = bit_at-trailing_zeros w64 r.formats positive fits in (
      record {
        format = trailing_zeros w64 r.formats;
        rate = r.rate_min;
        channels = r.channels_min;
        buffer = r.buffer_min;
        period = r.period_min;
      },
      record {
        format = lowest.1;
        rate = (omega arith, grind (arith, nat_tests));
        channels = (omega arith, grind (arith, nat_tests));
        buffer = (omega arith, grind (arith, nat_tests));
        period = (omega arith, grind (arith, nat_tests));
      },
    )

chosen : (a b : Ranges) (t : Bool) → a.formats < 2 ^ 64 → is_empty (common a b) ≡ t → IsCommon a b (if t then None else Some (common a b))
chosen a b true fits e = λ c l r. empty_has_none (common a b) c e (lies_in_common a b c l r)
chosen a b false fits e = (
  (λ c l. (lies_in_left a b c l, lies_in_right a b c l)),
  lies_in_common a b,
  rest_has_some (common a b) (omega (arith, and_le_l a.formats b.formats)) e,
)

pub meets : MeetsAreCommon
meets a b fits = chosen a b (is_empty (common a b)) fits refl
