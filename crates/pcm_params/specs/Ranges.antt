-- What ranges of parameters have in common, and the answer to a query (struct xensnd_query_hw_param of sndif.h; what is
-- offered and the error are this project's own).
use Rattle.std.specs.Prelude.{◌≡◌, ℕ, ◌^◌, ◌<◌, ◌≤◌, pos, neg_ℤ, min, max, Bool, ◌||◌, ◌==◌, nat_lt, bit_and, if◌then◌else◌, Option, Some, None}
use Rattle.std.specs.Int.{bit_at}
use Rattle.pcm_params.specs.declared.ranges.Ranges.{Ranges}
use Rattle.pcm_params.specs.declared.ranges.Answer.{Answer}

-- what two ranges have in common, if each of the five has something
abbrev pub common : Ranges → Ranges → Ranges
common a b = record {
  formats = bit_and a.formats b.formats;
  rate_min = max a.rate_min b.rate_min;
  rate_max = min a.rate_max b.rate_max;
  channels_min = max a.channels_min b.channels_min;
  channels_max = min a.channels_max b.channels_max;
  buffer_min = max a.buffer_min b.buffer_min;
  buffer_max = min a.buffer_max b.buffer_max;
  period_min = max a.period_min b.period_min;
  period_max = min a.period_max b.period_max;
}

-- no format is in the mask, or bounds are exchanged
abbrev pub is_empty : Ranges → Bool
is_empty r =
    (r.formats == 0)
    || (nat_lt r.rate_max r.rate_min
    || (nat_lt r.channels_max r.channels_min
    || (nat_lt r.buffer_max r.buffer_min
    || nat_lt r.period_max r.period_min)))

abbrev pub meet_of : Ranges → Ranges → Option Ranges
meet_of a b = if is_empty (common a b) then None else Some (common a b)

-- what is offered: formats 0 to 13, and these bounds
abbrev pub offered : Ranges
offered = record {
  formats = 0x3FFF;
  rate_min = 8000;
  rate_max = 192000;
  channels_min = 1;
  channels_max = 8;
  buffer_min = 1;
  buffer_max = 1048576;
  period_min = 1;
  period_max = 1048576;
}

-- a body whose words are all 0
abbrev pub no_ranges : Ranges
no_ranges = record {
  formats = 0;
  rate_min = 0;
  rate_max = 0;
  channels_min = 0;
  channels_max = 0;
  buffer_min = 0;
  buffer_max = 0;
  period_min = 0;
  period_max = 0;
}

-- the answer to a query: status 0 and the meet, or -22 (EINVAL) and no ranges
abbrev pub answered : Option Ranges → Answer
answered None = record { status = neg_ℤ (pos 22); body = no_ranges }
answered (Some met) = record { status = pos 0; body = met }

abbrev pub answer_of : Ranges → Answer
answer_of asked = answered (meet_of asked offered)

-- a format, a rate, a number of channels, and the sizes of a buffer and a period in frames
pub record Choice : Type 0 where
  pub format : ℕ
  pub rate : ℕ
  pub channels : ℕ
  pub buffer : ℕ
  pub period : ℕ

-- these lie in the ranges: the format's bit is set in the mask
pub record Lies (r : Ranges) (c : Choice) : Type 0 where
  pub format : bit_at r.formats c.format ≡ 1
  pub rate : (r.rate_min ≤ c.rate) × (c.rate ≤ r.rate_max)
  pub channels : (r.channels_min ≤ c.channels) × (c.channels ≤ r.channels_max)
  pub buffer : (r.buffer_min ≤ c.buffer) × (c.buffer ≤ r.buffer_max)
  pub period : (r.period_min ≤ c.period) × (c.period ≤ r.period_max)

-- a meet has what lies in both ranges and nothing else, and it has something; where there is none, nothing lies in both
abbrev pub IsCommon : Ranges → Ranges → Option Ranges → Type 0
IsCommon a b (Some met) =
    ((c : Choice) → Lies met c → Lies a c × Lies b c)
    × ((c : Choice) → Lies a c → Lies b c → Lies met c)
    × ((c : Choice) × Lies met c)
IsCommon a b None = (c : Choice) → Lies a c → Lies b c → ⊥

abbrev pub MeetsAreCommon : Type 0
MeetsAreCommon = (a b : Ranges) → a.formats < 2 ^ 64 → IsCommon a b (meet_of a b)
