-- The messages of sndif.h of Xen's public headers, as lists of sixteen words. A word is a number below 2 ^ 32, stored with
-- its low octet first.
use Rattle.std.specs.Prelude.{◌≡◌, ◌≢◌, ℕ, ◌^◌, ◌<◌, ℤ, FitsSigned, List, ◌∷◌, ◌++◌, slice_index, replicate, if◌then◌else◌, ◌==◌}
use Rattle.std.specs.Int.{w32, cast_signed, cast_unsigned}
use Rattle.wire_fields.specs.Fields.{head_of, id_of, octet_of, operation_of, two_octets, u64_at, u64_words}
use Rattle.snd_wire.specs.declared.types.Asked.{Asked}
use Rattle.snd_wire.specs.declared.types.Asked.TheVariants.{Open, Close, Read, Write, Trigger, Query, Other}
use Rattle.snd_wire.specs.declared.types.Event.{Event}
use Rattle.pcm_params.specs.declared.params.Params.{Params}
use Rattle.pcm_params.specs.declared.ranges.Ranges.{Ranges}
use Rattle.snd_wire.specs.declared.types.Reply.{Reply}
use Rattle.snd_wire.specs.declared.types.Request.{Request}

-- struct xensnd_open_req: the format is octet 0 and the number of channels octet 1 of word 3, whose others are reserved
abbrev pub params_of : List ℕ → Params
params_of words = record {
  pcm_rate = slice_index words 2;
  pcm_format = octet_of (slice_index words 3) 0;
  pcm_channels = octet_of (slice_index words 3) 1;
  buffer_sz = slice_index words 4;
  gref_directory = slice_index words 5;
  period_sz = slice_index words 6;
}

-- the fourteen words of that structure, from word 2 of a request on
abbrev pub params_words : Params → List ℕ
params_words p =
    p.pcm_rate ∷ two_octets p.pcm_format p.pcm_channels ∷ p.buffer_sz ∷ p.gref_directory ∷ p.period_sz ∷ replicate 9 0

-- the fourteen words of struct xensnd_rw_req
abbrev pub range_words : ℕ → ℕ → List ℕ
range_words offset size = offset ∷ size ∷ replicate 12 0

-- struct xensnd_query_hw_param, in a request and in its reply
abbrev pub ranges_of : List ℕ → Ranges
ranges_of words = record {
  formats = u64_at words 2;
  rate_min = slice_index words 4;
  rate_max = slice_index words 5;
  channels_min = slice_index words 6;
  channels_max = slice_index words 7;
  buffer_min = slice_index words 8;
  buffer_max = slice_index words 9;
  period_min = slice_index words 10;
  period_max = slice_index words 11;
}

-- the fourteen words of that structure
abbrev pub ranges_words : Ranges → List ℕ
ranges_words r =
    u64_words r.formats
    ++ (r.rate_min ∷ r.rate_max ∷ r.channels_min ∷ r.channels_max
    ∷ r.buffer_min ∷ r.buffer_max ∷ r.period_min ∷ r.period_max ∷ replicate 4 0)

-- what a request with this operation asks for: XENSND_OP_OPEN is 0, XENSND_OP_CLOSE 1, XENSND_OP_READ 2, XENSND_OP_WRITE 3,
-- XENSND_OP_TRIGGER 8 and XENSND_OP_HW_PARAM_QUERY 9
abbrev pub asked_of : ℕ → List ℕ → Asked
asked_of op words =
    if op == 0
    then Open (params_of words)
    else if op == 1
    then Close
    else if op == 2
    then Read (slice_index words 2) (slice_index words 3)
    else if op == 3
    then Write (slice_index words 2) (slice_index words 3)
    else if op == 8
    then Trigger (octet_of (slice_index words 2) 0)
    else if op == 9
    then Query (ranges_of words)
    else Other

-- the fourteen words of what a request asks for
abbrev pub asked_words : Asked → List ℕ
asked_words (Open p) = params_words p
asked_words (Read offset size) = range_words offset size
asked_words (Write offset size) = range_words offset size
asked_words (Trigger kind) = kind ∷ replicate 13 0
asked_words (Query r) = ranges_words r
asked_words Close = replicate 14 0
asked_words Other = replicate 14 0

-- struct xensnd_req: word 1 is reserved
abbrev pub request_of : List ℕ → Request
request_of words = record {
  id = id_of words;
  op = operation_of words;
  asked = asked_of (operation_of words) words;
}

-- the words of a request
abbrev pub request_words : Request → List ℕ
request_words r = head_of r.id r.op ∷ 0 ∷ asked_words r.asked

-- struct xensnd_resp: the status stands in word 1, as two's complement, and the body from word 2 on
abbrev pub reply_of : List ℕ → Reply
reply_of words = record {
  id = id_of words;
  op = operation_of words;
  status = cast_signed w32 (slice_index words 1);
  body = ranges_of words;
}

-- the words of a reply
abbrev pub reply_words : ℕ → ℕ → ℤ → Ranges → List ℕ
reply_words id op status body = head_of id op ∷ cast_unsigned w32 status ∷ ranges_words body

-- struct xensnd_evt, with the position of struct xensnd_cur_pos_evt
abbrev pub event_of : List ℕ → Event
event_of words = record { id = id_of words; kind = operation_of words; value = u64_at words 2 }

-- the words of an event that tells a position: XENSND_EVT_CUR_POS is 0
abbrev pub event_words : ℕ → ℕ → List ℕ
event_words id value = head_of id 0 ∷ 0 ∷ (u64_words value ++ replicate 12 0)

-- each field of a request to open a stream fits its type
pub record FitsParams (p : Params) : Type 0 where
  pub pcm_rate : p.pcm_rate < 2 ^ 32
  pub pcm_format : p.pcm_format < 2 ^ 8
  pub pcm_channels : p.pcm_channels < 2 ^ 8
  pub buffer_sz : p.buffer_sz < 2 ^ 32
  pub gref_directory : p.gref_directory < 2 ^ 32
  pub period_sz : p.period_sz < 2 ^ 32

-- each bound of ranges fits its type
pub record FitsRanges (r : Ranges) : Type 0 where
  pub formats : r.formats < 2 ^ 64
  pub rate_min : r.rate_min < 2 ^ 32
  pub rate_max : r.rate_max < 2 ^ 32
  pub channels_min : r.channels_min < 2 ^ 32
  pub channels_max : r.channels_max < 2 ^ 32
  pub buffer_min : r.buffer_min < 2 ^ 32
  pub buffer_max : r.buffer_max < 2 ^ 32
  pub period_min : r.period_min < 2 ^ 32
  pub period_max : r.period_max < 2 ^ 32

-- this operation asks for such a thing
abbrev pub AsksFor : ℕ → Asked → Type 0
AsksFor op (Open p) = (op ≡ 0) × FitsParams p
AsksFor op Close = op ≡ 1
AsksFor op (Read offset size) = (op ≡ 2) × (offset < 2 ^ 32) × (size < 2 ^ 32)
AsksFor op (Write offset size) = (op ≡ 3) × (offset < 2 ^ 32) × (size < 2 ^ 32)
AsksFor op (Trigger kind) = (op ≡ 8) × (kind < 2 ^ 8)
AsksFor op (Query r) = (op ≡ 9) × FitsRanges r
AsksFor op Other = (op ≢ 0) × (op ≢ 1) × (op ≢ 2) × (op ≢ 3) × (op ≢ 8) × (op ≢ 9)

-- the fields of a request fit their types, and what it asks for is what its operation asks for
pub record Belongs (r : Request) : Type 0 where
  pub id : r.id < 2 ^ 16
  pub op : r.op < 2 ^ 8
  pub asked : AsksFor r.op r.asked

-- a request comes back from its words
abbrev pub RequestsReadBack : Type 0
RequestsReadBack = (r : Request) → Belongs r → request_of (request_words r) ≡ r

-- a reply comes back from its words
abbrev pub RepliesReadBack : Type 0
RepliesReadBack =
    (id op : ℕ) (status : ℤ) (body : Ranges) → id < 2 ^ 16 → op < 2 ^ 8 → FitsSigned w32 status
    → reply_of (reply_words id op status body) ≡ record { id = id; op = op; status = status; body = body }

-- an event comes back from its words
abbrev pub EventsReadBack : Type 0
EventsReadBack =
    (id value : ℕ) → id < 2 ^ 16
    → event_of (event_words id value) ≡ record { id = id; kind = 0; value = value }
