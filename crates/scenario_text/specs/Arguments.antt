-- The tokens behind a line's first one, where a place has words of its own.
use Rattle.std.specs.Prelude.{ℕ, List, [], ◌∷◌, Option, Some, None, Result, Ok, codes}
use Rattle.pv_words.specs.declared.device.NodeValue.{NodeValue}
use Rattle.pv_words.specs.declared.device.State.{State}
use Rattle.pv_words.specs.declared.device.StreamKind.{StreamKind}
use Rattle.pv_words.specs.declared.device.StreamKind.TheVariants.{Playback, Capture}
use Rattle.pv_words.specs.declared.grant.Mode.{Mode}
use Rattle.pv_words.specs.declared.grant.Mode.TheVariants.{Read, Write}
use Rattle.pv_words.specs.declared.place.Half.{Half}
use Rattle.pv_words.specs.declared.place.Half.TheVariants.{Flags, FrameNo}
use Rattle.pv_words.specs.declared.setup.DeviceKind.{DeviceKind}
use Rattle.pv_words.specs.declared.streams.Streams.{Streams}
use Rattle.pv_words.specs.declared.streams.Streams.TheVariants.{One, Two, Three, Four}
use Rattle.xenbus_states.specs.States.{state_of}
use Rattle.script_tokens.specs.declared.fault.Flaw.{Flaw}
use Rattle.script_tokens.specs.declared.fault.FaultKind.TheVariants.{OutOfRange, BadWord}
use Rattle.script_tokens.specs.Flaws.{◌>>=◌, or_flaw}
use Rattle.script_tokens.specs.Tokens.{Piece}
use Rattle.script_tokens.specs.Cursors.{Cursor, first_of, next_of}
use Rattle.script_tokens.specs.Next.{number_at, named, named_at}
use Rattle.scenario_text.specs.Nodes.{keys_of, node_value}

-- the words for the halves of a grant entry
abbrev pub halves : List (List ℕ × Half)
halves = (codes "flags", Flags) ∷ (codes "frame", FrameNo) ∷ []

-- a half of a grant entry
unfoldable pub half_at : Cursor → Result (Half × Cursor) Flaw
half_at c = named_at halves c

-- the words for what a grant permits
abbrev pub modes : List (List ℕ × Mode)
modes = (codes "rw", Write) ∷ (codes "ro", Read) ∷ []

-- what a grant permits
unfoldable pub mode_at : Cursor → Result (Mode × Cursor) Flaw
mode_at c = named_at modes c

-- the name of a node of a device of this kind, by which its key is told
unfoldable pub key_at : DeviceKind → Cursor → Result (ℕ × Cursor) Flaw
key_at kind c = named_at (keys_of kind) c

-- what a node holds, which is any token
unfoldable pub node_value_at : Cursor → Result (NodeValue × Cursor) Flaw
node_value_at c = do
  t ← next_of c
  Ok (node_value t.0.octets, t.1)

-- the number of a state
unfoldable pub state_at : Cursor → Result (State × Cursor) Flaw
state_at c = do
  n ← number_at c
  s ← or_flaw (state_of n.0.value) n.0.column OutOfRange
  Ok (s, n.1)

-- the letters for the kinds of streams
abbrev pub stream_kinds : List (List ℕ × StreamKind)
stream_kinds = (codes "p", Playback) ∷ (codes "c", Capture) ∷ []

-- the kind of a stream
unfoldable pub stream_kind_at : Cursor → Result (StreamKind × Cursor) Flaw
stream_kind_at c = named_at stream_kinds c

-- the kind of a stream where there is a token, and none where the line has ended
abbrev pub kind_from : Cursor → Option (Piece × Cursor) → Result (Option StreamKind × Cursor) Flaw
kind_from c None = Ok (None, c)
kind_from c (Some t) = do
  kind ← or_flaw (named t.0.octets stream_kinds) t.0.column BadWord
  Ok (Some kind, t.1)

-- the kind of a further stream, if the line goes on
unfoldable pub further_kind_at : Cursor → Result (Option StreamKind × Cursor) Flaw
further_kind_at c = kind_from c (first_of c)

-- the streams of these kinds, up to the first that is missing
abbrev pub streams_of : StreamKind → (second third fourth : Option StreamKind) → Streams
streams_of first None third fourth = One first
streams_of first (Some second) None fourth = Two first second
streams_of first (Some second) (Some third) None = Three first second third
streams_of first (Some second) (Some third) (Some fourth) = Four first second third fourth

-- the kinds of one to four streams, as far as the line goes
unfoldable pub streams_at : Cursor → Result (Streams × Cursor) Flaw
streams_at c = do
  first ← stream_kind_at c
  second ← further_kind_at first.1
  third ← further_kind_at second.1
  fourth ← further_kind_at third.1
  Ok (streams_of first.0 second.0 third.0 fourth.0, fourth.1)
