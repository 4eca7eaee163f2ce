-- What comes of a stream since it was opened, whatever is done with it.
use Rattle.std.specs.Prelude.{◌≡◌, ℕ, ◌%◌, ◌^◌, ◌<◌, List, [], ◌∷◌, ◌++◌, length, take, if◌then◌else◌, Option, Some}
use Rattle.pv_words.specs.declared.device.StreamKind.{StreamKind}
use Rattle.pv_words.specs.declared.device.StreamKind.TheVariants.{Capture}
use Rattle.pcm_params.specs.declared.params.Params.{Params}
use Rattle.pcm_stream.specs.declared.state.Trigger.{Trigger}
use Rattle.pcm_stream.specs.declared.state.Trigger.TheVariants.{Stop}
use Rattle.pcm_stream.specs.Line.{line_from}
use Rattle.pcm_stream.specs.State.{is_closed, trigger_at}
use Rattle.pcm_stream.specs.Stream.{Pcm, is_playback, opened, popped, pushed, told, triggered}
use Rattle.pcm_stream.specs.Tick.{after_tick, moved_octets}

-- what is done with an open stream: a tick of so many frames, an octet appended, so many removed, a trigger, an event raised
pub data Deed : Type 0 where
  Tick : ℕ → Deed
  Push : ℕ → Deed
  Skip : ℕ → Deed
  Pull : ℕ → Deed
  Raise : Deed

abbrev pub after : Pcm → Deed → Pcm
after s (Tick frames) = after_tick s frames
after s (Push octet) = pushed s octet
after s (Skip count) = popped s count
after s (Pull trigger) = triggered s trigger
after s Raise = told s

-- the octets that it moves
abbrev pub moves : Pcm → Deed → List ℕ
moves s (Tick frames) = moved_octets s frames
moves s other = []

-- the octets that it puts into the queue, and those that it takes from its front: STOP takes all
abbrev pub entering : Pcm → Deed → List ℕ
entering s (Tick frames) = if is_playback s.kind then [] else moved_octets s frames
entering s (Push octet) = octet ∷ []
entering s other = []

abbrev pub given_up : Pcm → Option Trigger → List ℕ
given_up s (Some Stop) = if is_closed s.state then [] else s.queue
given_up s other = []

abbrev pub leaving : Pcm → Deed → List ℕ
leaving s (Tick frames) = if is_playback s.kind then moved_octets s frames else []
leaving s (Skip count) = take count s.queue
leaving s (Pull trigger) = given_up s (trigger_at trigger)
leaving s other = []

-- the stream after all of these, and such octets of each, one after another
abbrev pub after_all : Pcm → List Deed → Pcm
after_all s [] = s
after_all s (d ∷ ds) = after_all (after s d) ds

abbrev pub all_of : (Pcm → Deed → List ℕ) → Pcm → List Deed → List ℕ
all_of octets s [] = []
all_of octets s (d ∷ ds) = octets s d ++ all_of octets (after s d) ds

-- of a stream that was opened, and whose moved octets are these: the position is their number modulo 2 ^ 64, the phase
-- their number modulo the period, and those of a capture stream are the octets of the line from octet 0 on
pub record CountsAll (s : Pcm) (octets : List ℕ) : Type 0 where
  pub position : s.position ≡ length octets % 2 ^ 64
  pub phase : 0 < s.params.period_sz → s.phase ≡ length octets % s.params.period_sz
  pub line : s.kind ≡ Capture → (octets ≡ line_from 0 (length octets)) × (s.captured ≡ length octets % 251)

abbrev pub AllAreCounted : Type 0
AllAreCounted =
    (kind : StreamKind) (p : Params) (ds : List Deed)
    → CountsAll (after_all (opened kind p) ds) (all_of moves (opened kind p) ds)

-- what entered the queue left it in the same order, or is still in it
abbrev pub AllGoInOrder : Type 0
AllGoInOrder =
    (kind : StreamKind) (p : Params) (ds : List Deed)
    → all_of entering (opened kind p) ds ≡ all_of leaving (opened kind p) ds ++ (after_all (opened kind p) ds).queue
