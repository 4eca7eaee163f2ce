-- A tick of so many frames, in numbers without bound but where a modulus is named; the rules are this project's own.
use Rattle.std.specs.Prelude.{ℕ, ◌+◌, ◌*◌, ◌%◌, ◌^◌, min, ◌==◌, nat_lt, if◌then◌else◌, List, ◌++◌, length, take, drop, Some}
use Rattle.pv_words.specs.declared.device.StreamKind.{StreamKind}
use Rattle.pv_words.specs.declared.device.StreamKind.TheVariants.{Playback, Capture}
use Rattle.pv_words.specs.Mark.{mark_of}
use Rattle.pcm_params.specs.Format.{frame_of}
use Rattle.pcm_stream.specs.declared.state.Ticked.{Ticked}
use Rattle.pcm_stream.specs.Line.{line_from}
use Rattle.pcm_stream.specs.State.{is_running}
use Rattle.pcm_stream.specs.Stream.{Pcm, room}

-- how many octets may move: those that are queued, or those for which there is room
abbrev pub limit_of : StreamKind → Pcm → ℕ
limit_of Playback s = length s.queue
limit_of Capture s = room s

-- the octets that move, where so many do: the first of the queue, or the next of the line
abbrev pub octets_of : StreamKind → Pcm → ℕ → List ℕ
octets_of Playback s count = take count s.queue
octets_of Capture s count = line_from s.captured count

-- where they go: to the line, or into the queue
abbrev pub carried : StreamKind → Pcm → ℕ → Pcm
carried Playback s count = record s { queue = drop count s.queue }
carried Capture s count =
    record s { queue = s.queue ++ line_from s.captured count; captured = (s.captured + count) % 251 }

-- the position counts them; with a period the phase does too, and where it comes to the period or more, an event with the
-- new position is owed, in place of one that still is, and the phase is reduced modulo the period
abbrev pub counted : Pcm → ℕ → Pcm
counted s count =
    let position = (s.position + count) % 2 ^ 64 in
    if s.params.period_sz == 0
    then record s { position = position }
    else if nat_lt (s.phase + count) s.params.period_sz
    then record s { position = position; phase = s.phase + count }
    else record s { position = position; phase = (s.phase + count) % s.params.period_sz; owed = Some position }

-- how many octets a tick moves: none but in a running stream
abbrev pub due : Pcm → ℕ → ℕ
due s frames = if is_running s.state then min (frames * frame_of s.params) (limit_of s.kind s) else 0

abbrev pub moved_octets : Pcm → ℕ → List ℕ
moved_octets s frames = octets_of s.kind s (due s frames)

-- what a tick tells, and the stream after it
abbrev pub ticked_of : Pcm → ℕ → Ticked
ticked_of s frames = record { moved = due s frames; mark = mark_of (moved_octets s frames) }

abbrev pub after_tick : Pcm → ℕ → Pcm
after_tick s frames = if is_running s.state then counted (carried s.kind s (due s frames)) (due s frames) else s
