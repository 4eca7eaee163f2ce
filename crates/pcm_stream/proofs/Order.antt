-- What enters a stream's queue leaves it in the same order.
use Rattle.std.proofs.Common.{◌≡◌, ℕ, ◌*◌, Bool, true, false, List, [], ◌∷◌, ◌++◌, take, min, refl, sym, ap, ◌∙◌, append_assoc, append-nil}
use Rattle.std.specs.Prelude.{Option, Some, None, if◌then◌else◌}
use Rattle.std.proofs.lemmas.List.{take-append-drop}
use Rattle.pv_words.specs.declared.device.StreamKind.{StreamKind}
use Rattle.pv_words.specs.declared.device.StreamKind.TheVariants.{Playback, Capture}
use Rattle.pcm_params.specs.Format.{frame_of}
use Rattle.pcm_stream.specs.declared.state.StreamState.{StreamState}
use Rattle.pcm_stream.specs.declared.state.StreamState.TheVariants.{Closed, Opened, Running, Paused}
use Rattle.pcm_stream.specs.declared.state.Trigger.{Trigger}
use Rattle.pcm_stream.specs.declared.state.Trigger.TheVariants.{Start, Pause, Stop, Resume}
use Rattle.pcm_stream.specs.Laws.{AllGoInOrder, Deed, Tick, Push, Skip, Pull, Raise, after, after_all, all_of, entering, given_up, leaving}
use Rattle.pcm_stream.specs.State.{is_closed, is_running, leads, trigger_at}
use Rattle.pcm_stream.specs.Stream.{Pcm, is_playback, led, opened, pulled}
use Rattle.pcm_stream.specs.Tick.{carried, counted, limit_of, octets_of}
use Rattle.pcm_stream.proofs.Counts.{counting}

-- a tick, by the kind of the stream and whether it runs
abbrev moved-by : Pcm → ℕ → StreamKind → Bool → ℕ
moved-by s frames kind runs = if runs then min (frames * frame_of s.params) (limit_of kind s) else 0

tick-queue : (s : Pcm) (frames : ℕ) (kind : StreamKind) (runs : Bool)
    → s.queue ++ (if is_playback kind then [] else octets_of kind s (moved-by s frames kind runs))
    ≡ (if is_playback kind then octets_of kind s (moved-by s frames kind runs) else [])
    ++ (if runs then counted (carried kind s (moved-by s frames kind runs)) (moved-by s frames kind runs) else s).queue
tick-queue s frames Playback true =
    let count : ℕ = min (frames * frame_of s.params) (limit_of Playback s) in
    let rest = counting (carried Playback s count) count in
    append-nil s.queue ∙ sym (take-append-drop count s.queue)
    ∙ ap (λ (xs : List ℕ). take count s.queue ++ xs) (sym rest.queue)
tick-queue s frames Playback false = append-nil s.queue
tick-queue s frames Capture true =
    let count : ℕ = min (frames * frame_of s.params) (limit_of Capture s) in
    let rest = counting (carried Capture s count) count in
    sym rest.queue
tick-queue s frames Capture false = append-nil s.queue

-- a trigger other than STOP leaves the queue; STOP empties that of an open stream
led-queue : (s : Pcm) (next : Option StreamState) → (led s Start next).queue ≡ s.queue
led-queue s None = refl
led-queue s (Some next) = refl

paused-queue : (s : Pcm) (next : Option StreamState) → (led s Pause next).queue ≡ s.queue
paused-queue s None = refl
paused-queue s (Some next) = refl

resumed-queue : (s : Pcm) (next : Option StreamState) → (led s Resume next).queue ≡ s.queue
resumed-queue s None = refl
resumed-queue s (Some next) = refl

stop-queue : (s : Pcm) (state : StreamState)
    → s.queue ++ [] ≡ (if is_closed state then [] else s.queue) ++ (led s Stop (leads Stop state)).queue
stop-queue s Closed = append-nil s.queue
stop-queue s Opened = refl
stop-queue s Running = refl
stop-queue s Paused = refl

pull-queue : (s : Pcm) (trigger : Option Trigger) → s.queue ++ [] ≡ given_up s trigger ++ (pulled s trigger).queue
pull-queue s None = append-nil s.queue
pull-queue s (Some Start) = append-nil s.queue ∙ sym (led-queue s (leads Start s.state))
pull-queue s (Some Pause) = append-nil s.queue ∙ sym (paused-queue s (leads Pause s.state))
pull-queue s (Some Stop) = stop-queue s s.state
pull-queue s (Some Resume) = append-nil s.queue ∙ sym (resumed-queue s (leads Resume s.state))

deed-queue : (s : Pcm) (d : Deed) → s.queue ++ entering s d ≡ leaving s d ++ (after s d).queue
deed-queue s (Tick frames) = tick-queue s frames s.kind (is_running s.state)
deed-queue s (Push octet) = refl
deed-queue s (Skip count) = append-nil s.queue ∙ sym (take-append-drop count s.queue)
deed-queue s (Pull trigger) = pull-queue s (trigger_at trigger)
deed-queue s Raise = append-nil s.queue

deeds-queue : (s : Pcm) (ds : List Deed) → s.queue ++ all_of entering s ds ≡ all_of leaving s ds ++ (after_all s ds).queue
deeds-queue s [] = append-nil s.queue
deeds-queue s (d ∷ ds) =
    sym (append_assoc s.queue (entering s d) (all_of entering (after s d) ds))
    ∙ ap (λ (xs : List ℕ). xs ++ all_of entering (after s d) ds) (deed-queue s d)
    ∙ append_assoc (leaving s d) (after s d).queue (all_of entering (after s d) ds)
    ∙ ap (λ (xs : List ℕ). leaving s d ++ xs) (deeds-queue (after s d) ds)
    ∙ sym (append_assoc (leaving s d) (all_of leaving (after s d) ds) (after_all (after s d) ds).queue)

pub all-in-order : AllGoInOrder
all-in-order kind p ds = deeds-queue (opened kind p) ds
