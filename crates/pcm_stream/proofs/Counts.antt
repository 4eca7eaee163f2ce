-- Whatever is done with a stream, its position, its phase and its line count the octets that moved.
use Rattle.std.proofs.Common.{◌≡◌, ℕ, ◌+◌, ◌*◌, ◌%◌, ◌^◌, ◌<◌, ◌≤◌, Bool, true, false, nat_lt, nat_eq, List, [], ◌∷◌, ◌++◌, length, take, min, refl, sym, ap, ◌∙◌, subst, arith, append_assoc, append-nil, length-append}
use Rattle.std.specs.Prelude.{Option, Some, None, if◌then◌else◌}
use Rattle.std.proofs.Math.Nat.{mod-add-mod, mod-eq_of_lt}
use Rattle.std.proofs.lemmas.List.{length-take-le}
use Rattle.std.proofs.lemmas.Bool.Decides.{nat_tests}
use Rattle.pv_words.specs.declared.device.StreamKind.{StreamKind}
use Rattle.pv_words.specs.declared.device.StreamKind.TheVariants.{Playback, Capture}
use Rattle.pcm_params.specs.declared.params.Params.{Params}
use Rattle.pcm_params.specs.Format.{frame_of}
use Rattle.pcm_stream.specs.declared.state.StreamState.{StreamState}
use Rattle.pcm_stream.specs.declared.state.Trigger.{Trigger}
use Rattle.pcm_stream.specs.declared.state.Trigger.TheVariants.{Start, Pause, Stop, Resume}
use Rattle.pcm_stream.specs.Laws.{AllAreCounted, CountsAll, Deed, Tick, Push, Skip, Pull, Raise, after, after_all, all_of, moves}
use Rattle.pcm_stream.specs.Line.{line_from}
use Rattle.pcm_stream.specs.State.{is_running, leads, trigger_at}
use Rattle.pcm_stream.specs.Stream.{Pcm, led, opened, popped, pulled, pushed, told, triggered}
use Rattle.pcm_stream.specs.Tick.{carried, counted, limit_of, octets_of}
use Rattle.pcm_stream.proofs.Octets.{length-line_from, line_from-add, line_from-mod}

-- what counting reads and writes is as it was
record Keeps (s t : Pcm) : Type 0 where
  kind : t.kind ≡ s.kind
  params : t.params ≡ s.params
  position : t.position ≡ s.position
  phase : t.phase ≡ s.phase
  captured : t.captured ≡ s.captured

keeps-led : (s : Pcm) (trigger : Trigger) (next : Option StreamState) → Keeps s (led s trigger next)
keeps-led s trigger None = record { kind = refl; params = refl; position = refl; phase = refl; captured = refl }
keeps-led s Start (Some next) = record { kind = refl; params = refl; position = refl; phase = refl; captured = refl }
keeps-led s Pause (Some next) = record { kind = refl; params = refl; position = refl; phase = refl; captured = refl }
keeps-led s Stop (Some next) = record { kind = refl; params = refl; position = refl; phase = refl; captured = refl }
keeps-led s Resume (Some next) = record { kind = refl; params = refl; position = refl; phase = refl; captured = refl }

keeps-pulled : (s : Pcm) (trigger : Option Trigger) → Keeps s (pulled s trigger)
keeps-pulled s None = record { kind = refl; params = refl; position = refl; phase = refl; captured = refl }
keeps-pulled s (Some trigger) = keeps-led s trigger (leads trigger s.state)

-- where nothing moved, what was counted still is
kept : (s t : Pcm) (octets : List ℕ) → Keeps s t → CountsAll s octets → CountsAll t (octets ++ [])
kept s t octets k c =
    let P : List ℕ → Type 0 = λ xs. CountsAll t xs in
    let here : CountsAll t octets = record {
      position = k.position ∙ c.position;
      phase = λ positive.
          let e : t.params.period_sz ≡ s.params.period_sz = ap (λ (p : Params). p.period_sz) k.params in
          k.phase ∙ c.phase (omega (arith, e, positive)) ∙ ap (λ (n : ℕ). length octets % n) (sym e);
      line = λ is. let l = c.line (sym k.kind ∙ is) in (l.0, k.captured ∙ l.1);
    } in
    subst P (sym (append-nil octets)) here

-- a stream that counts, by the outcomes of the two tests
abbrev counted-by : Pcm → ℕ → Bool → Bool → Pcm
counted-by s count none below =
    let position = (s.position + count) % 2 ^ 64 in
    if none
    then record s { position = position }
    else if below
    then record s { position = position; phase = s.phase + count }
    else record s { position = position; phase = (s.phase + count) % s.params.period_sz; owed = Some position }

-- what counting makes of a stream
pub record Counting (s t : Pcm) (count : ℕ) : Type 0 where
  pub kind : t.kind ≡ s.kind
  pub params : t.params ≡ s.params
  pub position : t.position ≡ (s.position + count) % 2 ^ 64
  pub phase : 0 < s.params.period_sz → t.phase ≡ (s.phase + count) % s.params.period_sz
  pub captured : t.captured ≡ s.captured
  pub queue : t.queue ≡ s.queue

counting-by : (s : Pcm) (count : ℕ) (none below : Bool)
    → nat_eq s.params.period_sz 0 ≡ none → nat_lt (s.phase + count) s.params.period_sz ≡ below
    → Counting s (counted-by s count none below) count
counting-by s count true below e f = record {
  kind = refl;
  params = refl;
  position = refl;
  phase = λ positive. absurd (grind (arith, nat_tests));
  captured = refl;
  queue = refl;
}
counting-by s count false true e f = record {
  kind = refl;
  params = refl;
  position = refl;
  phase = λ positive.
      let below : s.phase + count < s.params.period_sz = grind (arith, nat_tests) in
      sym (mod-eq_of_lt below);
  captured = refl;
  queue = refl;
}
counting-by s count false false e f = record {
  kind = refl;
  params = refl;
  position = refl;
  phase = λ positive. refl;
  captured = refl;
  queue = refl;
}

pub counting : (s : Pcm) (count : ℕ) → Counting s (counted s count) count
counting s count = counting-by s count (nat_eq s.params.period_sz 0) (nat_lt (s.phase + count) s.params.period_sz) refl refl

-- the octets that moved are counted to those before
counts-more : (s : Pcm) (octets more : List ℕ) (count : ℕ) → length more ≡ count
    → s.position ≡ length octets % 2 ^ 64
    → (0 < s.params.period_sz → s.phase ≡ length octets % s.params.period_sz)
    → (s.kind ≡ Capture → (octets ++ more ≡ line_from 0 (length (octets ++ more))) × (s.captured ≡ length (octets ++ more) % 251))
    → CountsAll (counted s count) (octets ++ more)
counts-more s octets more count is position phase line =
    let k = counting s count in
    let sum : length (octets ++ more) ≡ length octets + count = length-append octets more ∙ ap (λ (n : ℕ). length octets + n) is in
    let modulo : (modulus n : ℕ) → n ≡ length octets % modulus → (n + count) % modulus ≡ length (octets ++ more) % modulus = λ modulus n e.
    ap (λ (i : ℕ). (i + count) % modulus) e ∙ mod-add-mod (length octets) modulus count ∙ ap (λ (i : ℕ). i % modulus) (sym sum) in
    record {
      position = k.position ∙ modulo (2 ^ 64) s.position position;
      phase = λ positive.
          let e : (counted s count).params.period_sz ≡ s.params.period_sz = ap (λ (p : Params). p.period_sz) k.params in
          let here : 0 < s.params.period_sz = omega (arith, e, positive) in
          k.phase here ∙ modulo s.params.period_sz s.phase (phase here) ∙ ap (λ (n : ℕ). length (octets ++ more) % n) (sym e);
      line = λ capture. let l = line (sym k.kind ∙ capture) in (l.0, k.captured ∙ l.1);
    }

-- the line goes on where it stood
line-more : (octets : List ℕ) (captured count : ℕ) → octets ≡ line_from 0 (length octets) → captured ≡ length octets % 251
    → (octets ++ line_from captured count ≡ line_from 0 (length (octets ++ line_from captured count)))
    × ((captured + count) % 251 ≡ length (octets ++ line_from captured count) % 251)
line-more octets captured count line is =
    let sum : length (octets ++ line_from captured count) ≡ length octets + count =
    length-append octets (line_from captured count) ∙ ap (λ (n : ℕ). length octets + n) (length-line_from captured count) in
    let same : captured % 251 ≡ length octets % 251 = omega (arith, is) in
    let from : 0 + length octets ≡ length octets = omega arith in (
      ap (λ (xs : List ℕ). xs ++ line_from captured count) line
          ∙ ap (λ (xs : List ℕ). line_from 0 (length octets) ++ xs) (line_from-mod captured (length octets) count same)
          ∙ ap (λ (n : ℕ). line_from 0 (length octets) ++ line_from n count) (sym from)
          ∙ sym (line_from-add 0 (length octets) count)
          ∙ ap (λ (n : ℕ). line_from 0 n) (sym sum),
      omega (arith, is, sum),
    )

moved-step : (s : Pcm) (kind : StreamKind) (octets : List ℕ) (count : ℕ) → s.kind ≡ kind → count ≤ limit_of kind s → CountsAll s octets
    → CountsAll (counted (carried kind s count) count) (octets ++ octets_of kind s count)
moved-step s Playback octets count is within c =
    counts-more (carried Playback s count) octets (take count s.queue) count (length-take-le count s.queue within)
    c.position c.phase (λ (capture : s.kind ≡ Capture). absurd (let no : Playback ≡ Capture = sym is ∙ capture in cc))
moved-step s Capture octets count is within c =
    let l = c.line is in
    counts-more (carried Capture s count) octets (line_from s.captured count) count (length-line_from s.captured count)
    c.position c.phase (λ (capture : s.kind ≡ Capture). line-more octets s.captured count l.0 l.1)

none-moves : (s : Pcm) (kind : StreamKind) → octets_of kind s 0 ≡ []
none-moves s Playback = refl
none-moves s Capture = refl

-- a tick, by whether the stream runs
abbrev due-by : Pcm → ℕ → Bool → ℕ
due-by s frames runs = if runs then min (frames * frame_of s.params) (limit_of s.kind s) else 0

abbrev ticked-by : Pcm → ℕ → Bool → Pcm
ticked-by s frames runs = if runs then counted (carried s.kind s (due-by s frames runs)) (due-by s frames runs) else s

tick-step : (s : Pcm) (octets : List ℕ) (frames : ℕ) (runs : Bool) → CountsAll s octets
    → CountsAll (ticked-by s frames runs) (octets ++ octets_of s.kind s (due-by s frames runs))
tick-step s octets frames true c =
    moved-step s s.kind octets (min (frames * frame_of s.params) (limit_of s.kind s)) refl (omega arith) c
tick-step s octets frames false c =
    let P : List ℕ → Type 0 = λ xs. CountsAll s (octets ++ xs) in
    subst P (sym (none-moves s s.kind))
    (kept s s octets (record { kind = refl; params = refl; position = refl; phase = refl; captured = refl }) c)

step : (s : Pcm) (octets : List ℕ) (d : Deed) → CountsAll s octets → CountsAll (after s d) (octets ++ moves s d)
step s octets (Tick frames) c = tick-step s octets frames (is_running s.state) c
step s octets (Push octet) c =
    kept s (pushed s octet) octets (record { kind = refl; params = refl; position = refl; phase = refl; captured = refl }) c
step s octets (Skip count) c =
    kept s (popped s count) octets (record { kind = refl; params = refl; position = refl; phase = refl; captured = refl }) c
step s octets (Pull trigger) c = kept s (triggered s trigger) octets (keeps-pulled s (trigger_at trigger)) c
step s octets Raise c =
    kept s (told s) octets (record { kind = refl; params = refl; position = refl; phase = refl; captured = refl }) c

steps : (s : Pcm) (octets : List ℕ) (ds : List Deed) → CountsAll s octets → CountsAll (after_all s ds) (octets ++ all_of moves s ds)
steps s octets [] c = kept s s octets (record { kind = refl; params = refl; position = refl; phase = refl; captured = refl }) c
steps s octets (d ∷ ds) c =
    let P : List ℕ → Type 0 = λ xs. CountsAll (after_all (after s d) ds) xs in
    subst P (append_assoc octets (moves s d) (all_of moves (after s d) ds))
    (steps (after s d) (octets ++ moves s d) ds (step s octets d c))

pub all-counted : AllAreCounted
all-counted kind p ds =
    steps (opened kind p) [] ds (record {
      position = refl;
      phase = λ positive. omega arith;
      line = λ capture. (refl, refl);
    })
