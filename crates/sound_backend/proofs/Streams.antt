-- Streams of which one is changed.
use Rattle.std.proofs.Common.{◌≡◌, ◌≢◌, ℕ, zero, suc, ◌+◌, ◌%◌, ◌^◌, ◌==◌, ◌<◌, ◌≤◌, nat_lt, pos, Bool, true, false, cond, List, [], ◌∷◌, ◌++◌, get_or, length, map, replicate, slice_get, slice_set, Option, Some, None, Ok, Err, refl, sym, ap, ◌∙◌, arith}
use Rattle.std.proofs.lemmas.Bool.{true≢false, false≢true, eq-eqb}
use Rattle.std.specs.List.{AllByRecursion}
use Rattle.pv_words.specs.declared.device.StreamKind.{StreamKind}
use Rattle.pv_words.specs.declared.device.StreamKind.TheVariants.{Playback, Capture}
use Rattle.pv_words.specs.declared.grant.Hold.{Hold}
use Rattle.snd_wire.specs.declared.types.Asked.TheVariants as asked
use Rattle.pcm_params.specs.declared.params.Params.{Params}
use Rattle.pcm_params.specs.Params.{is_accepted as are_accepted}
use Rattle.pcm_stream.specs.declared.state.StreamRefusal.TheVariants.{WrongState, Invalid}
use Rattle.pcm_stream.specs.State.{is_closed, is_running}
use Rattle.pcm_stream.specs.Stream.{Pcm, closed, opened}
use Rattle.pcm_stream.specs.Tick.{after_tick, carried, counted, due}
use Rattle.sound_backend.specs.Held.{all_bared, bared, list_at, with_list}
use Rattle.sound_backend.specs.Kept.{AreKept, AreNamed, IsOpen}
use Rattle.sound_backend.specs.Names.{Numbered, without_part}
use Rattle.sound_backend.specs.Stock.{Stock, all_closed, changed, kinds_in}
use Rattle.sound_backend.specs.Verdict.{answer_to, checked}

-- a stream that is put in the place of one that it comes from
pub set_changed : (f : Pcm → Pcm) (ss : List Pcm) (k : ℕ) (old new : Pcm) → k < length ss → old ≡ get_or ss k old → new ≡ f old → slice_set ss k new ≡ changed f ss k
set_changed f [] k old new within at e = absurd (omega (arith, within))
set_changed f (s ∷ ss) zero old new within at e = ap (λ x. x ∷ ss) (e ∙ ap f at)
set_changed f (s ∷ ss) (suc k) old new within at e = ap (λ rest. s ∷ rest) (set_changed f ss k old new (omega (arith, within)) at e)

pub changed_past : (f : Pcm → Pcm) (ss : List Pcm) (k : ℕ) → length ss ≤ k → changed f ss k ≡ ss
changed_past f [] k past = refl
changed_past f (s ∷ ss) zero past = absurd (omega (arith, past))
changed_past f (s ∷ ss) (suc k) past = ap (λ rest. s ∷ rest) (changed_past f ss k (omega (arith, past)))

pub get_past : (ss : List Pcm) (k : ℕ) → length ss ≤ k → slice_get ss k ≡ None
get_past [] k past = refl
get_past (s ∷ ss) zero past = absurd (omega (arith, past))
get_past (s ∷ ss) (suc k) past = get_past ss k (omega (arith, past))

pub get_there : (ss : List Pcm) (k : ℕ) (s : Pcm) → k < length ss → s ≡ get_or ss k s → slice_get ss k ≡ Some s
get_there [] k s within at = absurd (omega (arith, within))
get_there (x ∷ ss) zero s within at = ap Some (sym at)
get_there (x ∷ ss) (suc k) s within at = get_there ss k s (omega (arith, within)) at

pub stream_within : (ss : List Pcm) (k : ℕ) (s : Pcm) → slice_get ss k ≡ Some s → k < length ss
stream_within [] k s is = let wrong : ⊥ = cc in absurd wrong
stream_within (x ∷ ss) zero s is = omega arith
stream_within (x ∷ ss) (suc k) s is = let later = stream_within ss k s is in omega (arith, later)

pub length_changed : (f : Pcm → Pcm) (ss : List Pcm) (k : ℕ) → length (changed f ss k) ≡ length ss
length_changed f [] k = refl
length_changed f (s ∷ ss) zero = refl
length_changed f (s ∷ ss) (suc k) = ap suc (length_changed f ss k)

-- the streams at its place and at others
get_changed : (f : Pcm → Pcm) (ss : List Pcm) (k : ℕ) (s : Pcm) → slice_get ss k ≡ Some s → slice_get (changed f ss k) k ≡ Some (f s)
get_changed f [] k s is = let wrong : ⊥ = cc in absurd wrong
get_changed f (x ∷ ss) zero s is = let same : x ≡ s = cc in ap (λ y. Some (f y)) same
get_changed f (x ∷ ss) (suc k) s is = get_changed f ss k s is

get_other : (f : Pcm → Pcm) (ss : List Pcm) (k j : ℕ) → j ≢ k → slice_get (changed f ss k) j ≡ slice_get ss j
get_other f [] k j apart = refl
get_other f (x ∷ ss) zero zero apart = absurd (apart refl)
get_other f (x ∷ ss) zero (suc j) apart = refl
get_other f (x ∷ ss) (suc k) zero apart = refl
get_other f (x ∷ ss) (suc k) (suc j) apart = get_other f ss k j (λ e. apart (ap suc e))

-- which way the octets of each go
pub kinds_changed : (f : Pcm → Pcm) → ((s : Pcm) → (f s).kind ≡ s.kind) → (ss : List Pcm) (k : ℕ) → kinds_in (changed f ss k) ≡ kinds_in ss
kinds_changed f same [] k = refl
kinds_changed f same (s ∷ ss) zero = ap (λ x. x ∷ kinds_in ss) (same s)
kinds_changed f same (s ∷ ss) (suc k) = ap (λ rest. s.kind ∷ rest) (kinds_changed f same ss k)

pub kinds_closed : (kinds : List StreamKind) → kinds_in (map closed kinds) ≡ kinds
kinds_closed [] = refl
kinds_closed (k ∷ kinds) = ap (λ rest. k ∷ rest) (kinds_closed kinds)

pub length_kinds : (ss : List Pcm) → length (kinds_in ss) ≡ length ss
length_kinds [] = refl
length_kinds (s ∷ ss) = ap suc (length_kinds ss)

-- all of them are closed
pub closed_all : (ss : List Pcm) → map (λ (s : Pcm). closed s.kind) ss ≡ map closed (kinds_in ss)
closed_all [] = refl
closed_all (s ∷ ss) = ap (λ rest. closed s.kind ∷ rest) (closed_all ss)

-- a tick leaves the kind and the state of a stream
carried_same : (kind : StreamKind) (s : Pcm) (n : ℕ) → ((carried kind s n).kind ≡ s.kind) × ((carried kind s n).state ≡ s.state)
carried_same Playback s n = (refl, refl)
carried_same Capture s n = (refl, refl)

counted_same : (s : Pcm) (n : ℕ) → ((counted s n).kind ≡ s.kind) × ((counted s n).state ≡ s.state)
counted_same s n = by_tests (s.params.period_sz == 0) (nat_lt (s.phase + n) s.params.period_sz)
  where
    position : ℕ
    position = (s.position + n) % 2 ^ 64

    by_tests : (b c : Bool) → ((cond b (record s { position = position }) (cond c (record s { position = position; phase = s.phase + n }) (record s { position = position; phase = (s.phase + n) % s.params.period_sz; owed = Some position }))).kind ≡ s.kind) × ((cond b (record s { position = position }) (cond c (record s { position = position; phase = s.phase + n }) (record s { position = position; phase = (s.phase + n) % s.params.period_sz; owed = Some position }))).state ≡ s.state)
    by_tests true c = (refl, refl)
    by_tests false true = (refl, refl)
    by_tests false false = (refl, refl)

tick_same : (s : Pcm) (n : ℕ) → ((after_tick s n).kind ≡ s.kind) × ((after_tick s n).state ≡ s.state)
tick_same s n = by_test (is_running s.state)
  where
    by_test : (b : Bool) → ((cond b (counted (carried s.kind s (due s n)) (due s n)) s).kind ≡ s.kind) × ((cond b (counted (carried s.kind s (due s n)) (due s n)) s).state ≡ s.state)
    by_test true =
        let c = counted_same (carried s.kind s (due s n)) (due s n) in
        let d = carried_same s.kind s (due s n) in
        (c.0 ∙ d.0, c.1 ∙ d.1)
    by_test false = (refl, refl)

pub tick_kind : (n : ℕ) (s : Pcm) → (after_tick s n).kind ≡ s.kind
tick_kind n s = (tick_same s n).0

pub tick_closed : (n : ℕ) (s : Pcm) → is_closed (after_tick s n).state ≡ is_closed s.state
tick_closed n s = ap is_closed (tick_same s n).1

-- the lists of pages of the streams
pub kept_length : (ss : List Pcm) (lists : List (List Hold)) → AreKept ss lists → length lists ≡ length ss
kept_length [] [] h = refl
kept_length [] (hs ∷ lists) h = absurd h
kept_length (s ∷ ss) [] h = absurd h
kept_length (s ∷ ss) (hs ∷ lists) h = ap suc (kept_length ss lists h.1)

pub kept_bare : (ss : List Pcm) (lists : List (List Hold)) (k : ℕ) (s : Pcm) → AreKept ss lists → slice_get ss k ≡ Some s → is_closed s.state ≡ true → list_at lists k ≡ []
kept_bare [] lists k s h is shut = let wrong : ⊥ = cc in absurd wrong
kept_bare (x ∷ ss) [] k s h is shut = absurd h
kept_bare (x ∷ ss) (hs ∷ lists) zero s h is shut = let same : x ≡ s = cc in h.0 (ap (λ (y : Pcm). is_closed y.state) same ∙ shut)
kept_bare (x ∷ ss) (hs ∷ lists) (suc k) s h is shut = kept_bare ss lists k s h.1 is shut

pub kept_changed : (f : Pcm → Pcm) → ((s : Pcm) → is_closed (f s).state ≡ is_closed s.state) → (ss : List Pcm) (lists : List (List Hold)) (k : ℕ) → AreKept ss lists → AreKept (changed f ss k) lists
kept_changed f same [] lists k h = h
kept_changed f same (s ∷ ss) [] k h = absurd h
kept_changed f same (s ∷ ss) (hs ∷ lists) zero h = (λ shut. h.0 (sym (same s) ∙ shut), h.1)
kept_changed f same (s ∷ ss) (hs ∷ lists) (suc k) h = (h.0, kept_changed f same ss lists k h.1)

pub kept_opened : (p : Params) (ss : List Pcm) (lists : List (List Hold)) (k : ℕ) (pages : List Hold) → AreKept ss lists → AreKept (changed (λ s. opened s.kind p) ss k) (with_list lists k pages)
kept_opened p [] [] k pages h = tt
kept_opened p [] (hs ∷ lists) k pages h = absurd h
kept_opened p (s ∷ ss) [] k pages h = absurd h
kept_opened p (s ∷ ss) (hs ∷ lists) zero pages h = (λ shut. absurd (false≢true shut), h.1)
kept_opened p (s ∷ ss) (hs ∷ lists) (suc k) pages h = (h.0, kept_opened p ss lists k pages h.1)

pub kept_closed : (ss : List Pcm) (lists : List (List Hold)) (k : ℕ) → AreKept ss lists → list_at lists k ≡ [] → AreKept (changed (λ s. closed s.kind) ss k) lists
kept_closed [] lists k h bare = h
kept_closed (s ∷ ss) [] k h bare = absurd h
kept_closed (s ∷ ss) (hs ∷ lists) zero h bare = (λ shut. bare, h.1)
kept_closed (s ∷ ss) (hs ∷ lists) (suc k) h bare = (h.0, kept_closed ss lists k h.1 bare)

pub kept_bared : (ss : List Pcm) (lists : List (List Hold)) (k : ℕ) → AreKept ss lists → AreKept ss (bared lists k)
kept_bared [] [] k h = h
kept_bared [] (hs ∷ lists) k h = absurd h
kept_bared (s ∷ ss) [] k h = absurd h
kept_bared (s ∷ ss) (hs ∷ lists) zero h = (λ shut. refl, h.1)
kept_bared (s ∷ ss) (hs ∷ lists) (suc k) h = (h.0, kept_bared ss lists k h.1)

pub kept_none : (ss : List Pcm) (lists : List (List Hold)) → AreKept ss lists → AreKept ss (all_bared lists)
kept_none [] [] h = h
kept_none [] (hs ∷ lists) h = absurd h
kept_none (s ∷ ss) [] h = absurd h
kept_none (s ∷ ss) (hs ∷ lists) h = (λ shut. refl, kept_none ss lists h.1)

pub kept_shut : (kinds : List StreamKind) → AreKept (map closed kinds) (replicate (length kinds) [])
kept_shut [] = tt
kept_shut (k ∷ kinds) = (λ shut. refl, kept_shut kinds)

-- what an accepted OPEN and an accepted CLOSE say of their stream
pub record IsShut (o : Option Pcm) (p : Params) : Type 0 where
  pub stream : Pcm
  pub is : o ≡ Some stream
  pub shut : is_closed stream.state ≡ true
  pub fit : are_accepted p ≡ true

pub open_accepted : (o : Option Pcm) (p : Params) → (answer_to o (asked.Open p)).status ≡ pos 0 → IsShut o p
open_accepted None p e = let wrong : ⊥ = cc in absurd wrong
open_accepted (Some s) p e = by_test (is_closed s.state) refl (are_accepted p) refl e
  where
    by_test : (b : Bool) → is_closed s.state ≡ b → (c : Bool) → are_accepted p ≡ c → (checked (cond b (cond c (Ok tt) (Err Invalid)) (Err (WrongState s.state)))).status ≡ pos 0 → IsShut (Some s) p
    by_test true f true g e = record { stream = s; is = refl; shut = f; fit = g }
    by_test true f false g e = let wrong : ⊥ = cc in absurd wrong
    by_test false f c g e = let wrong : ⊥ = cc in absurd wrong

pub close_accepted : (o : Option Pcm) → (answer_to o asked.Close).status ≡ pos 0 → (s : Pcm) × (o ≡ Some s) × (is_closed s.state ≡ false)
close_accepted None e = let wrong : ⊥ = cc in absurd wrong
close_accepted (Some s) e = by_test (is_closed s.state) refl e
  where
    by_test : (b : Bool) → is_closed s.state ≡ b → (checked (cond b (Err (WrongState s.state)) (Ok tt))).status ≡ pos 0 → (x : Pcm) × (Some s ≡ Some x) × (is_closed x.state ≡ false)
    by_test true f e = let wrong : ⊥ = cc in absurd wrong
    by_test false f e = (s, refl, f)

-- open streams stay open
open_changed : (f : Pcm → Pcm) → ((s : Pcm) → is_closed (f s).state ≡ is_closed s.state) → (ss : List Pcm) (k j : ℕ) → IsOpen ss j → IsOpen (changed f ss k) j
open_changed f same [] k j o = o
open_changed f same (s ∷ ss) zero zero o =
    let here : s ≡ o.stream = some_same s o.stream o.is in
    record { stream = f s; is = refl; opened = same s ∙ ap (λ (y : Pcm). is_closed y.state) here ∙ o.opened }
  where
    some_same : (x y : Pcm) → Some x ≡ Some y → x ≡ y
    some_same x y e = cc
open_changed f same (s ∷ ss) zero (suc j) o = record { stream = o.stream; is = o.is; opened = o.opened }
open_changed f same (s ∷ ss) (suc k) zero o = record { stream = o.stream; is = o.is; opened = o.opened }
open_changed f same (s ∷ ss) (suc k) (suc j) o =
    let later = open_changed f same ss k j (record { stream = o.stream; is = o.is; opened = o.opened }) in
    record { stream = later.stream; is = later.is; opened = later.opened }

open_other : (f : Pcm → Pcm) (ss : List Pcm) (k j : ℕ) → j ≢ k → IsOpen ss j → IsOpen (changed f ss k) j
open_other f ss k j apart o = record { stream = o.stream; is = get_other f ss k j apart ∙ o.is; opened = o.opened }

-- a name is of another stream than one that is closed
apart_of : (ss : List Pcm) (k j : ℕ) (s : Pcm) → slice_get ss k ≡ Some s → is_closed s.state ≡ true → IsOpen ss j → j ≢ k
apart_of ss k j s is shut o e =
    let same : o.stream ≡ s = some_same o.stream s (sym o.is ∙ ap (slice_get ss) e ∙ is) in
    false≢true (sym o.opened ∙ ap (λ (y : Pcm). is_closed y.state) same ∙ shut)
  where
    some_same : (x y : Pcm) → Some x ≡ Some y → x ≡ y
    some_same x y e = cc

pub named_apart : (ss : List Pcm) (k : ℕ) (s : Pcm) (m : List Numbered) → slice_get ss k ≡ Some s → is_closed s.state ≡ true → AreNamed ss m → AllByRecursion (λ (e : Numbered). e.part ≢ k) m
named_apart ss k s [] is shut named = tt
named_apart ss k s (e ∷ es) is shut named = (apart_of ss k e.part s is shut named.0, named_apart ss k s es is shut named.1)

pub named_changed : (f : Pcm → Pcm) → ((s : Pcm) → is_closed (f s).state ≡ is_closed s.state) → (ss : List Pcm) (k : ℕ) (m : List Numbered) → AreNamed ss m → AreNamed (changed f ss k) m
named_changed f same ss k [] named = tt
named_changed f same ss k (e ∷ es) named = (open_changed f same ss k e.part named.0, named_changed f same ss k es named.1)

pub named_opened : (p : Params) (ss : List Pcm) (k n : ℕ) (s : Pcm) (m : List Numbered) → slice_get ss k ≡ Some s → is_closed s.state ≡ true → AreNamed ss m → AreNamed (changed (λ s. opened s.kind p) ss k) (m ++ record { part = k; number = n } ∷ [])
named_opened p ss k n s [] is shut named = (record { stream = opened s.kind p; is = get_changed (λ s. opened s.kind p) ss k s is; opened = refl }, tt)
named_opened p ss k n s (e ∷ es) is shut named =
    (open_other (λ s. opened s.kind p) ss k e.part (apart_of ss k e.part s is shut named.0) named.0, named_opened p ss k n s es is shut named.1)

pub named_closed : (ss : List Pcm) (k : ℕ) (m : List Numbered) → AreNamed ss m → AreNamed (changed (λ s. closed s.kind) ss k) (without_part k m)
named_closed ss k [] named = tt
named_closed ss k (e ∷ es) named = by_test (e.part == k) refl (named_closed ss k es named.1)
  where
    by_test : (b : Bool) → (e.part == k) ≡ b → AreNamed (changed (λ s. closed s.kind) ss k) (without_part k es) → AreNamed (changed (λ s. closed s.kind) ss k) (cond b (without_part k es) (e ∷ without_part k es))
    by_test true f later = later
    by_test false f later = (open_other (λ s. closed s.kind) ss k e.part (λ same. true≢false (sym (eq-eqb _ _ same) ∙ f)) named.0, later)

-- a stock by its parts
pub stock_by : {a b : List Hold} {h k : List (List Hold)} {s t : List Pcm} → a ≡ b → h ≡ k → s ≡ t → (let old : Stock = record { mapped = a; held = h; streams = s } in let new : Stock = record { mapped = b; held = k; streams = t } in old ≡ new)
stock_by {a} {b} {h} {k} {s} {t} e f g =
    ap (λ (x : List Hold). let r : Stock = record { mapped = x; held = h; streams = s } in r) e
    ∙ ap (λ (x : List (List Hold)). let r : Stock = record { mapped = b; held = x; streams = s } in r) f
    ∙ ap (λ (x : List Pcm). let r : Stock = record { mapped = b; held = k; streams = x } in r) g

-- what is known of a sound device that is declared
pub fresh_stock : (kinds : List StreamKind) (s : Stock) → s ≡ all_closed kinds → all_closed (kinds_in s.streams) ≡ s
fresh_stock kinds s e = ap (λ (t : Stock). all_closed (kinds_in t.streams)) e ∙ (ap all_closed (kinds_closed kinds) ∙ sym e)
