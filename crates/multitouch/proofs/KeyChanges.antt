-- Keys that come up and go down, one after another.
use Rattle.std.proofs.Common.{◌≡◌, ℕ, ◌+◌, ◌≤◌, Bool, true, false, cond, not, ◌||◌, List, [], ◌∷◌, map, length, nat_lt, nat_cmp, Option, Some, None, is_some, refl, sym, ap, ◌∙◌, arith}
use Rattle.std.proofs.lemmas.Bool.{lt-ltb}
use Rattle.std.specs.List.{list_any}
use Rattle.std.specs.Ordering.{eq_by_cmp}
use Rattle.std.specs.Cmp.{nat_cmp_total, Equal-is}
use Rattle.std.specs.FinMap as finite
use Rattle.kbd_wire.specs.declared.Event.TheVariants.{Key}
use Rattle.pv_words.specs.declared.device.HostRefusal.TheVariants.{KeyIsDown, KeyIsUp, TooManyKeys}
use Rattle.multitouch.specs.Panel.{IsRising}
use Rattle.multitouch.specs.Pressed.{KeySet, Pressed, after, Accepts}
use Rattle.multitouch.specs.Repair.{codes_without}
use Rattle.multitouch.proofs.Codes.{rising_apart, rising_rest}
use Rattle.multitouch.proofs.Slots.{tied}

-- whether a code is one of these
abbrev pub among : ℕ → List ℕ → Bool
among q codes = list_any (eq_by_cmp nat_cmp q) codes

abbrev pub without : KeySet → List ℕ → KeySet
without keys [] = keys
without keys (code ∷ codes) = without (finite.remove keys code) codes

abbrev pub with_all : KeySet → List ℕ → KeySet
with_all keys [] = keys
with_all keys (code ∷ codes) = with_all (finite.insert keys code tt) codes

pub after_lifts : (p : Pressed) (codes : List ℕ) → after p (map (Key false) codes) ≡ record p { keys = without p.keys codes }
after_lifts p [] = refl
after_lifts p (code ∷ codes) = after_lifts (record p { keys = finite.remove p.keys code }) codes

pub after_presses : (p : Pressed) (codes : List ℕ) → after p (map (Key true) codes) ≡ record p { keys = with_all p.keys codes }
after_presses p [] = refl
after_presses p (code ∷ codes) = after_presses (record p { keys = finite.insert p.keys code tt }) codes

twice : {A : Type 0} (a b : Bool) (x y : A) → cond a x (cond b x y) ≡ cond (b || a) x y
twice true true x y = refl
twice true false x y = refl
twice false true x y = refl
twice false false x y = refl

pub get-without : (keys : KeySet) (codes : List ℕ) (q : ℕ) → finite.get (without keys codes) q ≡ cond (among q codes) None (finite.get keys q)
get-without keys [] q = refl
get-without keys (code ∷ codes) q =
    get-without (finite.remove keys code) codes q
    ∙ ap (cond (among q codes) None) (finite.get-remove nat_cmp_total keys code q)
    ∙ twice (among q codes) (eq_by_cmp nat_cmp q code) None (finite.get keys q)

pub get-with_all : (keys : KeySet) (codes : List ℕ) (q : ℕ) → finite.get (with_all keys codes) q ≡ cond (among q codes) (Some tt) (finite.get keys q)
get-with_all keys [] q = refl
get-with_all keys (code ∷ codes) q =
    get-with_all (finite.insert keys code tt) codes q
    ∙ ap (cond (among q codes) (Some tt)) (finite.get-insert nat_cmp_total keys code tt q)
    ∙ twice (among q codes) (eq_by_cmp nat_cmp q code) (Some tt) (finite.get keys q)

-- whether a code is in one set and not in the other
abbrev pub only_first : Option (Unit {0}) → Option (Unit {0}) → Bool
only_first here there = is_some (cond (not (is_some there)) here None)

pub among-codes_without : (these those : KeySet) (q : ℕ) → among q (codes_without these those) ≡ only_first (finite.get these q) (finite.get those q)
among-codes_without these those q =
    let up = λ (code : ℕ). not (finite.contains_key those code) in
    sym (finite.contains_key-keys (finite.retain_keys these up) q)
    ∙ ap is_some (finite.get-retain_keys these up q (λ x tie. ap up (sym (finite.nat_cmp-IsAntisymmetric q x tie))))

settled_at : (told real : Option (Unit {0})) → cond (only_first real told) (Some tt) (cond (only_first told real) None told) ≡ real
settled_at None None = refl
settled_at None (Some u) = refl
settled_at (Some t) None = refl
settled_at (Some t) (Some u) = refl

-- once the keys of the one set alone came up, and those of the other alone went down, the one is the other
pub keys_settled : (told real : KeySet) → with_all (without told (codes_without told real)) (codes_without real told) ≡ real
keys_settled told real =
    let lifted = codes_without told real in
    let pressed = codes_without real told in
    finite.same_map nat_cmp_total finite.nat_cmp-IsAntisymmetric _ _ (λ q.
    let before = finite.get told q in
    let now = finite.get real q in
    get-with_all (without told lifted) pressed q
    ∙ ap (cond (among q pressed) (Some tt)) (get-without told lifted q)
    ∙ ap (λ b. cond (among q pressed) (Some tt) (cond b None before)) (among-codes_without told real q)
    ∙ ap (λ b. cond b (Some tt) (cond (only_first before now) None before)) (among-codes_without real told q)
    ∙ settled_at before now)

-- of different codes, a change of one leaves the others
others : (code q : ℕ) (codes : List ℕ) → IsRising (code ∷ codes) → among q codes ≡ true → eq_by_cmp nat_cmp q code ≡ false
others code q codes rising there =
    elim (eq_by_cmp nat_cmp q code) as (λ b. eq_by_cmp nat_cmp q code ≡ b → b ≡ false) [
      | true ↦ λ same.
          let away = rising_apart code codes rising in
          let equal : q ≡ code = finite.nat_cmp-IsAntisymmetric q code ((Equal-is (nat_cmp q code)).0 same) in
          let here : among q codes ≡ false = ap (λ k. among k codes) equal ∙ away in
          absurd (cc)
      | false ↦ λ _. refl
    ] refl

pub lifts_accepted : (p : Pressed) (codes : List ℕ) → IsRising codes → ((q : ℕ) → among q codes ≡ true → finite.contains_key p.keys q ≡ true) → Accepts p (map (Key false) codes)
lifts_accepted p [] rising down = tt
lifts_accepted p (code ∷ codes) rising down =
    let here = down code (ap (λ b. b || among code codes) (tied code code refl)) in (
      ap (λ b. cond b None (Some (KeyIsUp code))) here,
      lifts_accepted (record p { keys = finite.remove p.keys code }) codes (rising_rest code codes rising) (λ q there.
          ap is_some (finite.get-remove nat_cmp_total p.keys code q)
          ∙ ap (λ b. is_some (cond b None (finite.get p.keys q))) (others code q codes rising there)
          ∙ down q (ap (λ b. b || among q codes) (others code q codes rising there) ∙ there)),
    )

pub presses_accepted : (p : Pressed) (codes : List ℕ) → IsRising codes → ((q : ℕ) → among q codes ≡ true → finite.contains_key p.keys q ≡ false) → finite.len p.keys + length codes ≤ 16 → Accepts p (map (Key true) codes)
presses_accepted p [] rising up few = tt
presses_accepted p (code ∷ codes) rising up few =
    let here = up code (ap (λ b. b || among code codes) (tied code code refl)) in
    let more = finite.len-insert nat_cmp_total p.keys code tt ∙ ap (λ b. cond b (finite.len p.keys) (finite.len p.keys + 1)) here in (
      ap (λ b. cond b (Some (KeyIsDown code)) (cond (nat_lt (finite.len p.keys) 16) None (Some (TooManyKeys code)))) here
          ∙ ap (λ b. cond b None (Some (TooManyKeys code))) (lt-ltb _ _ (omega arith)),
      presses_accepted (record p { keys = finite.insert p.keys code tt }) codes (rising_rest code codes rising)
          (λ q there.
          ap is_some (finite.get-insert nat_cmp_total p.keys code tt q)
          ∙ ap (λ b. is_some (cond b (Some tt) (finite.get p.keys q))) (others code q codes rising there)
          ∙ up q (ap (λ b. b || among q codes) (others code q codes rising there) ∙ there))
          (omega (arith, more, few)),
    )

-- as many keys more as go down
pub len-with_all : (keys : KeySet) (codes : List ℕ) → IsRising codes → ((q : ℕ) → among q codes ≡ true → finite.contains_key keys q ≡ false) → finite.len (with_all keys codes) ≡ finite.len keys + length codes
len-with_all keys [] rising up = omega arith
len-with_all keys (code ∷ codes) rising up =
    let here = up code (ap (λ b. b || among code codes) (tied code code refl)) in
    let more = finite.len-insert nat_cmp_total keys code tt ∙ ap (λ b. cond b (finite.len keys) (finite.len keys + 1)) here in
    let rest = len-with_all (finite.insert keys code tt) codes (rising_rest code codes rising) (λ q there.
    ap is_some (finite.get-insert nat_cmp_total keys code tt q)
    ∙ ap (λ b. is_some (cond b (Some tt) (finite.get keys q))) (others code q codes rising there)
    ∙ up q (ap (λ b. b || among q codes) (others code q codes rising there) ∙ there)) in
    omega (arith, more, rest)
