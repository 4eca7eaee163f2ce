-- One device among others.
use Rattle.std.proofs.Common.{◌≡◌, ℕ, zero, suc, ◌<◌, ◌==◌, ◌||◌, Bool, true, false, cond, List, [], ◌∷◌, ◌++◌, Some, length, drop, set, get_or, refl, sym, subst, ◌∙◌, ap, arith, eq-eqb}
use Rattle.std.proofs.lemmas.Bool.Decides.{nat_tests}
use Rattle.std.proofs.lemmas.Option.{same_Some, slice_get_read, get_or_from_slice_get}
use Rattle.std.specs.List.{AllByRecursion, slice_get}
use Rattle.pv_words.specs.declared.device.HostEvent.{HostEvent}
use Rattle.pv_words.specs.declared.place.DevId.{DevId}
use Rattle.pv_words.specs.declared.setup.DeviceSetup.{DeviceSetup}
use Rattle.pv_world.specs.declared.world.Placed.{Placed}
use Rattle.backend_core.specs.History.{AreApart, due_by, is_declared, site_of, takes_by}
use Rattle.backend_core.specs.Kinds.{due_after, takes_event}
use Rattle.backend_core.specs.Marked.{Item, own}
use Rattle.backend_core.proofs.Items.{dev_same}
use Rattle.pv_world.specs.World.{AreDeclaredAs, IsAt, IsDeclaredAs, setups}

neither : (a b : Bool) → (a || b) ≡ false → (a ≡ false) × (b ≡ false)
neither false false e = (refl, refl)
neither false true e = let wrong : ⊥ = cc in absurd wrong
neither true b e = let wrong : ⊥ = cc in absurd wrong

-- a device that isn't declared has another number than each that is
others : (d : ℕ) (ps : List Placed) → is_declared (setups ps) d ≡ false → AllByRecursion (λ q. (q.setup.dev.0 == d) ≡ false) ps
others d [] e = tt
others d (q ∷ qs) e = let n = neither (q.setup.dev.0 == d) (is_declared (setups qs) d) e in (n.0, others d qs n.1)

turned_round : (a b : ℕ) → (a == b) ≡ false → (b == a) ≡ false
turned_round a b e = grind (arith, nat_tests)

all_apart : (P Q : Placed → Type 0) (d : ℕ) (ps : List Placed) → AllByRecursion (λ q. (q.setup.dev.0 == d) ≡ false) ps → ((q : Placed) → (d == q.setup.dev.0) ≡ false → P q → Q q) → AllByRecursion P ps → AllByRecursion Q ps
all_apart P Q d [] n f h = tt
all_apart P Q d (q ∷ qs) n f h = (f q (turned_round q.setup.dev.0 d n.0) h.0, all_apart P Q d qs n.1 f h.1)

-- what is so of the device that stands there
pub at_index : (P : Placed → Type 0) (ps : List Placed) (i : ℕ) (p : Placed) → slice_get ps i ≡ Some p → AllByRecursion P ps → P p
at_index P [] zero p e h = let wrong : ⊥ = cc in absurd wrong
at_index P [] (suc i) p e h = let wrong : ⊥ = cc in absurd wrong
at_index P (q ∷ qs) zero p e h = subst P (same_Some q p e) h.0
at_index P (q ∷ qs) (suc i) p e h = at_index P qs i p e h.1

-- a device that is declared isn't one of those that aren't
apart_from : (qs : List Placed) (i : ℕ) (p : Placed) (d : ℕ) → slice_get qs i ≡ Some p → is_declared (setups qs) d ≡ false → (p.setup.dev.0 == d) ≡ false
apart_from qs i p d e n = at_index (λ q. (q.setup.dev.0 == d) ≡ false) qs i p e (others d qs n)

-- one device changes, and the others stay
pub all_step : (P Q : Placed → Type 0) (ps : List Placed) (i : ℕ) (p r : Placed) → AreApart (setups ps) → slice_get ps i ≡ Some p → ((q : Placed) → (p.setup.dev.0 == q.setup.dev.0) ≡ false → P q → Q q) → (P p → Q r) → AllByRecursion P ps → AllByRecursion Q (set ps i r)
all_step P Q [] zero p r a e f g h = let wrong : ⊥ = cc in absurd wrong
all_step P Q [] (suc i) p r a e f g h = let wrong : ⊥ = cc in absurd wrong
all_step P Q (q ∷ qs) zero p r a e f g h =
    let same : q ≡ p = same_Some q p e in (
      g (subst P same h.0),
      all_apart P Q p.setup.dev.0 qs (subst (λ (x : Placed). AllByRecursion (λ t. (t.setup.dev.0 == x.setup.dev.0) ≡ false) qs) same (others q.setup.dev.0 qs a.0)) f h.1,
    )
all_step P Q (q ∷ qs) (suc i) p r a e f g h =
    (f q (apart_from qs i p q.setup.dev.0 e a.0) h.0, all_step P Q qs i p r a.1 e f g h.1)

-- what is so of all devices, as declared
pub all_setups : (P : Placed → Type 0) (Q : DeviceSetup → Type 0) (ps : List Placed) → ((p : Placed) → P p → Q p.setup) → AllByRecursion P ps → AllByRecursion Q (setups ps)
all_setups P Q [] f h = tt
all_setups P Q (p ∷ ps) f h = (f p h.0, all_setups P Q ps f h.1)

-- a device that changes is declared as it was
pub setups_set : (ps : List Placed) (i : ℕ) (p r : Placed) → slice_get ps i ≡ Some p → r.setup ≡ p.setup → setups (set ps i r) ≡ setups ps
setups_set [] zero p r e s = let wrong : ⊥ = cc in absurd wrong
setups_set [] (suc i) p r e s = let wrong : ⊥ = cc in absurd wrong
setups_set (q ∷ qs) zero p r e s = ap (λ (x : DeviceSetup). x ∷ setups qs) (s ∙ sym (ap (λ (x : Placed). x.setup) (same_Some q p e)))
setups_set (q ∷ qs) (suc i) p r e s = ap (λ (xs : List DeviceSetup). q.setup ∷ xs) (setups_set qs i p r e s)

either_true : (a b : Bool) → b ≡ true → (a || b) ≡ true
either_true true b e = refl
either_true false b e = e

pub declared_at : (ps : List Placed) (i : ℕ) (p : Placed) → slice_get ps i ≡ Some p → is_declared (setups ps) p.setup.dev.0 ≡ true
declared_at [] zero p e = let wrong : ⊥ = cc in absurd wrong
declared_at [] (suc i) p e = let wrong : ⊥ = cc in absurd wrong
declared_at (q ∷ qs) zero p e =
    subst (λ (x : Placed). is_declared (q.setup ∷ setups qs) x.setup.dev.0 ≡ true) (same_Some q p e) (ap (λ (b : Bool). b || is_declared (setups qs) q.setup.dev.0) (eq-eqb q.setup.dev.0 q.setup.dev.0 refl))
declared_at (q ∷ qs) (suc i) p e = either_true (q.setup.dev.0 == p.setup.dev.0) (is_declared (setups qs) p.setup.dev.0) (declared_at qs i p e)

-- the device that an index reads
pub read_is : (ps : List Placed) (i : ℕ) (p x : Placed) → slice_get ps i ≡ Some p → x ≡ get_or ps i x → x ≡ p
read_is ps i p x e h = h ∙ get_or_from_slice_get ps i p x e

pub is_at_set : (ps : List Placed) (i : ℕ) (p r : Placed) → slice_get ps i ≡ Some p → slice_get (set ps i r) i ≡ Some r
is_at_set [] zero p r e = let wrong : ⊥ = cc in absurd wrong
is_at_set [] (suc i) p r e = let wrong : ⊥ = cc in absurd wrong
is_at_set (q ∷ qs) zero p r e = refl
is_at_set (q ∷ qs) (suc i) p r e = is_at_set qs i p r e

-- a device that is declared further on isn't past the end
pub declared_within : (ps : List Placed) (i d : ℕ) → is_declared (setups (drop i ps)) d ≡ true → i < length ps
declared_within [] zero d e = let wrong : ⊥ = cc in absurd wrong
declared_within [] (suc i) d e = let wrong : ⊥ = cc in absurd wrong
declared_within (p ∷ ps) zero d e = omega arith
declared_within (p ∷ ps) (suc i) d e = let l = declared_within ps i d e in omega (arith, l)

pub found_at : (ps : List Placed) (i : ℕ) (p : Placed) (dev : DevId) → is_declared (setups (drop i ps)) dev.0 ≡ true → p ≡ get_or ps i p → p.setup.dev.0 ≡ dev.0 → IsAt ps i dev
found_at ps i p dev e read same =
    (p, slice_get_read ps (length ps) i p refl (declared_within ps i dev.0 e) read, dev_same p.setup.dev dev same)

-- one more device as declared
pub declared_push : (ss : List DeviceSetup) (ps : List Placed) (s : DeviceSetup) (p : Placed) → AreDeclaredAs ss ps → IsDeclaredAs s p → AreDeclaredAs (ss ++ s ∷ []) (ps ++ p ∷ [])
declared_push [] [] s p h k = (k, tt)
declared_push [] (q ∷ ps) s p h k = absurd h
declared_push (t ∷ ss) [] s p h k = absurd h
declared_push (t ∷ ss) (q ∷ ps) s p h k = (h.0, declared_push ss ps s p h.1 k)

-- devices as declared are declared so
pub setups_as : (ss : List DeviceSetup) (ps : List Placed) → AreDeclaredAs ss ps → setups ps ≡ ss
setups_as [] [] h = refl
setups_as [] (q ∷ ps) h = absurd h
setups_as (t ∷ ss) [] h = absurd h
setups_as (t ∷ ss) (q ∷ ps) h = ap (λ (x : DeviceSetup). x ∷ setups ps) h.0.setup_is ∙ ap (λ (xs : List DeviceSetup). t ∷ xs) (setups_as ss ps h.1)

-- a host may tell a device the events of its own kind
pub takes_at : (ps : List Placed) (i : ℕ) (p : Placed) (e : HostEvent) → AreApart (setups ps) → slice_get ps i ≡ Some p → takes_by (setups ps) p.setup.dev.0 e ≡ takes_event p.setup.kind e
takes_at [] zero p e a at = let wrong : ⊥ = cc in absurd wrong
takes_at [] (suc i) p e a at = let wrong : ⊥ = cc in absurd wrong
takes_at (q ∷ qs) zero p e a at =
    let same : q ≡ p = same_Some q p at in
    subst (λ (x : Placed). takes_by (setups (x ∷ qs)) p.setup.dev.0 e ≡ takes_event p.setup.kind e) (sym same)
    (ap (λ (b : Bool). cond b (takes_event p.setup.kind e) (takes_by (setups qs) p.setup.dev.0 e)) (eq-eqb p.setup.dev.0 p.setup.dev.0 refl))
takes_at (q ∷ qs) (suc i) p e a at =
    ap (λ (b : Bool). cond b (takes_event q.setup.kind e) (takes_by (setups qs) p.setup.dev.0 e)) (turned_round p.setup.dev.0 q.setup.dev.0 (apart_from qs i p q.setup.dev.0 at a.0))
    ∙ takes_at qs i p e a.1 at

-- and what it has still to say is its own
pub due_is : (frames grants : ℕ → ℕ) (ps : List Placed) (i : ℕ) (p : Placed) (m : List Item) → AreApart (setups ps) → slice_get ps i ≡ Some p → due_by frames grants (setups ps) p.setup.dev.0 m ≡ due_after p.setup.kind (site_of frames grants p.setup) (own p.setup.dev.0 m)
due_is frames grants [] zero p m a at = let wrong : ⊥ = cc in absurd wrong
due_is frames grants [] (suc i) p m a at = let wrong : ⊥ = cc in absurd wrong
due_is frames grants (q ∷ qs) zero p m a at =
    let same : q ≡ p = same_Some q p at in
    let due = due_after p.setup.kind (site_of frames grants p.setup) (own p.setup.dev.0 m) in
    subst (λ (x : Placed). due_by frames grants (setups (x ∷ qs)) p.setup.dev.0 m ≡ due) (sym same)
    (ap (λ (b : Bool). cond b due (due_by frames grants (setups qs) p.setup.dev.0 m)) (eq-eqb p.setup.dev.0 p.setup.dev.0 refl))
due_is frames grants (q ∷ qs) (suc i) p m a at =
    ap (λ (b : Bool). cond b (due_after q.setup.kind (site_of frames grants q.setup) (own p.setup.dev.0 m)) (due_by frames grants (setups qs) p.setup.dev.0 m)) (turned_round p.setup.dev.0 q.setup.dev.0 (apart_from qs i p q.setup.dev.0 at a.0))
    ∙ due_is frames grants qs i p m a.1 at

-- a device that is declared stands somewhere
pub declared_found : (ps : List Placed) (d : ℕ) → is_declared (setups ps) d ≡ true → (i : ℕ) × (p : Placed) × (slice_get ps i ≡ Some p) × (p.setup.dev.0 ≡ d)
declared_found [] d e = let wrong : ⊥ = cc in absurd wrong
declared_found (q ∷ qs) d e = by_test (q.setup.dev.0 == d) refl e (λ h. declared_found qs d h)
  where
    by_test : (t : Bool) → (q.setup.dev.0 == d) ≡ t → (t || is_declared (setups qs) d) ≡ true
        → (is_declared (setups qs) d ≡ true → (i : ℕ) × (p : Placed) × (slice_get qs i ≡ Some p) × (p.setup.dev.0 ≡ d))
        → (i : ℕ) × (p : Placed) × (slice_get (q ∷ qs) i ≡ Some p) × (p.setup.dev.0 ≡ d)
    by_test true same h f = (0, q, refl, grind (arith, nat_tests))
    by_test false apart h f = let x = f h in (suc x.0, x.1, x.2, x.3)
