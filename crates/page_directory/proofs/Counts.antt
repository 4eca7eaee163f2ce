-- How often a hold is in a list, where lists are joined, and where one is taken out.
use Rattle.std.proofs.Common.{◌≡◌, inl, inr, ℕ, ◌+◌, ◌<◌, ◌==◌, ◌&&◌, Bool, true, false, cond, List, [], ◌∷◌, ◌++◌, take, drop, refl, ap, ◌∙◌, arith, take-append-drop}
use Rattle.std.proofs.lemmas.Bool.Decides.{nat_tests}
use Rattle.std.specs.List.{insert}
use Rattle.pv_words.specs.declared.grant.Hold.{Hold}
use Rattle.pv_words.specs.declared.grant.Mode.{Mode}
use Rattle.pv_words.specs.declared.grant.Mode.TheVariants.{Read, Write}
use Rattle.pv_words.specs.Held.{same_mode, Covers}
use Rattle.pv_words.specs.Held.{same_hold, unheld, Has}
use Rattle.page_directory.specs.Same.{times}

both : (a b : Bool) → (a && b) ≡ true → (a ≡ true) × (b ≡ true)
both true b e = (refl, e)
both false b e = let wrong : ⊥ = cc in absurd wrong

modes_same : (m n : Mode) → same_mode m n ≡ true → m ≡ n
modes_same Read Read e = refl
modes_same Read Write e = let wrong : ⊥ = cc in absurd wrong
modes_same Write Read e = let wrong : ⊥ = cc in absurd wrong
modes_same Write Write e = refl

mode_itself : (m : Mode) → same_mode m m ≡ true
mode_itself Read = refl
mode_itself Write = refl

pub holds_same : (h k : Hold) → same_hold h k ≡ true → h ≡ k
holds_same h k e =
    let a = both (h.dom.0 == k.dom.0) ((h.gref.0 == k.gref.0) && ((h.frame.0 == k.frame.0) && same_mode h.mode k.mode)) e in
    let b = both (h.gref.0 == k.gref.0) ((h.frame.0 == k.frame.0) && same_mode h.mode k.mode) a.1 in
    let c = both (h.frame.0 == k.frame.0) (same_mode h.mode k.mode) b.1 in
    let dom : h.dom.0 ≡ k.dom.0 = grind (arith, nat_tests, a.0) in
    let gref : h.gref.0 ≡ k.gref.0 = grind (arith, nat_tests, b.0) in
    let frame : h.frame.0 ≡ k.frame.0 = grind (arith, nat_tests, c.0) in
    let mode : h.mode ≡ k.mode = modes_same h.mode k.mode c.1 in
    let of : (d g f : ℕ) → Mode → Hold = λ d g f m. record { dom = record { 0 = d }; gref = record { 0 = g }; frame = record { 0 = f }; mode = m } in
    let e1 : of h.dom.0 h.gref.0 h.frame.0 h.mode ≡ of k.dom.0 h.gref.0 h.frame.0 h.mode = ap (λ d. of d h.gref.0 h.frame.0 h.mode) dom in
    let e2 : of k.dom.0 h.gref.0 h.frame.0 h.mode ≡ of k.dom.0 k.gref.0 h.frame.0 h.mode = ap (λ g. of k.dom.0 g h.frame.0 h.mode) gref in
    let e3 : of k.dom.0 k.gref.0 h.frame.0 h.mode ≡ of k.dom.0 k.gref.0 k.frame.0 h.mode = ap (λ f. of k.dom.0 k.gref.0 f h.mode) frame in
    let e4 : of k.dom.0 k.gref.0 k.frame.0 h.mode ≡ of k.dom.0 k.gref.0 k.frame.0 k.mode = ap (of k.dom.0 k.gref.0 k.frame.0) mode in
    e1 ∙ e2 ∙ e3 ∙ e4

pub hold_itself : (h : Hold) → same_hold h h ≡ true
hold_itself h =
    let dom : (h.dom.0 == h.dom.0) ≡ true = grind (arith, nat_tests) in
    let gref : (h.gref.0 == h.gref.0) ≡ true = grind (arith, nat_tests) in
    let frame : (h.frame.0 == h.frame.0) ≡ true = grind (arith, nat_tests) in
    rw dom (rw gref (rw frame (mode_itself h.mode)))

pub times_append : (k : Hold) (xs ys : List Hold) → times k (xs ++ ys) ≡ times k xs + times k ys
times_append k [] ys = omega arith
times_append k (x ∷ xs) ys = omega (arith, times_append k xs ys)

pub times_insert : (k : Hold) (xs : List Hold) (b : ℕ) (d : Hold) → times k (insert xs b d) ≡ times k xs + times k (d ∷ [])
times_insert k xs b d =
    let parts = times_append k (take b xs) (drop b xs) in
    let whole = ap (times k) (take-append-drop b xs) in
    omega (arith, parts, whole, times_append k (take b xs) (d ∷ drop b xs))

pub times_here : (h : Hold) (xs : List Hold) → 0 < times h (h ∷ xs)
times_here h xs = let number : Bool → ℕ = λ b. cond b 1 0 in let one : number (same_hold h h) ≡ number true = ap number (hold_itself h) in omega (arith, one)

pub has_counted : (k : Hold) (xs : List Hold) → 0 < times k xs → Has (λ x. x ≡ k) xs
has_counted k [] n = absurd (omega (arith, n))
has_counted k (x ∷ xs) n = by_test (same_hold x k) refl (has_counted k xs)
  where
    by_test : (b : Bool) → same_hold x k ≡ b → (0 < times k xs → Has (λ y. y ≡ k) xs) → Has (λ y. y ≡ k) (x ∷ xs)
    by_test true e more = inl (holds_same x k e)
    by_test false e more =
        let number : Bool → ℕ = λ b. cond b 1 0 in
        let none : number (same_hold x k) ≡ number false = ap number e in
        inr (more (omega (arith, n, none)))

pub has_weaker : (P Q : Hold → Type 0) → ((x : Hold) → P x → Q x) → (xs : List Hold) → Has P xs → Has Q xs
has_weaker P Q f [] h = absurd h
has_weaker P Q f (x ∷ xs) (inl p) = inl (f x p)
has_weaker P Q f (x ∷ xs) (inr h) = inr (has_weaker P Q f xs h)

-- a hold that stands covers its frame
pub covers_counted : (k : Hold) (xs : List Hold) → 0 < times k xs → Has (Covers k.dom.0 k.frame.0) xs
covers_counted k xs n =
    has_weaker (λ x. x ≡ k) (Covers k.dom.0 k.frame.0) (λ x e. (ap (λ (h : Hold). h.dom.0) e, ap (λ (h : Hold). h.frame.0) e)) xs (has_counted k xs n)

-- one is taken out
pub times_unheld : (g k : Hold) (xs : List Hold) → Has (λ x. x ≡ k) xs → times g (unheld k xs) + times g (k ∷ []) ≡ times g xs
times_unheld g k [] h = absurd h
times_unheld g k (x ∷ xs) h = by_test (same_hold x k) refl h (times_unheld g k xs)
  where
    by_test : (b : Bool) → same_hold x k ≡ b → Has (λ y. y ≡ k) (x ∷ xs) → (Has (λ y. y ≡ k) xs → times g (unheld k xs) + times g (k ∷ []) ≡ times g xs) → times g (cond b xs (x ∷ unheld k xs)) + times g (k ∷ []) ≡ times g (x ∷ xs)
    by_test true e h more = let same : times g (x ∷ []) ≡ times g (k ∷ []) = ap (λ (y : Hold). times g (y ∷ [])) (holds_same x k e) in omega (arith, same)
    by_test false e (inl same) more =
        let itself : same_hold x k ≡ true = ap (λ (y : Hold). same_hold y k) same ∙ hold_itself k in
        let wrong : ⊥ = cc (e, itself) in absurd wrong
    by_test false e (inr rest) more = omega (arith, more rest)
