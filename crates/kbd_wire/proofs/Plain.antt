-- Words in which no octet is set but those of an event's fields are those of the event.
use Rattle.std.proofs.Common.{◌≡◌, ℕ, ◌/◌, ◌%◌, ◌^◌, ◌<◌, Bool, true, false, cond, not, ◌==◌, List, ◌∷◌, replicate, Some, None, refl, sym, ap, ◌∙◌, subst, arith, w32}
use Rattle.std.proofs.lemmas.Bool.Decides.{Decides-eqb}
use Rattle.std.proofs.lemmas.Int.{of_z-to_z}
use Rattle.kbd_wire.specs.declared.Event.{Event}
use Rattle.kbd_wire.specs.declared.Event.TheVariants.{Motion, Key, Position, Down, Up, Move, Syn}
use Rattle.kbd_wire.specs.Wire.{event_words, head_of, is_set, signed_at, touch_at, word_of, IsPlain, WordsReadBack}

head_one : (a k : ℕ) → a < 2 ^ 8 → a % 2 ^ 8 ≡ k → head_of k 0 0 ≡ a
head_one a k h is = omega arith

head_two : (a k s : ℕ) → a < 2 ^ 16 → a % 2 ^ 8 ≡ k → a / 2 ^ 8 % 2 ^ 8 ≡ s → head_of k s 0 ≡ a
head_two a k s h is second = omega arith

head_three : (a k s : ℕ) → a < 2 ^ 24 → a % 2 ^ 8 ≡ k → a / 2 ^ 8 % 2 ^ 8 ≡ s → head_of k s (a / 2 ^ 16 % 2 ^ 8) ≡ a
head_three a k s h is second = omega arith

number_of_set : (s : ℕ) → s < 2 → cond (is_set s) 1 0 ≡ s
number_of_set s h =
    elim (s == 0) as (λ b. (s == 0) ≡ b → cond (not b) 1 0 ≡ s) [
      | true ↦ λ e. let zero_ = (Decides-eqb s 0).0 e in omega arith
      | false ↦ λ e. let above = λ (z : s ≡ 0). not_both (sym e ∙ (Decides-eqb s 0).1 z) in omega (arith, above)
    ] refl
  where
    not_both : false ≡ true → ⊥
    not_both h = absurd (cc)

module _ (a b c d : ℕ) (rest : List ℕ) (b_fits : b < 2 ^ 32) (c_fits : c < 2 ^ 32) (d_fits : d < 2 ^ 32) where
  Back : Event → Type 0
  Back e = IsPlain e (a ∷ b ∷ c ∷ d ∷ rest) → event_words e ≡ a ∷ b ∷ c ∷ d ∷ rest

  -- an event that was read in one way is that event
  same : (read e : Event) → Back read → Some read ≡ Some e → Back e
  same read e back is = let equal : read ≡ e = cc in subst Back equal back

  is_kind : (k : ℕ) → (a % 2 ^ 8 == k) ≡ true → a % 2 ^ 8 ≡ k
  is_kind k h = (Decides-eqb (a % 2 ^ 8) k).0 h

  is_second : (k : ℕ) → (a / 2 ^ 8 % 2 ^ 8 == k) ≡ true → a / 2 ^ 8 % 2 ^ 8 ≡ k
  is_second k h = (Decides-eqb (a / 2 ^ 8 % 2 ^ 8) k).0 h

  axes : (k : ℕ) → a < 2 ^ 8 → a % 2 ^ 8 ≡ k → rest ≡ replicate 6 0 → head_of k 0 0 ∷ word_of (signed_at (a ∷ b ∷ c ∷ d ∷ rest) 1) ∷ word_of (signed_at (a ∷ b ∷ c ∷ d ∷ rest) 2) ∷ word_of (signed_at (a ∷ b ∷ c ∷ d ∷ rest) 3) ∷ replicate 6 0 ≡ a ∷ b ∷ c ∷ d ∷ rest
  axes k small kind none = λ i. head_one a k small kind i ∷ of_z-to_z w32 b b_fits i ∷ of_z-to_z w32 c c_fits i ∷ of_z-to_z w32 d d_fits i ∷ sym none i

  placed : (s : ℕ) → a < 2 ^ 24 → a % 2 ^ 8 ≡ 5 → a / 2 ^ 8 % 2 ^ 8 ≡ s → b ≡ 0 → rest ≡ replicate 6 0 → head_of 5 s (a / 2 ^ 16 % 2 ^ 8) ∷ 0 ∷ word_of (signed_at (a ∷ b ∷ c ∷ d ∷ rest) 2) ∷ word_of (signed_at (a ∷ b ∷ c ∷ d ∷ rest) 3) ∷ replicate 6 0 ≡ a ∷ b ∷ c ∷ d ∷ rest
  placed s small kind second none gone = λ i. head_three a 5 s small kind second i ∷ sym none i ∷ of_z-to_z w32 c c_fits i ∷ of_z-to_z w32 d d_fits i ∷ sym gone i

  touched : (e : Event) (b0 b1 b2 b3 : Bool) → a % 2 ^ 8 ≡ 5 → (a / 2 ^ 8 % 2 ^ 8 == 0) ≡ b0 → (a / 2 ^ 8 % 2 ^ 8 == 1) ≡ b1 → (a / 2 ^ 8 % 2 ^ 8 == 2) ≡ b2 → (a / 2 ^ 8 % 2 ^ 8 == 3) ≡ b3 → cond b0 (Some (Down (a / 2 ^ 16 % 2 ^ 8) (signed_at (a ∷ b ∷ c ∷ d ∷ rest) 2) (signed_at (a ∷ b ∷ c ∷ d ∷ rest) 3))) (cond b1 (Some (Up (a / 2 ^ 16 % 2 ^ 8))) (cond b2 (Some (Move (a / 2 ^ 16 % 2 ^ 8) (signed_at (a ∷ b ∷ c ∷ d ∷ rest) 2) (signed_at (a ∷ b ∷ c ∷ d ∷ rest) 3))) (cond b3 (Some Syn) None))) ≡ Some e → Back e
  unfolding Back
  touched e true b1 b2 b3 kind s0 s1 s2 s3 h = same _ e (λ plain. placed 0 plain.0 kind (is_second 0 s0) plain.1 plain.2) h
  touched e false true b2 b3 kind s0 s1 s2 s3 h = same _ e (λ plain. λ i. head_three a 5 1 plain.0 kind (is_second 1 s1) i ∷ sym plain.1 i) h
  touched e false false true b3 kind s0 s1 s2 s3 h = same _ e (λ plain. placed 2 plain.0 kind (is_second 2 s2) plain.1 plain.2) h
  touched e false false false true kind s0 s1 s2 s3 h = same _ e (λ plain. λ i. head_two a 5 3 plain.0 kind (is_second 3 s3) i ∷ sym plain.1 i) h
  touched e false false false false kind s0 s1 s2 s3 h = absurd (cc)

  read : (e : Event) (b1 b3 b4 b5 : Bool) → (a % 2 ^ 8 == 1) ≡ b1 → (a % 2 ^ 8 == 3) ≡ b3 → (a % 2 ^ 8 == 4) ≡ b4 → (a % 2 ^ 8 == 5) ≡ b5 → cond b1 (Some (Motion (signed_at (a ∷ b ∷ c ∷ d ∷ rest) 1) (signed_at (a ∷ b ∷ c ∷ d ∷ rest) 2) (signed_at (a ∷ b ∷ c ∷ d ∷ rest) 3))) (cond b3 (Some (Key (is_set (a / 2 ^ 8 % 2 ^ 8)) b)) (cond b4 (Some (Position (signed_at (a ∷ b ∷ c ∷ d ∷ rest) 1) (signed_at (a ∷ b ∷ c ∷ d ∷ rest) 2) (signed_at (a ∷ b ∷ c ∷ d ∷ rest) 3))) (cond b5 (touch_at (a / 2 ^ 8 % 2 ^ 8) (a / 2 ^ 16 % 2 ^ 8) (a ∷ b ∷ c ∷ d ∷ rest)) None))) ≡ Some e → Back e
  unfolding Back
  read e true b3 b4 b5 k1 k3 k4 k5 h = same _ e (λ plain. axes 1 plain.0 (is_kind 1 k1) plain.1) h
  read e false true b4 b5 k1 k3 k4 k5 h =
      same _ e (λ plain.
      let set : cond (is_set (a / 2 ^ 8 % 2 ^ 8)) 1 0 ≡ a / 2 ^ 8 % 2 ^ 8 = number_of_set (a / 2 ^ 8 % 2 ^ 8) plain.1 in
      λ i. (ap (λ s. head_of 3 s 0) set ∙ head_two a 3 (a / 2 ^ 8 % 2 ^ 8) plain.0 (is_kind 3 k3) refl) i ∷ b ∷ sym plain.2 i) h
  read e false false true b5 k1 k3 k4 k5 h = same _ e (λ plain. axes 4 plain.0 (is_kind 4 k4) plain.1) h
  read e false false false true k1 k3 k4 k5 h = touched e _ _ _ _ (is_kind 5 k5) refl refl refl refl h
  read e false false false false k1 k3 k4 k5 h = absurd (cc)

pub words_back : WordsReadBack
unfolding Back
words_back = λ a b c d rest e a_fits b_fits c_fits d_fits is plain. read a b c d rest b_fits c_fits d_fits e _ _ _ _ refl refl refl refl is plain
