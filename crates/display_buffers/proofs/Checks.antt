-- The checks of a CREATE, by the outcome of each.
use Rattle.std.proofs.Common.{◌≡◌, ℕ, suc, ◌<◌, ◌≤◌, Bool, true, false, not, cond, ◌==◌, List, [], ◌∷◌, length, Option, Some, None, is_some, Result, Ok, Err, nat_le, refl, sym, ap, ◌∙◌, eq-eqb}
use Rattle.std.proofs.lemmas.Bool.{le-leb, lt-leb, leb-false}
use Rattle.displ_wire.specs.declared.Create.{Create}
use Rattle.displ_wire.specs.declared.buffer.Refused.{Refused}
use Rattle.displ_wire.specs.declared.buffer.Refused.TheVariants.{NotSupported, Exists, Full, Invalid}
use Rattle.display_buffers.specs.declared.live.Live.{Live}
use Rattle.display_buffers.specs.Buffers.{buffer_of, check_of, cookies, has_cookie, is_in_range, made_of}

-- what is answered, by whether the flags are 0, the cookie is live, the table is full and the fields are in range
abbrev pub answer_of : Bool → Bool → Bool → Bool → Result (Unit {0}) Refused
answer_of clear live full valid =
    cond (not clear) (Err NotSupported) (cond live (Err Exists) (cond full (Err Full) (cond valid (Ok tt) (Err Invalid))))

pub passed : (clear live full valid : Bool) → answer_of clear live full valid ≡ Ok tt → (live ≡ false) × (full ≡ false) × (valid ≡ true)
passed false live full valid h = absurd (cc)
passed true true full valid h = absurd (cc)
passed true false true valid h = absurd (cc)
passed true false false false h = absurd (cc)
passed true false false true h = (refl, refl, refl)

pub none_of : {X : Type 0} (o : Option X) → is_some o ≡ false → o ≡ None
none_of None h = refl
none_of (Some x) h = absurd (cc)

module _ {P : Type 0} (bs : List (Live P)) (c : Create) where
  pub checked : (live full valid : Bool) → c.flags ≡ 0 → is_some (buffer_of c.dbuf_cookie bs) ≡ live → nat_le 64 (length bs) ≡ full → is_in_range (made_of c) ≡ valid → answer_of true live full valid ≡ check_of bs c
  checked live full valid flags is_live is_full is_valid =
      sym
      (ap (λ t. answer_of t (is_some (buffer_of c.dbuf_cookie bs)) (nat_le 64 (length bs)) (is_in_range (made_of c))) (eq-eqb _ _ flags)
      ∙ ap (λ t. answer_of true t (nat_le 64 (length bs)) (is_in_range (made_of c))) is_live
      ∙ ap (λ t. answer_of true live t (is_in_range (made_of c))) is_full
      ∙ ap (λ t. answer_of true live full t) is_valid)

  pub passes : check_of bs c ≡ Ok tt → (is_some (buffer_of c.dbuf_cookie bs) ≡ false) × (nat_le 64 (length bs) ≡ false) × (is_in_range (made_of c) ≡ true)
  passes h = passed (c.flags == 0) (is_some (buffer_of c.dbuf_cookie bs)) (nat_le 64 (length bs)) (is_in_range (made_of c)) h

  -- while the table isn't full and the fields are looked at
  pub is_full : 64 ≤ length bs → c.flags ≡ 0 → is_some (buffer_of c.dbuf_cookie bs) ≡ false → Err Full ≡ check_of bs c
  is_full many flags free = checked false true (is_in_range (made_of c)) flags free (le-leb _ _ many) refl

  pub is_checked : (valid : Bool) → length bs < 64 → c.flags ≡ 0 → is_some (buffer_of c.dbuf_cookie bs) ≡ false → is_in_range (made_of c) ≡ valid → answer_of true false false valid ≡ check_of bs c
  is_checked valid few flags free fields = checked false false valid flags free (lt-leb _ _ few) fields

  pub leaves_room : check_of bs c ≡ Ok tt → length bs < 64
  leaves_room h = leb-false _ _ (passes h).1

  pub leaves_cookie : check_of bs c ≡ Ok tt → buffer_of c.dbuf_cookie bs ≡ None
  leaves_cookie h = none_of _ (passes h).0

-- Which cookies are live says all that the checks look at, but for the fields that are asked for.
abbrev is_among : ℕ → List ℕ → Bool
is_among cookie [] = false
is_among cookie (n ∷ ns) = cond (n == cookie) true (is_among cookie ns)

live_among : {P : Type 0} (cookie : ℕ) (bs : List (Live P)) → is_some (buffer_of cookie bs) ≡ is_among cookie (cookies bs)
live_among cookie [] = refl
live_among cookie (b ∷ bs) = by_test (has_cookie cookie b) (live_among cookie bs)
  where
    by_test : (t : Bool) → is_some (buffer_of cookie bs) ≡ is_among cookie (cookies bs) → is_some (cond t (Some b) (buffer_of cookie bs)) ≡ cond t true (is_among cookie (cookies bs))
    by_test true later = refl
    by_test false later = later

length_cookies : {P : Type 0} (bs : List (Live P)) → length bs ≡ length (cookies bs)
length_cookies [] = refl
length_cookies (b ∷ bs) = ap suc (length_cookies bs)

module _ {P Q : Type 0} (bs : List (Live P)) (cs : List (Live Q)) (same : cookies bs ≡ cookies cs) where
  pub live_by : (cookie : ℕ) → is_some (buffer_of cookie bs) ≡ is_some (buffer_of cookie cs)
  live_by cookie = live_among cookie bs ∙ (ap (is_among cookie) same ∙ sym (live_among cookie cs))

  pub length_by : length bs ≡ length cs
  length_by = length_cookies bs ∙ (ap length same ∙ sym (length_cookies cs))

  pub check_by : (c : Create) → check_of bs c ≡ check_of cs c
  check_by c =
      ap (λ t. answer_of (c.flags == 0) t (nat_le 64 (length bs)) (is_in_range (made_of c))) (live_by c.dbuf_cookie)
      ∙ ap (λ n. answer_of (c.flags == 0) (is_some (buffer_of c.dbuf_cookie cs)) (nat_le 64 n) (is_in_range (made_of c))) length_by
