-- The octets of a pixel lie in its buffer.
use Rattle.std.proofs.Common.{◌≡◌, ℕ, ◌+◌, ◌*◌, ◌/◌, ◌<◌, ◌≤◌, ◌==◌, nat_le, nat_lt, Bool, true, false, ◌&&◌, ◌||◌, ◌⊎◌, inl, inr, refl, arith}
use Rattle.std.proofs.lemmas.Bool.{eqb-true, leb-true}
use Rattle.std.proofs.Math.Nat.{mul-le-mul_right, mul_comm}
use Rattle.displ_wire.specs.declared.buffer.Buffer.{Buffer}
use Rattle.display_buffers.specs.Buffers.{is_in_range, picture_octets}
use Rattle.display_buffers.specs.Pixels.{pixel_octet}

first_of_two : (s t : Bool) → (s && t) ≡ true → s ≡ true
first_of_two true t h = refl
first_of_two false t h = h

second_of_two : (s t : Bool) → (s && t) ≡ true → t ≡ true
second_of_two true t h = h
second_of_two false t h = absurd (cc)

one_of_two : (s t : Bool) → (s || t) ≡ true → (s ≡ true) ⊎ (t ≡ true)
one_of_two true t h = inl refl
one_of_two false t h = inr h

-- a pixel comes before the end of the last row
before_end : (w h x y : ℕ) → x < w → y < h → y * w + x < w * h
before_end w h x y across down =
    let whole : (y + 1) * w ≤ h * w = mul-le-mul_right w (omega arith) in
    grind (arith, whole, mul_comm w h)

depths : (d n m size : ℕ) → ((d == 16) || ((d == 24) || (d == 32))) ≡ true → n < m → m * d / 8 ≤ size → n * d / 8 + d / 8 ≤ size
depths d n m size known less fits = by_depth (one_of_two (d == 16) ((d == 24) || (d == 32)) known)
  where
    at : (e : ℕ) → d ≡ e → n * e / 8 + e / 8 ≤ m * e / 8 → n * d / 8 + d / 8 ≤ size
    at e same enough = let there : m * e / 8 ≤ size = rw same at fits in rw same (omega (arith, enough, there))

    by_depth : ((d == 16) ≡ true) ⊎ (((d == 24) || (d == 32)) ≡ true) → n * d / 8 + d / 8 ≤ size
    by_depth (inl t) = at 16 (eqb-true d 16 t) (omega (arith, less))
    by_depth (inr t) = elim (one_of_two (d == 24) (d == 32) t) [
      | inl u ↦ at 24 (eqb-true d 24 u) (omega (arith, less))
      | inr u ↦ at 32 (eqb-true d 32 u) (omega (arith, less))
    ]

pub inside : (b : Buffer) (x y : ℕ) → is_in_range b ≡ true → x < b.width → y < b.height → pixel_octet b x y + b.bpp / 8 ≤ b.buffer_sz
inside b x y valid across down =
    let depth = (b.bpp == 16) || ((b.bpp == 24) || (b.bpp == 32)) in
    let room = nat_le (picture_octets b) b.buffer_sz in
    let size = nat_le b.buffer_sz 33554432 && room in
    let some = nat_lt 0 b.buffer_sz && size in
    let high = nat_lt 0 b.height && some in
    let wide = nat_lt 0 b.width && high in
    let fits : room ≡ true =
    second_of_two (nat_le b.buffer_sz 33554432) room
    (second_of_two (nat_lt 0 b.buffer_sz) size
    (second_of_two (nat_lt 0 b.height) some
    (second_of_two (nat_lt 0 b.width) high
    (second_of_two depth wide valid)))) in
    depths b.bpp (y * b.width + x) (b.width * b.height) b.buffer_sz (first_of_two depth wide valid) (before_end b.width b.height x y across down) (leb-true (picture_octets b) b.buffer_sz fits)
