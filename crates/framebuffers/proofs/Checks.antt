-- What the checks of an ATTACH leave where all of them pass.
use Rattle.std.proofs.Common.{◌≡◌, ℕ, ◌<◌, Bool, true, false, cond, ◌&&◌, ◌||◌, ◌==◌, nat_lt, nat_le, List, length, Option, Some, None, is_some, IsTrue, Result, Ok, Err, refl}
use Rattle.std.proofs.lemmas.Bool.{and_from, and_parts, leb-false, leb-true, ltb-true, or_left, or_right}
use Rattle.displ_wire.specs.declared.Attach.{Attach}
use Rattle.displ_wire.specs.declared.buffer.Buffer.{Buffer}
use Rattle.displ_wire.specs.declared.buffer.Refused.{Refused}
use Rattle.displ_wire.specs.declared.buffer.Refused.TheVariants.{Exists, Full, Invalid}
use Rattle.displ_wire.specs.declared.framebuffer.Framebuffer.{Framebuffer}
use Rattle.framebuffers.specs.Frames.{LiesIn, attach_check, buffer_check, fits_in, frame_of, has_bits, has_pixels, made_of}

none_of : {X : Type 0} (o : Option X) → is_some o ≡ false → o ≡ None
none_of None h = refl
none_of (Some x) h = absurd (cc)

passed : (live full : Bool) (found : Result (Unit {0}) Refused) → cond live (Err Exists) (cond full (Err Full) found) ≡ Ok tt → (live ≡ false) × (full ≡ false) × (found ≡ Ok tt)
passed true full found h = absurd (cc)
passed false true found h = absurd (cc)
passed false false found h = (refl, refl, h)

abbrev valid_or : Bool → Result (Unit {0}) Refused
valid_or t = cond t (Ok tt) (Err Invalid)

is_valid : (t : Bool) → valid_or t ≡ Ok tt → t ≡ true
is_valid true h = refl
is_valid false h = absurd (cc)

found_in : (a : Attach) (buffer : Option Buffer) → buffer_check a buffer ≡ Ok tt → (b : Buffer) × (buffer ≡ Some b) × (fits_in a b ≡ true)
found_in a None h = absurd (cc)
found_in a (Some b) h = (b, refl, is_valid (fits_in a b) h)

-- an accepted ATTACH: its cookie is new, there is room, and it fits in a live buffer
pub record Passes (fs : List Framebuffer) (a : Attach) (buffer : Option Buffer) : Type 0 where
  pub free : frame_of a.fb_cookie fs ≡ None
  pub room : length fs < 64
  pub of : Buffer
  pub live : buffer ≡ Some of
  pub fits : fits_in a of ≡ true

pub passes : (fs : List Framebuffer) (a : Attach) (buffer : Option Buffer) → attach_check fs a buffer ≡ Ok tt → Passes fs a buffer
passes fs a buffer h =
    let parts = passed (is_some (frame_of a.fb_cookie fs)) (nat_le 64 (length fs)) (buffer_check a buffer) h in
    let found = found_in a buffer parts.2 in
    record {
      free = none_of _ parts.0;
      room = leb-false _ _ parts.1;
      of = found.0;
      live = found.1;
      fits = found.2;
    }

-- the parts of that fit
record Fits (a : Attach) (b : Buffer) : Type 0 where
  format : has_bits a.pixel_format b.bpp ≡ true
  wide : nat_lt 0 a.width ≡ true
  high : nat_lt 0 a.height ≡ true
  within_width : nat_le a.width b.width ≡ true
  within_height : nat_le a.height b.height ≡ true

fits_parts : (a : Attach) (b : Buffer) → fits_in a b ≡ true → Fits a b
fits_parts a b h =
    let format = and_parts (has_bits a.pixel_format b.bpp) (nat_lt 0 a.width && (nat_lt 0 a.height && (nat_le a.width b.width && nat_le a.height b.height))) h in
    let wide = and_parts (nat_lt 0 a.width) (nat_lt 0 a.height && (nat_le a.width b.width && nat_le a.height b.height)) format.1 in
    let high = and_parts (nat_lt 0 a.height) (nat_le a.width b.width && nat_le a.height b.height) wide.1 in
    let sides = and_parts (nat_le a.width b.width) (nat_le a.height b.height) high.1 in
    record { format = format.0; wide = wide.0; high = high.0; within_width = sides.0; within_height = sides.1 }

pub lies_in : (a : Attach) (b : Buffer) → fits_in a b ≡ true → LiesIn (made_of a b) b
lies_in a b h =
    let parts = fits_parts a b h in
    record {
      depth = refl;
      wide = ltb-true 0 a.width parts.wide;
      high = ltb-true 0 a.height parts.high;
      within_width = leb-true a.width b.width parts.within_width;
      within_height = leb-true a.height b.height parts.within_height;
    }

abbrev is_depth : ℕ → Bool
is_depth n = (n == 16) || ((n == 24) || (n == 32))

-- each format has a depth that is known
known_depth : (one two three : Bool) (n : ℕ) → cond one (n == 32) (cond two (n == 24) (cond three (n == 16) false)) ≡ true → is_depth n ≡ true
known_depth true two three n h = or_right (n == 16) ((n == 24) || (n == 32)) (or_right (n == 24) (n == 32) h)
known_depth false true three n h = or_right (n == 16) ((n == 24) || (n == 32)) (or_left (n == 24) (n == 32) h)
known_depth false false true n h = or_left (n == 16) ((n == 24) || (n == 32)) h
known_depth false false false n h = absurd (cc)

pub has_its_pixels : (a : Attach) (b : Buffer) → fits_in a b ≡ true → IsTrue (has_pixels (made_of a b))
has_its_pixels a b h =
    let parts = fits_parts a b h in
    and_from (is_depth b.bpp) (nat_lt 0 a.width && nat_lt 0 a.height)
    (known_depth ((a.pixel_format == 0x34325258) || (a.pixel_format == 0x34325241)) (a.pixel_format == 0x34324752) (a.pixel_format == 0x36314752) b.bpp parts.format)
    (and_from (nat_lt 0 a.width) (nat_lt 0 a.height) parts.wide parts.high)
