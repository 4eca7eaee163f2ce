-- Display buffers: the rows of CREATE and DESTROY (the operations of displif.h; the limits, the depths and which error
-- answers which fault are this project's own). They know no page: what goes with a buffer is of any type.
use Rattle.std.specs.Prelude.{◌≡◌, ℕ, ◌≤◌, ◌*◌, ◌/◌, Bool, true, not, ◌&&◌, ◌||◌, ◌==◌, nat_lt, nat_le, if◌then◌else◌, List, [], ◌∷◌, ◌++◌, length, Option, is_some, option_map, Result, Ok, Err}
use Rattle.std.specs.List.{AllByRecursion}
use Rattle.cookie_table.specs.Cookies as table
pub use Rattle.cookie_table.specs.Cookies.{AreDistinct, IsFresh}
use Rattle.displ_wire.specs.declared.Create.{Create}
use Rattle.displ_wire.specs.declared.buffer.Buffer.{Buffer}
use Rattle.displ_wire.specs.declared.buffer.Refused.{Refused}
use Rattle.displ_wire.specs.declared.buffer.Refused.TheVariants.{NotSupported, Exists, Full, Invalid}
use Rattle.display_buffers.specs.declared.live.Live.{Live}

-- the cookie of a buffer
abbrev pub cookie_of : {P : Type 0} → Live P → ℕ
cookie_of b = b.buffer.cookie

-- whether a buffer has this cookie
abbrev pub has_cookie : {P : Type 0} → ℕ → Live P → Bool
has_cookie cookie b = b.buffer.cookie == cookie

-- the live buffer of a cookie
abbrev pub buffer_of : {P : Type 0} → ℕ → List (Live P) → Option (Live P)
buffer_of cookie bs = table.value_of cookie_of cookie bs

-- its cookie, sides, depth and size alone
abbrev pub buffer_at : {P : Type 0} → ℕ → List (Live P) → Option Buffer
buffer_at cookie bs = option_map (λ b. b.buffer) (buffer_of cookie bs)

-- the cookies of the live buffers
abbrev pub cookies : {P : Type 0} → List (Live P) → List ℕ
cookies bs = table.cookies cookie_of bs

-- how many octets the pixels take
abbrev pub picture_octets : Buffer → ℕ
picture_octets b = b.width * b.height * b.bpp / 8

-- a depth that is known, sides and a size that are not 0, at most 32 MiB, and room for all pixels
abbrev pub is_in_range : Buffer → Bool
is_in_range b =
    ((b.bpp == 16) || ((b.bpp == 24) || (b.bpp == 32)))
    && (nat_lt 0 b.width
    && (nat_lt 0 b.height
    && (nat_lt 0 b.buffer_sz
    && (nat_le b.buffer_sz 33554432
    && nat_le (picture_octets b) b.buffer_sz))))

-- the buffer that a CREATE asks for
abbrev pub made_of : Create → Buffer
made_of c = record {
  cookie = c.dbuf_cookie;
  width = c.width;
  height = c.height;
  bpp = c.bpp;
  buffer_sz = c.buffer_sz;
}

-- the first check of a CREATE that fails, of those that need no memory and no page
abbrev pub check_of : {P : Type 0} → List (Live P) → Create → Result (Unit {0}) Refused
check_of bs c =
    if not (c.flags == 0)
    then Err NotSupported
    else if is_some (buffer_of c.dbuf_cookie bs)
    then Err Exists
    else if nat_le 64 (length bs)
    then Err Full
    else if is_in_range (made_of c)
    then Ok tt
    else Err Invalid

-- the live buffers after a CREATE, in order of creation
abbrev pub with_buffer : {P : Type 0} → List (Live P) → Create → P → List (Live P)
with_buffer bs c pages = bs ++ record { buffer = made_of c; pages = pages } ∷ []

-- the live buffers after a DESTROY
abbrev pub without_buffer : {P : Type 0} → ℕ → List (Live P) → List (Live P)
without_buffer cookie bs = table.without cookie_of cookie bs

-- at most 64 buffers are live, under different cookies, each with its fields in range
pub record AreSound {P : Type 0} (bs : List (Live P)) : Type 0 where
  pub at_most : length bs ≤ 64
  pub distinct : AreDistinct (cookies bs)
  pub in_range : AllByRecursion (λ b. is_in_range b.buffer ≡ true) bs
