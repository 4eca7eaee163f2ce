-- What CREATE and DESTROY come to, by the cookies, and what becomes of the pages of buffers.
use Rattle.std.specs.Prelude.{◌≡◌, ◌≢◌, ℕ, ◌+◌, ◌/◌, ◌<◌, ◌≤◌, true, List, [], ◌++◌, drop, Some, None, Ok}
use Rattle.displ_wire.specs.declared.Create.{Create}
use Rattle.displ_wire.specs.declared.buffer.Buffer.{Buffer}
use Rattle.display_buffers.specs.declared.live.Live.{Live}
use Rattle.display_buffers.specs.Buffers.{AreDistinct, AreSound, buffer_of, check_of, cookies, is_in_range, made_of, with_buffer, without_buffer}
use Rattle.display_buffers.specs.Pixels.{pixel_octet}
use Rattle.display_buffers.specs.Stock.{Stock, Held, pages_of, buffer_pages, pages_under, less_one, bared, stripped, without_first, created, destroyed}
use Rattle.page_directory.specs.Same.{AreSame}

-- after a CREATE that passed its checks, its cookie names the buffer that was asked for; no other cookie changes
abbrev pub CreatesOne : (P : Type 0) → Type 0
CreatesOne P =
    (bs : List (Live P)) (c : Create) (pages : P) → check_of bs c ≡ Ok tt
    → (buffer_of c.dbuf_cookie (with_buffer bs c pages) ≡ Some (record { buffer = made_of c; pages = pages }))
    × ((other : ℕ) → other ≢ c.dbuf_cookie → buffer_of other (with_buffer bs c pages) ≡ buffer_of other bs)

-- after a DESTROY its cookie is free; no other cookie changes
abbrev pub DestroysOne : (P : Type 0) → Type 0
DestroysOne P =
    (bs : List (Live P)) (cookie : ℕ)
    → (buffer_of cookie (without_buffer cookie bs) ≡ None)
    × ((other : ℕ) → other ≢ cookie → buffer_of other (without_buffer cookie bs) ≡ buffer_of other bs)

-- either keeps the cookies different, at most 64 of them, and all fields in range
abbrev pub StaysSound : (P : Type 0) → Type 0
StaysSound P =
    (bs : List (Live P)) → AreSound bs
    → ((c : Create) (pages : P) → check_of bs c ≡ Ok tt → AreSound (with_buffer bs c pages))
    × ((cookie : ℕ) → AreSound (without_buffer cookie bs))

-- the octets of each pixel lie in the buffer
abbrev pub PixelsInside : Type 0
PixelsInside =
    (b : Buffer) (x y : ℕ) → is_in_range b ≡ true → x < b.width → y < b.height
    → pixel_octet b x y + b.bpp / 8 ≤ b.buffer_sz

-- The first page that is given up is the first of all; what is left is the others, in order. With all of them given up the
-- buffers are the same as with one less.
abbrev pub GivesUpInOrder : Type 0
GivesUpInOrder =
    (s : Stock) → (pages_of (without_first s) ≡ drop 1 (pages_of s)) × (stripped (without_first s) ≡ stripped s) × (pages_of (stripped s) ≡ [])

-- Giving up one page of one buffer leaves its others in order, and all pages of other buffers.
abbrev pub FreesInOrder : Type 0
FreesInOrder =
    (cookie : ℕ) (bs : List Held)
    → (pages_under cookie (less_one cookie bs) ≡ drop 1 (pages_under cookie bs))
    × (bared cookie (less_one cookie bs) ≡ bared cookie bs)
    × (pages_under cookie (bared cookie bs) ≡ [])
    × AreSame (buffer_pages bs) (pages_under cookie bs ++ buffer_pages (bared cookie bs))

-- A CREATE keeps all pages, and so does a DESTROY of a buffer that has none, where the buffers have different cookies.
abbrev pub KeepsPages : Type 0
KeepsPages =
    (s : Stock)
    → ((c : Create) → AreSame (pages_of s) (pages_of (created s c)))
    × ((cookie : ℕ) → AreDistinct (cookies s.buffers) → pages_under cookie s.buffers ≡ [] → AreSame (pages_of s) (pages_of (destroyed s cookie)))
