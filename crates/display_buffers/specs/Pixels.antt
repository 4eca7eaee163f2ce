-- Where the pixels of a buffer stand in its octets, and its octets in its pages. A page has 4096 octets, which are 1024
-- words.
use Rattle.std.specs.Prelude.{◌≡◌, ℕ, ◌+◌, ◌*◌, ◌/◌, ◌%◌, true, List, length, slice_get, Option, option_map}
use Rattle.displ_wire.specs.declared.buffer.Buffer.{Buffer}
use Rattle.display_buffers.specs.declared.live.Live.{Live}
use Rattle.display_buffers.specs.Buffers.{is_in_range}
use Rattle.pv_words.specs.declared.grant.Hold.{Hold}
use Rattle.pv_words.specs.declared.place.Place.{Place}
use Rattle.pv_words.specs.declared.place.Place.TheVariants.{Cell}

-- the octet at which a pixel starts: rows follow one another, and so do the pixels of a row
abbrev pub pixel_octet : Buffer → ℕ → ℕ → ℕ
pixel_octet b x y = (y * b.width + x) * b.bpp / 8

-- how many pages hold so many octets
abbrev pub page_count : ℕ → ℕ
page_count octets = (octets + 4095) / 4096

-- the word that has an octet of a buffer with these pages: octet o is octet o mod 4 of word (o / 4) mod 1024 of page
-- o / 4096
abbrev pub octet_place : List Hold → ℕ → Option Place
octet_place pages octet = option_map (λ h. Cell h.dom h.frame (octet / 4 % 1024)) (slice_get pages (octet / 4096))

-- a buffer's fields are in range, and it has a page for each 4096 octets that it begins
abbrev pub IsWhole : {P : Type 0} → (P → List Hold) → Live P → Type 0
IsWhole holds b = (is_in_range b.buffer ≡ true) × (length (holds b.pages) ≡ page_count b.buffer.buffer_sz)
