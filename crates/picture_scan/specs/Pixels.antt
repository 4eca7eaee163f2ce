-- How pixels come of octets, one octet at a time.
use Rattle.std.specs.Prelude.{ℕ, ◌+◌, ◌-◌, ◌*◌, ◌/◌, ◌==◌, nat_lt, if◌then◌else◌}
use Rattle.pv_words.specs.Mark.{mark_after}
use Rattle.picture_scan.specs.declared.pixels.Pixels.{Pixels}

-- pixels of so many octets, with this mark, and no octet of the next
abbrev pub begun : (size mark : ℕ) → Pixels
begun size mark = record { size = size; mark = mark; part = 0; wanted = size }

-- the pixel of which all octets came
abbrev pub pixel_of : (size part : ℕ) → ℕ
pixel_of size part = if size == 2 then part / 65536 else (if size == 3 then part / 256 else part)

-- one more octet in the part of a pixel that came
abbrev pub grown : (part octet : ℕ) → ℕ
grown part octet = part / 256 + octet * 16777216

-- after one more octet
abbrev pub fed : Pixels → ℕ → Pixels
fed p octet =
    if nat_lt 1 p.wanted then record p { part = grown p.part octet; wanted = p.wanted - 1 }
    else begun p.size (mark_after p.mark (pixel_of p.size (grown p.part octet)))
