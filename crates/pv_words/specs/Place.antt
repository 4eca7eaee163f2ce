-- Places of words (the layout of pages and of grant entries, version 1).
use Rattle.std.specs.Prelude.{ℕ, ◌<◌, ◌==◌, ◌&&◌, Bool, true, false}
use Rattle.pv_words.specs.declared.place.Place.{Place}
use Rattle.pv_words.specs.declared.place.Place.TheVariants.{Cell, Grant}
use Rattle.pv_words.specs.declared.place.Half.{Half}
use Rattle.pv_words.specs.declared.place.Half.TheVariants.{Flags, FrameNo}

abbrev pub same_half : Half → Half → Bool
same_half Flags Flags = true
same_half Flags FrameNo = false
same_half FrameNo Flags = false
same_half FrameNo FrameNo = true

-- whether two places are one
abbrev pub same_place : Place → Place → Bool
same_place (Cell d f w) (Cell e g x) = (d.0 == e.0) && ((f.0 == g.0) && (w == x))
same_place (Cell d f w) (Grant e g h) = false
same_place (Grant e g h) (Cell d f w) = false
same_place (Grant d g h) (Grant e k i) = (d.0 == e.0) && ((g.0 == k.0) && same_half h i)

-- the place is a word of a frame, or half of a grant entry, that its domain has
abbrev pub InRange : (frames grants : ℕ → ℕ) → Place → Type 0
InRange frames grants (Cell d f w) = (f.0 < frames d.0) × (w < 1024)
InRange frames grants (Grant d g h) = g.0 < grants d.0

-- whose word it is
abbrev pub domain_of : Place → ℕ
domain_of (Cell d f w) = d.0
domain_of (Grant d g h) = d.0
