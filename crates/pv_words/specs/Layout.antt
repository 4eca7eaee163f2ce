-- How a list of words is laid out: blocks, one after another.
use Rattle.std.specs.Prelude.{ℕ, ◌+◌, ◌*◌, ◌/◌, List, take, sum, slice_index}
use Rattle.pv_words.specs.declared.place.Place.{Place}
use Rattle.pv_words.specs.declared.place.Place.TheVariants.{Cell, Grant}
use Rattle.pv_words.specs.declared.place.Half.{Half}
use Rattle.pv_words.specs.declared.place.Half.TheVariants.{Flags, FrameNo}

-- where a block begins: after all blocks before it
abbrev pub start_of : List ℕ → ℕ → ℕ
start_of blocks b = sum (take b blocks)

abbrev pub half_number : Half → ℕ
half_number Flags = 0
half_number FrameNo = 1

-- the words of a domain's frames are block 2 * domain, those of its grant entries the block after it
abbrev pub block_of : Place → ℕ
block_of (Cell d f w) = 2 * d.0
block_of (Grant d g h) = 2 * d.0 + 1

-- where in its block a word stands
abbrev pub offset_of : Place → ℕ
offset_of (Cell d f w) = 1024 * f.0 + w
offset_of (Grant d g h) = 2 * g.0 + half_number h

-- how many frames and grant entries the blocks have room for
abbrev pub frames_in : List ℕ → ℕ → ℕ
frames_in blocks d = slice_index blocks (2 * d) / 1024

abbrev pub grants_in : List ℕ → ℕ → ℕ
grants_in blocks d = slice_index blocks (2 * d + 1) / 2
