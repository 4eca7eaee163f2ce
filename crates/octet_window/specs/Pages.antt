-- Where the words of a buffer stand in its pages.
use Rattle.std.specs.Prelude.{ℕ, ◌/◌, ◌%◌, List, slice_index_or}
use Rattle.pv_words.specs.declared.grant.Hold.{Hold}
use Rattle.pv_words.specs.declared.grant.Mode.TheVariants.{Read}
use Rattle.pv_words.specs.declared.place.Place.{Place}
use Rattle.pv_words.specs.declared.place.Place.TheVariants.{Cell}

-- a page that stands for one that isn't there
abbrev pub no_page : Hold
no_page = record { dom = record { 0 = 0 }; gref = record { 0 = 0 }; frame = record { 0 = 0 }; mode = Read }

abbrev pub cell_in : Hold → ℕ → Place
cell_in h w = Cell h.dom h.frame w

-- word i of a buffer with these pages: word i mod 1024 of page i / 1024
abbrev pub word_place : List Hold → ℕ → Place
word_place pages i = cell_in (slice_index_or pages (i / 1024) no_page) (i % 1024)
