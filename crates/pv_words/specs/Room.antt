-- A journal as callers see it: its entries, and how many more have room.
use Rattle.std.specs.Prelude.{ℕ, List}
use Rattle.pv_words.specs.declared.entry.Entry.{Entry}

pub record Book : Type 0 where
  pub entries : List Entry
  pub spare : ℕ
