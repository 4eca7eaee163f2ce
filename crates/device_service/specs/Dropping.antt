-- Pages that are given up, one after another.
pub use Rattle.pv_words.specs.Release.{Drops, MayDrop}
