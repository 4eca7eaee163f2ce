-- Where the accesses of a step lie.
use Rattle.std.specs.Prelude.{List, Option, Some, None}
use Rattle.pv_words.specs.declared.place.Place.TheVariants.{Cell, Grant}
use Rattle.pv_words.specs.declared.access.Access.{Access}
use Rattle.pv_words.specs.declared.grant.Hold.{Hold}
use Rattle.pv_words.specs.Held.{Has, Covers, CoversToWrite}
use Rattle.pv_words.specs.Plan.{Want, Load, Store, Swap, Clear, wanted}

-- An access to a cell lies in the frame of one of these pages, and one that may write in that of a page that is held for
-- writing. An access to a grant entry lies in no page.
abbrev pub LiesIn : List Hold → Want → Type 0
LiesIn held (Load (Cell d f w)) = Has (Covers d.0 f.0) held
LiesIn held (Store (Cell d f w) v) = Has (CoversToWrite d.0 f.0) held
LiesIn held (Swap (Cell d f w) old new) = Has (CoversToWrite d.0 f.0) held
LiesIn held (Clear (Cell d f w) mask) = Has (CoversToWrite d.0 f.0) held
LiesIn held (Load (Grant d g half)) = Unit {0}
LiesIn held (Store (Grant d g half) v) = Unit {0}
LiesIn held (Swap (Grant d g half) old new) = Unit {0}
LiesIn held (Clear (Grant d g half) mask) = Unit {0}

-- the access of a step, where it makes one
abbrev pub AccessIn : List Hold → Option Access → Type 0
AccessIn held None = Unit {0}
AccessIn held (Some a) = LiesIn held (wanted a)
