-- What a device's own accesses found last: the words by which it refuses a map, or an index of a ring.
use Rattle.std.specs.Prelude.{ℕ, Option, Some, None}
use Rattle.pv_words.specs.declared.access.Access.{Access}
use Rattle.pv_words.specs.declared.access.Access.TheVariants as access
use Rattle.pv_words.specs.declared.place.Place.TheVariants.{Cell, Grant}
use Rattle.pv_words.specs.declared.place.Half.TheVariants.{Flags, FrameNo}

pub record Found : Type 0 where
  -- the reference whose flags' word was loaded last, and that word
  pub gref : ℕ
  pub flags : Option ℕ
  -- since then: what the exchange of the flags saw, and the frame that was loaded
  pub seen : Option ℕ
  pub frame : Option ℕ
  -- the word of a page that was loaded last
  pub word : Option ℕ

abbrev pub nothing_found : Found
nothing_found = record { gref = 0; flags = None; seen = None; frame = None; word = None }

-- after one more access of the device
abbrev pub finding : Found → Access → Found
finding f (access.Load (Grant d g Flags) v) = record { gref = g.0; flags = Some v; seen = None; frame = None; word = f.word }
finding f (access.Load (Grant d g FrameNo) v) = record f { frame = Some v }
finding f (access.Load (Cell d p w) v) = record f { word = Some v }
finding f (access.Cas (Grant d g Flags) old new seen) = record f { seen = Some seen }
finding f other = f
