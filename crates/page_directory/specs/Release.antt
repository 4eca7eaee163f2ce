-- What a Release leaves of a list of pages.
use Rattle.std.specs.Prelude.{List, drop}
use Rattle.pv_words.specs.declared.access.Access.{Access}
use Rattle.pv_words.specs.declared.grant.Hold.{Hold}
use Rattle.pv_words.specs.Plan.{Plan, Goes}
use Rattle.pv_words.specs.Release.{Drops, unmaps}
use Rattle.page_directory.specs.declared.release.Release.{Release}

-- the pages of a list that aren't given up
unfoldable pub left_of : Release → List Hold → List Hold
left_of r pages = drop r.gone pages

-- Each page that is given up is the next access of the unmaps of those that were left, whatever comes behind them.
abbrev pub ReleasesInOrder : (A : Type 0) → Type 0
ReleasesInOrder A = (hs left : List Hold) (a : Access) (more : Plan A) → Drops hs a left → Goes (unmaps hs more) a (unmaps left more)
