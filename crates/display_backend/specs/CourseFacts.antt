-- What is always true of the request in hand of a display's service is a fact.
use Rattle.std.proofs.Common.{ℕ, List, Option, Some, None}
use Rattle.std.proofs.Props.{props}
use Rattle.displ_wire.specs.declared.Asked.{Asked}
use Rattle.displ_wire.specs.declared.Asked.TheVariants as asked
use Rattle.displ_wire.specs.declared.Request.{Request}
use Rattle.display_backend.specs.declared.course.Course.{Course}
use Rattle.display_backend.specs.declared.course.Course.TheVariants.{Rests, Walks, Frees, Reads}
use Rattle.page_directory.specs.declared.progress.Progress.{Progress}
use Rattle.page_directory.specs.declared.progress.Progress.TheVariants as progress
use Rattle.display_backend.specs.Course.{Creates, Destroys, ComesTo, InHand, HasCreate, HasDestroy, IsReading, Releases, Stands}
use Rattle.page_directory.specs.Going.{goes_prop}
use Rattle.display_backend.specs.declared.picture.Reading.{Reading}
use Rattle.display_buffers.specs.Stock.{Held}

creates_prop : (asks : Asked) (bs : List Held) (count : ℕ) → IsProp (Creates asks bs count)
creates_prop (asked.Create c) bs count = hlevel props
creates_prop asks bs count = hlevel props

destroys_prop : (asks : Asked) (bs : List Held) → IsProp (Destroys asks bs)
destroys_prop (asked.Destroy cookie) bs = hlevel props
destroys_prop asks bs = hlevel props

comes_prop : (p : Progress) (asks : Asked) (bs : List Held) (count : ℕ) → IsProp (ComesTo p asks bs count)
comes_prop progress.Mapped asks bs count = creates_prop asks bs count
comes_prop progress.Released asks bs count = destroys_prop asks bs
comes_prop p asks bs count = hlevel props

hand_prop : (hand : Option Request) (p : Progress) (bs : List Held) (count : ℕ) → IsProp (InHand hand p bs count)
hand_prop None p bs count = hlevel props
hand_prop (Some q) p bs count = comes_prop p q.asked bs count

create_prop : (hand : Option Request) (bs : List Held) (count : ℕ) → IsProp (HasCreate hand bs count)
create_prop None bs count = hlevel props
create_prop (Some q) bs count = creates_prop q.asked bs count

destroy_prop : (hand : Option Request) (cookie : ℕ) → IsProp (HasDestroy hand cookie)
destroy_prop None cookie = hlevel props
destroy_prop (Some q) cookie = hlevel props

releases_prop : (cookie : ℕ) (hand : Option Request) (bs : List Held) → IsProp (Releases cookie hand bs)
releases_prop cookie hand bs = hlevel (props, destroy_prop)

reading_prop : (r : Reading) (bs : List Held) → IsProp (IsReading r bs)
reading_prop r bs = hlevel props

pub stands_prop : (course : Course) (hand : Option Request) (p : Progress) (bs : List Held) (count : ℕ) → IsProp (Stands course hand p bs count)
stands_prop Rests hand p bs count = hand_prop hand p bs count
stands_prop (Walks w) hand p bs count = hlevel (props, create_prop, goes_prop)
stands_prop (Frees cookie) hand p bs count = hlevel (props, releases_prop)
stands_prop (Reads r) hand p bs count = hlevel (props, hand_prop, reading_prop)
