-- What is always true of the request in hand of a sound device's service is a fact.
use Rattle.std.proofs.Common.{ℕ, List, Option, Some, None}
use Rattle.std.proofs.Props.{props}
use Rattle.circular_buffer.specs.Buffer.{Buffer}
use Rattle.pv_words.specs.declared.grant.Hold.{Hold}
use Rattle.snd_wire.specs.declared.types.Asked.{Asked}
use Rattle.snd_wire.specs.declared.types.Asked.TheVariants as asked
use Rattle.sound_backend.specs.declared.course.Demand.{Demand}
use Rattle.sound_backend.specs.declared.course.Course.{Course}
use Rattle.sound_backend.specs.declared.course.Course.TheVariants.{Rests, Walks, Frees}
use Rattle.page_directory.specs.declared.progress.Progress.{Progress}
use Rattle.page_directory.specs.declared.progress.Progress.TheVariants as progress
use Rattle.sound_backend.specs.Course.{Opens, ComesTo, InHand, HasOpen, HasClose, Releases, Stands}
use Rattle.page_directory.specs.Going.{goes_prop}

opens_prop : (asks : Asked) (queue : Option (Buffer ℕ)) → IsProp (Opens asks queue)
opens_prop (asked.Open p) queue = hlevel props
opens_prop asks queue = hlevel props

comes_prop : (p : Progress) (asks : Asked) (queue : Option (Buffer ℕ)) → IsProp (ComesTo p asks queue)
comes_prop progress.Mapped asks queue = opens_prop asks queue
comes_prop progress.Released asks queue = hlevel props
comes_prop p asks queue = hlevel props

hand_prop : (hand : Option Demand) (p : Progress) (queue : Option (Buffer ℕ)) → IsProp (InHand hand p queue)
hand_prop None p queue = hlevel props
hand_prop (Some d) p queue = comes_prop p d.request.asked queue

open_prop : (hand : Option Demand) (queue : Option (Buffer ℕ)) → IsProp (HasOpen hand queue)
open_prop None queue = hlevel props
open_prop (Some d) queue = opens_prop d.request.asked queue

close_prop : (hand : Option Demand) (part : ℕ) → IsProp (HasClose hand part)
close_prop None part = hlevel props
close_prop (Some d) part = hlevel props

releases_prop : (part : ℕ) (hand : Option Demand) (held : List (List Hold)) → IsProp (Releases part hand held)
releases_prop part hand held = hlevel (props, close_prop)

pub stands_prop : (course : Course) (hand : Option Demand) (p : Progress) (held : List (List Hold)) (queue : Option (Buffer ℕ)) → IsProp (Stands course hand p held queue)
stands_prop Rests hand p held queue = hand_prop hand p queue
stands_prop (Walks w) hand p held queue = hlevel (props, open_prop, goes_prop)
stands_prop (Frees part) hand p held queue = hlevel (props, releases_prop)
