-- What a backend tells that it holds.
use Rattle.std.specs.Prelude.{◌≡◌, ℕ, ◌<◌, List, [], length}
use Rattle.pv_words.specs.Along.{after}
use Rattle.pv_words.specs.declared.grant.Hold.{Hold}
use Rattle.pv_words.specs.Held.{Holds, holding, holds_of}
use Rattle.page_directory.specs.Same.{AreSame, times}
use Rattle.device_core.specs.Order.{Own, IsExplained, followed, made_by}
use Rattle.device_core.specs.Site.{Site}
use Rattle.device_service.specs.declared.backend.Backend.{Backend}
use Rattle.device_service.specs.declared.serve.Serve.{Ghosts}
use Rattle.device_service.specs.Service.{IsFresh, Service}
use Rattle.device_service.specs.Stand.{held_of, site_at, stand_of}
use Rattle.device_service.specs.Work.{device, first_station}

-- what a device holds that has done and heard this since it was declared, when its service knew x: what its accesses mapped and
-- didn't unmap
abbrev pub holds_by : {X A V : Type 0} → Service X A V → (frames : ℕ → ℕ) → Site → X → List Own → Holds
holds_by s frames site x es = after (λ h m. holding frames h m.note m.access) (holds_of []) (made_by (device s site) (first_station x) es)

module _ {S E : Type 0} {g : Ghosts S E} where
  -- It stands where what it has done and heard leads since it was declared, when its service knew x, all of it as its order of work
  -- gives.
  abbrev pub StandsBy : (frames grants : ℕ → ℕ) → Backend S E g → g.Known → List Own → Type 0
  StandsBy frames grants d x es =
      IsFresh g.service x × IsExplained (device g.service (site_at frames grants d)) (first_station x) es
      × (stand_of (site_at frames grants d) d ≡ (after (followed (device g.service (site_at frames grants d))) (first_station x) es).stand)

  -- Whatever it has done and heard, where it stands by that its accesses hold so many pages; and they hold this page.
  abbrev pub HoldsAsMany : Backend S E g → ℕ → Type 0
  HoldsAsMany d n =
      (frames grants : ℕ → ℕ) (x : g.Known) (es : List Own)
      → StandsBy frames grants d x es → n ≡ length (holds_by g.service frames (site_at frames grants d) x es).held

  abbrev pub HoldsPage : Backend S E g → Hold → Type 0
  HoldsPage d h =
      (frames grants : ℕ → ℕ) (x : g.Known) (es : List Own)
      → StandsBy frames grants d x es → 0 < times h (holds_by g.service frames (site_at frames grants d) x es).held

  -- Wherever it stands by what it has done and heard, the pages that it tells are just those that its accesses hold, each as often.
  abbrev pub TellsWhatIsHeld : Backend S E g → Type 0
  TellsWhatIsHeld d =
      (frames grants : ℕ → ℕ) (x : g.Known) (es : List Own)
      → StandsBy frames grants d x es → AreSame (holds_by g.service frames (site_at frames grants d) x es).held (held_of d)

-- every backend of such a service tells that
abbrev pub AllTell : {S E : Type 0} → Ghosts S E → Type 0
AllTell {S} {E} g = (d : Backend S E g) → TellsWhatIsHeld d
