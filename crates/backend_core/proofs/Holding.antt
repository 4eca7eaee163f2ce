-- What a device tells that it holds is what its accesses hold, as each kind's own law says.
use Rattle.std.proofs.Common.{◌≡◌, ℕ, ◌<◌, List, length, refl, sym, subst, ◌∙◌, ap}
use Rattle.pv_words.specs.declared.setup.DeviceKind.{DeviceKind}
use Rattle.pv_words.specs.declared.setup.DeviceKind.TheVariants as kind
use Rattle.pv_words.specs.declared.grant.Hold.{Hold}
use Rattle.pv_words.specs.Along.{after}
use Rattle.pv_words.specs.Held.{Holds}
use Rattle.page_directory.specs.Same.{AreSame, times}
use Rattle.device_core.specs.Order.{Own, followed}
use Rattle.device_core.specs.Order as order
use Rattle.device_core.specs.Site.{Site}
use Rattle.device_service.specs.declared.backend.Backend.{Backend}
use Rattle.device_service.specs.declared.serve.Serve.{Ghosts}
use Rattle.device_service.specs.Claims.{site_of}
use Rattle.device_service.specs.Held as held
use Rattle.device_service.specs.Held.{holds_by}
use Rattle.device_service.specs.Service.{IsFresh}
use Rattle.device_service.specs.Stand as backend
use Rattle.device_service.specs.Work.{device, first_station}
use Rattle.display_backend.specs.Laws as screens
use Rattle.display_backend.specs.Service as screen
use Rattle.sound_backend.specs.Laws as tones
use Rattle.sound_backend.specs.Service as sounds
use Rattle.backend_core.specs.declared.device.Device.{Device}
use Rattle.backend_core.specs.declared.device.Device.TheVariants.{Display, Sound}
use Rattle.backend_core.specs.Device.{StandsFor, held_of}
use Rattle.backend_core.specs.Kinds.{IsExplained, parts_of}
use Rattle.backend_core.specs.Laws.{HoldsAsMany, HoldsPage, TellsWhatIsHeld}
use Rattle.backend_core.specs.Nature.{nature_of}
use Rattle.backend_core.proofs.EachKind.{holds_as, site_as}
use Rattle.backend_core.proofs.Natures.{keeping_of}

-- the backend of any service, which serves this domain with so many parts
module _ {S E : Type 0} {g : Ghosts S E} (frames grants : ℕ → ℕ) (dom parts : ℕ) (d : Backend S E g) (x : g.Known) (es : List Own) where
  abbrev site : Site
  site = site_of frames grants dom parts

  its_site : backend.dom_of d ≡ dom → backend.parts_of d ≡ parts → backend.site_at frames grants d ≡ site
  its_site a b =
      ap (λ k. let s : Site = record { dom = k; parts = backend.parts_of d; frames = frames k; grants = grants k } in s) a
      ∙ ap (λ k. let s : Site = record { dom = dom; parts = k; frames = frames dom; grants = grants dom } in s) b

  abbrev Stands : Site → Type 0
  Stands here =
      IsFresh g.service x × order.IsExplained (device g.service here) (first_station x) es
      × (backend.stand_of here d ≡ (after (followed (device g.service here)) (first_station x) es).stand)

  -- what is so of the site that it has, where it stands so, is so of that of its domain
  at_its_site : (P : Site → Type 0) → (Stands (backend.site_at frames grants d) → P (backend.site_at frames grants d)) → backend.dom_of d ≡ dom → backend.parts_of d ≡ parts → Stands site → P site
  at_its_site P f a b stands = let is = its_site a b in subst P is (f (subst Stands (sym is) stands))

-- Whatever a device of its kind has done and heard, where it stands by that this is so of what its accesses hold.
abbrev Holding : Device → (Holds → Type 0) → Type 0
Holding (Display d) P =
    (frames grants : ℕ → ℕ) (x : screen.Known) (es : List Own)
    → held.StandsBy frames grants d x es → P (holds_by screen.display frames (backend.site_at frames grants d) x es)
Holding (Sound d) P =
    (frames grants : ℕ → ℕ) (x : sounds.Known) (es : List Own)
    → held.StandsBy frames grants d x es → P (holds_by sounds.sound frames (backend.site_at frames grants d) x es)

module _ (P : Holds → Type 0) (frames grants : ℕ → ℕ) (dom : ℕ) (es : List Own) where
  holds_so : (k : DeviceKind) (d : Device) → Holding d P → StandsFor k (site_as frames grants dom k) d es → IsExplained k (site_as frames grants dom k) es → P (holds_as frames grants dom k es)
  holds_so (kind.Display n) (Display d) f s x =
      let first = (nature_of (kind.Display n)).first in
      at_its_site frames grants dom n d first es (λ site. P (holds_by screen.display frames site first es)) (f frames grants first es) s.dom_is s.parts_are ((keeping_of (kind.Display n)).fresh, x, s.stands)
  holds_so (kind.Sound streams) (Sound d) f s x =
      let first = (nature_of (kind.Sound streams)).first in
      at_its_site frames grants dom (parts_of (kind.Sound streams)) d first es (λ site. P (holds_by sounds.sound frames site first es)) (f frames grants first es) s.dom_is s.parts_are ((keeping_of (kind.Sound streams)).fresh, x, s.stands)
  holds_so (kind.Display n) (Sound d) f s x = absurd s.stands
  holds_so (kind.Sound streams) (Display d) f s x = absurd s.stands

-- so many pages; this page; and just the pages that it tells
pub holds_as_many : (self d : Device) → self ≡ d → (n : ℕ) → Holding d (λ h. n ≡ length h.held) → HoldsAsMany self n
holds_as_many self d is n f =
    subst (λ x. HoldsAsMany x n) (sym is) (λ frames grants s es stands explained. holds_so (λ h. n ≡ length h.held) frames grants s.dom.0 es s.kind d f stands explained)

pub holds_page : (self d : Device) → self ≡ d → (page : Hold) → Holding d (λ h. 0 < times page h.held) → HoldsPage self page
holds_page self d is page f =
    subst (λ x. HoldsPage x page) (sym is) (λ frames grants s es stands explained. holds_so (λ h. 0 < times page h.held) frames grants s.dom.0 es s.kind d f stands explained)

pub tells_held : screens.TellsWhatIsHeld → tones.TellsWhatIsHeld → TellsWhatIsHeld
tells_held screen sound frames grants s d es stands explained =
    holds_so (λ h. AreSame h.held (held_of d)) frames grants s.dom.0 es s.kind d (by_kind d) stands explained
  where
    by_kind : (x : Device) → Holding x (λ h. AreSame h.held (held_of x))
    by_kind (Display x) = screen x
    by_kind (Sound x) = sound x
