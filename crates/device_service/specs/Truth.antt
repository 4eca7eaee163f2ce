-- What a device says is as its rows tell it, by the words that its accesses found last.
use Rattle.std.specs.Prelude.{◌≡◌, ℕ, List, Some}
use Rattle.pv_words.specs.declared.device.Reason.{Reason}
use Rattle.pv_words.specs.declared.device.Reason.TheVariants as reason
use Rattle.pv_words.specs.declared.device.Said.{Said}
use Rattle.pv_words.specs.declared.grant.Mode.TheVariants.{Write}
use Rattle.pv_words.specs.Along.{Along}
use Rattle.pv_words.specs.Found.{Found, nothing_found}
use Rattle.pv_words.specs.MapLaws.{IsShown}
use Rattle.device_core.specs.Learned.{found_next}
use Rattle.device_core.specs.Order.{Own, Spoke}
use Rattle.device_core.specs.Site.{Site}
use Rattle.device_core.specs.Touched.{Touch}
use Rattle.device_service.specs.Claims.{IsWork, site_of}
use Rattle.device_service.specs.Reading.{Shows}
use Rattle.device_service.specs.Rows.{Rows, Table, Tells as SaysBy}
use Rattle.device_service.specs.Service.{IsFresh, Service}

-- why a connection is closed: the map of a page was refused so, as these words show; or the index that is too far is the last of them
abbrev pub ShowsReason : Site → Found → Reason → Type 0
ShowsReason site f (reason.Refused why) = (gref : ℕ) × IsShown site.frames site.grants gref Write f why
ShowsReason site f (reason.Overrun prod rsp) = f.word ≡ Some prod
ShowsReason site f (reason.BadCons prod cons) = f.word ≡ Some cons
ShowsReason site f other = Unit {0}

module _ {Y V : Type 0} (t : Table Y V) (site : Site) where
  -- of some rows the machine says this, by these words
  pub record IsSaid (f : Found) (what : Said) : Type 0 where
    pub old : Rows Y V
    pub new : Rows Y V
    pub touched : List Touch
    pub taken : List ℕ
    pub says : SaysBy t site old (record { touched = touched; found = f }) what taken new

  abbrev pub IsSaidBy : Found → Own → Type 0
  IsSaidBy f (Spoke what) = IsSaid f what
  IsSaidBy f other = Unit {0}

  -- each thing that is said is said so, by the words that the accesses before it found last
  abbrev pub AreSaid : List Own → Type 0
  AreSaid es = Along found_next IsSaidBy nothing_found es

-- Whatever a device does and hears by the order of work, it tells the truth of what it found.
abbrev pub TellsTruly : {X A V Y M : Type 0} → Service X A V → Table Y V → Shows X Y M → Type 0
TellsTruly {X} s t r =
    (frames grants : ℕ → ℕ) (dom parts : ℕ) (x : X) (es : List Own)
    → IsFresh s x → IsWork s t r (site_of frames grants dom parts) x es → AreSaid t (site_of frames grants dom parts) es
