-- What the laws of a service are for.
use Rattle.std.specs.Prelude.{◌≡◌, ℕ, true, List, []}
use Rattle.pv_words.specs.declared.device.State.TheVariants as state
use Rattle.pv_words.specs.Found.{Found, nothing_found}
use Rattle.pv_words.specs.Held.{KeepsToGrants, holds_of}
use Rattle.pv_words.specs.Memory.{zeros}
use Rattle.device_core.specs.Machine.{HappensTo, IsRun, AreTrueTo, Snapshot, View, history, shown}
use Rattle.device_core.specs.Names.{Words}
use Rattle.device_core.specs.Order.{IsExplained, Rest, Own, made_by}
use Rattle.device_core.specs.Site.{Site}
use Rattle.device_core.specs.Told.{TellsAll}
use Rattle.device_service.specs.Laws.{Facts, Laws}
use Rattle.device_service.specs.Nodes.{Ringed}
use Rattle.device_service.specs.Reading.{Naming, Shows, first_naming, reading, told_of}
use Rattle.device_service.specs.Rows.{Rows, Table}
use Rattle.device_service.specs.Service.{IsFresh, Service}
use Rattle.device_service.specs.Work.{Idles, Work, choice, device, first_station, first_work}

-- what the domain has, and how many parts its device
abbrev pub site_of : (frames grants : ℕ → ℕ) → (dom parts : ℕ) → Site
site_of frames grants dom parts = record { dom = dom; parts = parts; frames = frames dom; grants = grants dom }

module _ {X A V Y M : Type 0} (s : Service X A V) (t : Table Y V) (r : Shows X Y M) (site : Site) where
  -- a device that is declared has no name, found no word, and all words of memory are 0
  abbrev pub first_view : View Found (Naming M)
  first_view = record { naming = first_naming s t r; carried = record { own = nothing_found; touched = [] }; sight = Words zeros }

  -- all that the device does and hears, whose service knew this when it was declared, is a run of its machine
  abbrev pub IsMachineRun : X → List Own → Type 0
  IsMachineRun x es =
      (end : Snapshot (Rows Y V))
      × IsRun (HappensTo true (reading s t r site).table) (shown (device s site) (reading s t r site) (first_work x) first_view) (history (device s site) (reading s t r site) (first_station x) first_view es) end

  -- what it does and hears by the order of work
  abbrev pub IsWork : X → List Own → Type 0
  IsWork x es = IsExplained (device s site) (first_station x) es

module _ {X A V Y M : Type 0} (s : Service X A V) (t : Table Y V) (r : Shows X Y M) where
  -- Whatever its device does and hears by the order of work, while its accesses find what stands there, is a run of the machine.
  abbrev pub Runs : Type 0
  Runs =
      (frames grants : ℕ → ℕ) (dom parts : ℕ) (x : X) (es : List Own)
      → IsFresh s x → IsWork s t r (site_of frames grants dom parts) x es → AreTrueTo (Words zeros) es
      → IsMachineRun s t r (site_of frames grants dom parts) x es

  -- Each of its accesses is in range, lies in a page that it holds then, or in a grant entry of its domain, and does there what it is
  -- for.
  abbrev pub Keeps : Type 0
  Keeps =
      (frames grants : ℕ → ℕ) (dom parts : ℕ) (x : X) (es : List Own)
      → IsFresh s x → IsWork s t r (site_of frames grants dom parts) x es
      → KeepsToGrants frames grants dom (holds_of []) (made_by (device s (site_of frames grants dom parts)) (first_station x) es)

  -- What happens to the machine as said and heard is just what the device said and heard, in order.
  abbrev pub Tells : Type 0
  Tells = (site : Site) → TellsAll (reading s t r site) told_of

-- a service that keeps its laws, of whatever device
abbrev pub KeepsLaws : {X A V Y M : Type 0} → Service X A V → Table Y V → Shows X Y M → ((frames grants : ℕ → ℕ) → (dom parts : ℕ) → Facts X A V M) → Type 0
KeepsLaws s t r known = (frames grants : ℕ → ℕ) (dom parts : ℕ) → Laws s t r (known frames grants dom parts) (site_of frames grants dom parts) frames grants

-- A connected device with rings rests only where the last Sleep, which goes over all its parts, found no request.
abbrev pub RestsAsleep : {X A V : Type 0} → Service X A V → Type 0
RestsAsleep {X} {A} {V} s =
    (site : Site) (w v : Work X V) → s.kind ≡ Ringed → w.connection.back ≡ state.Connected → choice s site w ≡ Rest v → w.round ≡ Idles
