-- What the laws of a service are for, proved of every service at once.
use Rattle.std.proofs.Common.{ℕ, true, List, [], refl, subst}
use Rattle.pv_words.specs.Along.{after}
use Rattle.pv_words.specs.Held.{IsProper, KeepsToGrants, holds_of}
use Rattle.pv_words.specs.Memory.{zeros}
use Rattle.device_core.specs.Learned.{Learned, learned_of, learning}
use Rattle.device_core.specs.Machine.{AreTrueTo, HappensTo, IsRun, Snapshot, View, shown}
use Rattle.device_core.specs.Names.{Words}
use Rattle.device_core.specs.Order.{Own, followed, made_by}
use Rattle.device_core.proofs.Extending.{history_less}
use Rattle.device_core.proofs.Learning.{along_learned}
use Rattle.device_core.proofs.MachineRun.{proper_after, run_after, snapshot_at, view_after}
use Rattle.device_service.specs.Claims.{IsMachineRun, IsWork, Keeps, KeepsLaws, Runs, first_view}
use Rattle.device_service.specs.Laws.{Facts}
use Rattle.device_service.specs.Reading.{Naming, Shows, first_naming, reading}
use Rattle.device_service.specs.Rows.{Rows, Table}
use Rattle.device_service.specs.Service.{IsFresh, Service}
use Rattle.device_service.specs.Work.{device, first_station, first_work}
use Rattle.device_service.proofs.Sound.{Lies, first_carried, first_good, sound}
use Rattle.device_service.proofs.Soundness.Work.{Lawful, learned, site}

module _ {X A V Y M : Type 0} (D : Lawful X A V Y M) where
  open D use {s, t, r, known, frames, grants, dom, parts, l}

  -- what a reading keeps at the beginning, of all that the accesses told
  abbrev view_as : View Learned (Naming M)
  view_as = record { naming = first_naming s t r; carried = first_carried D; sight = Words zeros }

  run : (x : X) (es : List Own) → IsFresh s x → IsWork s t r (site D) x es → AreTrueTo (Words zeros) es → IsMachineRun s t r (site D) x es
  run x es fresh work true_to =
      let of = device s (site D) in
      let first = first_station x in
      let g = first_good D x fresh in
      let end : Snapshot (Rows Y V) = snapshot_at of (learned D) (after (followed of) first es) (view_after of (learned D) first view_as es) in (
        end,
        subst (λ hs. IsRun (HappensTo true (reading s t r (site D)).table) (shown of (reading s t r (site D)) (first_work x) (first_view s t r (site D))) hs end) (history_less of (reading s t r (site D)) (λ (k : Learned). k.found) (learning frames) (λ k note a. refl) first view_as es)
            (run_after of (learned D) (Lies D) (sound D) true first es view_as refl true_to (g.0, g.1) g.2 work),
      )

  keeps : (x : X) (es : List Own) → IsFresh s x → IsWork s t r (site D) x es → KeepsToGrants frames grants dom (holds_of []) (made_by (device s (site D)) (first_station x) es)
  keeps x es fresh work =
      let g = first_good D x fresh in
      along_learned frames (IsProper frames grants dom) (learned_of []) (made_by (device s (site D)) (first_station x) es)
      (proper_after (device s (site D)) (learned D) (Lies D) (sound D) (first_station x) es (first_carried D) (g.0, g.1) work)

module _ {X A V Y M : Type 0} (s : Service X A V) (t : Table Y V) (r : Shows X Y M) (known : (frames grants : ℕ → ℕ) → (dom parts : ℕ) → Facts X A V M) (laws : KeepsLaws s t r known) where
  pub services_run : Runs s t r
  services_run frames grants dom parts x es fresh work true_to =
      run (record { s = s; t = t; r = r; frames = frames; grants = grants; dom = dom; parts = parts; known = known frames grants dom parts; l = laws frames grants dom parts }) x es fresh work true_to

  pub services_keep : Keeps s t r
  services_keep frames grants dom parts x es fresh work =
      keeps (record { s = s; t = t; r = r; frames = frames; grants = grants; dom = dom; parts = parts; known = known frames grants dom parts; l = laws frames grants dom parts }) x es fresh work
