-- What a device says is as its rows tell it, by the words that its accesses found last.
use Rattle.std.proofs.Common.{◌≡◌, ℕ, List, Some, refl}
use Rattle.pv_words.specs.declared.device.Reason.{Reason}
use Rattle.pv_words.specs.declared.device.Reason.TheVariants as reason
use Rattle.pv_words.specs.declared.device.Said.{Said}
use Rattle.pv_words.specs.Found.{Found}
use Rattle.device_core.specs.Learned.{Learned}
use Rattle.device_core.specs.Machine.{Sound}
use Rattle.device_core.specs.Order.{Own, Did, Spoke, Rested, Heard, Refused, Others}
use Rattle.device_core.specs.Site.{Site}
use Rattle.device_core.specs.Touched.{Carried}
use Rattle.device_core.proofs.Saying.{IsUnspoken, says_so}
use Rattle.device_service.specs.Claims.{IsWork, KeepsLaws}
use Rattle.device_service.specs.Laws.{Facts}
use Rattle.device_service.specs.Reading.{Naming, Shows, first_naming, named_after, rows_of, taken_at}
use Rattle.device_service.specs.Rows.{Rows, Table, Closes}
use Rattle.device_service.specs.Service.{IsFresh, Service}
use Rattle.device_service.specs.Truth.{AreSaid, IsSaidBy, ShowsReason, TellsTruly}
use Rattle.device_service.specs.Work.{End, Work, device, first_station, said_at, settled}
use Rattle.device_service.proofs.Sound.{Lies, first_carried, first_good, sound}
use Rattle.device_service.proofs.Soundness.Work.{Lawful, learned, site}

module _ {X A V Y M : Type 0} (D : Lawful X A V Y M) where
  open D use {s, t, r, known, frames, grants, dom, parts, l}

  abbrev is_sound : Sound (device s (site D)) (learned D) (Lies D)
  is_sound = sound D

  -- an activity's end is told as the rows tell it
  says : (w : Work X V) (o : End A V) (k : Carried Learned) (what : Said) (n : Naming M) → is_sound.Sane w → is_sound.EndsWell w k o → is_sound.Named w n → said_at s w o ≡ Some what → IsSaidBy t (site D) k.own.found (Spoke what)
  says w o k what n q e named is =
      let m = (is_sound.tells w o k what n q e named is).1 in
      record { old = rows_of s t r w n; new = rows_of s t r (settled s (site D) w o) (named_after s t r w o n); touched = _; taken = taken_at o; says = m.move }

  unspoken : (f : Found) (e : Own) → IsUnspoken e → IsSaidBy t (site D) f e
  unspoken f (Spoke what) u = absurd u
  unspoken f (Did a) u = tt
  unspoken f Rested u = tt
  unspoken f (Heard news) u = tt
  unspoken f (Refused why) u = tt
  unspoken f (Others a) u = tt

  truly : (x : X) (es : List Own) → IsFresh s x → IsWork s t r (site D) x es → AreSaid t (site D) es
  truly x es fresh work =
      let g = first_good D x fresh in
      says_so (device s (site D)) (learned D) (Lies D) is_sound (λ (k : Learned). k.found) (λ k note a. refl) (IsSaidBy t (site D)) says unspoken (first_station x) es (first_carried D) (first_naming s t r) (g.0, g.1) g.2 work

pub services_tell_truly : {X A V Y M : Type 0} (s : Service X A V) (t : Table Y V) (r : Shows X Y M) (known : (frames grants : ℕ → ℕ) → (dom parts : ℕ) → Facts X A V M) → KeepsLaws s t r known → TellsTruly s t r
services_tell_truly s t r known laws frames grants dom parts x es fresh work =
    truly (record { s = s; t = t; r = r; frames = frames; grants = grants; dom = dom; parts = parts; known = known frames grants dom parts; l = laws frames grants dom parts }) x es fresh work

-- a connection is closed for a reason that the words show
pub closes_shown : {Y V : Type 0} (t : Table Y V) (here : Site) (old new : Rows Y V) (f : Found) (why : Reason) → Closes t here old f why new → ShowsReason here f why
closes_shown t here old new f (reason.Refused why) x = (x.0.0.1.0, x.0.0.1.2)
closes_shown t here old new f (reason.Overrun prod rsp) x = x.0.0.1
closes_shown t here old new f (reason.BadCons prod cons) x = x.0.0.1
closes_shown t here old new f (reason.Asked b) x = tt
closes_shown t here old new f (reason.Node part key fault) x = tt
closes_shown t here old new f (reason.Spent prod) x = tt
