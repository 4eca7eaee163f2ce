-- Where explained work leaves a device of a lawful service, and what it then holds.
use Rattle.std.proofs.Common.{◌≡◌, List, [], ◌∷◌, ◌++◌, Option, Some, None, refl, subst, ◌∙◌, ap}
use Rattle.pv_words.specs.declared.access.Access.{Access}
use Rattle.pv_words.specs.declared.device.Said.{Said}
use Rattle.pv_words.specs.Along.{after, after-append}
use Rattle.pv_words.specs.Held.{Holds, Made, IsProper, holding, holds_of}
use Rattle.pv_words.specs.Plan.{Note, Want, wanted}
use Rattle.device_core.specs.Learned.{Learned, learned_of}
use Rattle.device_core.specs.Order.{Own, Did, Rules, Station, IsExplained, MayFollow, MayStep, followed, made_by, note_at, steps_of}
use Rattle.device_core.specs.Touched.{Carried}
use Rattle.device_core.proofs.Learning.{holds_learned}
use Rattle.device_core.proofs.MachineRun.{IsGood, carried_after, good_after, may_step, own_after, proper_follow}
use Rattle.device_core.proofs.Stations.{made_append}
use Rattle.device_service.specs.Claims.{IsWork}
use Rattle.device_service.specs.Service.{IsFresh}
use Rattle.device_service.specs.Work.{End, Work, device, first_station}
use Rattle.device_service.proofs.Sound.{Lies, first_carried, first_good, sound}
use Rattle.device_service.proofs.Soundness.Work.{Lawful, learned, site}

module _ {X A V Y M : Type 0} (D : Lawful X A V Y M) (x : X) (fresh : IsFresh D.s x) where
  open D use {s, t, r, known, frames, grants, dom, parts, l}

  -- how it works, and where it stands that has done and heard this since it was declared
  abbrev pub rules : Rules (Work X V) (End A V)
  rules = device s (site D)

  abbrev first : Station (Work X V) (End A V)
  first = first_station x

  abbrev pub station : List Own → Station (Work X V) (End A V)
  station es = after (followed rules) first es

  -- the pages that its accesses mapped and didn't unmap
  abbrev hold : Holds → Made → Holds
  hold h x = holding frames h x.note x.access

  abbrev pub holds : List Own → Holds
  holds es = after hold (holds_of []) (made_by rules first es)

  -- what its accesses told it
  abbrev pub carried : List Own → Carried Learned
  carried es = carried_after rules (learned D) (Lies D) (sound D) first (first_carried D) es

  -- what it knows is true, and tells what its accesses made
  pub good : (es : List Own) → IsWork s t r (site D) x es → IsGood rules (learned D) (Lies D) (sound D) (station es).stand (carried es)
  good es work = let g = first_good D x fresh in good_after rules (learned D) (Lies D) (sound D) first es (first_carried D) (g.0, g.1) work

  -- of which the pages are those that it holds
  pub good_holds : (es : List Own) → (carried es).own.holds ≡ holds es
  good_holds es =
      ap (λ (k : Learned). k.holds) (own_after rules (learned D) (Lies D) (sound D) first es (first_carried D))
      ∙ holds_learned frames (learned_of []) (made_by rules first es)

  first_may : (p : Station (Work X V) (End A V)) (a : Access) (says : Option Said) → IsExplained rules p (steps_of (Some a) says) → MayFollow rules p (Did a)
  first_may p a None h = h.0
  first_may p a (Some what) h = h.0

  made_step : (p : Station (Work X V) (End A V)) (a : Access) (says : Option Said) → made_by rules p (steps_of (Some a) says) ≡ record { access = a; note = note_at rules p.stand (Did a) } ∷ []
  made_step p a None = refl
  made_step p a (Some what) = refl

  -- its access is as what it holds allows, and leaves it holding what it makes of that
  pub step_holds : (es : List Own) (a : Access) (says : Option Said) → IsWork s t r (site D) x es → IsExplained rules (station es) (steps_of (Some a) says) → (note : Note) × IsProper frames grants dom (holds es) (wanted a) note × (holds (es ++ steps_of (Some a) says) ≡ holding frames (holds es) note a)
  step_holds es a says work h =
      let p = station es in
      let note = note_at rules p.stand (Did a) in (
        note,
        subst (λ hs. IsProper frames grants dom hs (wanted a) note) (good_holds es) (proper_follow rules (learned D) (Lies D) (sound D) p.stand p.owes a (carried es) (good es work) (first_may p a says h)),
        ap (λ ms. after hold (holds_of []) ms) (made_append rules first es (steps_of (Some a) says))
            ∙ (after-append hold (holds_of []) (made_by rules first es) (made_by rules p (steps_of (Some a) says))
            ∙ ap (λ ms. after hold (holds es) ms) (made_step p a says)),
      )

  -- where each access may be made that what it holds allows, its next one may
  pub next_may : (may : Want → Type 0) (es : List Own) → ((want : Want) (note : Note) → IsProper frames grants dom (holds es) want note → may want) → IsWork s t r (site D) x es → MayStep may rules (station es).stand
  next_may may es all work =
      may_step rules (learned D) (Lies D) (sound D) may (carried es)
      (λ want note lies. all want note (subst (λ hs. IsProper frames grants dom hs want note) (good_holds es) lies)) (station es).stand (good es work)
