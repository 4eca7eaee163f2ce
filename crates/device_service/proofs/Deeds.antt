-- What the steps of a service's activities come to.
use Rattle.std.proofs.Common.{◌≡◌, inl, inr, ℕ, [], Bool, true, false, List, ◌∷◌, Option, Some, None, refl, sym, ap, subst, ◌∙◌}
use Rattle.std.proofs.lemmas.Bool.{true≢false}
use Rattle.pv_words.specs.declared.access.Access.{Access}
use Rattle.pv_words.specs.declared.device.Said.{Said}
use Rattle.pv_words.specs.Memory.{place_of}
use Rattle.pv_words.specs.Plan.{Plan, Finished, Make, Want, Goes, MayGo, Makes, mapped}
use Rattle.host_events.specs.Queue.{behind}
use Rattle.link_core.specs.Activities.{Joined, Page, answer_plan, stores}
use Rattle.device_core.specs.Order.{Order, Act, Stand, Between, During, GoesOn, MayChoose, Went, is_in_page}
use Rattle.device_core.specs.Site.{Site}
use Rattle.device_core.proofs.Steps.{place_wanted}
use Rattle.device_service.specs.declared.backend.Activity.{Activity}
use Rattle.device_service.specs.declared.backend.Activity.TheVariants as activity
use Rattle.device_service.specs.declared.backend.Backend.{Backend}
use Rattle.device_service.specs.declared.deed.Now.{Now}
use Rattle.device_service.specs.declared.deed.Now.TheVariants as phase
use Rattle.device_service.specs.declared.serve.Serve.{Ghosts}
use Rattle.device_service.specs.Activity.{is_serving}
use Rattle.device_service.specs.Goes.{Begins, Comes, ComesAs}
use Rattle.device_service.specs.Operating as op
use Rattle.device_service.specs.Parts.{answer_of as parts_answer}
use Rattle.device_service.specs.Service.{Deed, Job, Raises, Runs, Service, Starves, Works}
use Rattle.device_service.specs.Stand.{stand_in, stand_of, work_of}
use Rattle.device_service.specs.Work.{Answered, Done, End, Own, Work, answer_of, decides, decides_by, device, does, does_event, ring_page, said_at, serves_by, settled}
use Rattle.device_service.proofs.Works.{between_is, goes_as, serving_is, serving_work}

pub may_mapped : {A B : Type 0} (may : Want → Type 0) (p : Plan A) (f : A → B) → MayGo may (mapped f p) → MayGo may p
may_mapped may (Make want note more) f h = h
may_mapped may (Finished x) f h = tt

goes_mapped : {A B : Type 0} (f : A → B) (p : Plan A) (a : Access) (q : Plan A) → Goes p a q → Goes (mapped f p) a (mapped f q)
goes_mapped f (Finished x) a q g = absurd g
goes_mapped f (Make want note more) a q g = (g.0, ap (mapped f) g.1)

-- the first access of an Answer is to the ring's page
pub answer_in_page : {B : Type 0} (f : Bool → B) (page : Page) (rsp : ℕ) (reply : List ℕ) (a : Access) (q : Plan B) → Goes (mapped f (answer_plan page rsp reply)) a q → is_in_page (place_of a) ≡ true
unfolding stores
answer_in_page f page rsp [] a q g = ap is_in_page (place_wanted _ a g.0)
answer_in_page f page rsp (v ∷ vs) a q g = ap is_in_page (place_wanted _ a g.0)

-- a step with no access leaves the words as they are
pub still : {P : Type 0} (makes : P → Access → P → Type 0) (old new : P) (access : Option Access) → access ≡ None → Makes makes old access new → new ≡ old
still makes old new access e m = subst (λ (a : Option Access). Makes makes old a new) e m

module _ {X A V : Type 0} (s : Service X A V) (site : Site) where
  -- how the work changes at the end of an activity of the service, whose ends these are, and what is said then
  pub record IsEnd (f : A → End A V) (rest : List V → List V) : Type 0 where
    pub says : (w : Work X V) (a : A) → said_at s w (f a) ≡ s.says w.service a
    pub settles : (w : Work X V) (a : A) → settled s site w (f a) ≡ record w { waiting = rest w.waiting; service = s.after w.service a }

  pub own_end : IsEnd (λ a. Own a) (λ vs. vs)
  unfolding said_at settled
  own_end = record { says = λ w a. refl; settles = λ w a. refl }

  pub done_end : IsEnd (λ a. Done a) (λ vs. behind vs)
  unfolding said_at settled
  done_end = record { says = λ w a. refl; settles = λ w a. refl }

  module _ (f : A → End A V) (rest : List V → List V) (i : IsEnd f rest) (w v : Work X V) (now : Now) (event : Option Said) (y : X) (left : Plan A) where
    went_on : (q : Plan A) → v ≡ record w { service = y } → op.Leaves s w.service q now event y left → now ≡ phase.GoesOn → Went (device s site) w (mapped f q) event (During v (mapped f left))
    went_on (Finished a) e h n = let over = h.0 in let wrong : ⊥ = cc in absurd wrong
    went_on (Make want note more) e h n =
        (h.1, ap (λ (u : Work X V). During u (mapped f left)) (e ∙ ap (λ (x : X). record w { service = x }) h.2) ∙ ap (λ (p : Plan A). During w (mapped f p)) h.3)

    went_over : (q : Plan A) → v ≡ record w { waiting = rest w.waiting; service = y } → op.Leaves s w.service q now event y left → (now ≡ phase.GoesOn → ⊥) → Went (device s site) w (mapped f q) event (Between v)
    went_over (Finished a) e h n =
        (h.1 ∙ sym (i.says w a), ap (λ (u : Work X V). Between u) (e ∙ (ap (λ (x : X). record w { waiting = rest w.waiting; service = x }) h.2 ∙ sym (i.settles w a))))
    went_over (Make want note more) e h n = absurd (n h.0)

    -- a step of such an activity goes on, or is the last
    pub continues_on : (p : Plan A) (access : Option Access) → v ≡ record w { service = y } → op.Continues s w.service p access now event y left → now ≡ phase.GoesOn → GoesOn (device s site) w (mapped f p) access event (During v (mapped f left))
    continues_on p None e c n = absurd c
    continues_on p (Some a) e c n = (mapped f c.0, goes_mapped f p a c.0 c.1, went_on c.0 e c.2 n)

    pub continues_over : (p : Plan A) (access : Option Access) → v ≡ record w { waiting = rest w.waiting; service = y } → op.Continues s w.service p access now event y left → (now ≡ phase.GoesOn → ⊥) → GoesOn (device s site) w (mapped f p) access event (Between v)
    continues_over p None e c n = absurd c
    continues_over p (Some a) e c n = (mapped f c.0, goes_mapped f p a c.0 c.1, went_over c.0 e c.2 n)

    -- its first step
    pub comes_on : (p : Plan A) (access : Option Access) → v ≡ record w { service = y } → op.Comes s w.service p access now event y left → now ≡ phase.GoesOn → Comes s site w (mapped f p) access event (During v (mapped f left))
    comes_on p None e c n = let over = c.now_is in let wrong : ⊥ = cc in absurd wrong
    comes_on p (Some a) e c n = continues_on p (Some a) e c n

    pub comes_over : (p : Plan A) (access : Option Access) → v ≡ record w { waiting = rest w.waiting; service = y } → op.Comes s w.service p access now event y left → (now ≡ phase.GoesOn → ⊥) → Comes s site w (mapped f p) access event (Between v)
    comes_over p None e c n =
        record {
          end = f c.end;
          told = c.said;
          over = ap (mapped f) c.over;
          says = c.says;
          told_is = i.says w c.end ∙ c.said_is;
          left = ap (λ (u : Work X V). Between u) (e ∙ (ap (λ (x : X). record w { waiting = rest w.waiting; service = x }) c.left ∙ sym (i.settles w c.end)));
        }
    comes_over p (Some a) e c n = continues_over p (Some a) e c n

  -- what begins is what comes next
  pub begins_as : (o c : Order (Work X V) (End A V)) (access : Option Access) (event : Option Said) (new : Stand (Work X V) (End A V)) → o ≡ c → Begins s site c access event new → Begins s site o access event new
  begins_as o c access event new e h = subst (λ (x : Order (Work X V) (End A V)). Begins s site x access event new) (sym e) h

  pub begins_to : (o c : Order (Work X V) (End A V)) (access : Option Access) (event : Option Said) (mid new : Stand (Work X V) (End A V)) → o ≡ c → new ≡ mid → Begins s site c access event mid → Begins s site o access event new
  begins_to o c access event mid new e f h =
      subst (λ (x : Stand (Work X V) (End A V)). Begins s site o access event x) (sym f) (begins_as o c access event mid e h)

  pub may_as : (may : Want → Type 0) (o c : Order (Work X V) (End A V)) → o ≡ c → MayChoose may o → MayChoose may c
  may_as may o c e h = subst (λ (x : Order (Work X V) (End A V)). MayChoose may x) e h

  pub comes_goes : (w : Work X V) (p : Plan (End A V)) (access : Option Access) (event : Option Said) (new : Stand (Work X V) (End A V)) → GoesOn (device s site) w p access event new → Comes s site w p access event new
  comes_goes w p None event new g = absurd g
  comes_goes w p (Some a) event new g = g

  of_second : (v : Work X V) (p : Plan (End A V)) (u : Work X V) (q : Plan (End A V)) (access : Option Access) (event : Option Said) (new : Stand (Work X V) (End A V)) → op.IsOutOfPages s access → Comes s site u q access event new → ComesAs s site v p u q access event new
  of_second v p u q None event new o c = c
  of_second v p u q (Some a) event new o c = inr (o, c)

  -- the first step of what a request leads to
  pub begins_on : (w v : Work X V) (job : Job X A) (j : Joined) (access : Option Access) (now : Now) (event : Option Said) (y : X) (left : Plan A) → v ≡ record w { service = y } → op.Begins s job access now event y left → now ≡ phase.GoesOn → Begins s site (does s w job j) access event (During v (mapped Own left))
  begins_on w v (Works x p) j access now event y left e b n = comes_on (λ a. Own a) (λ vs. vs) own_end (record w { service = x }) v now event y left p access e b n
  begins_on w v (Starves u x p) j access now event y left e (inl b) n = let answers = b.now_is in let wrong : ⊥ = cc in absurd wrong
  begins_on w v (Starves u x p) j access now event y left e (inr b) n =
      of_second _ _ _ _ access event _ b.0 (comes_on (λ a. Own a) (λ vs. vs) own_end (record w { service = x }) v now event y left p access e b.1 n)

  pub begins_over : (w v : Work X V) (job : Job X A) (j : Joined) (access : Option Access) (now : Now) (event : Option Said) (y : X) (left : Plan A) → v ≡ record w { service = y } → op.Begins s job access now event y left → now ≡ phase.Over → Begins s site (does s w job j) access event (Between v)
  begins_over w v (Works x p) j access now event y left e b n = comes_over (λ a. Own a) (λ vs. vs) own_end (record w { service = x }) v now event y left p access e b (λ m. let wrong : ⊥ = cc in wrong)
  begins_over w v (Starves u x p) j access now event y left e (inl b) n = let answers = b.now_is in let wrong : ⊥ = cc in absurd wrong
  begins_over w v (Starves u x p) j access now event y left e (inr b) n =
      of_second _ _ _ _ access event _ b.0 (comes_over (λ a. Own a) (λ vs. vs) own_end (record w { service = x }) v now event y left p access e b.1 (λ m. let wrong : ⊥ = cc in wrong))

  pub may_job : (may : Want → Type 0) (w : Work X V) (job : Job X A) (j : Joined) → MayChoose may (does s w job j) → op.MayJob may job
  may_job may w (Works x p) j m = may_mapped may p (λ a. Own a) m
  may_job may w (Starves u x p) j m = may_mapped may p (λ a. Own a) m.1

  -- memory was wanting: what came of it
  pub record Wanting (job : Job X A) (access : Option Access) (event : Option Said) (y : X) : Type 0 where
    pub starved : X
    pub works : X
    pub plan : Plan A
    pub job_is : job ≡ Starves starved works plan
    pub access_is : access ≡ None
    pub left : y ≡ starved
    pub ready : s.ready starved ≡ true

  leaves_no_answer : (x : X) (q : Plan A) (now : Now) (event : Option Said) (y : X) (left : Plan A) → op.Leaves s x q now event y left → now ≡ phase.Answers → ⊥
  leaves_no_answer x (Finished a) now event y left h n = let over = h.0 in let wrong : ⊥ = cc in wrong
  leaves_no_answer x (Make want note more) now event y left h n = let over = h.0 in let wrong : ⊥ = cc in wrong

  pub comes_no_answer : (x : X) (p : Plan A) (access : Option Access) (now : Now) (event : Option Said) (y : X) (left : Plan A) → op.Comes s x p access now event y left → now ≡ phase.Answers → ⊥
  comes_no_answer x p None now event y left c n = let over = c.now_is in let wrong : ⊥ = cc in wrong
  comes_no_answer x p (Some a) now event y left c n = leaves_no_answer x c.0 now event y left c.2 n

  pub wanting : (job : Job X A) (access : Option Access) (now : Now) (event : Option Said) (y : X) (left : Plan A) → op.Begins s job access now event y left → now ≡ phase.Answers → Wanting job access event y
  wanting (Works x p) access now event y left b n = absurd (comes_no_answer x p access now event y left b n)
  wanting (Starves u x p) access now event y left (inl b) n = record { starved = u; works = x; plan = p; job_is = refl; access_is = b.access_is; left = b.left; ready = b.ready }
  wanting (Starves u x p) access now event y left (inr b) n = absurd (comes_no_answer x p access now event y left b.1 n)

  of_first : (v : Work X V) (page : Page) (rsp : ℕ) (reply : List ℕ) (u : Work X V) (q : Plan (End A V)) (access : Option Access) (event : Option Said) (new : Stand (Work X V) (End A V)) → GoesOn (device s site) v (mapped Answered (answer_plan page rsp reply)) access event new → ComesAs s site v (mapped Answered (answer_plan page rsp reply)) u q access event new
  of_first v page rsp reply u q None event new g = absurd g
  of_first v page rsp reply u q (Some a) event new g = inl (answer_in_page (λ b. Answered b) page rsp reply a g.0 g.1, g)

  pub begins_starved : (w v : Work X V) (job : Job X A) (j : Joined) (at : Option Access) (told : Option Said) (access : Option Access) (event : Option Said) (y : X) (new : Stand (Work X V) (End A V)) → v ≡ record w { service = y } → Wanting job at told y → GoesOn (device s site) v (answer_of s y j) access event new → Begins s site (does s w job j) access event new
  begins_starved w v job j at told access event y new e b g =
      let same : v ≡ record w { service = b.starved } = e ∙ ap (λ (x : X). record w { service = x }) b.left in
      let goes : GoesOn (device s site) (record w { service = b.starved }) (answer_of s b.starved j) access event new =
      subst (λ (x : X). GoesOn (device s site) (record w { service = b.starved }) (answer_of s x j) access event new) b.left
      (subst (λ (u : Work X V). GoesOn (device s site) u (answer_of s y j) access event new) same g) in
      subst (λ (k : Job X A). Begins s site (does s w k j) access event new) (sym b.job_is)
      (of_first (record w { service = b.starved }) (ring_page j) j.rsp (s.reply b.starved) _ _ access event new goes)

  pub may_starved : (may : Want → Type 0) (w : Work X V) (job : Job X A) (j : Joined) (access : Option Access) (event : Option Said) (y : X) → Wanting job access event y → MayChoose may (does s w job j) → MayGo may (answer_plan (ring_page j) j.rsp (s.reply y))
  may_starved may w job j access event y b m =
      let m2 : MayChoose may (does s w (Starves b.starved b.works b.plan) j) = subst (λ (k : Job X A). MayChoose may (does s w k j)) b.job_is m in
      subst (λ (x : X). MayGo may (answer_plan (ring_page j) j.rsp (s.reply x))) (sym b.left) (may_mapped may (answer_plan (ring_page j) j.rsp (s.reply b.starved)) (λ x. Answered x) m2.0)

  -- what the request in hand leads to, where it isn't ready for its answer
  pub decides_is : (z w : Work X V) (o : Option Joined) (j : Joined) → z ≡ w → o ≡ Some j → s.ready w.service ≡ false → decides_by s site z o ≡ does s w (s.job site w.service) j
  decides_is z w o j e f r =
      ap (λ (x : Work X V). decides_by s site x o) e ∙ (ap (decides_by s site w) f ∙ ap (λ b. decides s site w b j) r)

  -- what a waiting event leads to, where none raises an event
  runs_of : (deed : Deed A) → op.is_raise deed ≡ false → (p : Plan A) × (deed ≡ Runs p)
  runs_of (Runs p) e = (p, refl)
  runs_of (Raises words) e = absurd (true≢false e)

  pub serves_is : (z w : Work X V) (v : V) (o : Option Joined) (j : Joined) → z ≡ w → o ≡ Some j → op.is_raise (s.event w.service v) ≡ false → (p : Plan A) × (s.event w.service v ≡ Runs p) × (serves_by s z v o ≡ Act w (mapped Done p))
  serves_is z w v o j e f r =
      let deed = runs_of (s.event w.service v) r in
      (deed.0, deed.1, ap (λ (x : Work X V). serves_by s x v o) e ∙ (ap (serves_by s w v) f ∙ ap (λ (k : Deed A). does_event s w v k j) deed.1))

  pub runs_first : (x : X) (deed : Deed A) (p : Plan A) (access : Option Access) (now : Now) (event : Option Said) (y : X) (left : Plan A) → deed ≡ Runs p → op.Serves s x deed access now event y left → op.Comes s x p access now event y left
  runs_first x deed p access now event y left e h = subst (λ (k : Deed A). op.Serves s x k access now event y left) e h

  pub may_deed : (may : Want → Type 0) (deed : Deed A) (p : Plan A) → deed ≡ Runs p → MayGo may p → op.MayDeed may deed
  may_deed may deed p e h = subst (λ (k : Deed A). op.MayDeed may k) (sym e) h

module _ {S E : Type 0} {g : Ghosts S E} (site : Site) where
  pub during_own : (d : Backend S E g) → d.activity ≡ activity.Working → stand_of site d ≡ During (serving_work d) (mapped Own (g.left site d.service))
  unfolding stand_of
  during_own d e =
      ap (λ (a : Activity). stand_in site d (work_of d) a) e
      ∙ ap (λ (w : Work g.Known E). During w (mapped Own (g.left site d.service))) (serving_is d (ap is_serving e))

  pub during_done : (d : Backend S E g) → d.activity ≡ activity.Serving → stand_of site d ≡ During (serving_work d) (mapped Done (g.left site d.service))
  unfolding stand_of
  during_done d e =
      ap (λ (a : Activity). stand_in site d (work_of d) a) e
      ∙ ap (λ (w : Work g.Known E). During w (mapped Done (g.left site d.service))) (serving_is d (ap is_serving e))

  pub goes_to : (d : Backend S E g) (p : Plan (End g.End E)) (access : Option Access) (event : Option Said) (mid new : Stand (Work g.Known E) (End g.End E)) → is_serving d.activity ≡ true → new ≡ mid → GoesOn (device g.service site) (serving_work d) p access event mid → GoesOn (device g.service site) (work_of d) p access event new
  goes_to d p access event mid new serves e h =
      subst (λ (x : Stand (Work g.Known E) (End g.End E)). GoesOn (device g.service site) (work_of d) p access event x) (sym e)
      (goes_as g.service site (work_of d) (serving_work d) p access event mid (serving_is d serves) h)

  -- an activity of the service for the request in hand, and one for a waiting event
  module _ (d e : Backend S E g) (access : Option Access) (now : Now) (event : Option Said) where
    pub works_on : d.activity ≡ activity.Working → e.activity ≡ activity.Working → serving_work e ≡ record (serving_work d) { service = g.knows e.service } → op.Continues g.service (g.knows d.service) (g.left site d.service) access now event (g.knows e.service) (g.left site e.service) → now ≡ phase.GoesOn → GoesOn (device g.service site) (work_of d) (mapped Own (g.left site d.service)) access event (stand_of site e)
    works_on at at' same c n =
        goes_to d (mapped Own (g.left site d.service)) access event (During (serving_work e) (mapped Own (g.left site e.service))) (stand_of site e) (ap is_serving at) (during_own e at')
        (continues_on g.service site (λ a. Own a) (λ vs. vs) (own_end g.service site) (serving_work d) (serving_work e) now event (g.knows e.service) (g.left site e.service) (g.left site d.service) access same c n)

    pub works_over : d.activity ≡ activity.Working → e.activity ≡ activity.Between → serving_work e ≡ record (serving_work d) { service = g.knows e.service } → op.Continues g.service (g.knows d.service) (g.left site d.service) access now event (g.knows e.service) (g.left site e.service) → (now ≡ phase.GoesOn → ⊥) → GoesOn (device g.service site) (work_of d) (mapped Own (g.left site d.service)) access event (stand_of site e)
    works_over at at' same c n =
        goes_to d (mapped Own (g.left site d.service)) access event (Between (serving_work e)) (stand_of site e) (ap is_serving at) (between_is site e at')
        (continues_over g.service site (λ a. Own a) (λ vs. vs) (own_end g.service site) (serving_work d) (serving_work e) now event (g.knows e.service) (g.left site e.service) (g.left site d.service) access same c n)

    pub serves_on : d.activity ≡ activity.Serving → e.activity ≡ activity.Serving → serving_work e ≡ record (serving_work d) { service = g.knows e.service } → op.Continues g.service (g.knows d.service) (g.left site d.service) access now event (g.knows e.service) (g.left site e.service) → now ≡ phase.GoesOn → GoesOn (device g.service site) (work_of d) (mapped Done (g.left site d.service)) access event (stand_of site e)
    serves_on at at' same c n =
        goes_to d (mapped Done (g.left site d.service)) access event (During (serving_work e) (mapped Done (g.left site e.service))) (stand_of site e) (ap is_serving at) (during_done e at')
        (continues_on g.service site (λ a. Done a) (λ vs. behind vs) (done_end g.service site) (serving_work d) (serving_work e) now event (g.knows e.service) (g.left site e.service) (g.left site d.service) access same c n)

    pub serves_over : d.activity ≡ activity.Serving → e.activity ≡ activity.Between → serving_work e ≡ record (serving_work d) { waiting = behind (serving_work d).waiting; service = g.knows e.service } → op.Continues g.service (g.knows d.service) (g.left site d.service) access now event (g.knows e.service) (g.left site e.service) → (now ≡ phase.GoesOn → ⊥) → GoesOn (device g.service site) (work_of d) (mapped Done (g.left site d.service)) access event (stand_of site e)
    serves_over at at' same c n =
        goes_to d (mapped Done (g.left site d.service)) access event (Between (serving_work e)) (stand_of site e) (ap is_serving at) (between_is site e at')
        (continues_over g.service site (λ a. Done a) (λ vs. behind vs) (done_end g.service site) (serving_work d) (serving_work e) now event (g.knows e.service) (g.left site e.service) (g.left site d.service) access same c n)

    -- their first steps, by the part `j`
    module _ (o : Option Joined) (j : Joined) (there : o ≡ Some j) (at : d.activity ≡ activity.Between) where
      pub decides_on : g.service.ready (g.knows d.service) ≡ false → e.activity ≡ activity.Working → serving_work e ≡ record (serving_work d) { service = g.knows e.service } → op.Begins g.service (g.service.job site (g.knows d.service)) access now event (g.knows e.service) (g.left site e.service) → now ≡ phase.GoesOn → Begins g.service site (decides_by g.service site (work_of d) o) access event (stand_of site e)
      decides_on r at' same b n =
          begins_to g.service site (decides_by g.service site (work_of d) o) (does g.service (serving_work d) (g.service.job site (g.knows d.service)) j) access event (During (serving_work e) (mapped Own (g.left site e.service))) (stand_of site e)
          (decides_is g.service site (work_of d) (serving_work d) o j (serving_is d (ap is_serving at)) there r) (during_own e at')
          (begins_on g.service site (serving_work d) (serving_work e) (g.service.job site (g.knows d.service)) j access now event (g.knows e.service) (g.left site e.service) same b n)

      pub decides_over : g.service.ready (g.knows d.service) ≡ false → e.activity ≡ activity.Between → serving_work e ≡ record (serving_work d) { service = g.knows e.service } → op.Begins g.service (g.service.job site (g.knows d.service)) access now event (g.knows e.service) (g.left site e.service) → now ≡ phase.Over → Begins g.service site (decides_by g.service site (work_of d) o) access event (stand_of site e)
      decides_over r at' same b n =
          begins_to g.service site (decides_by g.service site (work_of d) o) (does g.service (serving_work d) (g.service.job site (g.knows d.service)) j) access event (Between (serving_work e)) (stand_of site e)
          (decides_is g.service site (work_of d) (serving_work d) o j (serving_is d (ap is_serving at)) there r) (between_is site e at')
          (begins_over g.service site (serving_work d) (serving_work e) (g.service.job site (g.knows d.service)) j access now event (g.knows e.service) (g.left site e.service) same b n)

      -- memory is wanting, and the answer begins
      pub decides_starved : (z : Work g.Known E) (y : g.Known) (new : Stand (Work g.Known E) (End g.End E)) (deed : Option Access) (told : Option Said) → g.service.ready (g.knows d.service) ≡ false → z ≡ record (serving_work d) { service = y } → Wanting g.service site (g.service.job site (g.knows d.service)) deed told y → GoesOn (device g.service site) z (mapped Answered (parts_answer (g.service.reply y) o)) access event new → Begins g.service site (decides_by g.service site (work_of d) o) access event new
      decides_starved z y new deed told ready same b h =
          let w = serving_work d in
          let goes : GoesOn (device g.service site) z (answer_of g.service y j) access event new =
          subst (λ (x : Option Joined). GoesOn (device g.service site) z (mapped Answered (parts_answer (g.service.reply y) x)) access event new) there h in
          begins_as g.service site (decides_by g.service site (work_of d) o) (does g.service w (g.service.job site (g.knows d.service)) j) access event new
          (decides_is g.service site (work_of d) w o j (serving_is d (ap is_serving at)) there ready)
          (begins_starved g.service site w z (g.service.job site (g.knows d.service)) j deed told access event y new same b goes)

      pub waits_on : (v : E) → op.is_raise (g.service.event (g.knows d.service) v) ≡ false → e.activity ≡ activity.Serving → serving_work e ≡ record (serving_work d) { service = g.knows e.service } → op.Serves g.service (g.knows d.service) (g.service.event (g.knows d.service) v) access now event (g.knows e.service) (g.left site e.service) → now ≡ phase.GoesOn → Begins g.service site (serves_by g.service (work_of d) v o) access event (stand_of site e)
      waits_on v r at' same b n =
          let k = serves_is g.service site (work_of d) (serving_work d) v o j (serving_is d (ap is_serving at)) there r in
          begins_to g.service site (serves_by g.service (work_of d) v o) (Act (serving_work d) (mapped Done k.0)) access event (During (serving_work e) (mapped Done (g.left site e.service))) (stand_of site e) k.2 (during_done e at')
          (comes_on g.service site (λ a. Done a) (λ vs. behind vs) (done_end g.service site) (serving_work d) (serving_work e) now event (g.knows e.service) (g.left site e.service) k.0 access same
          (runs_first g.service site (g.knows d.service) (g.service.event (g.knows d.service) v) k.0 access now event (g.knows e.service) (g.left site e.service) k.1 b) n)

      pub waits_over : (v : E) → op.is_raise (g.service.event (g.knows d.service) v) ≡ false → e.activity ≡ activity.Between → serving_work e ≡ record (serving_work d) { waiting = behind (serving_work d).waiting; service = g.knows e.service } → op.Serves g.service (g.knows d.service) (g.service.event (g.knows d.service) v) access now event (g.knows e.service) (g.left site e.service) → (now ≡ phase.GoesOn → ⊥) → Begins g.service site (serves_by g.service (work_of d) v o) access event (stand_of site e)
      waits_over v r at' same b n =
          let k = serves_is g.service site (work_of d) (serving_work d) v o j (serving_is d (ap is_serving at)) there r in
          begins_to g.service site (serves_by g.service (work_of d) v o) (Act (serving_work d) (mapped Done k.0)) access event (Between (serving_work e)) (stand_of site e) k.2 (between_is site e at')
          (comes_over g.service site (λ a. Done a) (λ vs. behind vs) (done_end g.service site) (serving_work d) (serving_work e) now event (g.knows e.service) (g.left site e.service) k.0 access same
          (runs_first g.service site (g.knows d.service) (g.service.event (g.knows d.service) v) k.0 access now event (g.knows e.service) (g.left site e.service) k.1 b) n)

  -- what may be done then
  module _ (d : Backend S E g) (may : Want → Type 0) (o : Option Joined) (j : Joined) (there : o ≡ Some j) (at : d.activity ≡ activity.Between) where
    pub may_decide : g.service.ready (g.knows d.service) ≡ false → MayChoose may (decides_by g.service site (work_of d) o) → MayChoose may (does g.service (serving_work d) (g.service.job site (g.knows d.service)) j)
    may_decide r m =
        may_as g.service site may (decides_by g.service site (work_of d) o) (does g.service (serving_work d) (g.service.job site (g.knows d.service)) j)
        (decides_is g.service site (work_of d) (serving_work d) o j (serving_is d (ap is_serving at)) there r) m

    pub may_wait : (v : E) → op.is_raise (g.service.event (g.knows d.service) v) ≡ false → MayChoose may (serves_by g.service (work_of d) v o) → op.MayDeed may (g.service.event (g.knows d.service) v)
    may_wait v r m =
        let k = serves_is g.service site (work_of d) (serving_work d) v o j (serving_is d (ap is_serving at)) there r in
        may_deed g.service site may (g.service.event (g.knows d.service) v) k.0 k.1
        (may_mapped may k.0 (λ a. Done a) (may_as g.service site may (serves_by g.service (work_of d) v o) (Act (serving_work d) (mapped Done k.0)) k.2 m))
