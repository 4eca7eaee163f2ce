-- What a step comes to of a service that maps the pages of a request by a walk, and gives pages up by a Release.
use Rattle.std.proofs.Common.{◌≡◌, ℕ, ◌<◌, List, [], ◌∷◌, length, Option, Some, None, refl, sym, ap, subst, ◌∙◌, arith}
use Rattle.pv_words.specs.declared.access.Access.{Access}
use Rattle.pv_words.specs.declared.device.Said.{Said}
use Rattle.pv_words.specs.declared.device.Said.TheVariants as said
use Rattle.pv_words.specs.declared.grant.GrantRefusal.{GrantRefusal}
use Rattle.pv_words.specs.declared.grant.Hold.{Hold}
use Rattle.pv_words.specs.declared.place.Place.TheVariants.{Cell, Grant}
use Rattle.pv_words.specs.Plan as plan
use Rattle.pv_words.specs.Plan.{Plan, Finished, Make, Want, Load, Store, Swap, Clear, Turns, IsUnfinished, mapped, wanted}
use Rattle.pv_words.specs.Release.{Drops}
use Rattle.page_directory.specs.declared.walk.Walk.{Walk}
use Rattle.page_directory.specs.declared.walk.Walked.{Walked}
use Rattle.page_directory.specs.declared.walk.Walked.TheVariants as walked
use Rattle.page_directory.specs.Joins.{TurnsOrEnds}
use Rattle.page_directory.specs.WalkLeft.{PagesByAccess, dom_of, walk_left}
use Rattle.page_directory.proofs.Releases.{drops_goes}
use Rattle.link_core.specs.Activities.{unmaps}
use Rattle.link_core.specs.Stays.{LiesIn, AccessIn}
use Rattle.device_core.specs.Site.{Site}
use Rattle.device_service.specs.declared.deed.Now.{Now}
use Rattle.device_service.specs.declared.deed.Now.TheVariants.{GoesOn, Over}
use Rattle.device_service.specs.Claims.{site_of}
use Rattle.device_service.specs.Operating.{Comes, Continues, Leaves}
use Rattle.device_service.specs.Service.{Service}
use Rattle.device_service.proofs.Holding.Held.{in_unmap}

-- a plan whose end is read otherwise makes the same accesses
pub goes_mapped : {A B : Type 0} (f : A → B) (p : Plan A) (a : Access) (q : Plan A) → plan.Goes p a q → plan.Goes (mapped f p) a (mapped f q)
goes_mapped f (Finished x) a q g = absurd g
goes_mapped f (Make want note more) a q g = (g.0, ap (mapped f) g.1)

-- an access to no page
lies_in_none : (want : Want) (pages : List Hold) → LiesIn [] want → LiesIn pages want
lies_in_none (Load (Cell d f w)) pages h = absurd h
lies_in_none (Store (Cell d f w) v) pages h = absurd h
lies_in_none (Swap (Cell d f w) old new) pages h = absurd h
lies_in_none (Clear (Cell d f w) mask) pages h = absurd h
lies_in_none (Load (Grant d g half)) pages h = tt
lies_in_none (Store (Grant d g half) v) pages h = tt
lies_in_none (Swap (Grant d g half) old new) pages h = tt
lies_in_none (Clear (Grant d g half) mask) pages h = tt

pub in_none : (access : Option Access) (held pages : List Hold) → held ≡ [] → AccessIn held access → AccessIn pages access
in_none None held pages e h = tt
in_none (Some a) held pages e h = lies_in_none (wanted a) pages (subst (λ (hs : List Hold). LiesIn hs (wanted a)) e h)

-- the first page of a list is given up by an access to no page
pub unmap_lies : (hs left : List Hold) (a : Access) → Drops hs a left → (pages : List Hold) → AccessIn pages (Some a)
unmap_lies [] left a d pages = absurd d
unmap_lies (h ∷ hs) left a d pages = in_unmap pages (Some a) a h refl d.0

-- the first of these pages is given up, of which those of the service are the same
pub drops_same : {K : Type 0} (pages : K → List Hold) (s t u v : K) (a : Access) → u ≡ s → v ≡ t → Drops (pages s) a (pages t) → Drops (pages u) a (pages v)
drops_same pages s t u v a e f d =
    subst (λ x. Drops (pages x) a (pages v)) (sym e) (subst (λ x. Drops (pages s) a (pages x)) (sym f) d)

module _ {X A V : Type 0} (s : Service X A V) where
  -- the activity isn't over, and goes on by an access
  pub comes_further : {B : Type 0} (f : B → A) (x : X) (p : Plan B) (access : Option Access) (now : Now) (told : Option Said) (y : X) (left : Plan A) → IsUnfinished p → Comes s x (mapped f p) access now told y left → Continues s x (mapped f p) access now told y left
  comes_further f x (Finished came) None now told y left u c = absurd u
  comes_further f x (Make want note more) None now told y left u c = let over = c.over in let wrong : ⊥ = cc over in absurd wrong
  comes_further f x p (Some a) now told y left u c = c

  -- the walk of a request, whose end the service reads so
  module _ (listed : Walked → A) where
    walk_left_on : (x y : X) (q : Plan Walked) (left : Plan A) → IsUnfinished q → y ≡ x → left ≡ mapped listed q → Leaves s x (mapped listed q) GoesOn None y left
    walk_left_on x y (Finished came) left u e l = absurd u
    walk_left_on x y (Make want note more) left u e l = (refl, refl, e, l)

    -- it goes on
    pub walk_goes : (x y : X) (p q : Plan Walked) (access : Option Access) (last : Option Walked) (left : Plan A) → last ≡ None → y ≡ x → TurnsOrEnds p access last q → left ≡ mapped listed q → Comes s x (mapped listed p) access GoesOn None y left
    walk_goes x y p q None last left e same t l = absurd (subst (λ (z : Option Walked). TurnsOrEnds p None z q) e t)
    walk_goes x y p q (Some a) last left e same t l =
        let goes : Turns p (Some a) None q = subst (λ (z : Option Walked). TurnsOrEnds p (Some a) z q) e t in
        (mapped listed q, goes_mapped listed p a q goes.0, walk_left_on x y q left goes.1 same l)

    -- it is over: what it came to is said, and a refusal is said as such
    module _ (denies : (x : X) (why : GrantRefusal) → s.says x (listed (walked.Refused why)) ≡ Some (said.Denied why)) where
      walk_refused : (x y : X) (p : Plan Walked) (came : Walked) (told : Option Said) (left : Plan A) → p ≡ Finished came → PagesByAccess None (Some came) → told ≡ s.says x (listed came) → y ≡ s.after x (listed came) → Comes s x (mapped listed p) None Over told y left
      walk_refused x y p (walked.Pages ps) told left over h e n = absurd h
      walk_refused x y p (walked.Refused why) told left over h e n =
          record {
            end = listed (walked.Refused why);
            said = said.Denied why;
            over = ap (λ (z : Plan Walked). mapped listed z) over;
            says = e ∙ denies x why;
            said_is = denies x why;
            now_is = refl;
            left = n;
          }

      pub walk_ends : (x y : X) (p q : Plan Walked) (access : Option Access) (last : Option Walked) (came : Walked) (told : Option Said) (left : Plan A) → last ≡ Some came → TurnsOrEnds p access last q → PagesByAccess access last → told ≡ s.says x (listed came) → y ≡ s.after x (listed came) → Comes s x (mapped listed p) access Over told y left
      walk_ends x y p q None last came told left is t h e n =
          walk_refused x y p came told left (subst (λ (z : Option Walked). TurnsOrEnds p None z q) is t) (subst (λ (z : Option Walked). PagesByAccess None z) is h) e n
      walk_ends x y p q (Some a) last came told left is t h e n =
          let goes : Turns p (Some a) (Some came) q = subst (λ (z : Option Walked). TurnsOrEnds p (Some a) z q) is t in
          (Finished (listed came), goes_mapped listed p a (Finished came) goes, (refl, e, n))

    -- the one under way goes on, in the domain of its device
    pub walk_on : (frames grants : ℕ → ℕ) (dom parts : ℕ) (w : Walk) (x y : X) (access : Option Access) (now : Now) (told : Option Said) (left : Site → Plan A) → dom_of w ≡ dom → ((f g : ℕ) → IsUnfinished (walk_left f g w)) → ((n : ℕ) → Comes s x (mapped listed (walk_left (frames (dom_of w)) (grants (dom_of w)) w)) access now told y (left (site_of frames grants (dom_of w) n))) → Continues s x (mapped listed (walk_left (frames dom) (grants dom) w)) access now told y (left (site_of frames grants dom parts))
    walk_on frames grants dom parts w x y access now told left home further comes =
        let here = dom_of w in
        let on = comes_further listed x (walk_left (frames here) (grants here) w) access now told y (left (site_of frames grants here parts)) (further (frames here) (grants here)) (comes parts) in
        subst (λ n. Continues s x (mapped listed (walk_left (frames n) (grants n) w)) access now told y (left (site_of frames grants n parts))) home on

  -- a Release, whose end is told by nothing
  module _ (freed : A) where
    free_left_on : (x y : X) (hs : List Hold) (left : Plan A) → 0 < length hs → y ≡ x → left ≡ unmaps hs (Finished freed) → Leaves s x (unmaps hs (Finished freed)) GoesOn None y left
    free_left_on x y [] left some e l = absurd (omega (arith, some))
    free_left_on x y (h ∷ hs) left some e l = (refl, refl, e, l)

    -- more pages are left
    pub free_goes : (x y : X) (p : Plan A) (hs rest : List Hold) (a : Access) (left : Plan A) → p ≡ unmaps hs (Finished freed) → Drops hs a rest → 0 < length rest → y ≡ x → left ≡ unmaps rest (Finished freed) → Continues s x p (Some a) GoesOn None y left
    free_goes x y p hs rest a left is drops more same l = (
      unmaps rest (Finished freed),
      subst (λ (z : Plan A). plan.Goes z a (unmaps rest (Finished freed))) (sym is) (drops_goes hs rest a (Finished freed) drops),
      free_left_on x y rest left more same l,
    )

    -- none is left
    pub free_ends : (x y : X) (p : Plan A) (hs rest : List Hold) (a : Access) (left : Plan A) → s.says x freed ≡ None → p ≡ unmaps hs (Finished freed) → Drops hs a rest → rest ≡ [] → y ≡ s.after x freed → Continues s x p (Some a) Over None y left
    free_ends x y p hs rest a left quiet is drops e n = (
      Finished freed,
      subst (λ (z : Plan A). plan.Goes z a (Finished freed)) (sym is)
          (subst (λ (z : List Hold). plan.Goes (unmaps hs (Finished freed)) a (unmaps z (Finished freed))) e (drops_goes hs rest a (Finished freed) drops)),
      (refl, sym quiet, n),
    )
