-- What is left of a Connect.
use Rattle.std.proofs.Common.{◌≡◌, ℕ, suc, ◌+◌, ◌-◌, ◌<◌, ◌≤◌, ◌++◌, Bool, true, false, nat_lt, List, [], ◌∷◌, Option, Some, None, Result, Ok, Err, is_some, length, map, take, slice_get, slice_set, refl, sym, ap, subst, ◌∙◌, arith, if◌then◌else◌}
use Rattle.std.proofs.lemmas.Bool.{false≢true}
use Rattle.std.proofs.lemmas.List.{length-set, take-set}
use Rattle.pv_words.specs.declared.access.Access.{Access}
use Rattle.pv_words.specs.declared.device.NodeValue.{NodeValue}
use Rattle.pv_words.specs.declared.grant.GrantRefusal.{GrantRefusal}
use Rattle.pv_words.specs.declared.grant.GrantRefusal.TheVariants as refusal
use Rattle.pv_words.specs.declared.grant.Hold.{Hold}
use Rattle.pv_words.specs.declared.grant.Mode.TheVariants.{Write}
use Rattle.pv_words.specs.Plan.{Plan, Finished, Want, Goes, MayGo, IsUnfinished, joined, wanted}
use Rattle.pv_words.specs.Mapping.{flags_plan, unmap_want}
use Rattle.link_core.specs.declared.link.Link.{Link}
use Rattle.link_core.specs.Activities.{Joined, Connected, Joins, Refuses, connect_plan, hold_list, unmaps, with_event, with_ring}
use Rattle.link_core.specs.Link as link
use Rattle.link_core.specs.Link.{Came, CameBy, Leads}
use Rattle.link_core.proofs.Links.{joins_by_access, whole_connect}
use Rattle.device_core.specs.Site.{Site}
use Rattle.device_service.specs.declared.parts.Doing.{Doing}
use Rattle.device_service.specs.declared.parts.Doing.TheVariants as doing
use Rattle.device_service.specs.Nodes.{Kind, refs_at, refs_from}
use Rattle.device_service.specs.declared.parts.Parts.{Parts}
use Rattle.device_service.specs.Parts.{JoinsByAccess, LeftBy, MayDrop, UndoneAs, connect_from, connect_in, connect_left, connects, doing_of, ending_of, held_of, kind_in, kind_of, later, met_links}
use Rattle.device_service.specs.Work.{all_pages, after_part, connect_parts}
use Rattle.device_service.proofs.Lists.{get_set, take_more_of, take_past, within}
use Rattle.device_service.proofs.Sleeps.{goes_joined, may_joined, unfinished_joined}

abbrev pub Ending : Type 0
Ending = Result (List Joined) GrantRefusal

pub refs_more : (kind : Kind) (nodes : List NodeValue) (part n m : ℕ) → n ≡ suc m → refs_from kind nodes part n ≡ refs_at kind nodes part ∷ refs_from kind nodes (part + 1) m
refs_more kind nodes part n m e = ap (refs_from kind nodes part) e

-- what is left of a Connect is the Connect of the next part
module _ (site : Site) (kind : Kind) (nodes : List NodeValue) (part : ℕ) (met : List Joined) where
  pub later_is : (ls : List Link) (l : Link) → slice_get ls part ≡ Some l → link.idle l ≡ true → link.dom_of l ≡ site.dom → part < site.parts → later site kind nodes part met ≡ connect_from site kind nodes part met (slice_get ls part)
  later_is ls l g i d lt =
      let more = site.parts - (part + 1) in
      let one : site.parts - part ≡ suc more = omega arith in
      let r = refs_at kind nodes part in
      ap (λ rs. connect_parts site rs met) (refs_more kind nodes part (site.parts - part) more one)
      ∙ (ap (λ n. joined (connect_plan site.frames site.grants n r.ring r.event) (after_part met (later site kind nodes (part + 1)))) (sym d)
      ∙ (ap (λ (p : Plan Connected). joined p (after_part met (later site kind nodes (part + 1)))) (sym (whole_connect site.frames site.grants r.ring r.event l i))
      ∙ ap (connect_from site kind nodes part met) (sym g)))

  pub later_none : site.parts ≤ part → later site kind nodes part met ≡ Finished (Ok met)
  later_none h =
      let none : site.parts - part ≡ 0 = omega arith in
      ap (λ n. connect_parts site (refs_from kind nodes part n) met) none

-- a Connect begins at the first part
pub begins_at : (site : Site) (kind : Kind) (nodes : List NodeValue) (ls : List Link) (l : Link) → slice_get ls 0 ≡ Some l → link.idle l ≡ true → link.dom_of l ≡ site.dom → 0 < site.parts → connect_in site kind nodes ls (doing.Connecting 0) ≡ connect_parts site (refs_from kind nodes 0 site.parts) []
begins_at site kind nodes ls l g i d some =
    let whole : site.parts - 0 ≡ site.parts = omega arith in
    sym (later_is site kind nodes 0 [] ls l g i d some) ∙ ap (λ n. connect_parts site (refs_from kind nodes 0 n) []) whole

-- A refused one is over just where no page is left to be unmapped.
pub refused_goes : (site : Site) (nodes : List NodeValue) (new : Parts) (p : Plan Ending) (rest : List Hold) (a : Access) (why : GrantRefusal) (done : Option (Result (Unit {0}) GrantRefusal)) → Goes p a (unmaps rest (Finished (Err why))) → UndoneAs why rest done → LeftBy why rest (doing_of new) → held_of new ≡ rest → Leads p (Some a) (ending_of new done) (connect_left site nodes new)
unfolding connect_left doing_of held_of
refused_goes site nodes new p [] a why ends goes over left held = subst (λ x. Leads p (Some a) (ending_of new x) (connect_left site nodes new)) (sym over) goes
refused_goes site nodes new p (x ∷ xs) a why ends goes over left held =
    let is : connect_left site nodes new ≡ unmaps (x ∷ xs) (Finished (Err why)) =
    ap (connect_in site (kind_of new) nodes new.links.items) left ∙ ap (λ hs. unmaps hs (Finished (Err why))) held in
    subst (λ y. Leads p (Some a) (ending_of new y) (connect_left site nodes new)) (sym over)
    (subst (λ (q : Plan Ending). Goes p a q × IsUnfinished q) (sym is) (goes, tt))

-- what is left of it
pub undoing_is : (site : Site) (nodes : List NodeValue) (p : Parts) (why : GrantRefusal) → doing_of p ≡ doing.Undoing why → connect_left site nodes p ≡ unmaps (held_of p) (Finished (Err why))
unfolding connect_left doing_of held_of
undoing_is site nodes p why e = ap (connect_in site (kind_of p) nodes p.links.items) e

pub leads_from : (p q : Plan Ending) (access : Option Access) (end : Option Ending) (new : Plan Ending) → p ≡ q → Leads q access end new → Leads p access end new
leads_from p q access end new e t = subst (λ (x : Plan Ending). Leads x access end new) (sym e) t

pub undo_goes : (site : Site) (nodes : List NodeValue) (old new : Parts) (rest : List Hold) (h : Hold) (access : Option Access) (a : Access) (why : GrantRefusal) (done : Option (Result (Unit {0}) GrantRefusal)) → doing_of old ≡ doing.Undoing why → held_of old ≡ h ∷ rest → access ≡ Some a → wanted a ≡ unmap_want h → UndoneAs why rest done → LeftBy why rest (doing_of new) → held_of new ≡ rest → Leads (connect_left site nodes old) access (ending_of new done) (connect_left site nodes new)
undo_goes site nodes old new rest h access a why done e held is want over left stays =
    leads_from (connect_left site nodes old) (unmaps (h ∷ rest) (Finished (Err why))) access (ending_of new done) (connect_left site nodes new)
    (undoing_is site nodes old why e ∙ ap (λ hs. unmaps hs (Finished (Err why))) held)
    (subst (λ x. Leads (unmaps (h ∷ rest) (Finished (Err why))) x (ending_of new done) (connect_left site nodes new)) (sym is)
    (refused_goes site nodes new (unmaps (h ∷ rest) (Finished (Err why))) rest a why done (want, refl) over left stays))

-- none is left
pub undone_at_once : (site : Site) (nodes : List NodeValue) (old : Parts) (why : GrantRefusal) → doing_of old ≡ doing.Undoing why → held_of old ≡ [] → connect_left site nodes old ≡ Finished (Err why)
undone_at_once site nodes old why e none = undoing_is site nodes old why e ∙ ap (λ hs. unmaps hs (Finished (Err why))) none

-- a part comes after others: the Connect isn't over
pages_of_one : (ring : Option Hold) (event : Hold) (more hs : List Hold) → 0 < length (((hold_list ring ++ event ∷ []) ++ more) ++ hs)
pages_of_one None event more hs = omega arith
pages_of_one (Some h) event more hs = omega arith

pages_more : (met : List Joined) (hs : List Hold) → 0 < length met → 0 < length (all_pages met ++ hs)
pages_more [] hs h = let wrong : ⊥ = omega (arith, h) in absurd wrong
pages_more (j ∷ js) hs h = pages_of_one j.ring j.event (all_pages js) hs

unfinished_unmaps : {A : Type 0} (hs : List Hold) (more : Plan A) → 0 < length hs → IsUnfinished (unmaps hs more)
unfinished_unmaps [] more h = let wrong : ⊥ = omega (arith, h) in absurd wrong
unfinished_unmaps (x ∷ xs) more h = tt

module _ (frames grants dom : ℕ) (met : List Joined) (more : List Joined → Plan Ending) (some : 0 < length met) where
  ring_next : (ring event : ℕ) (b : Bool) → IsUnfinished (joined (joined (if b then flags_plan frames dom ring Write else Finished (Err (refusal.NoEntry ring))) (with_ring frames grants dom event)) (after_part met more))
  ring_next ring event true = tt
  ring_next ring event false = unfinished_unmaps (all_pages met ++ []) (Finished (Err (refusal.NoEntry ring))) (pages_more met [] some)

  event_next : (event : ℕ) (b : Bool) → IsUnfinished (joined (joined (if b then flags_plan frames dom event Write else Finished (Err (refusal.NoEntry event))) (with_event None 0)) (after_part met more))
  event_next event true = tt
  event_next event false = unfinished_unmaps (all_pages met ++ []) (Finished (Err (refusal.NoEntry event))) (pages_more met [] some)

  unfinished_next : (ring : Option ℕ) (event : ℕ) → IsUnfinished (joined (connect_plan frames grants dom ring event) (after_part met more))
  unfinished_next None event = event_next event (nat_lt event grants)
  unfinished_next (Some ring) event = ring_next ring event (nat_lt ring grants)

later_goes_on : (site : Site) (kind : Kind) (nodes : List NodeValue) (part : ℕ) (met : List Joined) → part < site.parts → 0 < length met → IsUnfinished (later site kind nodes part met)
later_goes_on site kind nodes part met lt some =
    let more = site.parts - (part + 1) in
    let one : site.parts - part ≡ suc more = omega arith in
    let r = refs_at kind nodes part in
    subst (λ rs. IsUnfinished (connect_parts site rs met)) (sym (refs_more kind nodes part (site.parts - part) more one))
    (unfinished_next site.frames site.grants site.dom met (later site kind nodes (part + 1)) some r.ring r.event)

-- the same with equal numbers
pub leads_as : (f f' g g' : ℕ) (r r' : Option ℕ) (e e' : ℕ) (l new : Link) (access : Option Access) (end : Option Connected) → f' ≡ f → g' ≡ g → r' ≡ r → e' ≡ e → Leads (link.connect_left f' g' r' e' l) access end (link.connect_left f' g' r' e' new) → Leads (link.connect_left f g r e l) access end (link.connect_left f g r e new)
leads_as f f' g g' r r' e e' l new access end p q s t h =
    subst (λ x. Leads (link.connect_left x g r e l) access end (link.connect_left x g r e new)) p
    (subst (λ x. Leads (link.connect_left f' x r e l) access end (link.connect_left f' x r e new)) q
    (subst (λ x. Leads (link.connect_left f' g' x e l) access end (link.connect_left f' g' x e new)) s
    (subst (λ x. Leads (link.connect_left f' g' r' x l) access end (link.connect_left f' g' r' x new)) t h)))

pub may_as : (may : Want → Type 0) (f f' g g' : ℕ) (r r' : Option ℕ) (e e' : ℕ) (l : Link) → f' ≡ f → g' ≡ g → r' ≡ r → e' ≡ e → MayGo may (link.connect_left f g r e l) → MayGo may (link.connect_left f' g' r' e' l)
may_as may f f' g g' r r' e e' l p q s t h =
    subst (λ x. MayGo may (link.connect_left f' g' r' x l)) (sym t)
    (subst (λ x. MayGo may (link.connect_left f' g' x e l)) (sym s)
    (subst (λ x. MayGo may (link.connect_left f' x r e l)) (sym q)
    (subst (λ x. MayGo may (link.connect_left x g r e l)) (sym p) h)))

map_more : (xs : List Link) (y : Link) → map link.joined_of (xs ++ y ∷ []) ≡ map link.joined_of xs ++ link.joined_of y ∷ []
map_more [] y = refl
map_more (x ∷ xs) y = ap (λ js. link.joined_of x ∷ js) (map_more xs y)

met_more : (ls : List Link) (k : ℕ) (new : Link) → k < length ls → met_links (k + 1) (slice_set ls k new) ≡ met_links k ls ++ link.joined_of new ∷ []
met_more ls k new lt =
    ap (map link.joined_of) (take_more_of (slice_set ls k new) k new (get_set ls k new lt))
    ∙ (map_more (take k (slice_set ls k new)) new
    ∙ ap (λ (xs : List Link). map link.joined_of xs ++ link.joined_of new ∷ []) (take-set ls k new))

some_more : (js : List Joined) (j : Joined) → 0 < length (js ++ j ∷ [])
some_more [] j = omega arith
some_more (x ∷ js) j = omega arith

-- the next page of a refused Connect
pub may_first : (may : Want → Type 0) (hs : List Hold) (more : Plan Ending) → MayGo may (unmaps hs more) → MayDrop may hs
may_first may [] more m = tt
may_first may (h ∷ hs) more m = m

-- a step of a Connect that has come to a part
module _ (site : Site) (kind : Kind) (nodes : List NodeValue) (ls : List Link) (part : ℕ) (d : Doing) (l : Link) (e : d ≡ doing.Connecting part) (g : slice_get ls part ≡ Some l) where
  abbrev pub left_of : Link → Plan Connected
  left_of x = link.connect_left site.frames site.grants (refs_at kind nodes part).ring (refs_at kind nodes part).event x

  follow : Connected → Plan Ending
  follow = after_part (met_links part ls) (later site kind nodes (part + 1))

  connecting_is : connect_in site kind nodes ls d ≡ joined (left_of l) follow
  unfolding follow
  connecting_is = ap (connect_in site kind nodes ls) e ∙ ap (connect_from site kind nodes part (met_links part ls)) g

  pub may_connect : (may : Want → Type 0) → MayGo may (connect_in site kind nodes ls d) → MayGo may (left_of l)
  may_connect may m = may_joined may (left_of l) follow (subst (λ (p : Plan Ending). MayGo may p) connecting_is m)

  -- a refusal that comes without an access
  pub refused_at_once : (access : Option Access) (hs : List Hold) (why : GrantRefusal) (q : Plan Connected) → access ≡ None → Leads (left_of l) access (Some (Refuses hs why)) q → connect_in site kind nodes ls d ≡ unmaps (all_pages (met_links part ls) ++ hs) (Finished (Err why))
  unfolding follow
  refused_at_once None hs why q n t = connecting_is ∙ ap (λ (p : Plan Connected). joined p follow) t
  refused_at_once (Some a) hs why q n t = let wrong : ⊥ = cc in absurd wrong

  -- and one that comes by an access
  pub refused_by : (a : Access) (hs : List Hold) (why : GrantRefusal) (q : Plan Connected) → Leads (left_of l) (Some a) (Some (Refuses hs why)) q → Goes (connect_in site kind nodes ls d) a (unmaps (all_pages (met_links part ls) ++ hs) (Finished (Err why)))
  unfolding follow
  refused_by a hs why q t =
      subst (λ (p : Plan Ending). Goes p a (unmaps (all_pages (met_links part ls) ++ hs) (Finished (Err why)))) (sym connecting_is)
      (goes_joined follow (left_of l) a (Finished (Refuses hs why)) t)

  module _ (new : Link) where
    still_is : connect_in site kind nodes (slice_set ls part new) d ≡ joined (left_of new) follow
    unfolding follow
    still_is =
        ap (connect_in site kind nodes (slice_set ls part new)) e
        ∙ (ap (λ (xs : List Link). connect_from site kind nodes part (map link.joined_of xs) (slice_get (slice_set ls part new) part)) (take-set ls part new)
        ∙ ap (connect_from site kind nodes part (met_links part ls)) (get_set ls part new (within ls part l g)))

    on : (access : Option Access) → Leads (left_of l) access None (left_of new) → Leads (joined (left_of l) follow) access None (joined (left_of new) follow)
    on None t = absurd t
    on (Some a) t = (goes_joined follow (left_of l) a (left_of new) t.0, unfinished_joined follow (left_of new) t.1)

    -- it goes on at the same part
    pub connect_on : (access : Option Access) → Leads (left_of l) access None (left_of new) → Leads (connect_in site kind nodes ls d) access None (connect_in site kind nodes (slice_set ls part new) d)
    connect_on access t =
        leads_from (connect_in site kind nodes ls d) (joined (left_of l) follow) access None (connect_in site kind nodes (slice_set ls part new) d) connecting_is
        (subst (λ (p : Plan Ending). Leads (joined (left_of l) follow) access None p) (sym still_is) (on access t))

    -- the part is joined, and the next one follows
    pub connect_next : (after : Link) (access : Option Access) (q : Plan Connected) → slice_get (slice_set ls part new) (part + 1) ≡ Some after → link.idle after ≡ true → link.dom_of after ≡ site.dom → part + 1 < site.parts → Leads (left_of l) access (Some (Joins (link.joined_of new))) q → Leads (connect_in site kind nodes ls d) access None (connect_in site kind nodes (slice_set ls part new) (doing.Connecting (part + 1)))
    unfolding follow
    connect_next after None q f i s lt t = absurd (joins_by_access site.frames site.grants (refs_at kind nodes part).ring (refs_at kind nodes part).event l (link.joined_of new) t)
    connect_next after (Some a) q f i s lt t =
        let met = met_links part ls ++ link.joined_of new ∷ [] in
        let is : connect_in site kind nodes (slice_set ls part new) (doing.Connecting (part + 1)) ≡ later site kind nodes (part + 1) met =
        ap (λ js. connect_from site kind nodes (part + 1) js (slice_get (slice_set ls part new) (part + 1))) (met_more ls part new (within ls part l g))
        ∙ sym (later_is site kind nodes (part + 1) met (slice_set ls part new) after f i s lt) in
        let goes : Goes (joined (left_of l) follow) a (later site kind nodes (part + 1) met) = goes_joined follow (left_of l) a (Finished (Joins (link.joined_of new))) t in
        leads_from (connect_in site kind nodes ls d) (joined (left_of l) follow) (Some a) None (connect_in site kind nodes (slice_set ls part new) (doing.Connecting (part + 1))) connecting_is
        (subst (λ (p : Plan Ending). Leads (joined (left_of l) follow) (Some a) None p) (sym is) (goes, later_goes_on site kind nodes (part + 1) met lt (some_more (met_links part ls) (link.joined_of new))))

    -- all are joined
    pub connect_over : (access : Option Access) (q : Plan Connected) (next : Plan Ending) → site.parts ≤ part + 1 → length ls ≤ part + 1 → Leads (left_of l) access (Some (Joins (link.joined_of new))) q → Leads (connect_in site kind nodes ls d) access (Some (Ok (map link.joined_of (slice_set ls part new)))) next
    unfolding follow
    connect_over None q next past long t = absurd (joins_by_access site.frames site.grants (refs_at kind nodes part).ring (refs_at kind nodes part).event l (link.joined_of new) t)
    connect_over (Some a) q next past long t =
        let met = met_links part ls ++ link.joined_of new ∷ [] in
        let all : met ≡ map link.joined_of (slice_set ls part new) =
        sym (met_more ls part new (within ls part l g))
        ∙ ap (map link.joined_of) (take_past (slice_set ls part new) (part + 1) (omega (arith, long, length-set ls part new))) in
        let over : later site kind nodes (part + 1) met ≡ Finished (Ok (map link.joined_of (slice_set ls part new))) = later_none site kind nodes (part + 1) met past ∙ ap (λ (js : List Joined). Finished (Ok js)) all in
        let goes : Goes (joined (left_of l) follow) a (later site kind nodes (part + 1) met) = goes_joined follow (left_of l) a (Finished (Joins (link.joined_of new))) t in
        subst (λ (p : Plan Ending). Goes p a (Finished (Ok (map link.joined_of (slice_set ls part new))))) (sym connecting_is)
        (subst (λ (p : Plan Ending). Goes (joined (left_of l) follow) a p) over goes)

pub joins_once : (frames grants : ℕ) (ring : Option ℕ) (event : ℕ) (l : Link) (j : Joined) (access : Option Access) (q : Plan Connected) (end : Option (Result (Unit {0}) GrantRefusal)) → Leads (link.connect_left frames grants ring event l) access (Some (Joins j)) q → JoinsByAccess access end
joins_once frames grants ring event l j None q end t = absurd (joins_by_access frames grants ring event l j t)
joins_once frames grants ring event l j (Some a) q end t = tt

-- parts with rings are joined to both pages
pub came_rung : (ringed : Bool) (nodes : List NodeValue) (part : ℕ) (rung : Bool) (end : Option (Result (Unit {0}) GrantRefusal)) (new : Link) → CameBy (refs_at (kind_in ringed) nodes part).ring rung end new → ringed ≡ true → rung ≡ true → Came end new
came_rung true nodes part rung end new h r u = h u
came_rung false nodes part rung end new h r u = absurd (false≢true r)

pub refused_on : (site : Site) (nodes : List NodeValue) (new : Parts) (p : Plan Ending) (access : Option Access) (rest : List Hold) (why : GrantRefusal) (end : Option (Result (Unit {0}) GrantRefusal)) → is_some access ≡ true → ((a : Access) → access ≡ Some a → Goes p a (unmaps rest (Finished (Err why)))) → UndoneAs why rest end → LeftBy why rest (doing_of new) → held_of new ≡ rest → Leads p access (ending_of new end) (connect_left site nodes new)
refused_on site nodes new p None rest why end some goes over left held = absurd (false≢true some)
refused_on site nodes new p (Some a) rest why end some goes over left held = refused_goes site nodes new p rest a why end (goes a refl) over left held

pub none_of : {A : Type 0} (o : Option A) → is_some o ≡ false → o ≡ None
none_of None h = refl
none_of (Some x) h = absurd (false≢true (sym h))

-- what a Connect is not in
pub never_connects : (d : Doing) → connects d ≡ true → ((part : ℕ) → d ≡ doing.Connecting part → ⊥) → ((why : GrantRefusal) → d ≡ doing.Undoing why → ⊥) → ⊥
never_connects doing.Bare c n m = false≢true c
never_connects (doing.Connecting part) c n m = n part refl
never_connects (doing.Undoing why) c n m = m why refl
never_connects doing.Open c n m = false≢true c
never_connects (doing.Taking part) c n m = false≢true c
never_connects (doing.Answering part) c n m = false≢true c
never_connects (doing.Raising part) c n m = false≢true c
never_connects (doing.Sleeping part) c n m = false≢true c
never_connects doing.Dropping c n m = false≢true c
