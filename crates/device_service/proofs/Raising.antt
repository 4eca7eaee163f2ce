-- Where a Raise of a connected backend begins, and what a step of it makes of the work.
use Rattle.std.proofs.Common.{◌≡◌, ℕ, ◌<◌, ◌≤◌, ◌&&◌, zero, suc, ◌∷◌, Bool, true, false, if◌then◌else◌, not, nat_lt, List, [], Option, Some, None, length, slice_get, refl, sym, ap, subst, ◌∙◌, arith}
use Rattle.std.proofs.lemmas.Bool.{false≢true}
use Rattle.std.proofs.lemmas.Bool.Decides.{nat_tests}
use Rattle.pv_words.specs.declared.access.Access.{Access}
use Rattle.pv_words.specs.declared.device.Reason.TheVariants as reason
use Rattle.pv_words.specs.declared.device.Said.{Said}
use Rattle.pv_words.specs.declared.device.State.{State}
use Rattle.pv_words.specs.declared.device.State.TheVariants as state
use Rattle.pv_words.specs.Plan.{Plan, Finished, Make, IsUnfinished, Turns, mapped}
use Rattle.link_core.specs.declared.link.Put.{Put}
use Rattle.link_core.specs.declared.link.Put.TheVariants as put
use Rattle.link_core.specs.Activities.{Joined, page_at}
use Rattle.link_core.specs.Link.{Leads}
use Rattle.link_core.specs.Raise.{limit, put_plan}
use Rattle.device_core.specs.Order.{Order, Act, rests_next}
use Rattle.device_core.specs.Site.{Site}
use Rattle.xenbus_states.specs.Connection.{action_of}
use Rattle.device_service.specs.declared.backend.Activity.{Activity}
use Rattle.device_service.specs.declared.backend.Activity.TheVariants as activity
use Rattle.device_service.specs.declared.parts.Doing.{Doing}
use Rattle.device_service.specs.declared.parts.Doing.TheVariants as doing
use Rattle.device_service.specs.declared.parts.Parts.{Parts}
use Rattle.device_service.specs.declared.round.Hand.{Hand}
use Rattle.device_service.specs.Activity.{StandsAs, is_connected, is_open, resting}
use Rattle.device_service.specs.Doing as of_doing
use Rattle.device_service.specs.Operating.{is_raise, part_owed, words_of}
use Rattle.device_service.specs.Parts as of_parts
use Rattle.device_service.specs.Parts.{count_of, doing_of, joined_of, raise_of, raised_if}
use Rattle.device_service.specs.Raising.{has_left, raised_in, raises_in}
use Rattle.device_service.specs.Service.{Deed, Owed, Raises, Runs, Service}
use Rattle.device_service.specs.Work.{End, Raised, Work, choice, close, does_event, pays, raise_said, raises, raises_if, said_at, serves_by, settled, waits_after, with_action, with_closing, with_kept, with_owed}
use Rattle.device_service.proofs.PartsLaws.{joined_count, joined_none}

-- a step of a plan of which an access is left
unfinished_left : {A : Type 0} (p : Plan A) → IsUnfinished p → has_left p ≡ true
unfinished_left (Finished x) u = absurd u
unfinished_left (Make want note more) u = refl

pub left_on : {A : Type 0} (p : Plan A) (access : Option Access) (q : Plan A) → Leads p access None q → has_left q ≡ true
left_on p None q l = absurd l
left_on p (Some a) q l = unfinished_left q l.1

pub turns_left : {A : Type 0} (p : Plan A) (access : Option Access) (end : Option A) (q : Plan A) → has_left p ≡ true → Leads p access end q → Turns p access end q
turns_left p None None q h l = absurd l
turns_left p None (Some x) q h l = absurd (false≢true (sym (ap has_left l) ∙ h))
turns_left p (Some a) None q h l = l
turns_left p (Some a) (Some x) q h l = l

-- the part of a Raise that is under way is there
pub raising_there : (p : Parts) (part : ℕ) → doing_of p ≡ doing.Raising part → part < count_of p
unfolding doing_of count_of
raising_there p part e = subst (λ (d : Doing). of_doing.part_in d < length p.links.items) e p.whole.come_to

-- what a waiting event leads to, by its words
pub runs_deed : {A : Type 0} (d : Deed A) (prod : ℕ) → words_of d prod ≡ None → is_raise d ≡ false
runs_deed (Runs p) prod e = refl
runs_deed (Raises f) prod e = let wrong : ⊥ = cc in absurd wrong

pub raises_deed : {A : Type 0} (d : Deed A) (prod : ℕ) (words : List ℕ) → words_of d prod ≡ Some words → (f : ℕ → List ℕ) × (d ≡ Raises f) × (words ≡ f prod)
raises_deed (Runs p) prod words e = let wrong : ⊥ = cc in absurd wrong
raises_deed (Raises f) prod words e = let same : words ≡ f prod = cc in (f, refl, same)

-- the event that is owed to a part
pub owed_in : (o : Option Owed) (part : ℕ) → part_owed o ≡ Some part → (x : Owed) × (o ≡ Some x) × (x.part ≡ part)
owed_in None part e = let wrong : ⊥ = cc in absurd wrong
owed_in (Some x) part e = let same : x.part ≡ part = cc in (x, refl, same)

pub owed_none : (o : Option Owed) → part_owed o ≡ None → o ≡ None
owed_none None e = refl
owed_none (Some x) e = let wrong : ⊥ = cc in absurd wrong

-- parts that are connected are those of an open backend
pub opened_by : (o : Bool) → of_parts.is_open (resting o) ≡ true → o ≡ true
opened_by true e = refl
opened_by false e = absurd (false≢true e)

module _ {X A V : Type 0} (s : Service X A V) where
  module _ (w : Work X V) (e : Option V) (part : ℕ) where
    same_raise : (f : ℕ → List ℕ) (words : List ℕ) (j : Joined) (b : Bool) → words ≡ f j.prod → raises_if s w e part f j b ≡ raises_if s w e part (λ _. words) j b
    same_raise f words j true h = ap (λ (ws : List ℕ). Act w (mapped (Raised part e) (put_plan (page_at j.event) j.prod ws))) (sym h)
    same_raise f words j false h = refl

    -- by its words
    raise_as : (f : ℕ → List ℕ) (words : List ℕ) (o : Option Joined) (j : Joined) → o ≡ Some j → words ≡ f j.prod → raises s w e part f j ≡ raises_in s w e part words o
    raise_as f words o j there h = same_raise f words j (nat_lt j.prod limit) h ∙ ap (raises_in s w e part words) (sym there)

    below : (prod : ℕ) (j : Joined) → prod ≡ j.prod → prod < limit → nat_lt j.prod limit ≡ true
    below prod j e lt = grind (arith, nat_tests, e, lt)

    spent : (prod : ℕ) (j : Joined) → prod ≡ j.prod → limit ≤ prod → nat_lt j.prod limit ≡ false
    spent prod j e le = grind (arith, nat_tests, e, le)

    pub spent_is : (words : List ℕ) (o : Option Joined) (j : Joined) (prod : ℕ) → o ≡ Some j → prod ≡ j.prod → limit ≤ prod → raises_in s w e part words o ≡ close s w (reason.Spent prod)
    spent_is words o j prod there h le =
        ap (raises_in s w e part words) there
        ∙ (ap (raises_if s w e part (λ _. words) j) (spent prod j h le) ∙ ap (λ n. close s w (reason.Spent n)) (sym h))

    plan_is : (words : List ℕ) (o : Option Joined) (j : Joined) (prod : ℕ) → o ≡ Some j → prod ≡ j.prod → prod < limit → raise_of words o ≡ put_plan (page_at j.event) j.prod words
    plan_is words o j prod there h lt =
        ap (raise_of words) there
        ∙ ap (λ (b : Bool). if b then put_plan (page_at j.event) j.prod words else Finished (put.Spent j.prod)) (below prod j h lt)

    pub puts_is : (words : List ℕ) (o : Option Joined) (j : Joined) (prod : ℕ) → o ≡ Some j → prod ≡ j.prod → prod < limit → raises_in s w e part words o ≡ Act w (mapped (Raised part e) (raise_of words o))
    puts_is words o j prod there h lt =
        ap (raises_in s w e part words) there
        ∙ (ap (raises_if s w e part (λ _. words) j) (below prod j h lt)
        ∙ ap (λ (p : Plan Put). Act w (mapped (Raised part e) p)) (sym (plan_is words o j prod there h lt)))

    pub puts_left : (words : List ℕ) (o : Option Joined) (j : Joined) (prod : ℕ) → o ≡ Some j → prod ≡ j.prod → prod < limit → has_left (raise_of words o) ≡ true
    puts_left words o j prod there h lt = ap (λ (p : Plan Put). has_left p) (plan_is words o j prod there h lt)

  -- a waiting event that is raised
  pub serves_raise : (w : Work X V) (v : V) (part prod : ℕ) (words : List ℕ) (f : ℕ → List ℕ) (j : Joined) → s.event w.service v ≡ Raises f → part ≡ s.at v → slice_get w.parts (s.at v) ≡ Some j → prod ≡ j.prod → words ≡ f prod → serves_by s w v (slice_get w.parts (s.at v)) ≡ raises_in s w (Some v) part words (slice_get w.parts part)
  serves_raise w v part prod words f j deed at there h is =
      ap (serves_by s w v) there
      ∙ (ap (λ (d : Deed A). does_event s w v d j) deed
      ∙ (raise_as w (Some v) (s.at v) f words (slice_get w.parts (s.at v)) j there (is ∙ ap f h)
      ∙ ap (λ (k : ℕ). raises_in s w (Some v) k words (slice_get w.parts k)) (sym at)))

  module _ (site : Site) where
    -- one that is owed
    pub pays_is : (w : Work X V) (o : Option Owed) (x : Owed) (part prod : ℕ) (words : List ℕ) (j : Joined) → o ≡ Some x → x.part ≡ part → slice_get w.parts part ≡ Some j → prod ≡ j.prod → words ≡ x.words prod → with_owed s site w o ≡ raises_in s w None part words (slice_get w.parts part)
    pays_is w o x part prod words j e at there h is =
        ap (with_owed s site w) e
        ∙ (ap (λ (k : ℕ). pays s site w x (slice_get w.parts k)) at
        ∙ (ap (pays s site w x) there
        ∙ (raise_as w None x.part x.words words (slice_get w.parts part) j there (is ∙ ap x.words h)
        ∙ ap (λ (k : ℕ). raises_in s w None k words (slice_get w.parts part)) at)))

    -- none is owed where its part isn't there
    pub owes_none : (w : Work X V) (o : Option Owed) → ((x : Owed) → o ≡ Some x → slice_get w.parts x.part ≡ None) → with_owed s site w o ≡ with_action s site w (action_of w.connection)
    owes_none w None h = refl
    owes_none w (Some x) h = ap (pays s site w x) (h x refl)

    -- it comes before the frontend's state
    pub owed_is : (w : Work X V) (x : X) → w.closing ≡ false → w.kept ≡ None → w.service ≡ x → choice s site w ≡ with_owed s site w (s.owes x)
    unfolding choice
    owed_is w x e f k = ap (with_closing s site w) e ∙ (ap (with_kept s site w) f ∙ ap (λ (y : X). with_owed s site w (s.owes y)) k)

    raise_busy : (w : Work X V) (e : Option V) (part : ℕ) (f : ℕ → List ℕ) (j : Joined) (b : Bool) → true ≡ not (rests_next (raises_if s w e part f j b))
    raise_busy w e part f j true = refl
    raise_busy w e part f j false = refl

    pub owed_busy : (w : Work X V) (o : Option Owed) (x : Owed) (part : ℕ) (j : Joined) → o ≡ Some x → x.part ≡ part → slice_get w.parts part ≡ Some j → true ≡ not (rests_next (with_owed s site w o))
    owed_busy w o x part j e at there =
        raise_busy w None x.part x.words j (nat_lt j.prod limit)
        ∙ ap (λ (c : Order (Work X V) (End A V)). not (rests_next c)) (sym (ap (with_owed s site w) e ∙ ap (pays s site w x) (ap (slice_get w.parts) at ∙ there)))

    -- what a Raise makes of the work, where its part counts the event already
    pub settled_raise : (w : Work X V) (js : List Joined) (part : ℕ) (e : Option V) (p : Put) → js ≡ raised_if (Some p) part w.parts → raised_in s (record w { parts = js }) part e p ≡ settled s site w (Raised part e p)
    unfolding settled
    settled_raise w js part e put.Done h = ap (λ (ks : List Joined). record w { parts = ks; waiting = waits_after e w.waiting; service = s.after_put w.service e }) h
    settled_raise w js part e put.Full h = ap (λ (ks : List Joined). record w { parts = ks; waiting = waits_after e w.waiting; service = s.after_full w.service e }) h
    settled_raise w js part e (put.BadCons prod cons) h = ap (λ (ks : List Joined). record w { parts = ks; kept = Some (reason.BadCons prod cons) }) h
    settled_raise w js part e (put.Spent prod) h = ap (λ (ks : List Joined). record w { parts = ks; kept = Some (reason.Spent prod) }) h

    pub raised_said : (w : Work X V) (js : List Joined) (part : ℕ) (e : Option V) (p : Put) → raise_said s (record w { parts = js }) part e p ≡ said_at s w (Raised part e p)
    unfolding said_at
    raised_said w js part e put.Done = refl
    raised_said w js part e put.Full = refl
    raised_said w js part e (put.BadCons prod cons) = refl
    raised_said w js part e (put.Spent prod) = refl

  -- at each end
  module _ (w : Work X V) (part : ℕ) (e : Option V) (p : Put) where
    pub done_as : (vs : List V) (y : X) → p ≡ put.Done → vs ≡ waits_after e w.waiting → y ≡ s.after_put w.service e → record w { waiting = vs; service = y } ≡ raised_in s w part e p
    done_as vs y is f k =
        ap (λ (us : List V). record w { waiting = us; service = y }) f
        ∙ (ap (λ (z : X). record w { waiting = waits_after e w.waiting; service = z }) k ∙ ap (raised_in s w part e) (sym is))

    pub full_as : (vs : List V) (y : X) → p ≡ put.Full → vs ≡ waits_after e w.waiting → y ≡ s.after_full w.service e → record w { waiting = vs; service = y } ≡ raised_in s w part e p
    full_as vs y is f k =
        ap (λ (us : List V). record w { waiting = us; service = y }) f
        ∙ (ap (λ (z : X). record w { waiting = waits_after e w.waiting; service = z }) k ∙ ap (raised_in s w part e) (sym is))

    pub bad_as : (prod cons : ℕ) → p ≡ put.BadCons prod cons → record w { kept = Some (reason.BadCons prod cons) } ≡ raised_in s w part e p
    bad_as prod cons is = ap (raised_in s w part e) (sym is)

    pub spent_as : (prod : ℕ) → p ≡ put.Spent prod → record w { kept = Some (reason.Spent prod) } ≡ raised_in s w part e p
    spent_as prod is = ap (raised_in s w part e) (sym is)

    pub done_said : (x : Said) → p ≡ put.Done → x ≡ s.put w.service e → Some x ≡ raise_said s w part e p
    done_said x is f = ap (λ (y : Said). Some y) f ∙ ap (raise_said s w part e) (sym is)

-- parts that aren't open are none, and there are only so many
pub apart_none : (a : Activity) (closing : Bool) (b : State) (p : Parts) (at : ℕ) (hand : Option Hand) (k : ℕ) → a ≡ activity.Between → closing ≡ false → (b ≡ state.Connected → ⊥) → StandsAs a (is_open a closing b) (doing_of p) at hand → slice_get (joined_of p) k ≡ None
apart_none a closing b p at hand k e f n st =
    let shut : is_open a closing b ≡ false = ap (λ (x : Activity). is_open x closing b) e ∙ (ap (λ (x : Bool). not x && is_connected b) f ∙ other b n) in
    let rests : doing_of p ≡ resting (is_open a closing b) = subst (λ (x : Activity). StandsAs x (is_open a closing b) (doing_of p) at hand) e st in
    ap (λ (js : List Joined). slice_get js k) (joined_none p (ap of_parts.is_open (rests ∙ ap resting shut)))
  where
    other : (b : State) → (b ≡ state.Connected → ⊥) → is_connected b ≡ false
    other state.Connected n = absurd (n refl)
    other state.Unknown n = refl
    other state.Initialising n = refl
    other state.InitWait n = refl
    other state.Initialised n = refl
    other state.Closing n = refl
    other state.Closed n = refl
    other state.Reconfiguring n = refl
    other state.Reconfigured n = refl

pub connected_open : (a : Activity) (closing : Bool) (b : State) (p : Parts) (at : ℕ) (hand : Option Hand) → a ≡ activity.Between → closing ≡ false → b ≡ state.Connected → StandsAs a (is_open a closing b) (doing_of p) at hand → of_parts.is_open (doing_of p) ≡ true
connected_open a closing b p at hand e f n st =
    let opened : is_open a closing b ≡ true = ap (λ (x : Activity). is_open x closing b) e ∙ (ap (λ (x : Bool). not x && is_connected b) f ∙ ap is_connected n) in
    let rests : doing_of p ≡ resting (is_open a closing b) = subst (λ (x : Activity). StandsAs x (is_open a closing b) (doing_of p) at hand) e st in
    ap of_parts.is_open (rests ∙ ap resting opened)

-- the part of the event that is owed
pub part_is : (o : Option Owed) (x : Owed) (part : ℕ) → o ≡ Some x → part_owed o ≡ Some part → x.part ≡ part
part_is o x part e h = let is : Some x.part ≡ Some part = sym (ap part_owed e) ∙ h in let same : x.part ≡ part = cc in same

past : {A : Type 0} (xs : List A) (k : ℕ) → length xs ≤ k → slice_get xs k ≡ None
past [] k h = refl
past (x ∷ xs) zero h = absurd (omega (arith, h))
past (x ∷ xs) (suc k) h = past xs k (omega (arith, h))

pub past_none : (p : Parts) (k : ℕ) → of_parts.is_open (doing_of p) ≡ true → count_of p ≤ k → slice_get (joined_of p) k ≡ None
past_none p k opened le = past (joined_of p) k (omega (arith, le, joined_count p opened))
