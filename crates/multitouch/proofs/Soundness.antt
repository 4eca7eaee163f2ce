-- What holds of what a device knows stays so, whatever it is told and however a Publish ends.
use Rattle.std.proofs.Common.{◌≡◌, ◌≤◌, Bool, true, false, cond, not, ◌&&◌, ◌||◌, ◌==◌, List, [], ◌∷◌, ◌++◌, length, nat_lt, Option, Some, None, is_none, refl, sym, ap, ◌∙◌, subst, arith, length-append, append-nil, append_assoc, nat_cmp, map, drop, slice_get}
use Rattle.std.proofs.lemmas.Bool.{ltb-true}
use Rattle.std.proofs.lemmas.List.{map-append, length-map}
use Rattle.std.proofs.lemmas.Bool.Decides.{Decides-eqb}
use Rattle.std.specs.FinMap as finite
use Rattle.kbd_wire.specs.declared.Event.{Event}
use Rattle.kbd_wire.specs.declared.Event.TheVariants.{Motion, Key, Position, Down, Up, Move, Syn}
use Rattle.multitouch.specs.Known.{Known, at_rest, begun, behind, group_of, is_caught_up, is_due, joined, let_go, oldest_or, settled, told_after}
use Rattle.multitouch.specs.Pressed.{Pressed, after, after_event, nothing, refusal_of, Accepts, IsBounded}
use Rattle.multitouch.specs.Repair.{is_told, repair_of}
use Rattle.multitouch.specs.Sound.{events_of, IsChosen, IsSound}
use Rattle.multitouch.proofs.Events.{accepts_both, accepts_first, accepts_rest, after-append, bounded_after, bounded_event}
use Rattle.multitouch.proofs.Mending.{repair_accepted}
use Rattle.multitouch.proofs.Told.{told_is_real}

pub nothing_bounded : IsBounded nothing
nothing_bounded = record {
  contacts = λ id h. finite.get-empty nat_cmp id;
  keys = subst (λ n. n ≤ 16) (sym (finite.len-empty nat_cmp (Unit {0}))) (omega arith);
}

pub sound_at_rest : IsSound at_rest
sound_at_rest = record { real = nothing_bounded; told = nothing_bounded; few = omega arith; acceptable = tt; joined = λ _. refl; chosen = tt }

pub group_accepted : (p : Pressed) (e : Event) → refusal_of p e ≡ None → Accepts p (group_of e)
group_accepted p (Down id x y) h = (h, (refl, tt))
group_accepted p (Up id) h = (h, (refl, tt))
group_accepted p (Move id x y) h = (h, (refl, tt))
group_accepted p (Key true code) h = (h, tt)
group_accepted p (Key false code) h = (h, tt)
group_accepted p (Motion x y z) h = (h, tt)
group_accepted p (Position x y z) h = (h, tt)
group_accepted p Syn h = (h, tt)

pub after_group : (p : Pressed) (e : Event) → after p (group_of e) ≡ after_event p e
after_group p (Down id x y) = refl
after_group p (Up id) = refl
after_group p (Move id x y) = refl
after_group p (Key pressed code) = refl
after_group p (Motion x y z) = refl
after_group p (Position x y z) = refl
after_group p Syn = refl

pub events_of-push : (groups : List (List Event)) (group : List Event) → events_of (groups ++ group ∷ []) ≡ events_of groups ++ group
events_of-push [] group = append-nil group
events_of-push (g ∷ gs) group = ap (λ es. g ++ es) (events_of-push gs group) ∙ sym (append_assoc g (events_of gs) group)

-- a group that is being published stays chosen, whatever joins the queue, and where a gap comes
chosen_push : (under_way : Option (List Event)) (queue : List (List Event)) (group : List Event) (told : Pressed) → IsChosen under_way queue false told → IsChosen under_way (queue ++ group ∷ []) false told
chosen_push None queue group told h = tt
chosen_push (Some g) [] group told h = absurd (cc (h.0))
chosen_push (Some g) (oldest ∷ queue) group told h = h

chosen_gap : (under_way : Option (List Event)) (queue : List (List Event)) (gap : Bool) (told : Pressed) → IsChosen under_way queue gap told → IsChosen under_way queue true told
chosen_gap None queue gap told h = tt
chosen_gap (Some g) [] gap told h = (refl, h.1)
chosen_gap (Some g) (oldest ∷ queue) gap told h = h

room_for : (gap room : Bool) → (not gap && room) ≡ true → (gap ≡ false) × (room ≡ true)
room_for true room h = absurd (cc)
room_for false room h = (refl, h)

pub sound_joined : (k : Known) (e : Event) → IsSound k → refusal_of k.real e ≡ None → IsSound (joined (record k { real = after_event k.real e }) (group_of e))
sound_joined k e sound fits =
    let real = bounded_event k.real e sound.real fits in
    let next : Known = record k { real = after_event k.real e } in
    elim (not k.gap && nat_lt (length k.queue) 16) as (λ b. (not k.gap && nat_lt (length k.queue) 16) ≡ b → IsSound (cond b (record next { queue = k.queue ++ group_of e ∷ [] }) (record next { gap = true }))) [
      | true ↦ λ h.
          let room = room_for k.gap (nat_lt (length k.queue) 16) h in
          let less = ltb-true (length k.queue) 16 room.1 in
          let told_all = sound.joined room.0 in
          let all = events_of-push k.queue (group_of e) in
          record {
            real = real;
            told = sound.told;
            few = omega (arith, length-append k.queue (group_of e ∷ []), less);
            acceptable = subst (Accepts k.told) (sym all)
                (accepts_both k.told (events_of k.queue) (group_of e) sound.acceptable (subst (λ p. Accepts p (group_of e)) (sym told_all) (group_accepted k.real e fits)));
            joined = λ _. ap (after k.told) all ∙ after-append k.told (events_of k.queue) (group_of e) ∙ ap (λ p. after p (group_of e)) told_all ∙ after_group k.real e;
            chosen = subst (λ gap. IsChosen k.under_way (k.queue ++ group_of e ∷ []) gap k.told) (sym room.0)
                (chosen_push k.under_way k.queue (group_of e) k.told (subst (λ gap. IsChosen k.under_way k.queue gap k.told) room.0 sound.chosen));
          }
      | false ↦ λ h. record {
        real = real;
        told = sound.told;
        few = sound.few;
        acceptable = sound.acceptable;
        joined = λ same. absurd (cc);
        chosen = chosen_gap k.under_way k.queue k.gap k.told sound.chosen;
      }
    ] refl

no_groups : (queue : List (List Event)) → (length queue == 0) ≡ true → queue ≡ []
no_groups [] h = refl
no_groups (g ∷ gs) h = absurd (omega (arith, (Decides-eqb (length (g ∷ gs)) 0).0 h))

pub caught_up : (k : Known) → is_caught_up k ≡ true → (k.queue ≡ []) × (is_told k.told k.real ≡ true)
caught_up k h = parts (is_none k.under_way) (length k.queue == 0) (is_told k.told k.real) h refl
  where
    parts : (a b c : Bool) → (a && (b && c)) ≡ true → (length k.queue == 0) ≡ b → (k.queue ≡ []) × (c ≡ true)
    parts true true true h empty = (no_groups k.queue empty, refl)
    parts true true false h empty = absurd (cc)
    parts true false c h empty = absurd (cc)
    parts false b c h empty = absurd (cc)

gap_gone : (gap up : Bool) → (gap && not up) ≡ false → gap ≡ true → up ≡ true
gap_gone true true h g = refl
gap_gone true false h g = absurd (cc)
gap_gone false up h g = absurd (cc)

chosen_settled : (under_way : Option (List Event)) (queue : List (List Event)) (gap rest : Bool) (told : Pressed) → IsChosen under_way queue gap told → IsChosen under_way queue (gap && not (is_none under_way && rest)) told
chosen_settled None queue gap rest told h = tt
chosen_settled (Some g) [] gap rest told h = (ap (λ b. b && true) h.0, h.1)
chosen_settled (Some g) (oldest ∷ queue) gap rest told h = h

pub sound_settled : (k : Known) → IsSound k → IsSound (settled k)
sound_settled k sound = record {
  real = sound.real;
  told = sound.told;
  few = sound.few;
  acceptable = sound.acceptable;
  joined = λ closed. elim k.gap as (λ b. k.gap ≡ b → after k.told (events_of k.queue) ≡ k.real) [
    | true ↦ λ gap.
        let up = caught_up k (gap_gone k.gap (is_caught_up k) closed gap) in
        ap (λ groups. after k.told (events_of groups)) up.0 ∙ told_is_real k.told k.real sound.told sound.real up.1
    | false ↦ λ none. sound.joined none
  ] refl;
  chosen = chosen_settled k.under_way k.queue k.gap ((length k.queue == 0) && is_told k.told k.real) k.told sound.chosen;
}

pub sound_begun : (k : Known) → IsSound k → is_due k ≡ true → IsSound (begun k)
sound_begun k sound due = record {
  real = sound.real;
  told = sound.told;
  few = sound.few;
  acceptable = sound.acceptable;
  joined = sound.joined;
  chosen = choice k.queue due;
}
  where
    choice : (queue : List (List Event)) → (not (length queue == 0) || k.gap) ≡ true → IsChosen (Some (oldest_or queue (repair_of k.told k.real))) queue k.gap k.told
    choice [] due = (due, repair_accepted k.told k.real sound.real)
    choice (group ∷ groups) due = refl

-- the group that is being published can be told
pub chosen_accepted : (k : Known) (group : List Event) → IsSound k → k.under_way ≡ Some group → Accepts k.told group
chosen_accepted k group sound is = at k.queue (subst (λ w. IsChosen w k.queue k.gap k.told) is sound.chosen) sound.acceptable
  where
    at : (queue : List (List Event)) → IsChosen (Some group) queue k.gap k.told → Accepts k.told (events_of queue) → Accepts k.told group
    at [] chosen fits = chosen.1
    at (oldest ∷ queue) chosen fits = subst (Accepts k.told) (sym chosen) (accepts_first k.told oldest (events_of queue) fits)

pub sound_let_go : (k : Known) (group : List Event) → IsSound k → k.under_way ≡ Some group → IsSound (let_go k)
sound_let_go k group sound is =
    let told : told_after k.told k.under_way ≡ after k.told group = ap (told_after k.told) is in
    let rest = at k.queue (subst (λ w. IsChosen w k.queue k.gap k.told) is sound.chosen) sound.few sound.acceptable sound.joined in
    subst (λ p. IsSound (record k { told = p; queue = behind k.queue; under_way = None })) (sym told) (record {
      real = sound.real;
      told = bounded_after k.told group sound.told (chosen_accepted k group sound is);
      few = rest.0;
      acceptable = rest.1;
      joined = rest.2;
      chosen = tt;
    })
  where
    at : (queue : List (List Event)) → IsChosen (Some group) queue k.gap k.told → length queue ≤ 16 → Accepts k.told (events_of queue) → (k.gap ≡ false → after k.told (events_of queue) ≡ k.real) → (length (behind queue) ≤ 16) × Accepts (after k.told group) (events_of (behind queue)) × (k.gap ≡ false → after (after k.told group) (events_of (behind queue)) ≡ k.real)
    at [] chosen few fits joined = (omega arith, tt, λ none. absurd (cc (chosen.0)))
    at (oldest ∷ queue) chosen few fits joined =
        let now = ap (after k.told) chosen in (
          omega arith,
          subst (λ p. Accepts p (events_of queue)) (sym now) (accepts_rest k.told oldest (events_of queue) fits),
          λ none. ap (λ p. after p (events_of queue)) now ∙ sym (after-append k.told oldest (events_of queue)) ∙ joined none,
        )

pub sound_idle : (k : Known) → IsSound k → IsSound (record k { under_way = None })
sound_idle k sound = record { real = sound.real; told = sound.told; few = sound.few; acceptable = sound.acceptable; joined = sound.joined; chosen = tt }

map-push : (items : List Event) (e : Event) → map group_of (items ++ e ∷ []) ≡ map group_of items ++ group_of e ∷ []
map-push items e = map-append group_of items (e ∷ [])

module _ (k : Known) (items after_items : List Event) (e : Event) (joins : Bool) (queue : map group_of items ≡ k.queue) where
  -- what joined, as a queue of first events keeps it
  pub joined_items : joins ≡ (not k.gap && nat_lt (length items) 16) → after_items ≡ cond joins (items ++ e ∷ []) items → record k { queue = map group_of after_items; gap = not joins } ≡ joined k (group_of e)
  joined_items may is =
      let count : length items ≡ length k.queue = sym (length-map items group_of) ∙ ap length queue in
      let test : joins ≡ (not k.gap && nat_lt (length k.queue) 16) = may ∙ ap (λ n. not k.gap && nat_lt n 16) count in
      ap (λ es. record k { queue = map group_of es; gap = not joins }) is
      ∙ cases joins test
      ∙ ap (λ b. cond b (record k { queue = k.queue ++ group_of e ∷ [] }) (record k { gap = true })) test
    where
      cases : (b : Bool) → b ≡ (not k.gap && nat_lt (length k.queue) 16) → record k { queue = map group_of (cond b (items ++ e ∷ []) items); gap = not b } ≡ cond b (record k { queue = k.queue ++ group_of e ∷ [] }) (record k { gap = true })
      cases true test =
          let open_ : k.gap ≡ false = (room_for k.gap (nat_lt (length k.queue) 16) (sym test)).0 in
          ap (λ groups. record k { queue = groups; gap = false }) (map-push items e ∙ ap (λ groups. groups ++ group_of e ∷ []) queue)
          ∙ ap (λ gap. record k { queue = k.queue ++ group_of e ∷ []; gap = gap }) (sym open_)
      cases false test = ap (λ groups. record k { queue = groups; gap = true }) queue

-- the oldest group, by its first event
pub oldest_first : (items : List Event) (e : Event) (repair : List Event) → Some e ≡ slice_get items 0 → group_of e ≡ oldest_or (map group_of items) repair
oldest_first [] e repair h = absurd (cc)
oldest_first (x ∷ items) e repair h = let same : e ≡ x = cc in ap group_of same

pub oldest_none : (items : List Event) (repair : List Event) → None ≡ slice_get items 0 → repair ≡ oldest_or (map group_of items) repair
oldest_none [] repair h = refl
oldest_none (x ∷ items) repair h = absurd (cc)

behind-map : (items : List Event) → map group_of (drop 1 items) ≡ behind (map group_of items)
behind-map [] = refl
behind-map (x ∷ items) = refl

-- what is left once the group under way was told
pub let_go_of : (k : Known) (items rest : List Event) (told : Pressed) (group : List Event) (under_way : Option (List Event)) → map group_of items ≡ k.queue → rest ≡ drop 1 items → k.under_way ≡ Some group → told ≡ after k.told group → under_way ≡ None → record { real = k.real; told = told; queue = map group_of rest; gap = k.gap; under_way = under_way } ≡ let_go k
let_go_of k items rest told group under_way queue is chosen follows none =
    let now : told ≡ told_after k.told k.under_way = follows ∙ sym (ap (told_after k.told) chosen) in
    let left : map group_of rest ≡ behind k.queue = ap (map group_of) is ∙ behind-map items ∙ ap behind queue in
    λ i. record { real = k.real; told = now i; queue = left i; gap = k.gap; under_way = none i }

closed_gap : (gap up : Bool) → up ≡ true → (gap && not up) ≡ false
closed_gap true true h = refl
closed_gap true false h = absurd (cc)
closed_gap false up h = refl

-- a gap that is gone
pub sound_closed : (k : Known) → IsSound k → is_caught_up k ≡ true → IsSound (record k { gap = false })
sound_closed k sound up = subst (λ gap. IsSound (record k { gap = gap })) (closed_gap k.gap (is_caught_up k) up) (sound_settled k sound)
