-- A domain's permits and ends through its port, from access to access.
use Rattle.std.proofs.Common.{◌≡◌, ◌⊎◌, inl, inr, ℕ, ◌<◌, ◌==◌, ◌&&◌, Bool, true, false, cond, Option, Some, None, refl, sym, ◌∙◌, ap, subst, arith}
use Rattle.std.proofs.lemmas.Bool.Decides.{Decides-eqb}
use Rattle.std.proofs.lemmas.Bool.{false≢true}
use Rattle.pv_words.specs.declared.place.DomId.{DomId}
use Rattle.pv_words.specs.declared.place.GrantRef.{GrantRef}
use Rattle.pv_words.specs.declared.place.Place.{Place}
use Rattle.pv_words.specs.declared.place.Place.TheVariants.{Cell, Grant}
use Rattle.pv_words.specs.declared.place.Half.TheVariants.{Flags, FrameNo}
use Rattle.pv_words.specs.declared.place.Who.{Who}
use Rattle.pv_words.specs.declared.access.Access.{Access}
use Rattle.pv_words.specs.declared.access.Access.TheVariants as access
use Rattle.pv_words.specs.declared.grant.Mode.{Mode}
use Rattle.pv_words.specs.declared.grant.Mode.TheVariants.{Read, Write}
use Rattle.pv_words.specs.Keeping.{Known, IsKnown, IsEntry, IsLoad, OnEntry, KeepsTo, MayGoOn, known_after, nothing_known}
use Rattle.pv_words.specs.Memory.{place_of, without}
use Rattle.pv_words.specs.Place.{InRange, same_place}
use Rattle.pv_words.specs.Plan.{Plan, Finished, Make, Want, Load, Store, Swap, Clear, Note, Goes, MayGo, aim_of, wanted, seen_by, found, Turns, Makes}
use Rattle.pv_words.specs.Port.{Renames, Port, PortMay, Leaves, FindsTold, FitsBy, FitsHalf, Turned, Opening, Owns, OwnsAny, OwnsKept, Opens, Closes, learned, learned_there, word_left, opens_after, granting, name_place}
use Rattle.pv_words.proofs.Listing.{by_kind, port_may_own}

-- an access is the one that was wanted, with the word that it found
found_is : (a : Access) → found (wanted a) (seen_by a) ≡ a
found_is (access.Load at v) = refl
found_is (access.Store at v) = refl
found_is (access.Cas at old new seen) = refl
found_is (access.Clear at mask seen) = refl

pub found_as : (want : Want) (a : Access) → wanted a ≡ want → found want (seen_by a) ≡ a
found_as want a e = ap (λ x. found x (seen_by a)) (sym e) ∙ found_is a

module _ (dom gref frame : ℕ) where
  -- an access at the entry is one to a word of the domain
  entry_range : (frames grants : ℕ → ℕ) (d : DomId) (g : GrantRef) → IsEntry dom gref d g → gref < grants dom → g.0 < grants d.0
  entry_range frames grants d g e r = rw (e.0, e.1) r

  pub on_range : (frames grants : ℕ → ℕ) (k : Known) (want : Want) (note : Note) → OnEntry dom gref frame k want note → gref < grants dom → InRange frames grants (aim_of want)
  on_range frames grants k (Load (Grant d g half)) note o r = entry_range frames grants d g o r
  on_range frames grants k (Load (Cell d f w)) note o r = absurd o
  on_range frames grants k (Store (Grant d g FrameNo) v) note o r = entry_range frames grants d g o.0 r
  on_range frames grants k (Store (Grant d g Flags) v) note o r = absurd o
  on_range frames grants k (Store (Cell d f w) v) note o r = absurd o
  on_range frames grants k (Swap (Grant d g Flags) old new) note o r = entry_range frames grants d g o.0 r
  on_range frames grants k (Swap (Grant d g FrameNo) old new) note o r = absurd o
  on_range frames grants k (Swap (Cell d f w) old new) note o r = absurd o
  on_range frames grants k (Clear at mask) note o r = absurd o

  owns_any : (k : Known) (want : Want) (note : Note) → OnEntry dom gref frame k want note → OwnsAny dom want
  owns_any k (Load (Grant d g half)) note o = o.0
  owns_any k (Load (Cell d f w)) note o = absurd o
  owns_any k (Store (Grant d g FrameNo) v) note o = o.0.0
  owns_any k (Store (Grant d g Flags) v) note o = absurd o
  owns_any k (Store (Cell d f w) v) note o = absurd o
  owns_any k (Swap (Grant d g Flags) old new) note o = o.0.0
  owns_any k (Swap (Grant d g FrameNo) old new) note o = absurd o
  owns_any k (Swap (Cell d f w) old new) note o = absurd o
  owns_any k (Clear at mask) note o = absurd o

  module _ (p : Port) (k : Known) (known : (k.unclaimed ≡ true → Renames p dom gref frame) × (k.named ≡ true → (name : ℕ) × (p.told (name_place dom gref) ≡ Some name))) where
    opens_kept : (d : DomId) (g : GrantRef) (old new : ℕ) → IsEntry dom gref d g → (((old ≡ 0) × ((mode : Mode) × (new ≡ granting mode)) × (k.named ≡ true)) ⊎ Closes old new) → Opens p dom g.0 old new ⊎ Closes old new
    opens_kept d g old new e (inl o) = inl (o.0, o.1, subst (λ (n : ℕ). (name : ℕ) × (p.told (name_place dom n) ≡ Some name)) (sym e.1) (known.1 o.2))
    opens_kept d g old new e (inr c) = inr c

    owns_kept : (want : Want) (note : Note) → OnEntry dom gref frame k want note → OwnsKept p dom want
    owns_kept (Load (Grant d g half)) note o = o.0
    owns_kept (Load (Cell d f w)) note o = absurd o
    owns_kept (Store (Grant d g FrameNo) v) note o = (o.0.0, λ x e. known.0 o.1 x (ap (p.opens dom) (sym o.0.1) ∙ e) ∙ sym o.2)
    owns_kept (Store (Grant d g Flags) v) note o = absurd o
    owns_kept (Store (Cell d f w) v) note o = absurd o
    owns_kept (Swap (Grant d g Flags) old new) note o = (o.0.0, opens_kept d g old new o.0 o.1)
    owns_kept (Swap (Grant d g FrameNo) old new) note o = absurd o
    owns_kept (Swap (Cell d f w) old new) note o = absurd o
    owns_kept (Clear at mask) note o = absurd o

  -- whether the port keeps it or not, the domain owns what goes to the entry
  pub owns_entry : (p : Port) (k : Known) (want : Want) (note : Note) → IsKnown p dom gref frame k → OnEntry dom gref frame k want note → Owns p dom want
  owns_entry p k want note known o =
      by_kind p dom want (λ e. owns_kept p k (known e) want note o) (owns_any k want note o)

  pub may_entry : (frames grants : ℕ → ℕ) (p : Port) (k : Known) (want : Want) (note : Note) → IsKnown p dom gref frame k → OnEntry dom gref frame k want note → gref < grants dom → p.device ≡ None → p.serves dom ≡ true → PortMay frames grants p want
  may_entry frames grants p k want note known o r device serves =
      port_may_own frames grants p dom want device serves (on_range frames grants k want note o r) (owns_entry p k want note known o)

-- what is told of a place after an access there
same_entry : (dom gref : ℕ) (d : DomId) (g : GrantRef) → IsEntry dom gref d g → same_place (Grant d g FrameNo) (name_place dom gref) ≡ true
same_entry dom gref d g e = both (d.0 == dom) (g.0 == gref) ((Decides-eqb d.0 dom).1 e.0) ((Decides-eqb g.0 gref).1 e.1)
  where
    both : (a b : Bool) → a ≡ true → b ≡ true → (a && (b && true)) ≡ true
    both a b x y = rw x (rw y refl)

not_same : (dom gref : ℕ) (d : DomId) (g : GrantRef) → same_place (Grant d g Flags) (name_place dom gref) ≡ false
not_same dom gref d g = by (d.0 == dom) (g.0 == gref)
  where
    by : (a b : Bool) → (a && (b && false)) ≡ false
    by true true = refl
    by true false = refl
    by false b = refl

-- the word of an open grant isn't 0
pub open_word : (o : Opening) (v : ℕ) → without v 24 ≡ granting o.mode → v ≡ 0 → ⊥
open_word o v e z = by o.mode refl
  where
    none : without v 24 ≡ 0
    none = ap (λ (x : ℕ). without x 24) z

    by : (m : Mode) → o.mode ≡ m → ⊥
    by Read n = let word : granting o.mode ≡ 5 = ap granting n in absurd (omega (arith, word, none, e))
    by Write n = let word : granting o.mode ≡ 1 = ap granting n in absurd (omega (arith, word, none, e))

closed_by : (o : Option Opening) (v : ℕ) → FitsHalf Flags o v → (v == 0) ≡ true → o ≡ None
closed_by None v fits z = refl
closed_by (Some o) v fits z = absurd (open_word o v fits ((Decides-eqb v 0).0 z))

module _ (frames grants : ℕ → ℕ) (dom gref : ℕ) (range : gref < grants dom) (p q : Port) (a : Access) (left : Leaves frames grants p a q) (kept : p.keeps dom ≡ true) where
  -- what is told of the frame's name after an access there, and after another
  told_there : same_place (place_of a) (name_place dom gref) ≡ true → p.device ≡ None → (v : ℕ) × (q.told (name_place dom gref) ≡ Some v)
  told_there same device = (
    word_left a,
    left.told (name_place dom gref) (word_left a) range kept tt
        (ap (λ (b : Bool). cond b (learned_there p.device a (p.told (name_place dom gref))) (p.told (name_place dom gref))) same ∙ ap (λ (o : Option ℕ). learned_there o a (p.told (name_place dom gref))) device),
  )

  told_still : same_place (place_of a) (name_place dom gref) ≡ false → (name : ℕ) × (p.told (name_place dom gref) ≡ Some name) → (v : ℕ) × (q.told (name_place dom gref) ≡ Some v)
  told_still apart t = (
    t.0,
    left.told (name_place dom gref) t.0 range kept tt
        (ap (λ (b : Bool). cond b (learned_there p.device a (p.told (name_place dom gref))) (p.told (name_place dom gref))) apart ∙ t.1),
  )

  -- what an access finds in the entry's flags
  closed_here : (d : DomId) (g : GrantRef) (v : ℕ) → IsEntry dom gref d g → FitsBy (p.keeps d.0) p.opens (Grant d g Flags) v → (v == 0) ≡ true → p.opens dom gref ≡ None
  closed_here d g v e fits z =
      closed_by (p.opens dom gref) v (subst (λ (x : ℕ × ℕ). FitsHalf Flags (p.opens x.0 x.1) v) (λ i. (e.0 i, e.1 i)) (subst (λ (b : Bool). FitsBy b p.opens (Grant d g Flags) v) (ap p.keeps e.0 ∙ kept) fits)) z

nothing : (p : Port) (dom gref frame : ℕ) → IsKnown p dom gref frame nothing_known
nothing p dom gref frame = λ kept. (λ e. absurd (false≢true e), λ e. absurd (false≢true e))

shut : (x : Option Opening) (frame : ℕ) → x ≡ None → (o : Opening) → x ≡ Some o → o.frame ≡ frame
shut x frame e o f = let wrong : ⊥ = cc (e, f) in absurd wrong

-- what is known of the entry after an access of its domain there
pub known_next : (frames grants : ℕ → ℕ) (dom gref frame : ℕ) → gref < grants dom → (p q : Port) (k : Known) (note : Note) (a : Access) → Leaves frames grants p a q → FindsTold p a → p.device ≡ None → OnEntry dom gref frame k (wanted a) note → IsKnown p dom gref frame k → IsKnown q dom gref frame (known_after k note a)
known_next frames grants dom gref frame range p q k note (access.Load (Grant d g Flags) v) left finds device on known = λ keeps.
    let kept = sym (left.keeps dom) ∙ keeps in (
      λ z. shut (q.opens dom gref) frame (left.opens dom gref kept ∙ closed_here frames grants dom gref range p q (access.Load (Grant d g Flags) v) left kept d g v on finds.1 z),
      λ n. told_still frames grants dom gref range p q (access.Load (Grant d g Flags) v) left kept (not_same dom gref d g) ((known kept).1 n),
    )
known_next frames grants dom gref frame range p q k note (access.Load (Grant d g FrameNo) v) left finds device on known = λ keeps.
    let kept = sym (left.keeps dom) ∙ keeps in (
      λ z o e. (known kept).0 z o (sym (left.opens dom gref kept) ∙ e),
      λ n. told_there frames grants dom gref range p q (access.Load (Grant d g FrameNo) v) left kept (same_entry dom gref d g on) device,
    )
known_next frames grants dom gref frame range p q k note (access.Load (Cell d f w) v) left finds device on known = absurd on
known_next frames grants dom gref frame range p q k note (access.Store (Grant d g FrameNo) v) left finds device on known = λ keeps.
    let kept = sym (left.keeps dom) ∙ keeps in (
      λ z o e. (known kept).0 z o (sym (left.opens dom gref kept) ∙ e),
      λ n. told_there frames grants dom gref range p q (access.Store (Grant d g FrameNo) v) left kept (same_entry dom gref d g on.0) device,
    )
known_next frames grants dom gref frame range p q k note (access.Store (Grant d g Flags) v) left finds device on known = absurd on
known_next frames grants dom gref frame range p q k note (access.Store (Cell d f w) v) left finds device on known = absurd on
known_next frames grants dom gref frame range p q k note (access.Cas at old new seen) left finds device on known = nothing q dom gref frame
known_next frames grants dom gref frame range p q k note (access.Clear at mask seen) left finds device on known = nothing q dom gref frame

-- the next access of what is left may be made
pub may_go_on : {A : Type 0} (may : Want → Type 0) (frames grants : ℕ → ℕ) (p : Port) (dom gref : ℕ) (plan : Plan A) → MayGoOn p dom gref plan → gref < grants dom → p.device ≡ None → p.serves dom ≡ true → ((want : Want) → PortMay frames grants p want → may want) → MayGo may plan
may_go_on may frames grants p dom gref (Finished x) goes range device serves allows = tt
may_go_on may frames grants p dom gref (Make want note next) goes range device serves allows =
    allows want (may_entry dom gref goes.0 frames grants p goes.1 want note goes.2 goes.3.0 range device serves)

-- and so may those after it
pub goes_on : {A : Type 0} (frames grants : ℕ → ℕ) (p q : Port) (dom gref : ℕ) (plan new : Plan A) (a : Access) → MayGoOn p dom gref plan → gref < grants dom → p.device ≡ None → Goes plan a new → Leaves frames grants p a q → FindsTold p a → MayGoOn q dom gref new
goes_on frames grants p q dom gref (Finished x) new a may range device goes left finds = absurd goes
goes_on {A} frames grants p q dom gref (Make want note next) new a may range device goes left finds =
    let on : OnEntry dom gref may.0 may.1 (wanted a) note = subst (λ (x : Want). OnEntry dom gref may.0 may.1 x note) (sym goes.0) may.3.0 in
    let rest : KeepsTo dom gref may.0 (known_after may.1 note (found want (seen_by a))) (next (seen_by a)) = may.3.1 (seen_by a) in (
      may.0,
      known_after may.1 note a,
      known_next frames grants dom gref may.0 range p q may.1 note a left finds device on may.2,
      subst (λ (x : Plan A). KeepsTo dom gref may.0 (known_after may.1 note a) x) (sym goes.1) (subst (λ (x : Access). KeepsTo dom gref may.0 (known_after may.1 note x) (next (seen_by a))) (found_as want a goes.0) rest),
    )

-- each access of what is left goes to the entry
pub goes_in_entry : {A : Type 0} (frames grants : ℕ → ℕ) (dom gref frame : ℕ) (k : Known) (plan new : Plan A) (a : Access) → KeepsTo dom gref frame k plan → gref < grants dom → Goes plan a new → InRange frames grants (aim_of (wanted a))
goes_in_entry frames grants dom gref frame k (Finished x) new a keeps range goes = absurd goes
goes_in_entry frames grants dom gref frame k (Make want note next) new a keeps range goes =
    subst (λ (x : Want). InRange frames grants (aim_of x)) (sym goes.0) (on_range dom gref frame frames grants k want note keeps.0 range)

-- what is known stays known when the port is handed on, and after an access of a device
pub known_turned : (p q : Port) (knows : ℕ → ℕ → Type 0) (who : Who) (dom gref frame : ℕ) (k : Known) → Turned p knows who q → IsKnown p dom gref frame k → IsKnown q dom gref frame k
known_turned p q knows who dom gref frame k t known = λ keeps.
    let here = known (sym (t.keeps dom) ∙ keeps) in
    (λ e o f. here.0 e o (sym (t.opens dom gref) ∙ f), λ e. let f = here.1 e in (f.0, t.told (name_place dom gref) ∙ f.1))

pub goes_on_turned : {A : Type 0} (p q : Port) (knows : ℕ → ℕ → Type 0) (who : Who) (dom gref : ℕ) (plan : Plan A) → Turned p knows who q → MayGoOn p dom gref plan → MayGoOn q dom gref plan
goes_on_turned p q knows who dom gref plan t may = (may.0, may.1, known_turned p q knows who dom gref may.0 may.1 t may.2, may.3)

module _ (frames grants : ℕ → ℕ) (dom gref : ℕ) (range : gref < grants dom) (p q : Port) (e : ℕ) (device : p.device ≡ Some e) where
  opens_beside : (a : Access) → opens_after p a dom gref ≡ p.opens dom gref
  opens_beside (access.Load at v) = refl
  opens_beside (access.Store at v) = refl
  opens_beside (access.Cas (Cell d f w) old new seen) = refl
  opens_beside (access.Cas (Grant d g FrameNo) old new seen) = refl
  opens_beside (access.Cas (Grant d g Flags) old new seen) = rw device refl
  opens_beside (access.Clear at mask seen) = refl

  learned_load : (b : Bool) (at : Place) (x v : ℕ) (word : Option ℕ) → word ≡ Some v → cond b (learned_there p.device (access.Load at x) word) word ≡ Some v
  learned_load true at x v word t = ap (λ (o : Option ℕ). learned_there o (access.Load at x) word) device ∙ t
  learned_load false at x v word t = t

  -- a load tells no less, and an access to another place neither
  learned_beside : (a : Access) (at : Place) (v : ℕ) → IsLoad a ⊎ (same_place (place_of a) at ≡ false) → p.told at ≡ Some v → learned p a at ≡ Some v
  learned_beside (access.Load q x) at v (inl l) t = learned_load (same_place q at) q x v (p.told at) t
  learned_beside (access.Store q x) at v (inl l) t = absurd l
  learned_beside (access.Cas q old new seen) at v (inl l) t = absurd l
  learned_beside (access.Clear q mask seen) at v (inl l) t = absurd l
  learned_beside a at v (inr apart) t =
      ap (λ (b : Bool). cond b (learned_there p.device a (p.told at)) (p.told at)) apart ∙ t

  pub known_beside : (frame : ℕ) (k : Known) (a : Access) → Leaves frames grants p a q → IsLoad a ⊎ (same_place (place_of a) (name_place dom gref) ≡ false) → IsKnown p dom gref frame k → IsKnown q dom gref frame k
  known_beside frame k a left h known = λ keeps.
      let kept = sym (left.keeps dom) ∙ keeps in
      let here = known kept in (
        λ z o e. here.0 z o (sym (left.opens dom gref kept ∙ opens_beside a) ∙ e),
        λ n. let f = here.1 n in (f.0, left.told (name_place dom gref) f.0 range kept tt (learned_beside a (name_place dom gref) f.0 h f.1)),
      )

-- the whole of it may be made, whatever is known
pub may_begin : {A : Type 0} (p : Port) (dom gref frame : ℕ) (plan start : Plan A) → KeepsTo dom gref frame nothing_known start → plan ≡ start → MayGoOn p dom gref plan
may_begin {A} p dom gref frame plan start keeps e =
    (frame, nothing_known, nothing p dom gref frame, subst (λ (x : Plan A). KeepsTo dom gref frame nothing_known x) (sym e) keeps)

-- words that are a domain's own, and what is left of a permit or an end at an entry of its
module _ {W : Type 0} (frames grants : W → ℕ → ℕ) (port : W → Port) (makes : W → Access → W → Type 0)
    (keeps_grants : (old : W) (a : Access) (new : W) → makes old a new → (d : ℕ) → grants new d ≡ grants old d)
    (leaves : (old : W) (a : Access) (new : W) → makes old a new → Leaves (frames old) (grants old) (port old) a (port new))
    (tells : (old : W) (a : Access) (new : W) → makes old a new → FindsTold (port old) a) where
  pub record IsOwning {A : Type 0} (w : W) (dom gref : ℕ) (plan : Plan A) : Type 0 where
    pub device : (port w).device ≡ None
    pub serves : (port w).serves dom ≡ true
    pub range : gref < grants w dom
    pub goes : MayGoOn (port w) dom gref plan

  pub owning_first : {A : Type 0} (w : W) (dom gref frame : ℕ) (plan start : Plan A) → (port w).device ≡ None → (port w).serves dom ≡ true → gref < grants w dom → KeepsTo dom gref frame nothing_known start → plan ≡ start → IsOwning w dom gref plan
  owning_first {A} w dom gref frame plan start device serves range keeps e =
      record {
        device = device;
        serves = serves;
        range = range;
        goes = may_begin (port w) dom gref frame plan start keeps e;
      }

  pub owning_may : {A : Type 0} (may : W → Want → Type 0) → ((w : W) (want : Want) → PortMay (frames w) (grants w) (port w) want → may w want) → (w : W) (dom gref : ℕ) (plan : Plan A) → IsOwning w dom gref plan → MayGo (may w) plan
  owning_may may allows w dom gref plan o =
      may_go_on (may w) (frames w) (grants w) (port w) dom gref plan o.goes o.range o.device o.serves (allows w)

  pub owning_next : {A : Type 0} (old new : W) (dom gref : ℕ) (plan left : Plan A) (x : Option Access) (o : Option A) → IsOwning old dom gref plan → Turns plan x o left → o ≡ None → Makes makes old x new → IsOwning new dom gref left
  owning_next old new dom gref plan left None o is t none made = absurd t
  owning_next old new dom gref plan left (Some a) (Some x) is t none made = let wrong : ⊥ = cc (none) in absurd wrong
  owning_next old new dom gref plan left (Some a) None is t none made =
      let l = leaves old a new made in
      record {
        device = l.device ∙ is.device;
        serves = l.serves dom ∙ is.serves;
        range = subst (λ n. gref < n) (sym (keeps_grants old a new made dom)) is.range;
        goes = goes_on (frames old) (grants old) (port old) (port new) dom gref plan left a is.goes is.range is.device t.0 l (tells old a new made);
      }
