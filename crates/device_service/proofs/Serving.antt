-- Where the accesses of a backend that serves lie, and what its parts are then.
use Rattle.std.proofs.Common.{◌≡◌, inl, inr, ℕ, ◌<◌, ◌++◌, Bool, true, List, [], ◌∷◌, Option, Some, None, is_some, slice_get, refl, sym, ap, subst, ◌∙◌}
use Rattle.std.proofs.lemmas.Bool.{false≢true}
use Rattle.pv_words.specs.declared.place.Place.TheVariants.{Cell, Grant}
use Rattle.pv_words.specs.declared.access.Access.{Access}
use Rattle.pv_words.specs.declared.grant.Hold.{Hold}
use Rattle.pv_words.specs.Held.{Has, Covers, CoversToWrite}
use Rattle.pv_words.specs.Plan.{Want, Load, Store, Swap, Clear, wanted}
use Rattle.link_core.specs.Activities.{Joined}
use Rattle.link_core.specs.Stays.{AccessIn, LiesIn}
use Rattle.device_service.specs.declared.backend.Activity.{Activity}
use Rattle.device_service.specs.declared.backend.Activity.TheVariants as activity
use Rattle.device_service.specs.declared.parts.Doing.{Doing}
use Rattle.device_service.specs.declared.parts.Doing.TheVariants as doing
use Rattle.device_service.specs.declared.parts.Parts.{Parts}
use Rattle.device_service.specs.declared.round.Hand.{Hand}
use Rattle.device_service.specs.Activity.{StandsAs, hand_part, resting}
use Rattle.device_service.specs.Doing.{is_open, uses_ring}
use Rattle.device_service.specs.Moves.{is_asleep}
use Rattle.device_service.specs.Nodes.{Ringed}
use Rattle.device_service.specs.Parts.{count_of, doing_of, joined_of, kind_in, kind_of}
use Rattle.device_service.specs.Waits.{WaitAt}
use Rattle.device_service.proofs.Lists.{got}
use Rattle.device_service.proofs.PartsLaws.{joined_count}

has_before : {A : Type 0} (P : A → Type 0) (xs ys : List A) → Has P xs → Has P (xs ++ ys)
has_before P [] ys h = absurd h
has_before P (x ∷ xs) ys (inl p) = inl p
has_before P (x ∷ xs) ys (inr h) = inr (has_before P xs ys h)

has_last : {A : Type 0} (P : A → Type 0) (xs ys : List A) → Has P ys → Has P (xs ++ ys)
has_last P [] ys h = h
has_last P (x ∷ xs) ys h = inr (has_last P xs ys h)

lies_first : (want : Want) (xs ys : List Hold) → LiesIn xs want → LiesIn (xs ++ ys) want
lies_first (Load (Cell d f w)) xs ys h = has_before (Covers d.0 f.0) xs ys h
lies_first (Store (Cell d f w) v) xs ys h = has_before (CoversToWrite d.0 f.0) xs ys h
lies_first (Swap (Cell d f w) old new) xs ys h = has_before (CoversToWrite d.0 f.0) xs ys h
lies_first (Clear (Cell d f w) mask) xs ys h = has_before (CoversToWrite d.0 f.0) xs ys h
lies_first (Load (Grant d g half)) xs ys h = tt
lies_first (Store (Grant d g half) v) xs ys h = tt
lies_first (Swap (Grant d g half) old new) xs ys h = tt
lies_first (Clear (Grant d g half) mask) xs ys h = tt

lies_last : (want : Want) (xs ys : List Hold) → LiesIn ys want → LiesIn (xs ++ ys) want
lies_last (Load (Cell d f w)) xs ys h = has_last (Covers d.0 f.0) xs ys h
lies_last (Store (Cell d f w) v) xs ys h = has_last (CoversToWrite d.0 f.0) xs ys h
lies_last (Swap (Cell d f w) old new) xs ys h = has_last (CoversToWrite d.0 f.0) xs ys h
lies_last (Clear (Cell d f w) mask) xs ys h = has_last (CoversToWrite d.0 f.0) xs ys h
lies_last (Load (Grant d g half)) xs ys h = tt
lies_last (Store (Grant d g half) v) xs ys h = tt
lies_last (Swap (Grant d g half) old new) xs ys h = tt
lies_last (Clear (Grant d g half) mask) xs ys h = tt

-- an access in one of the service's pages, and one in a page of the parts
pub in_service : (xs ys : List Hold) (access : Option Access) → AccessIn xs access → AccessIn (xs ++ ys) access
in_service xs ys None h = tt
in_service xs ys (Some a) h = lies_first (wanted a) xs ys h

pub in_parts : (xs ys : List Hold) (access : Option Access) → AccessIn ys access → AccessIn (xs ++ ys) access
in_parts xs ys None h = tt
in_parts xs ys (Some a) h = lies_last (wanted a) xs ys h

-- between two activities of a connected backend all parts rest
pub open_between : (a : Activity) (o : Bool) (d : Doing) (at : ℕ) (hand : Option Hand) → a ≡ activity.Between → o ≡ true → StandsAs a o d at hand → d ≡ doing.Open
open_between a o d at hand e p h =
    let rests : d ≡ resting o = subst (λ (x : Activity). StandsAs x o d at hand) e h in
    rests ∙ ap resting p

pub open_in : (p : Parts) → doing_of p ≡ doing.Open → is_open (doing_of p) ≡ true
open_in p e = ap is_open e

-- a part that is there is joined
pub joined_at : (p : Parts) (k : ℕ) → is_open (doing_of p) ≡ true → k < count_of p → (j : Joined) × (slice_get (joined_of p) k ≡ Some j)
joined_at p k o lt = got (joined_of p) k (subst (λ n. k < n) (sym (joined_count p o)) lt)

-- the request in hand is of a part that is there
pub hand_within : (o : Option Hand) (n : ℕ) → is_some o ≡ true → ((h : Hand) → o ≡ Some h → h.part < n) → hand_part o < n
hand_within None n e h = absurd (false≢true e)
hand_within (Some x) n e h = h x refl

-- parts whose ring is in use have rings
pub rings_in_use : (p : Parts) → uses_ring (doing_of p) ≡ true → kind_of p ≡ Ringed
unfolding doing_of kind_of
rings_in_use p e = ap kind_in (p.whole.rung e)

-- so does a Sleep
pub rings_asleep : (d : Doing) → is_asleep d ≡ true → uses_ring d ≡ true
rings_asleep (doing.Sleeping part) e = refl
rings_asleep (doing.Taking part) e = refl
rings_asleep (doing.Answering part) e = refl
rings_asleep (doing.Raising part) e = absurd (false≢true e)
rings_asleep doing.Bare e = absurd (false≢true e)
rings_asleep (doing.Connecting part) e = absurd (false≢true e)
rings_asleep (doing.Undoing why) e = absurd (false≢true e)
rings_asleep doing.Open e = absurd (false≢true e)
rings_asleep doing.Dropping e = absurd (false≢true e)

pub waits_first : {V : Type 0} (at : V → ℕ) (n : ℕ) (es : List V) (e : V) → WaitAt at n es → slice_get es 0 ≡ Some e → at e < n
waits_first at n [] e w h = let wrong : ⊥ = cc in absurd wrong
waits_first at n (x ∷ es) e w h = let same : x ≡ e = cc in subst (λ y. at y < n) same w.0
