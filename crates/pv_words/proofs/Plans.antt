-- A plan of which the next access is known.
use Rattle.std.proofs.Common.{◌≡◌, ℕ, Option, Result, sym, subst}
use Rattle.pv_words.specs.declared.access.Access.{Access}
use Rattle.pv_words.specs.Plan.{Plan, Finished, Make, Want, Note, Goes, Turns, MayGo}
use Rattle.pv_words.specs.declared.grant.Hold.{Hold}
use Rattle.pv_words.specs.declared.grant.GrantRefusal.{GrantRefusal}
use Rattle.pv_words.specs.declared.grant.Mode.{Mode}
use Rattle.pv_words.specs.Mapping.{Advances, HoldsByAccess, IsAtEntry, Wins}

pub goes_from : {A : Type 0} (p : Plan A) (want : Want) (note : Note) (k : ℕ → Plan A) (a : Access) (new : Plan A) → p ≡ Make want note k → Goes (Make want note k) a new → Goes p a new
goes_from {A} p want note k a new e h = subst (λ (x : Plan A). Goes x a new) (sym e) h

pub may_from : {A : Type 0} (may : Want → Type 0) (p : Plan A) (want : Want) (note : Note) (k : ℕ → Plan A) → p ≡ Make want note k → MayGo may p → may want
may_from {A} may p want note k e h = subst (λ (x : Plan A). MayGo may x) e h

-- a step whose results are known by equations
pub advances_as : {A : Type 0} (p : Plan A) (access x : Option Access) (over y : Option A) (new q : Plan A) → access ≡ x → over ≡ y → new ≡ q → Advances p x y q → Advances p access over new
advances_as p access x over y new q a d n h = rw a (rw d (rw n h))

pub turns_as : {A : Type 0} (p : Plan A) (access x : Option Access) (over y : Option A) (new q : Plan A) → access ≡ x → over ≡ y → new ≡ q → Turns p x y q → Turns p access over new
turns_as p access x over y new q a d n h = rw a (rw d (rw n h))

pub by_access : (access x : Option Access) (over y : Option (Result Hold GrantRefusal)) → access ≡ x → over ≡ y → HoldsByAccess x y → HoldsByAccess access over
by_access access x over y a d h = rw a (rw d h)

pub at_entry : (dom gref : ℕ) (access x : Option Access) → access ≡ x → IsAtEntry dom gref x → IsAtEntry dom gref access
at_entry dom gref access x a h = rw a h

pub wins_as : (dom gref : ℕ) (mode : Mode) (over y : Option (Result Hold GrantRefusal)) → over ≡ y → Wins dom gref mode y → Wins dom gref mode over
wins_as dom gref mode over y d h = rw d h

-- through a port where any access may be made, so may the next one
pub may_any : {A : Type 0} (p : Plan A) → MayGo (λ want. Unit {0}) p
may_any (Finished x) = tt
may_any (Make want note next) = tt
