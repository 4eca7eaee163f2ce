-- Plans: what an activity accesses next, whatever words it finds.
use Rattle.std.specs.Prelude.{◌≡◌, ℕ, Option, Some, None}
use Rattle.pv_words.specs.declared.place.Place.{Place}
use Rattle.pv_words.specs.declared.access.Access.{Access}
use Rattle.pv_words.specs.declared.access.Access.TheVariants as access
use Rattle.pv_words.specs.declared.grant.Hold.{Hold}

-- an access without the word that it finds
pub data Want : Type 0 where
  Load : Place → Want
  Store : Place → ℕ → Want
  Swap : Place → ℕ → ℕ → Want
  Clear : Place → ℕ → Want

abbrev pub aim_of : Want → Place
aim_of (Load at) = at
aim_of (Store at v) = at
aim_of (Swap at old new) = at
aim_of (Clear at mask) = at

abbrev pub wanted : Access → Want
wanted (access.Load at v) = Load at
wanted (access.Store at v) = Store at v
wanted (access.Cas at old new seen) = Swap at old new
wanted (access.Clear at mask seen) = Clear at mask

-- the word that an access found; of a store, which finds none, 0
abbrev pub seen_by : Access → ℕ
seen_by (access.Load at v) = v
seen_by (access.Store at v) = 0
seen_by (access.Cas at old new seen) = seen
seen_by (access.Clear at mask seen) = seen

-- the access, with the word that it found
abbrev pub found : Want → ℕ → Access
found (Load at) seen = access.Load at seen
found (Store at v) seen = access.Store at v
found (Swap at old new) seen = access.Cas at old new seen
found (Clear at mask) seen = access.Clear at mask seen

-- what an access is for
pub data Note : Type 0 where
  -- a word of a page that the device holds as a ring, or a domain's own word
  Plain : Note
  -- the exchange that is to begin a mapping of this reference
  Begins : ℕ → Note
  -- the load of the frame of the mapping of this reference that was just begun
  Frames : ℕ → Note
  -- the clear that takes a mapping back whose frame its domain doesn't have
  Undoes : Note
  -- the clear that ends this hold
  Ends : Hold → Note
  -- the load of this word, from 0 on, of the pages of the name that the device knows by this key
  Takes : ℕ → ℕ → Note
  -- the store of it
  Puts : ℕ → ℕ → Note

-- an activity: over, with a result, or an access, what it is for, and what follows each word that it may find
pub data Plan (A : Type 0) : Type 0 where
  Finished : A → Plan A
  Make : Want → Note → (ℕ → Plan A) → Plan A

-- one access leads from plan to plan
abbrev pub Goes : {A : Type 0} → Plan A → Access → Plan A → Type 0
Goes (Finished x) a new = ⊥
Goes (Make want note next) a new = (wanted a ≡ want) × (new ≡ next (seen_by a))

-- an access comes next
abbrev pub IsUnfinished : {A : Type 0} → Plan A → Type 0
IsUnfinished (Finished x) = ⊥
IsUnfinished (Make want note next) = Unit {0}

-- One step leads from plan to plan: it makes the next access, and is done, with the result, exactly where the plan is
-- finished then.
abbrev pub Turns : {A : Type 0} → Plan A → Option Access → Option A → Plan A → Type 0
Turns old None _ new = ⊥
Turns old (Some a) None new = Goes old a new × IsUnfinished new
Turns old (Some a) (Some x) new = Goes old a (Finished x)

-- what a step made of a port
abbrev pub Makes : {P : Type 0} → (P → Access → P → Type 0) → P → Option Access → P → Type 0
Makes makes old None new = new ≡ old
Makes makes old (Some a) new = makes old a new

-- the access touches no word of a name
abbrev pub IsUntouched : Note → Type 0
IsUntouched (Takes key index) = ⊥
IsUntouched (Puts key index) = ⊥
IsUntouched other = Unit {0}

-- a plan whose result is handed on
abbrev pub mapped : {A B : Type 0} → (A → B) → Plan A → Plan B
mapped f (Finished x) = Finished (f x)
mapped f (Make want note next) = Make want note (λ v. mapped f (next v))

-- one plan after another, which is chosen by the result of the first
abbrev pub joined : {A B : Type 0} → Plan A → (A → Plan B) → Plan B
joined (Finished x) more = more x
joined (Make want note next) more = Make want note (λ v. joined (next v) more)

-- the next access may be made through a port
abbrev pub MayGo : {A : Type 0} → (Want → Type 0) → Plan A → Type 0
MayGo may (Finished x) = Unit {0}
MayGo may (Make want note next) = may want

-- each access, whatever it finds, means what its note says, and the result is as Q says
abbrev pub Fits : {A : Type 0} → (Want → Note → Type 0) → (A → Type 0) → Plan A → Type 0
Fits Means Q (Finished x) = Q x
Fits Means Q (Make want note next) = Means want note × ((v : ℕ) → Fits Means Q (next v))

-- The same of what was made so far: `after` tells it after each access with the word that it found. Each access is as
-- `May` says of what was made before it, and the result is as Q says of what was made by then.
abbrev pub FitsFrom : {S A : Type 0} → (S → Want → Note → Type 0) → (S → Note → Access → S) → (S → A → Type 0) → S → Plan A → Type 0
FitsFrom May after Q s (Finished x) = Q s x
FitsFrom May after Q s (Make want note next) = May s want note × ((v : ℕ) → FitsFrom May after Q (after s note (found want v)) (next v))
