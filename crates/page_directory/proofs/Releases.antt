-- Pages that are given up, one after another.
use Rattle.std.proofs.Common.{◌≡◌, ℕ, zero, suc, ◌+◌, List, [], ◌∷◌, drop, slice_get, Some, refl, ap, ◌∙◌, arith, subst}
use Rattle.pv_words.specs.declared.access.Access.{Access}
use Rattle.pv_words.specs.declared.grant.Hold.{Hold}
use Rattle.pv_words.specs.Plan.{Plan, Want, Goes, MayGo, wanted}
use Rattle.pv_words.specs.Mapping.{unmap_want}
use Rattle.pv_words.specs.Release.{Drops, MayDrop, unmaps}

-- an element of what a list has behind its first ones
pub get_drop : {X : Type 0} (n i : ℕ) (xs : List X) → slice_get (drop n xs) i ≡ slice_get xs (n + i)
get_drop zero i xs = let e : i ≡ 0 + i = omega arith in ap (slice_get xs) e
get_drop (suc n) i [] = refl
get_drop (suc n) i (x ∷ xs) = let e : suc (n + i) ≡ suc n + i = omega arith in get_drop n i xs ∙ ap (slice_get (x ∷ xs)) e

-- the first page may be unmapped where all of them may be, one after another
pub may_first : {A : Type 0} (may : Want → Type 0) (hs : List Hold) (more : Plan A) → MayGo may (unmaps hs more) → MayDrop may hs
may_first may [] more m = tt
may_first may (h ∷ hs) more m = m

-- a port that allows each access allows this one
pub may_any : (may : Want → Type 0) (hs : List Hold) → ((want : Want) → may want) → MayDrop may hs
may_any may [] all = tt
may_any may (h ∷ hs) all = all (unmap_want h)

-- the page that may be unmapped, and what its clear makes of the list
pub may_this : (may : Want → Type 0) (hs : List Hold) (h : Hold) → slice_get hs 0 ≡ Some h → MayDrop may hs → may (unmap_want h)
may_this may [] h first m = let wrong : ⊥ = cc in absurd wrong
may_this may (k ∷ hs) h first m = let same : k ≡ h = cc in subst (λ (x : Hold). may (unmap_want x)) same m

pub drops_this : (hs left : List Hold) (h : Hold) (a : Access) → slice_get hs 0 ≡ Some h → wanted a ≡ unmap_want h → left ≡ drop 1 hs → Drops hs a left
drops_this [] left h a first clears rest = let wrong : ⊥ = cc in absurd wrong
drops_this (k ∷ hs) left h a first clears rest = let same : h ≡ k = cc in (clears ∙ ap unmap_want same, rest)

-- one page less is left
pub drops_goes : {A : Type 0} (hs left : List Hold) (a : Access) (more : Plan A) → Drops hs a left → Goes (unmaps hs more) a (unmaps left more)
drops_goes [] left a more d = absurd d
drops_goes (h ∷ hs) left a more d = (d.0, ap (λ ks. unmaps ks more) d.1)

pub drops_rest : (hs left : List Hold) (a : Access) → Drops hs a left → left ≡ drop 1 hs
drops_rest [] left a d = absurd d
drops_rest (h ∷ hs) left a d = d.1

-- a list that begins with the same page may give it up just as well
pub may_as : (may : Want → Type 0) (hs ks : List Hold) → slice_get ks 0 ≡ slice_get hs 0 → MayDrop may hs → MayDrop may ks
may_as may hs [] same m = tt
may_as may [] (k ∷ ks) same m = let wrong : ⊥ = cc in absurd wrong
may_as may (h ∷ hs) (k ∷ ks) same m = let e : h ≡ k = cc in subst (λ x. may (unmap_want x)) e m

pub drops_as : (hs ks left rest : List Hold) (a : Access) → slice_get ks 0 ≡ slice_get hs 0 → Drops hs a left → rest ≡ drop 1 ks → Drops ks a rest
drops_as [] ks left rest a same d e = absurd d
drops_as (h ∷ hs) [] left rest a same d e = let wrong : ⊥ = cc in absurd wrong
drops_as (h ∷ hs) (k ∷ ks) left rest a same d e = let f : h ≡ k = cc in (d.0 ∙ ap unmap_want f, e)
