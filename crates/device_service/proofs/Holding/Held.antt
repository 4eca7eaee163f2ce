-- What links hold, and where their accesses lie.
use Rattle.std.proofs.Common.{◌≡◌, ◌⊎◌, inl, inr, ℕ, zero, suc, ◌+◌, ◌<◌, ◌≤◌, ◌++◌, List, [], ◌∷◌, Option, Some, None, Err, length, get_or, map, slice_get, slice_set, refl, sym, ap, subst, ◌∙◌, append_assoc, arith}
use Rattle.std.proofs.lemmas.Bool.{cases_lt}
use Rattle.std.proofs.lemmas.Option.{slice_get-get_or}
use Rattle.pv_words.specs.declared.access.Access.{Access}
use Rattle.pv_words.specs.declared.grant.GrantRefusal.{GrantRefusal}
use Rattle.pv_words.specs.declared.grant.Hold.{Hold}
use Rattle.pv_words.specs.declared.place.Place.TheVariants.{Cell, Grant}
use Rattle.pv_words.specs.Held.{Has, Covers, CoversToWrite}
use Rattle.pv_words.specs.Plan.{Plan, Finished, Want, Load, Store, Swap, Clear, MayGo, wanted}
use Rattle.pv_words.specs.Mapping.{unmap_want}
use Rattle.link_core.specs.declared.link.Link.{Link}
use Rattle.link_core.specs.Activities.{pages_of, page_at, unmaps}
use Rattle.link_core.specs.Link.{held_of, joined_of, page_of, drop_left, Leads}
use Rattle.link_core.specs.Stays.{LiesIn, AccessIn}
use Rattle.link_core.proofs.Links.{page_held}
use Rattle.device_service.specs.declared.parts.Doing.{Doing}
use Rattle.device_service.specs.declared.parts.Doing.TheVariants as doing
use Rattle.device_service.specs.Doing.{all_held}
use Rattle.device_service.specs.Parts.{Drops, LeftBy, MayDrop, UndoneAs, met_links}
use Rattle.device_service.specs.Work.{all_pages, ring_hold, ring_page}
use Rattle.device_service.proofs.Lists.{within}
use Rattle.page_directory.specs.Lists.{left_nil, right_nil}

pub here : {A : Type 0} (xs : List A) (i : ℕ) (x d : A) → i < length xs → x ≡ get_or xs i d → slice_get xs i ≡ Some x
here xs i x d lt e = slice_get-get_or xs i d lt ∙ ap Some (sym e)

pub nil_of : {A : Type 0} (xs : List A) → length xs ≡ 0 → xs ≡ []
nil_of [] h = refl
nil_of (x ∷ xs) h = let wrong : ⊥ = omega (arith, h) in absurd wrong

pub cons_of : {A : Type 0} (xs : List A) → 0 < length xs → (x : A) × (ys : List A) × (xs ≡ x ∷ ys)
cons_of [] h = let wrong : ⊥ = omega (arith, h) in absurd wrong
cons_of (x ∷ xs) h = (x, xs, refl)

-- links that hold nothing
pub bare_held : (ls : List Link) → ((i : ℕ) (l : Link) → slice_get ls i ≡ Some l → length (held_of l) ≡ 0) → all_held ls ≡ []
bare_held [] h = refl
bare_held (l ∷ ls) h = ap (λ hs. hs ++ all_held ls) (nil_of (held_of l) (h 0 l refl)) ∙ bare_held ls (λ i k e. h (suc i) k e)

append_nil : {A : Type 0} (xs : List A) → xs ++ [] ≡ xs
append_nil [] = refl
append_nil (x ∷ xs) = ap (λ ys. x ∷ ys) (append_nil xs)

pub held_bare : (ls : List Link) → all_held ls ≡ [] → (i : ℕ) (l : Link) → slice_get ls i ≡ Some l → length (held_of l) ≡ 0
held_bare [] e i l g = let wrong : ⊥ = cc in absurd wrong
held_bare (k ∷ ks) e zero l g =
    let same : k ≡ l = cc in
    ap (λ (x : Link). length (held_of x)) (sym same) ∙ ap length (left_nil (held_of k) (all_held ks) e)
held_bare (k ∷ ks) e (suc i) l g = held_bare ks (right_nil (held_of k) (all_held ks) e) i l g

-- a link that holds the same changes nothing of what all hold
pub held_set : (ls : List Link) (k : ℕ) (old new : Link) → slice_get ls k ≡ Some old → held_of new ≡ held_of old → all_held (slice_set ls k new) ≡ all_held ls
held_set [] k old new e h = let wrong : ⊥ = cc in absurd wrong
held_set (x ∷ xs) zero old new e h =
    let same : old ≡ x = cc in
    ap (λ (hs : List Hold). hs ++ all_held xs) (h ∙ ap held_of same)
held_set (x ∷ xs) (suc k) old new e h = ap (λ (hs : List Hold). held_of x ++ hs) (held_set xs k old new e h)

-- links that are all joined hold the pages of what they are joined to
pub joined_held : (ls : List Link) → ((i : ℕ) (l : Link) → slice_get ls i ≡ Some l → held_of l ≡ pages_of (joined_of l)) → all_held ls ≡ all_pages (map joined_of ls)
joined_held [] h = refl
joined_held (l ∷ ls) h =
    ap (λ hs. hs ++ all_held ls) (h 0 l refl) ∙ ap (λ hs. pages_of (joined_of l) ++ hs) (joined_held ls (λ i k e. h (suc i) k e))

-- those before a part are joined, those after it hold nothing
pub held_so_far : (ls : List Link) (part : ℕ) (new : Link) → part < length ls → ((i : ℕ) (l : Link) → slice_get ls i ≡ Some l → i < part → held_of l ≡ pages_of (joined_of l)) → ((i : ℕ) (l : Link) → slice_get ls i ≡ Some l → part + 1 ≤ i → length (held_of l) ≡ 0) → all_held (slice_set ls part new) ≡ all_pages (met_links part ls) ++ held_of new
held_so_far [] part new h met none = absurd (omega arith)
held_so_far (l ∷ ls) zero new h met none =
    ap (λ hs. held_of new ++ hs) (bare_held ls (λ i k e. none (suc i) k e (omega arith))) ∙ append_nil (held_of new)
held_so_far (l ∷ ls) (suc part) new h met none =
    ap (λ hs. hs ++ all_held (slice_set ls part new)) (met 0 l refl (omega arith))
    ∙ (ap (λ hs. pages_of (joined_of l) ++ hs) (held_so_far ls part new (omega arith) (λ i k e b. met (suc i) k e (omega arith)) (λ i k e b. none (suc i) k e (omega arith)))
    ∙ sym (append_assoc (pages_of (joined_of l)) (all_pages (met_links part ls)) (held_of new)))

-- the first link that holds a page drops its first one
pub first_drop : (ls : List Link) (k : ℕ) (l new : Link) (h : Hold) (hs : List Hold) → slice_get ls k ≡ Some l → ((i : ℕ) (b : Link) → i < k → slice_get ls i ≡ Some b → length (held_of b) ≡ 0) → held_of l ≡ h ∷ hs → held_of new ≡ hs → all_held ls ≡ h ∷ all_held (slice_set ls k new)
first_drop [] k l new h hs e none old left = let wrong : ⊥ = cc in absurd wrong
first_drop (x ∷ xs) zero l new h hs e none old left =
    let same : x ≡ l = cc in
    ap (λ (y : Link). held_of y ++ all_held xs) same ∙ (ap (λ (ps : List Hold). ps ++ all_held xs) old ∙ ap (λ (ps : List Hold). h ∷ (ps ++ all_held xs)) (sym left))
first_drop (x ∷ xs) (suc k) l new h hs e none old left =
    let bare : held_of x ≡ [] = nil_of (held_of x) (none 0 x (omega arith) refl) in
    let rest : all_held xs ≡ h ∷ all_held (slice_set xs k new) = first_drop xs k l new h hs e (λ i b lt g. none (suc i) b (omega arith) g) old left in
    ap (λ ps. ps ++ all_held xs) bare ∙ (rest ∙ ap (λ ps. h ∷ (ps ++ all_held (slice_set xs k new))) (sym bare))

first_here : (ls : List Link) (k : ℕ) (l : Link) (h : Hold) (hs : List Hold) → slice_get ls k ≡ Some l → ((i : ℕ) (b : Link) → i < k → slice_get ls i ≡ Some b → length (held_of b) ≡ 0) → held_of l ≡ h ∷ hs → (rest : List Hold) × (all_held ls ≡ h ∷ rest)
first_here [] k l h hs e none old = let wrong : ⊥ = cc in absurd wrong
first_here (x ∷ xs) zero l h hs e none old =
    let same : x ≡ l = cc in
    (hs ++ all_held xs, ap (λ (y : Link). held_of y ++ all_held xs) same ∙ ap (λ (ps : List Hold). ps ++ all_held xs) old)
first_here (x ∷ xs) (suc k) l h hs e none old =
    let bare : held_of x ≡ [] = nil_of (held_of x) (none 0 x (omega arith) refl) in
    let more = first_here xs k l h hs e (λ i b lt g. none (suc i) b (omega arith) g) old in
    (more.0, ap (λ ps. ps ++ all_held xs) bare ∙ more.1)

pub may_drop : (may : Want → Type 0) (ls : List Link) (k : ℕ) (l : Link) → slice_get ls k ≡ Some l → ((i : ℕ) (b : Link) → i < k → slice_get ls i ≡ Some b → length (held_of b) ≡ 0) → 0 < length (held_of l) → MayDrop may (all_held ls) → MayGo may (drop_left l)
unfolding drop_left
may_drop may ls k l g none some h =
    let c = cons_of (held_of l) some in
    let all = first_here ls k l c.0 c.1 g none c.2 in
    let first : may (unmap_want c.0) = subst (λ hs. MayDrop may hs) all.1 h in
    subst (λ hs. MayGo may (unmaps hs (Finished tt))) (sym c.2) first

cleared : (access : Option Access) (end : Option (Unit {0})) (q : Plan (Unit {0})) (h : Hold) (hs : List Hold) → Leads (unmaps (h ∷ hs) (Finished tt)) access end q → (a : Access) × (access ≡ Some a) × (wanted a ≡ unmap_want h)
cleared None None q h hs t = absurd t
cleared None (Some u) q h hs t = let wrong : ⊥ = cc in absurd wrong
cleared (Some a) None q h hs t = (a, refl, t.0.0)
cleared (Some a) (Some u) q h hs t = (a, refl, t.0)

-- an unmap clears what the first page's mapping set
pub drop_clears : (l : Link) (access : Option Access) (end : Option (Unit {0})) (q : Plan (Unit {0})) (h : Hold) (hs : List Hold) → held_of l ≡ h ∷ hs → Leads (drop_left l) access end q → (a : Access) × (access ≡ Some a) × (wanted a ≡ unmap_want h)
unfolding drop_left
drop_clears l access end q h hs e t = cleared access end q h hs (subst (λ ps. Leads (unmaps ps (Finished tt)) access end q) e t)

-- what a link shows of the ring's page and its index
pub page_shown : (l : Link) → length (held_of l) ≡ 2 → page_of l ≡ ring_page (joined_of l)
page_shown l h =
    let p = page_held l h in
    p.2 ∙ ap (λ o. page_at (ring_hold (joined_of l).event o)) (sym p.1)

-- accesses that lie in the pages of one link lie in those of all
has_left : {A : Type 0} (P : A → Type 0) (xs ys : List A) → Has P xs → Has P (xs ++ ys)
has_left P [] ys h = absurd h
has_left P (x ∷ xs) ys (inl p) = inl p
has_left P (x ∷ xs) ys (inr h) = inr (has_left P xs ys h)

pub has_right : {A : Type 0} (P : A → Type 0) (xs ys : List A) → Has P ys → Has P (xs ++ ys)
has_right P [] ys h = h
has_right P (x ∷ xs) ys h = inr (has_right P xs ys h)

has_all : (P : Hold → Type 0) (ls : List Link) (k : ℕ) (l : Link) → slice_get ls k ≡ Some l → Has P (held_of l) → Has P (all_held ls)
has_all P [] k l e h = let wrong : ⊥ = cc in absurd wrong
has_all P (x ∷ xs) zero l e h =
    let same : x ≡ l = cc in
    has_left P (held_of x) (all_held xs) (subst (λ (y : Link). Has P (held_of y)) (sym same) h)
has_all P (x ∷ xs) (suc k) l e h = has_right P (held_of x) (all_held xs) (has_all P xs k l e h)

lies_all : (want : Want) (ls : List Link) (k : ℕ) (l : Link) → slice_get ls k ≡ Some l → LiesIn (held_of l) want → LiesIn (all_held ls) want
lies_all (Load (Cell d f w)) ls k l e h = has_all (Covers d.0 f.0) ls k l e h
lies_all (Store (Cell d f w) v) ls k l e h = has_all (CoversToWrite d.0 f.0) ls k l e h
lies_all (Swap (Cell d f w) old new) ls k l e h = has_all (CoversToWrite d.0 f.0) ls k l e h
lies_all (Clear (Cell d f w) mask) ls k l e h = has_all (CoversToWrite d.0 f.0) ls k l e h
lies_all (Load (Grant d g half)) ls k l e h = tt
lies_all (Store (Grant d g half) v) ls k l e h = tt
lies_all (Swap (Grant d g half) old new) ls k l e h = tt
lies_all (Clear (Grant d g half) mask) ls k l e h = tt

pub in_all : (access : Option Access) (ls : List Link) (k : ℕ) (l : Link) → slice_get ls k ≡ Some l → AccessIn (held_of l) access → AccessIn (all_held ls) access
in_all None ls k l e h = tt
in_all (Some a) ls k l e h = lies_all (wanted a) ls k l e h

-- an unmap accesses no page
pub in_unmap : (pages : List Hold) (access : Option Access) (a : Access) (h : Hold) → access ≡ Some a → wanted a ≡ unmap_want h → AccessIn pages access
in_unmap pages access a h e w = rw e (rw w tt)

-- the first link that holds a page, by its place
abbrev pub NoneBefore : List Link → ℕ → Type 0
NoneBefore ls k = (i : ℕ) (l : Link) → i < k → slice_get ls i ≡ Some l → length (held_of l) ≡ 0

pub within_held : (ls : List Link) (k : ℕ) → NoneBefore ls k → (k < length ls) ⊎ (all_held ls ≡ [])
within_held ls k none = elim (cases_lt k (length ls)) [ inl lt ↦ inl lt | inr ge ↦ inr (bare_held ls (λ i l e. none i l (omega (arith, ge, within ls i l e)) e)) ]

pub held_here : (ls : List Link) (k : ℕ) (l d : Link) → 0 < length (all_held ls) → NoneBefore ls k → l ≡ get_or ls k d → slice_get ls k ≡ Some l
held_here ls k l d some none e = elim (within_held ls k none) [ inl lt ↦ here ls k l d lt e | inr bare ↦ absurd (omega (arith, some, ap length bare)) ]

pub same_access : {a b : Access} → Some a ≡ Some b → a ≡ b
same_access e = cc

pub drops_as : (held : List Hold) (h : Hold) (left : List Hold) (a : Access) → held ≡ h ∷ left → wanted a ≡ unmap_want h → Drops held a left
drops_as held h left a e w = subst (λ hs. Drops hs a left) (sym e) (w, refl)

pub bare_from : (ls : List Link) (k : ℕ) → length ls ≤ k → NoneBefore ls k → all_held ls ≡ []
bare_from ls k past none = bare_held ls (λ i l e. none i l (omega (arith, past, within ls i l e)) e)

-- whether a page is left of a refused Connect
pub still_held : (why : GrantRefusal) (hs : List Hold) (d : Doing) → 0 < length hs → d ≡ doing.Undoing why → UndoneAs why hs None × LeftBy why hs d
still_held why [] d some e = absurd (omega (arith, some))
still_held why (h ∷ hs) d some e = (refl, e)

pub none_held : (why : GrantRefusal) (hs : List Hold) → length hs ≡ 0 → UndoneAs why hs (Some (Err why)) × LeftBy why hs doing.Bare
none_held why [] none = (refl, refl)
none_held why (h ∷ hs) none = absurd (omega (arith, none))
