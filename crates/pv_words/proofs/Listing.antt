-- A port lists the mappings of a device, from access to access.
use Rattle.std.proofs.Common.{◌≡◌, ◌≢◌, ◌⊎◌, inl, inr, ℕ, ◌+◌, ◌==◌, ◌&&◌, ◌≤◌, Bool, true, false, cond, nat_lt, List, [], ◌∷◌, ◌++◌, Option, Some, None, refl, sym, ◌∙◌, ap, subst, arith}
use Rattle.std.proofs.lemmas.Bool.Decides.{Decides-eqb}
use Rattle.std.proofs.lemmas.Bool.{false≢true, ne_eqb}
use Rattle.pv_words.specs.declared.place.Place.{Place}
use Rattle.pv_words.specs.declared.place.Place.TheVariants.{Cell, Grant}
use Rattle.pv_words.specs.declared.place.Half.TheVariants.{Flags, FrameNo}
use Rattle.pv_words.specs.declared.place.Who.{Who}
use Rattle.pv_words.specs.declared.access.Access.{Access}
use Rattle.pv_words.specs.declared.access.Access.TheVariants as access
use Rattle.pv_words.specs.declared.grant.Hold.{Hold}
use Rattle.pv_words.specs.declared.grant.Mode.{Mode}
use Rattle.pv_words.specs.declared.grant.Mode.TheVariants.{Read, Write}
use Rattle.pv_words.specs.Held.{Begun, Holds, Has, Covers, CoversToWrite, Marks, MarksPage, Stays, IsFor, IsProper, Names, holding, holds_of, in_use, same_hold, same_mode, begins, passed, kept, exchanged, framed, cleared, unheld, unmissed}
use Rattle.pv_words.specs.Place.{InRange, domain_of}
use Rattle.pv_words.specs.Plan.{Want, Load, Store, Swap, Clear, Note, Undoes, Ends, aim_of, wanted}
use Rattle.pv_words.specs.Port.{Port, PortMay, Leaves, Turned, Listing, Lists, IsFree, IsListed, KeepsNone, Cleared, Owns, IsUnkept, OwnsAny, OwnsKept, OwnsBy, MayFor, no_listing, listing, listed_after, settled, without_all, rest_of, marks, marks_page, is_of, number_of, count, begun_list, mappings}

-- one of a list, by itself
module _ {A : Type 0} where
  found_in : (P : A → Type 0) (xs : List A) → Has P xs → (x : A) × (P x) × Has (λ y. y ≡ x) xs
  found_in P [] h = absurd h
  found_in P (x ∷ xs) (inl p) = (x, p, inl refl)
  found_in P (x ∷ xs) (inr h) = let r = found_in P xs h in (r.0, r.1, inr r.2)

  stands : (P : A → Type 0) (x : A) (xs : List A) → P x → Has (λ y. y ≡ x) xs → Has P xs
  stands P x [] p h = absurd h
  stands P x (y ∷ ys) p (inl e) = inl (subst P (sym e) p)
  stands P x (y ∷ ys) p (inr h) = inr (stands P x ys p h)

  abbrev Among : List A → List A → Type 0
  Among xs ys = (x : A) → Has (λ y. y ≡ x) xs → Has (λ y. y ≡ x) ys

  has_among : (P : A → Type 0) (xs ys : List A) → Among xs ys → Has P xs → Has P ys
  has_among P xs ys among h = let r = found_in P xs h in stands P r.0 ys r.1 (among r.0 r.2)

  has_before : (P : A → Type 0) (xs ys : List A) → Has P xs → Has P (xs ++ ys)
  has_before P [] ys h = absurd h
  has_before P (x ∷ xs) ys (inl p) = inl p
  has_before P (x ∷ xs) ys (inr h) = inr (has_before P xs ys h)

  has_last : (P : A → Type 0) (xs ys : List A) → Has P ys → Has P (xs ++ ys)
  has_last P [] ys h = h
  has_last P (x ∷ xs) ys h = inr (has_last P xs ys h)

  has_cases : (P : A → Type 0) (xs ys : List A) → Has P (xs ++ ys) → Has P xs ⊎ Has P ys
  has_cases P [] ys h = inr h
  has_cases P (x ∷ xs) ys (inl p) = inl (inl p)
  has_cases P (x ∷ xs) ys (inr h) = cases (has_cases P xs ys h)
    where
      cases : Has P xs ⊎ Has P ys → (P x ⊎ Has P xs) ⊎ Has P ys
      cases (inl a) = inl (inr a)
      cases (inr b) = inr b

  among_push : (xs ys : List A) (z : A) → Among xs ys → Among (xs ++ z ∷ []) (ys ++ z ∷ [])
  among_push xs ys z among x h = cases (has_cases (λ y. y ≡ x) xs (z ∷ []) h)
    where
      cases : Has (λ y. y ≡ x) xs ⊎ Has (λ y. y ≡ x) (z ∷ []) → Has (λ y. y ≡ x) (ys ++ z ∷ [])
      cases (inl a) = has_before (λ y. y ≡ x) ys (z ∷ []) (among x a)
      cases (inr b) = has_last (λ y. y ≡ x) ys (z ∷ []) b

  module _ (test : A → Bool) where
    count_append : (xs ys : List A) → count test (xs ++ ys) ≡ count test xs + count test ys
    count_append [] ys = omega arith
    count_append (x ∷ xs) ys = omega (arith, count_append xs ys)

    none_of : (b : Bool) → number_of b ≡ 0 → b ≡ false
    none_of true e = absurd (omega arith)
    none_of false e = refl

    -- where none passes, this one doesn't
    fails : (xs : List A) (x : A) → count test xs ≡ 0 → Has (λ y. y ≡ x) xs → test x ≡ false
    fails [] x e h = absurd h
    fails (y ∷ ys) x e (inl i) = sym (ap test i) ∙ none_of (test y) (omega arith)
    fails (y ∷ ys) x e (inr h) = fails ys x (omega arith) h

    -- the rest has each one that doesn't pass
    rest_by : (t : Bool) (y x : A) (ys : List A) → test y ≡ t → test x ≡ false → (Has (λ z. z ≡ x) ys → Has (λ z. z ≡ x) (rest_of test ys)) → Has (λ z. z ≡ x) (y ∷ ys) → Has (λ z. z ≡ x) (cond t (rest_of test ys) (y ∷ rest_of test ys))
    rest_by true y x ys e f more (inl i) = absurd (false≢true (sym f ∙ (sym (ap test i) ∙ e)))
    rest_by true y x ys e f more (inr h) = more h
    rest_by false y x ys e f more (inl i) = inl i
    rest_by false y x ys e f more (inr h) = inr (more h)

    rest_has : (ys : List A) (x : A) → test x ≡ false → Has (λ z. z ≡ x) ys → Has (λ z. z ≡ x) (rest_of test ys)
    rest_has [] x f h = absurd h
    rest_has (y ∷ ys) x f h = rest_by (test y) y x ys refl f (rest_has ys x f) h

    none_by : (t : Bool) (y : A) (ys : List A) → test y ≡ t → count test (rest_of test ys) ≡ 0 → count test (cond t (rest_of test ys) (y ∷ rest_of test ys)) ≡ 0
    none_by true y ys e n = n
    none_by false y ys e n = rw e (omega (arith, n))

    none_left : (ys : List A) → count test (rest_of test ys) ≡ 0
    none_left [] = refl
    none_left (y ∷ ys) = none_by (test y) y ys refl (none_left ys)

    same_by : (other : A → Bool) (t : Bool) (y : A) (ys : List A) → test y ≡ t → (test y ≡ true → other y ≡ false) → count other (rest_of test ys) ≡ count other ys → count other (cond t (rest_of test ys) (y ∷ rest_of test ys)) ≡ number_of (other y) + count other ys
    same_by other true y ys e apart n = let f : other y ≡ false = apart e in rw f (omega (arith, n))
    same_by other false y ys e apart n = omega (arith, n)

    -- and as many that pass another test, which none passes with this one
    same_left : (other : A → Bool) → ((y : A) → test y ≡ true → other y ≡ false) → (ys : List A) → count other (rest_of test ys) ≡ count other ys
    same_left other apart [] = refl
    same_left other apart (y ∷ ys) = same_by other (test y) y ys refl (apart y) (same_left other apart ys)

-- two numbers as a test
parts : (a b : Bool) → (a && b) ≡ true → (a ≡ true) × (b ≡ true)
parts true b e = (refl, e)
parts false b e = absurd (false≢true e)

whole : (a b : Bool) → a ≡ true → b ≡ true → (a && b) ≡ true
whole a b x y = rw x y

same : (n m : ℕ) → (n == m) ≡ true → n ≡ m
same n m e = (Decides-eqb n m).0 e

same_self : (n : ℕ) → (n == n) ≡ true
same_self n = (Decides-eqb n n).1 refl

pair : (n g k m : ℕ) → n ≡ g → k ≡ m → ((n == g) && (k == m)) ≡ true
pair n g k m e f = whole (n == g) (k == m) ((Decides-eqb n g).1 e) ((Decides-eqb k m).1 f)

-- two tests are of the same numbers, or nothing passes both
abbrev Apart : ℕ → ℕ → ℕ → ℕ → Type 0
Apart g m i j = (n k : ℕ) → ((n == g) && (k == m)) ≡ true → ((n == i) && (k == j)) ≡ false

apart_first : (g m i j : ℕ) → (g == i) ≡ false → Apart g m i j
apart_first g m i j e n k h =
    let p = parts (n == g) (k == m) h in
    let s : n ≡ g = same n g p.0 in
    rw s (rw e refl)

apart_second : (g m i j : ℕ) → (m == j) ≡ false → Apart g m i j
apart_second g m i j e n k h =
    let p = parts (n == g) (k == m) h in
    let s : k ≡ m = same k m p.1 in
    rw s (rw e (no (n == i)))
  where
    no : (b : Bool) → (b && false) ≡ false
    no true = refl
    no false = refl

one_or_apart : (g m i j : ℕ) → ((g ≡ i) × (m ≡ j)) ⊎ Apart g m i j
one_or_apart g m i j = by (g == i) (m == j) refl refl
  where
    by : (a b : Bool) → (g == i) ≡ a → (m == j) ≡ b → ((g ≡ i) × (m ≡ j)) ⊎ Apart g m i j
    by true true x y = inl (same g i x, same m j y)
    by true false x y = inr (apart_second g m i j y)
    by false b x y = inr (apart_first g m i j x)

-- which mappings the bits of a clear are of
abbrev Bits : ℕ → ℕ → Cleared
Bits g m = record { gref = g; mask = m }

-- a mapping of these bits counts with those of the same bits
page_counts : (g m i j : ℕ) (k : Hold) → MarksPage g m k → marks_page i j k ≡ is_of i j (Bits g m)
page_counts g m i j k h = ap (λ n. (n == i) && (in_use k.mode == j)) h.0 ∙ ap (λ n. (g == i) && (n == j)) h.1

begun_counts : (g m i j : ℕ) (b : Begun) → Marks g m b → marks i j b ≡ is_of i j (Bits g m)
begun_counts g m i j b h = ap (λ n. (n == i) && (in_use b.mode == j)) h.0 ∙ ap (λ n. (g == i) && (n == j)) h.1

-- the mapping just begun, when it gets no page
passed_counts : (test : Begun → Bool) (o : Option Begun) (xs : List Begun) → count test (passed o xs) ≡ count test (begun_list o) + count test xs
passed_counts test None xs = omega arith
passed_counts test (Some b) xs = omega (arith, count_append test xs (b ∷ []))

passed_among : (o : Option Begun) (xs ys : List Begun) → Among xs ys → Among (passed o xs) (passed o ys)
passed_among None xs ys among = among
passed_among (Some b) xs ys among = among_push xs ys b among

passed_has : (P : Begun → Type 0) (o : Option Begun) (xs : List Begun) → Has P xs → Has P (passed o xs)
passed_has P None xs h = h
passed_has P (Some b) xs h = has_before P xs (b ∷ []) h

-- a listing of these mappings and clears
abbrev List_of : Holds → List Cleared → Listing
List_of m cs = record { mapped = m; clears = cs }

-- what both become where nothing is cleared, and another mapping is perhaps begun
exchanged_counts : (i j : ℕ) (h : Holds) (b : Option Begun) → mappings i j (exchanged h b) ≡ mappings i j h + count (marks i j) (begun_list b)
exchanged_counts i j h b = omega (arith, passed_counts (marks i j) h.begun h.missed)

exchanged_lists : (m h : Holds) (cs : List Cleared) (b : Option Begun) → Lists (List_of m cs) h → Lists (List_of (exchanged m b) cs) (exchanged h b)
exchanged_lists m h cs b l = record {
  begun = refl;
  held = l.held;
  missed = subst (λ o. Among (passed h.begun h.missed) (passed o m.missed)) (sym l.begun) (passed_among h.begun h.missed m.missed l.missed);
  enough = λ i j. omega (arith, exchanged_counts i j h b, exchanged_counts i j m b, l.enough i j);
}

kept_lists : (m h : Holds) (cs : List Cleared) → Lists (List_of m cs) h → Lists (List_of (kept m) cs) (kept h)
kept_lists m h cs l = exchanged_lists m h cs None l

-- the page of the mapping just begun
abbrev Page : ℕ → ℕ → ℕ → Mode → Hold
Page dom gref frame mode = record { dom = record { 0 = dom }; gref = record { 0 = gref }; frame = record { 0 = frame }; mode = mode }

abbrev Paged : Holds → Hold → Holds
Paged h k = record { held = h.held ++ k ∷ []; begun = None; missed = h.missed }

paged_counts : (i j dom gref frame : ℕ) (h : Holds) (b : Begun) → h.begun ≡ Some b → b.gref ≡ gref → mappings i j (Paged h (Page dom gref frame b.mode)) ≡ mappings i j h
paged_counts i j dom gref frame h b e g =
    let begun : count (marks i j) (begun_list h.begun) ≡ number_of (marks i j b) + 0 = ap (λ o. count (marks i j) (begun_list o)) e in
    let one : number_of (marks_page i j (Page dom gref frame b.mode)) ≡ number_of (marks i j b) = ap (λ n. number_of ((n == i) && (in_use b.mode == j))) (sym g) in
    omega (arith, count_append (marks_page i j) h.held (Page dom gref frame b.mode ∷ []), begun, one)

paged_lists : (m h : Holds) (cs : List Cleared) (b : Begun) (dom gref frame : ℕ) → h.begun ≡ Some b → b.gref ≡ gref → Lists (List_of m cs) h → Lists (List_of (Paged m (Page dom gref frame b.mode)) cs) (Paged h (Page dom gref frame b.mode))
paged_lists m h cs b dom gref frame e g l = record {
  begun = refl;
  held = among_push h.held m.held (Page dom gref frame b.mode) l.held;
  missed = l.missed;
  enough = λ i j. omega (arith, paged_counts i j dom gref frame h b e g, paged_counts i j dom gref frame m b (l.begun ∙ e) g, l.enough i j);
}

framed_by : (t : Bool) (m h : Holds) (cs : List Cleared) (b : Begun) (dom gref frame : ℕ) → (t ≡ true → b.gref ≡ gref) → h.begun ≡ Some b → Lists (List_of m cs) h → Lists (List_of (cond t (Paged m (Page dom gref frame b.mode)) (kept m)) cs) (cond t (Paged h (Page dom gref frame b.mode)) (kept h))
framed_by true m h cs b dom gref frame s e l = paged_lists m h cs b dom gref frame e (s refl) l
framed_by false m h cs b dom gref frame s e l = kept_lists m h cs l

framed_same : (frames : ℕ → ℕ) (m h : Holds) (cs : List Cleared) (dom gref frame : ℕ) (o : Option Begun) → h.begun ≡ o → Lists (List_of m cs) h → Lists (List_of (framed frames m dom gref frame o) cs) (framed frames h dom gref frame o)
framed_same frames m h cs dom gref frame None e l = kept_lists m h cs l
framed_same frames m h cs dom gref frame (Some b) e l =
    framed_by ((b.gref == gref) && nat_lt frame (frames dom)) m h cs b dom gref frame (λ t. same b.gref gref (parts (b.gref == gref) (nat_lt frame (frames dom)) t).0) e l

framed_lists : (frames : ℕ → ℕ) (m h : Holds) (cs : List Cleared) (dom gref frame : ℕ) → Lists (List_of m cs) h → Lists (List_of (framed frames m dom gref frame m.begun) cs) (framed frames h dom gref frame h.begun)
framed_lists frames m h cs dom gref frame l =
    subst (λ o. Lists (List_of (framed frames m dom gref frame o) cs) (framed frames h dom gref frame h.begun)) (sym l.begun) (framed_same frames m h cs dom gref frame h.begun refl l)

-- one page fewer
same_mode_self : (m : Mode) → same_mode m m ≡ true
same_mode_self Read = refl
same_mode_self Write = refl

same_mode_is : (m n : Mode) → same_mode m n ≡ true → m ≡ n
same_mode_is Read Read e = refl
same_mode_is Read Write e = absurd (false≢true e)
same_mode_is Write Read e = absurd (false≢true e)
same_mode_is Write Write e = refl

same_hold_self : (k : Hold) → same_hold k k ≡ true
same_hold_self k =
    whole (k.dom.0 == k.dom.0) ((k.gref.0 == k.gref.0) && ((k.frame.0 == k.frame.0) && same_mode k.mode k.mode)) (same_self k.dom.0)
    (whole (k.gref.0 == k.gref.0) ((k.frame.0 == k.frame.0) && same_mode k.mode k.mode) (same_self k.gref.0)
    (whole (k.frame.0 == k.frame.0) (same_mode k.mode k.mode) (same_self k.frame.0) (same_mode_self k.mode)))

same_hold_marks : (i j : ℕ) (h k : Hold) → same_hold h k ≡ true → marks_page i j h ≡ marks_page i j k
same_hold_marks i j h k e =
    let a = parts (h.dom.0 == k.dom.0) ((h.gref.0 == k.gref.0) && ((h.frame.0 == k.frame.0) && same_mode h.mode k.mode)) e in
    let b = parts (h.gref.0 == k.gref.0) ((h.frame.0 == k.frame.0) && same_mode h.mode k.mode) a.1 in
    let c = parts (h.frame.0 == k.frame.0) (same_mode h.mode k.mode) b.1 in
    ap (λ n. (n == i) && (in_use h.mode == j)) (same h.gref.0 k.gref.0 b.0) ∙ ap (λ n. (k.gref.0 == i) && (in_use n == j)) (same_mode_is h.mode k.mode c.1)

unheld_among : (k : Hold) (hs : List Hold) → Among (unheld k hs) hs
unheld_among k [] x h = absurd h
unheld_among k (y ∷ ys) x h = by (same_hold y k) (unheld_among k ys x) h
  where
    by : (t : Bool) → (Has (λ z. z ≡ x) (unheld k ys) → Has (λ z. z ≡ x) ys) → Has (λ z. z ≡ x) (cond t ys (y ∷ unheld k ys)) → Has (λ z. z ≡ x) (y ∷ ys)
    by true more a = inr a
    by false more (inl e) = inl e
    by false more (inr a) = inr (more a)

unheld_counts : (i j : ℕ) (k : Hold) (hs : List Hold) → Has (λ x. x ≡ k) hs → number_of (marks_page i j k) + count (marks_page i j) (unheld k hs) ≡ count (marks_page i j) hs
unheld_counts i j k [] h = absurd h
unheld_counts i j k (y ∷ ys) h = by (same_hold y k) refl (unheld_counts i j k ys) h
  where
    by : (t : Bool) → same_hold y k ≡ t → (Has (λ x. x ≡ k) ys → number_of (marks_page i j k) + count (marks_page i j) (unheld k ys) ≡ count (marks_page i j) ys) → Has (λ x. x ≡ k) (y ∷ ys) → number_of (marks_page i j k) + count (marks_page i j) (cond t ys (y ∷ unheld k ys)) ≡ number_of (marks_page i j y) + count (marks_page i j) ys
    by true e more a = ap (λ b. number_of b + count (marks_page i j) ys) (sym (same_hold_marks i j y k e))
    by false e more (inl s) = absurd (false≢true (sym e ∙ (ap (λ z. same_hold z k) s ∙ same_hold_self k)))
    by false e more (inr a) = omega (arith, more a)

-- one mapping without a page fewer
unmissed_among : (g m : ℕ) (bs : List Begun) → Among (unmissed g m bs) bs
unmissed_among g m [] x h = absurd h
unmissed_among g m (y ∷ ys) x h = by ((y.gref == g) && (in_use y.mode == m)) (unmissed_among g m ys x) h
  where
    by : (t : Bool) → (Has (λ z. z ≡ x) (unmissed g m ys) → Has (λ z. z ≡ x) ys) → Has (λ z. z ≡ x) (cond t ys (y ∷ unmissed g m ys)) → Has (λ z. z ≡ x) (y ∷ ys)
    by true more a = inr a
    by false more (inl e) = inl e
    by false more (inr a) = inr (more a)

unmissed_counts : (i j g m : ℕ) (bs : List Begun) → Has (Marks g m) bs → number_of (is_of i j (Bits g m)) + count (marks i j) (unmissed g m bs) ≡ count (marks i j) bs
unmissed_counts i j g m [] h = absurd h
unmissed_counts i j g m (y ∷ ys) h = by ((y.gref == g) && (in_use y.mode == m)) refl (unmissed_counts i j g m ys) h
  where
    by : (t : Bool) → ((y.gref == g) && (in_use y.mode == m)) ≡ t → (Has (Marks g m) ys → number_of (is_of i j (Bits g m)) + count (marks i j) (unmissed g m ys) ≡ count (marks i j) ys) → Has (Marks g m) (y ∷ ys) → number_of (is_of i j (Bits g m)) + count (marks i j) (cond t ys (y ∷ unmissed g m ys)) ≡ number_of (marks i j y) + count (marks i j) ys
    by true e more a =
        let p = parts (y.gref == g) (in_use y.mode == m) e in
        ap (λ b. number_of b + count (marks i j) ys) (sym (begun_counts g m i j y (same y.gref g p.0, same (in_use y.mode) m p.1)))
    by false e more (inl s) = absurd (false≢true (sym e ∙ pair y.gref g (in_use y.mode) m s.0 s.1))
    by false e more (inr a) = omega (arith, more a)

-- a clear that is for a mapping takes that one away, and the listing has one clear more
ended_lists : (m h : Holds) (cs : List Cleared) (g mask : ℕ) (k : Hold) → MarksPage g mask k → Has (λ x. x ≡ k) h.held → Lists (List_of m cs) h → Lists (List_of m (Bits g mask ∷ cs)) (record { held = unheld k h.held; begun = h.begun; missed = h.missed })
ended_lists m h cs g mask k is at l = record {
  begun = l.begun;
  held = λ x a. l.held x (unheld_among k h.held x a);
  missed = l.missed;
  enough = λ i j. omega (arith, l.enough i j, unheld_counts i j k h.held at, ap number_of (page_counts g mask i j k is));
}

undone_lists : (m h : Holds) (cs : List Cleared) (g mask : ℕ) → Has (Marks g mask) h.missed → Lists (List_of m cs) h → Lists (List_of m (Bits g mask ∷ cs)) (record { held = h.held; begun = h.begun; missed = unmissed g mask h.missed })
undone_lists m h cs g mask at l = record {
  begun = l.begun;
  held = l.held;
  missed = λ x a. l.missed x (unmissed_among g mask h.missed x a);
  enough = λ i j. omega (arith, l.enough i j, unmissed_counts i j g mask h.missed at);
}

-- where as many clears were made as there are mappings, none is left of the device's
without_lists : (m h : Holds) (cs : List Cleared) (g mask : ℕ) → h.begun ≡ None → count (is_of g mask) cs ≡ mappings g mask m → Lists (List_of m cs) h → Lists (List_of (without_all g mask m) (rest_of (is_of g mask) cs)) h
without_lists m h cs g mask none e l = record {
  begun = sym none;
  held = λ x a. rest_has (marks_page g mask) m.held x (fails (marks_page g mask) h.held x no_page a) (l.held x a);
  missed = λ x a. rest_has (marks g mask) m.missed x (fails (marks g mask) h.missed x no_begun a) (l.missed x a);
  enough = λ i j. by i j (one_or_apart g mask i j);
}
  where
    no_page : count (marks_page g mask) h.held ≡ 0
    no_page = omega (arith, l.enough g mask, e)

    no_begun : count (marks g mask) h.missed ≡ 0
    no_begun = omega (arith, l.enough g mask, e)

    empty : count (marks g mask) (begun_list h.begun) ≡ 0
    empty = ap (λ o. count (marks g mask) (begun_list o)) none

    by : (i j : ℕ) → ((g ≡ i) × (mask ≡ j)) ⊎ Apart g mask i j → mappings i j h + count (is_of i j) (rest_of (is_of g mask) cs) ≤ mappings i j (without_all g mask m)
    by i j (inl s) =
        let nothing : mappings g mask h + count (is_of g mask) (rest_of (is_of g mask) cs) ≤ 0 = omega (arith, no_page, no_begun, empty, none_left (is_of g mask) cs) in
        let nothing_here : mappings i j h + count (is_of i j) (rest_of (is_of g mask) cs) ≤ 0 =
        subst (λ n. mappings n j h + count (is_of n j) (rest_of (is_of g mask) cs) ≤ 0) s.0 (subst (λ n. mappings g n h + count (is_of g n) (rest_of (is_of g mask) cs) ≤ 0) s.1 nothing) in
        omega (arith, nothing_here)
    by i j (inr apart) =
        omega (
          arith,
          l.enough i j,
          ap (λ o. count (marks i j) (begun_list o)) none,
          ap (λ o. count (marks i j) (begun_list o)) l.begun,
          same_left (is_of g mask) (is_of i j) (λ c. apart c.gref c.mask) cs,
          same_left (marks_page g mask) (marks_page i j) (λ k. apart k.gref.0 (in_use k.mode)) m.held,
          same_left (marks g mask) (marks i j) (λ b. apart b.gref (in_use b.mode)) m.missed,
        )

settled_lists : (m h : Holds) (cs : List Cleared) (g mask : ℕ) → h.begun ≡ None → Lists (List_of m cs) h → Lists (settled g mask (List_of m cs)) h
settled_lists m h cs g mask none l = by (count (is_of g mask) cs == mappings g mask m) refl
  where
    by : (t : Bool) → (count (is_of g mask) cs == mappings g mask m) ≡ t → Lists (cond t (List_of (without_all g mask m) (rest_of (is_of g mask) cs)) (List_of m cs)) h
    by true e = without_lists m h cs g mask none (same (count (is_of g mask) cs) (mappings g mask m) e) l
    by false e = l

cleared_lists : (m h : Holds) (cs : List Cleared) (g mask : ℕ) (note : Note) → h.begun ≡ None → Names h g mask note → Lists (List_of m cs) h → Lists (settled g mask (List_of m (Bits g mask ∷ cs))) (cleared h g mask note)
cleared_lists m h cs g mask Undoes none is l =
    settled_lists m (record { held = h.held; begun = h.begun; missed = unmissed g mask h.missed }) (Bits g mask ∷ cs) g mask none (undone_lists m h cs g mask is l)
cleared_lists m h cs g mask (Ends k) none is l =
    let left : Holds = record { held = unheld k h.held; begun = h.begun; missed = h.missed } in
    subst (λ t. Lists (settled g mask (List_of m (Bits g mask ∷ cs))) (cond t left h)) (sym (pair k.gref.0 g (in_use k.mode) mask is.0.0 is.0.1))
    (settled_lists m left (Bits g mask ∷ cs) g mask none (ended_lists m h cs g mask k is.0 is.1 l))
cleared_lists m h cs g mask other none is l = absurd is

-- what a clear is for, also where a mapping was just begun
names_kept : (h : Holds) (g mask : ℕ) (note : Note) → Names h g mask note → Names (kept h) g mask note
names_kept h g mask Undoes is = passed_has (Marks g mask) h.begun h.missed is
names_kept h g mask (Ends k) is = is
names_kept h g mask other is = absurd is

-- no mapping, no listing
pub lists_none : Lists no_listing (holds_of [])
lists_none = record { begun = refl; held = λ x h. h; missed = λ x h. h; enough = λ i j. omega arith }

-- an access of the device itself
pub lists_after : (frames : ℕ → ℕ) (l : Listing) (h : Holds) (note : Note) (a : Access) → Lists l h → IsFor h (wanted a) note → Lists (listing frames l a) (holding frames h note a)
lists_after frames l h note (access.Load (Grant d g FrameNo) v) is for = framed_lists frames l.mapped h l.clears d.0 g.0 v is
lists_after frames l h note (access.Load (Grant d g Flags) v) is for = kept_lists l.mapped h l.clears is
lists_after frames l h note (access.Load (Cell d f w) v) is for = kept_lists l.mapped h l.clears is
lists_after frames l h note (access.Store at v) is for = kept_lists l.mapped h l.clears is
lists_after frames l h note (access.Cas (Grant d g Flags) old new seen) is for = exchanged_lists l.mapped h l.clears (begins g.0 old new seen) is
lists_after frames l h note (access.Cas (Grant d g FrameNo) old new seen) is for = kept_lists l.mapped h l.clears is
lists_after frames l h note (access.Cas (Cell d f w) old new seen) is for = kept_lists l.mapped h l.clears is
lists_after frames l h note (access.Clear (Cell d f w) mask seen) is for = kept_lists l.mapped h l.clears is
lists_after frames l h note (access.Clear (Grant d g FrameNo) mask seen) is for = kept_lists l.mapped h l.clears is
lists_after frames l h note (access.Clear (Grant d g Flags) mask seen) is for =
    cleared_lists (kept l.mapped) (kept h) l.clears g.0 mask note refl (names_kept h g.0 mask note for) (kept_lists l.mapped h l.clears is)

-- what stays in the device's own pages and mappings stays in those that are listed
stays_mapped : (l : Listing) (h : Holds) (g mask : ℕ) → Lists l h → Has (MarksPage g mask) h.held ⊎ Has (Marks g mask) h.missed → Has (MarksPage g mask) l.mapped.held ⊎ Has (Marks g mask) l.mapped.missed
stays_mapped l h g mask is (inl a) = inl (has_among (MarksPage g mask) h.held l.mapped.held is.held a)
stays_mapped l h g mask is (inr a) = inr (has_among (Marks g mask) h.missed l.mapped.missed is.missed a)

pub stays_listed : (l : Listing) (dom : ℕ) (h : Holds) (want : Want) → Lists l h → Stays dom h want → Stays dom l.mapped want
stays_listed l dom h (Load (Cell d f w)) is s = has_among (Covers d.0 f.0) h.held l.mapped.held is.held s
stays_listed l dom h (Load (Grant d g half)) is s = s
stays_listed l dom h (Store (Cell d f w) v) is s = has_among (CoversToWrite d.0 f.0) h.held l.mapped.held is.held s
stays_listed l dom h (Store (Grant d g half) v) is s = s
stays_listed l dom h (Swap (Cell d f w) old new) is s = has_among (CoversToWrite d.0 f.0) h.held l.mapped.held is.held s
stays_listed l dom h (Swap (Grant d g Flags) old new) is s = s
stays_listed l dom h (Swap (Grant d g FrameNo) old new) is s = s
stays_listed l dom h (Clear (Cell d f w) mask) is s = has_among (CoversToWrite d.0 f.0) h.held l.mapped.held is.held s
stays_listed l dom h (Clear (Grant d g Flags) mask) is s = (s.0, stays_mapped l h g.0 mask is s.1)
stays_listed l dom h (Clear (Grant d g FrameNo) mask) is s = s

-- a port that keeps the entries of no domain keeps no place
pub unkept : (p : Port) (at : Place) → KeepsNone p → IsUnkept p at
unkept p (Cell d f w) keeps = tt
unkept p (Grant d g half) keeps = keeps d.0

-- What a domain owns, where the port keeps its entries and where it doesn't; so it owns a word of its own that the port
-- doesn't keep.
module _ (p : Port) (dom : ℕ) where
  pub by_kind : (want : Want) → (p.keeps dom ≡ true → OwnsKept p dom want) → OwnsAny dom want → Owns p dom want
  by_kind want kept any = by (p.keeps dom) refl
    where
      by : (b : Bool) → p.keeps dom ≡ b → OwnsBy (p.keeps dom) p dom want
      by true e = subst (λ (b : Bool). OwnsBy b p dom want) (sym e) (kept e)
      by false e = subst (λ (b : Bool). OwnsBy b p dom want) (sym e) any

  refuses : (d : ℕ) → d ≡ dom → p.keeps d ≡ false → p.keeps dom ≡ true → ⊥
  refuses d e wild kept = false≢true (sym wild ∙ (ap p.keeps e ∙ kept))

  pub owns_store : (at : Place) (v : ℕ) → domain_of at ≡ dom → IsUnkept p at → Owns p dom (Store at v)
  owns_store (Cell d f w) v e u = by_kind (Store (Cell d f w) v) (λ k. e) e
  owns_store (Grant d g half) v e u = by_kind (Store (Grant d g half) v) (λ k. absurd (refuses d.0 e u k)) e

  pub owns_swap : (at : Place) (old new : ℕ) → domain_of at ≡ dom → IsUnkept p at → Owns p dom (Swap at old new)
  owns_swap (Cell d f w) old new e u = by_kind (Swap (Cell d f w) old new) (λ k. e) e
  owns_swap (Grant d g half) old new e u = by_kind (Swap (Grant d g half) old new) (λ k. absurd (refuses d.0 e u k)) e

pub unkept_turned : (p q : Port) (knows : ℕ → ℕ → Type 0) (who : Who) (at : Place) → Turned p knows who q → IsUnkept p at → IsUnkept q at
unkept_turned p q knows who (Cell d f w) t u = tt
unkept_turned p q knows who (Grant d g half) t u = t.keeps d.0 ∙ u

-- a device that acts may make what stays in its pages and grant entries
pub port_may : (frames grants : ℕ → ℕ) (p : Port) (d dom : ℕ) (h : Holds) (want : Want) (note : Note) → IsListed p d h → p.device ≡ Some d → p.serves dom ≡ true → IsProper frames grants dom h want note → PortMay frames grants p want
port_may frames grants p d dom h want note (inl free) device serves proper =
    (proper.0, inl (free.0, unkept p (aim_of want) free.1))
port_may frames grants p d dom h want note (inr is) device serves proper =
    (proper.0, inr (dom, serves, subst (MayFor p dom want) (sym device) (stays_listed (p.listed d) dom h want is proper.1.0)))

-- and a domain what it owns
pub port_may_own : (frames grants : ℕ → ℕ) (p : Port) (dom : ℕ) (want : Want) → p.device ≡ None → p.serves dom ≡ true → InRange frames grants (aim_of want) → Owns p dom want → PortMay frames grants p want
port_may_own frames grants p dom want device serves range owns = (range, inr (dom, serves, subst (MayFor p dom want) (sym device) owns))

-- the listing of a device after its own access, after that of another or of a domain, and after a turn
module _ (frames grants : ℕ → ℕ) (p q : Port) (a : Access) (left : Leaves frames grants p a q) where
  by_place : (d : ℕ) (h k : Holds) → (Lists (p.listed d) h → Lists (listed_after frames p.device a d (p.listed d)) k) → IsListed p d h → IsListed q d k
  by_place d h k step (inl free) = inl (left.everywhere ∙ free.0, λ dom. left.keeps dom ∙ free.1 dom)
  by_place d h k step (inr is) = by left.listed
    where
      by : IsFree p ⊎ ((e : ℕ) → q.listed e ≡ listed_after frames p.device a e (p.listed e)) → IsListed q d k
      by (inl free) = inl (left.everywhere ∙ free.0, λ dom. left.keeps dom ∙ free.1 dom)
      by (inr law) = inr (subst (λ l. Lists l k) (sym (law d)) (step is))

  pub listed_own : (d : ℕ) (h : Holds) (note : Note) → p.device ≡ Some d → IsListed p d h → IsFor h (wanted a) note → IsListed q d (holding frames h note a)
  listed_own d h note device is for =
      by_place d h (holding frames h note a) (λ l. subst (λ l. Lists l (holding frames h note a)) (sym after) (lists_after frames (p.listed d) h note a l for)) is
    where
      after : listed_after frames p.device a d (p.listed d) ≡ listing frames (p.listed d) a
      after =
          ap (λ o. listed_after frames o a d (p.listed d)) device ∙ ap (λ b. cond b (listing frames (p.listed d) a) (p.listed d)) (same_self d)

  pub listed_other : (d e : ℕ) (h : Holds) → p.device ≡ Some e → e ≢ d → IsListed p d h → IsListed q d h
  listed_other d e h device apart is = by_place d h h (λ l. subst (λ l. Lists l h) (sym after) l) is
    where
      after : listed_after frames p.device a d (p.listed d) ≡ p.listed d
      after =
          ap (λ o. listed_after frames o a d (p.listed d)) device ∙ ap (λ b. cond b (listing frames (p.listed d) a) (p.listed d)) (ne_eqb e d apart)

  pub listed_domain : (d : ℕ) (h : Holds) → p.device ≡ None → IsListed p d h → IsListed q d h
  listed_domain d h device is =
      by_place d h h (λ l. subst (λ l. Lists l h) (sym (ap (λ o. listed_after frames o a d (p.listed d)) device)) l) is

pub listed_turned : (p q : Port) (knows : ℕ → ℕ → Type 0) (who : Who) (d : ℕ) (h : Holds) → Turned p knows who q → IsListed p d h → IsListed q d h
listed_turned p q knows who d h turned (inl free) = inl (turned.everywhere ∙ free.0, λ dom. turned.keeps dom ∙ free.1 dom)
listed_turned p q knows who d h turned (inr is) = inr (subst (λ l. Lists l h) (sym (turned.listed d)) is)
