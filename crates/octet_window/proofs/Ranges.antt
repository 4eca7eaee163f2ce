-- What the pieces of a range come to.
use Rattle.std.proofs.Common.{◌≡◌, ℕ, zero, suc, ◌+◌, ◌-◌, ◌*◌, ◌/◌, ◌%◌, ◌≤◌, ◌⊎◌, min, List, [], ◌∷◌, ◌++◌, length, take, drop, refl, sym, ◌∙◌, ap, append-nil, append_assoc, subst, arith, inl, inr}
use Rattle.std.specs.List.{AllByRecursion, flat_map, range_with_len}
use Rattle.std.proofs.lemmas.List.{drop_all, nil_from_length, take-append-drop, take-append-le, length-drop}
use Rattle.std.proofs.Math.Seq.{drop-append-add, drop-nil, take-length, take-nil}
use Rattle.pv_words.specs.declared.grant.Hold.{Hold}
use Rattle.octet_window.specs.declared.piece.Piece.{Piece}
use Rattle.octet_window.specs.Laws.{AreBlended, AreFound, BlendsRange, CoversRange, IsInPages, JoinsRange, LiesInPages, joined}
use Rattle.octet_window.specs.Octets.{octets_in, octets_of, words_of}
use Rattle.octet_window.specs.Parts.{blended}
use Rattle.octet_window.specs.Pieces.{octets_at, pieces_in}
use Rattle.octet_window.proofs.Walks.{IsNext, next_is, piece, pieces_next, pieces_none, words_next}
use Rattle.octet_window.proofs.Words.{octets_last, octets_more}

-- What holds of a range with no octet, and of a range by what is behind its first piece, holds of each range.
abbrev Steps : (ℕ → ℕ → Type 0) → Type 0
Steps P = (octet more len rest : ℕ) → IsNext octet more len rest → P (octet + len) rest → P octet more

ranges_below : (P : ℕ → ℕ → Type 0) → ((octet : ℕ) → P octet 0) → Steps P → (fuel octet more : ℕ) → more ≤ fuel → P octet more
ranges_below P none step fuel octet zero h = none octet
ranges_below P none step zero octet (suc n) h = absurd (omega arith)
ranges_below P none step (suc fuel) octet (suc n) h =
    let len : ℕ = min (suc n) (4 - octet % 4) in
    let next : IsNext octet (suc n) len (suc n - len) = next_is octet (suc n) len (omega arith) refl in
    step octet (suc n) len (suc n - len) next (ranges_below P none step fuel (octet + len) (suc n - len)
    (omega (arith, next.some, next.sum)))

each_range : (P : ℕ → ℕ → Type 0) → ((octet : ℕ) → P octet 0) → Steps P → (octet more : ℕ) → P octet more
each_range P none step octet more = ranges_below P none step more octet more (omega arith)

range_append : (a n m : ℕ) → range_with_len a n ++ range_with_len (a + n) m ≡ range_with_len a (n + m)
range_append a zero m = let e : a + 0 ≡ a = omega arith in let f : 0 + m ≡ m = omega arith in ap (λ x. range_with_len x m) e ∙ ap
    (range_with_len a) (sym f)
range_append a (suc n) m =
    let e : a + suc n ≡ a + 1 + n = omega arith in
    let f : suc (n + m) ≡ suc n + m = omega arith in
    ap (λ x. a ∷ (range_with_len (a + 1) n ++ range_with_len x m)) e ∙
    (ap (λ xs. a ∷ xs) (range_append (a + 1) n m) ∙ ap (range_with_len a) f)

pub covers_range : CoversRange
covers_range = λ pages. each_range (λ first count. flat_map octets_at (pieces_in pages first count) ≡ range_with_len first count)
    (λ octet. ap (flat_map octets_at) (pieces_none pages octet))
    (λ octet more len rest n h.
    let at : 4 * (octet / 4) + octet % 4 ≡ octet = omega arith in
    ap (flat_map octets_at) (pieces_next pages octet more len rest n)
    ∙ (ap (λ xs. range_with_len (4 * (octet / 4) + octet % 4) len ++ xs) h
    ∙ (ap (λ x. range_with_len x len ++ range_with_len (octet + len) rest) at
    ∙ (range_append octet len rest ∙ ap (range_with_len octet) n.sum))))

abbrev Lies : List Hold → ℕ → ℕ → Type 0
Lies pages first count = first + count ≤ 4096 * length pages → AllByRecursion (IsInPages pages) (pieces_in pages first count)

pub lies_in_pages : LiesInPages
lies_in_pages = λ pages. each_range (Lies pages)
    (λ octet h. let P : List Piece → Type 0 = AllByRecursion (IsInPages pages) in subst P (sym (pieces_none pages octet)) tt)
    (λ octet more len rest n rec h.
    let some = n.some in
    let fits = n.fits in
    let sum = n.sum in
    let P : List Piece → Type 0 = AllByRecursion (IsInPages pages) in
    subst P (sym (pieces_next pages octet more len rest n))
    (record { inside = omega arith; place = refl; some = some; whole = fits }, rec (omega arith)))

abbrev Joins : List Hold → ℕ → ℕ → Type 0
Joins pages first count = (words : List ℕ) → AreFound first count words → joined (pieces_in pages first count) words
    ≡ octets_in first count words

-- the octets of a range, a piece at a time
octets_next : (octet more len rest v : ℕ) (vs : List ℕ) → len + rest ≡ more → octet % 4 + len ≤ 4 → (octet % 4 + len ≡ 4) ⊎ (rest ≡ 0)
    → octets_in octet more (v ∷ vs) ≡ take len (drop (octet % 4) (octets_of v)) ++ octets_in (octet + len) rest vs
octets_next octet more len rest v vs e f (inl full) = octets_more octet len more rest v vs full (sym e)
octets_next octet more len rest v vs e f (inr none) =
    let same : more ≡ len = omega arith in
    octets_last octet more v vs (omega arith)
    ∙ (ap (λ k. take k (drop (octet % 4) (octets_of v))) same
    ∙ (sym (append-nil (take len (drop (octet % 4) (octets_of v))))
    ∙ ap (λ k. take len (drop (octet % 4) (octets_of v)) ++ octets_in (octet + len) k vs) (sym none)))

found_rest : (octet more len rest v : ℕ) (vs : List ℕ) → IsNext octet more len rest → AreFound octet more (v ∷ vs)
    → AreFound (octet + len) rest vs
found_rest octet more len rest v vs n h = omega (arith, h, ap length (words_next octet more len rest n))

found_some : (octet more len rest : ℕ) → IsNext octet more len rest → AreFound octet more [] → ⊥
found_some octet more len rest n h = omega (arith, h, ap length (words_next octet more len rest n))

joins_next : (pages : List Hold) (octet more len rest : ℕ) (words : List ℕ) → IsNext octet more len rest
    → Joins pages (octet + len) rest → AreFound octet more words → joined (pieces_in pages octet more) words ≡ octets_in octet more words
joins_next pages octet more len rest [] n rec h = absurd (found_some octet more len rest n h)
joins_next pages octet more len rest (v ∷ vs) n rec h =
    ap (λ ps. joined ps (v ∷ vs)) (pieces_next pages octet more len rest n)
    ∙ (ap (λ xs. take len (drop (octet % 4) (octets_of v)) ++ xs) (rec vs (found_rest octet more len rest v vs n h))
    ∙ sym (octets_next octet more len rest v vs n.sum n.fits n.ends))

pub joins_range : JoinsRange
joins_range = λ pages. each_range (Joins pages)
    (λ octet words h. ap (λ ps. joined ps words) (pieces_none pages octet))
    (λ octet more len rest n rec words h. joins_next pages octet more len rest words n rec h)

-- octets of the words of a range where those of the range are replaced
abbrev replaced : (skip count : ℕ) → (old octets : List ℕ) → List ℕ
replaced skip count old octets = take skip old ++ octets ++ drop (skip + count) old

-- the first word of some, where all that is replaced lies in it
replaced_last : (skip len : ℕ) (word back octets : List ℕ) → skip + len ≤ length word → back ≡ [] → length octets ≡ len
    → take skip word ++ take len octets ++ drop (skip + len) word ++ back ≡ replaced skip len (word ++ back) octets
replaced_last skip len word back octets h none l =
    let whole : take len octets ≡ octets = ap (λ k. take k octets) (sym l) ∙ take-length octets in
    ap (λ xs. take skip word ++ xs ++ drop (skip + len) word ++ back) whole
    ∙ (ap (λ xs. take skip word ++ octets ++ drop (skip + len) word ++ xs) none
    ∙ (append-nil (take skip word ++ octets ++ drop (skip + len) word)
    ∙ ap (λ xs. replaced skip len xs octets) (sym (ap (λ xs. word ++ xs) none ∙ append-nil word))))

-- and where it goes on behind that word
replaced_more : (skip len rest : ℕ) (word back octets : List ℕ) → skip + len ≡ length word → length octets ≡ len + rest
    → take skip word ++ take len octets ++ drop (skip + len) word ++ (drop len octets ++ drop rest back)
    ≡ replaced skip (len + rest) (word ++ back) octets
replaced_more skip len rest word back octets h l =
    let front : List ℕ = take skip word in
    let none : drop (skip + len) word ≡ [] = drop_all (skip + len) word (omega arith) in
    let sum : skip + (len + rest) ≡ length word + rest = omega arith in
    ap (λ xs. front ++ take len octets ++ xs ++ (drop len octets ++ drop rest back)) none
    ∙ (ap (λ xs. xs ++ (drop len octets ++ drop rest back)) (append-nil (front ++ take len octets))
    ∙ (append_assoc front (take len octets) (drop len octets ++ drop rest back)
    ∙ (ap (λ xs. front ++ xs) (sym (append_assoc (take len octets) (drop len octets) (drop rest back)) ∙ ap (λ xs. xs ++ drop rest back)
    (take-append-drop len octets))
    ∙ (sym (append_assoc front octets (drop rest back))
    ∙ (ap (λ xs. xs ++ octets ++ drop rest back) (sym (take-append-le skip word back (omega arith)))
    ∙ ap (λ xs. take skip (word ++ back) ++ octets ++ xs) (sym (ap (λ k. drop k (word ++ back)) sum ∙ drop-append-add word back rest)))))))

abbrev Blends : List Hold → ℕ → ℕ → Type 0
Blends pages first count = (words octets then : List ℕ) → AreFound first count words → length octets ≡ count → AreBlended
    (pieces_in pages first count) words octets then → flat_map octets_of then ≡ replaced (first % 4) count (flat_map octets_of words) octets

none_found : (octet : ℕ) (vs : List ℕ) → AreFound octet 0 vs → vs ≡ []
unfolding words_of
none_found octet vs h = nil_from_length vs h

none_blended : (pages : List Hold) (octet : ℕ) (vs octets ws : List ℕ) → AreBlended (pieces_in pages octet 0) vs octets ws → ws ≡ []
none_blended pages octet vs octets ws b =
    let P : List Piece → Type 0 = λ ps. AreBlended ps vs octets ws in
    subst P (pieces_none pages octet) b

-- behind a word that the range goes beyond
behind : (pages : List Hold) (octet len rest : ℕ) (vs octets ws : List ℕ) → octet % 4 + len ≡ 4 → Blends pages (octet + len) rest
    → AreFound (octet + len) rest vs → length octets ≡ rest → AreBlended (pieces_in pages (octet + len) rest) vs octets ws
    → flat_map octets_of ws ≡ octets ++ drop rest (flat_map octets_of vs)
behind pages octet len rest vs octets ws full rec h l b =
    let z : (octet + len) % 4 ≡ 0 = omega arith in
    let r : (octet + len) % 4 + rest ≡ rest = omega arith in
    rec vs octets ws h l b
    ∙ (ap (λ k. take k (flat_map octets_of vs) ++ octets ++ drop ((octet + len) % 4 + rest) (flat_map octets_of vs)) z
    ∙ ap (λ k. octets ++ drop k (flat_map octets_of vs)) r)

blends_by : (pages : List Hold) (octet more len rest v w : ℕ) (vs octets ws : List ℕ) → IsNext octet more len rest
    → (octet % 4 + len ≡ 4) ⊎ (rest ≡ 0) → Blends pages (octet + len) rest → AreFound octet more (v ∷ vs) → length octets ≡ more
    → octets_of w ≡ blended (piece pages (octet / 4) (octet % 4) len) v octets
    → AreBlended (pieces_in pages (octet + len) rest) vs (drop len octets) ws
    → octets_of w ++ flat_map octets_of ws ≡ replaced (octet % 4) more (octets_of v ++ flat_map octets_of vs) octets
blends_by pages octet more len rest v w vs octets ws n (inl full) rec h l own others =
    let sum = n.sum in
    let all : length octets ≡ len + rest = omega arith in
    let later : length (drop len octets) ≡ rest = omega (arith, length-drop len octets) in
    ap (λ xs. xs ++ flat_map octets_of ws) own
    ∙ (ap (λ xs. blended (piece pages (octet / 4) (octet % 4) len) v octets ++ xs)
    (behind pages octet len rest vs (drop len octets) ws full rec (found_rest octet more len rest v vs n h) later others)
    ∙ (replaced_more (octet % 4) len rest (octets_of v) (flat_map octets_of vs) octets full all
    ∙ ap (λ k. replaced (octet % 4) k (octets_of v ++ flat_map octets_of vs) octets) sum))
blends_by pages octet more len rest v w vs octets ws n (inr none) rec h l own others =
    let sum = n.sum in
    let fits = n.fits in
    let same : len ≡ more = omega arith in
    let found : AreFound (octet + len) 0 vs = let P : ℕ → Type 0 = λ k. AreFound (octet + len) k vs in subst P none
    (found_rest octet more len rest v vs n h) in
    let left : AreBlended (pieces_in pages (octet + len) 0) vs (drop len octets) ws = let P : ℕ → Type 0 = λ k. AreBlended
    (pieces_in pages (octet + len) k) vs (drop len octets) ws in subst P none others in
    let no_old : flat_map octets_of vs ≡ [] = ap (flat_map octets_of) (none_found (octet + len) vs found) in
    let no_new : flat_map octets_of ws ≡ [] = ap (flat_map octets_of) (none_blended pages (octet + len) vs (drop len octets) ws left) in
    ap (λ xs. xs ++ flat_map octets_of ws) own
    ∙ (ap (λ xs. blended (piece pages (octet / 4) (octet % 4) len) v octets ++ xs) (no_new ∙ sym no_old)
    ∙ (replaced_last (octet % 4) len (octets_of v) (flat_map octets_of vs) octets fits no_old (omega arith)
    ∙ ap (λ k. replaced (octet % 4) k (octets_of v ++ flat_map octets_of vs) octets) same))

blends_at : (pages : List Hold) (octet more len rest v : ℕ) (vs octets then : List ℕ) → IsNext octet more len rest
    → Blends pages (octet + len) rest → AreFound octet more (v ∷ vs) → length octets ≡ more
    → AreBlended (piece pages (octet / 4) (octet % 4) len ∷ pieces_in pages (octet + len) rest) (v ∷ vs) octets then
    → flat_map octets_of then ≡ replaced (octet % 4) more (octets_of v ++ flat_map octets_of vs) octets
blends_at pages octet more len rest v vs octets [] n rec h l b = absurd b
blends_at pages octet more len rest v vs octets (w ∷ ws) n rec h l b =
    blends_by pages octet more len rest v w vs octets ws n n.ends rec h l b.0 b.1

blends_next : (pages : List Hold) (octet more len rest : ℕ) (words octets then : List ℕ) → IsNext octet more len rest
    → Blends pages (octet + len) rest → AreFound octet more words → length octets ≡ more
    → AreBlended (pieces_in pages octet more) words octets then
    → flat_map octets_of then ≡ replaced (octet % 4) more (flat_map octets_of words) octets
blends_next pages octet more len rest [] octets then n rec h l b = absurd (found_some octet more len rest n h)
blends_next pages octet more len rest (v ∷ vs) octets then n rec h l b =
    let P : List Piece → Type 0 = λ ps. AreBlended ps (v ∷ vs) octets then in
    blends_at pages octet more len rest v vs octets then n rec h l (subst P (pieces_next pages octet more len rest n) b)

blends_none : (pages : List Hold) (octet : ℕ) → Blends pages octet 0
blends_none pages octet words octets then h l b =
    let no_old : flat_map octets_of words ≡ [] = ap (flat_map octets_of) (none_found octet words h) in
    let no_new : flat_map octets_of then ≡ [] = ap (flat_map octets_of) (none_blended pages octet words octets then b) in
    let empty : octets ≡ [] = nil_from_length octets l in
    let nothing : replaced (octet % 4) 0 [] [] ≡ [] = ap (λ xs. xs ++ [] ++ drop (octet % 4 + 0) []) (take-nil (octet % 4)) ∙ drop-nil
    (octet % 4 + 0) in
    no_new ∙ sym (ap (λ xs. replaced (octet % 4) 0 xs octets) no_old ∙ (ap (λ xs. replaced (octet % 4) 0 [] xs) empty ∙ nothing))

pub blends_range : BlendsRange
blends_range = λ pages. each_range (Blends pages) (blends_none pages)
    (λ octet more len rest n rec words octets then h l b. blends_next pages octet more len rest words octets then n rec h l b)
