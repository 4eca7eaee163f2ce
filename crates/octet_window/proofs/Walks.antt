-- The pieces of a range, one after another.
use Rattle.std.proofs.Common.{◌≡◌, ℕ, zero, suc, ◌+◌, ◌-◌, ◌*◌, ◌/◌, ◌%◌, ◌<◌, ◌≤◌, ◌⊎◌, min, List, [], ◌∷◌, Some, slice_get, map, refl, sym, ◌∙◌, ap, arith, inl, inr}
use Rattle.std.proofs.lemmas.Bool.{cases_lt}
use Rattle.std.specs.List.{range_with_len}
use Rattle.pv_words.specs.declared.grant.Hold.{Hold}
use Rattle.pv_words.specs.declared.place.Place.TheVariants.{Cell}
use Rattle.octet_window.specs.declared.piece.Piece.{Piece}
use Rattle.octet_window.specs.Octets.{words_of}
use Rattle.octet_window.specs.Pages.{word_place}
use Rattle.octet_window.specs.Pieces.{piece_of, pieces_in}
use Rattle.octet_window.proofs.Pages.{place_is}
use Rattle.octet_window.proofs.Words.{words_last, words_more}

-- the next piece of a range has so many octets
pub record IsNext (octet more len rest : ℕ) : Type 0 where
  pub some : 0 < len
  pub fits : octet % 4 + len ≤ 4
  pub sum : len + rest ≡ more
  pub ends : (octet % 4 + len ≡ 4) ⊎ (rest ≡ 0)

pub next_is : (octet more len : ℕ) → 0 < more → len ≡ min more (4 - octet % 4) → IsNext octet more len (more - len)
next_is octet more len h e =
    let ends : (octet % 4 + len ≡ 4) ⊎ (more - len ≡ 0) = elim
    (cases_lt more (4 - octet % 4)) [ inl l ↦ inr (omega arith) | inr l ↦ inl (omega arith) ] in
    record { some = omega arith; fits = omega arith; sum = omega arith; ends = ends }

words_none : (octet : ℕ) → words_of octet 0 ≡ []
unfolding words_of
words_none octet = refl

pub pieces_none : (pages : List Hold) (octet : ℕ) → pieces_in pages octet 0 ≡ []
unfolding pieces_in words_of
pieces_none pages octet = refl

words_by : (octet more len rest : ℕ) → 0 < len → octet % 4 + len ≤ 4 → len + rest ≡ more → (octet % 4 + len ≡ 4) ⊎ (rest ≡ 0)
    → words_of octet more ≡ octet / 4 ∷ words_of (octet + len) rest
words_by octet more len zero s f e ends =
    words_last octet more (omega arith) (omega arith) ∙ ap (λ is. octet / 4 ∷ is) (sym (words_none (octet + len)))
words_by octet more len (suc rest) s f e (inl full) = words_more octet len more rest full (omega arith)
words_by octet more len (suc rest) s f e (inr none) = absurd (omega arith)

pub words_next : (octet more len rest : ℕ) → IsNext octet more len rest → words_of octet more ≡ octet / 4 ∷ words_of (octet + len) rest
words_next octet more len rest n = words_by octet more len rest n.some n.fits n.sum n.ends

abbrev pub piece : List Hold → (i first len : ℕ) → Piece
piece pages i first len = record { place = word_place pages i; index = i; first = first; len = len }

same_piece : (pages : List Hold) (i f g l k : ℕ) → f ≡ g → l ≡ k → piece pages i f l ≡ piece pages i g k
same_piece pages i f g l k e h = ap (λ x. piece pages i x l) e ∙ ap (piece pages i g) h

-- words behind the beginning of two ranges that end in one octet have the same pieces
same_behind : (pages : List Hold) (o m p n a k : ℕ) → o + m ≡ p + n → o ≤ 4 * a → p ≤ 4 * a
    → map (piece_of pages o m) (range_with_len a k) ≡ map (piece_of pages p n) (range_with_len a k)
same_behind pages o m p n a zero e h i = refl
same_behind pages o m p n a (suc k) e h i =
    let f : o - 4 * a ≡ p - 4 * a = omega arith in
    let l : min 4 (o + m - 4 * a) - (o - 4 * a) ≡ min 4 (p + n - 4 * a) - (p - 4 * a) = ap (λ x. min 4 (x - 4 * a) - (o - 4 * a)) e ∙ ap
    (λ x. min 4 (p + n - 4 * a) - x) f in
    ap (λ x. x ∷ map (piece_of pages o m) (range_with_len (a + 1) k)) (same_piece pages a _ _ _ _ f l)
    ∙ ap (λ xs. piece_of pages p n a ∷ xs) (same_behind pages o m p n (a + 1) k e (omega arith) (omega arith))

rest_same : (pages : List Hold) (octet more len rest : ℕ) → len + rest ≡ more → octet % 4 + len ≤ 4 → (octet % 4 + len ≡ 4) ⊎ (rest ≡ 0)
    → map (piece_of pages octet more) (words_of (octet + len) rest) ≡ pieces_in pages (octet + len) rest
unfolding words_of pieces_in
rest_same pages octet more len zero e f ends = refl
rest_same pages octet more len (suc rest) e f (inl full) =
    same_behind pages octet more (octet + len) (suc rest) ((octet + len) / 4) ((octet + len + rest) / 4 + 1 - (octet + len) / 4)
    (omega arith) (omega arith) (omega arith)
rest_same pages octet more len (suc rest) e f (inr none) = absurd (omega arith)

-- the next piece, and those behind it
pub pieces_next : (pages : List Hold) (octet more len rest : ℕ) → IsNext octet more len rest
    → pieces_in pages octet more ≡ piece pages (octet / 4) (octet % 4) len ∷ pieces_in pages (octet + len) rest
unfolding pieces_in
pieces_next pages octet more len rest n =
    let some = n.some in
    let fits = n.fits in
    let all = n.sum in
    let first : octet - 4 * (octet / 4) ≡ octet % 4 = omega arith in
    let long : min 4 (octet + more - 4 * (octet / 4)) - (octet - 4 * (octet / 4)) ≡ len =
    elim n.ends [ inl full ↦ omega arith | inr none ↦ omega arith ] in
    ap (map (piece_of pages octet more)) (words_next octet more len rest n)
    ∙ (ap (λ x. x ∷ map (piece_of pages octet more) (words_of (octet + len) rest)) (same_piece pages (octet / 4) _ _ _ _ first long)
    ∙ ap (λ xs. piece pages (octet / 4) (octet % 4) len ∷ xs) (rest_same pages octet more len rest n.sum n.fits n.ends))

-- the next piece, by the page in which its word is found
pub steps_on : (pages : List Hold) (octet more len added : ℕ) (page : Hold) → 0 < more → len ≡ min more (4 - octet % 4) → added ≡ len
    → slice_get pages (octet / 4 / 1024) ≡ Some page
    → pieces_in pages octet more
    ≡ record { place = Cell page.dom page.frame (octet / 4 % 1024); index = octet / 4; first = octet % 4; len = len } ∷ pieces_in pages
    (octet + added) (more - len)
steps_on pages octet more len added page h e a is =
    pieces_next pages octet more len (more - len) (next_is octet more len h e)
    ∙ (ap (λ at. record { place = at; index = octet / 4; first = octet % 4; len = len } ∷ pieces_in pages (octet + len) (more - len))
    (sym (place_is pages (octet / 4) page is))
    ∙ ap (λ x. record {
      place = Cell page.dom page.frame (octet / 4 % 1024);
      index = octet / 4;
      first = octet % 4;
      len =
          len;
    } ∷ pieces_in pages (octet + x) (more - len)) (sym a))
