-- What the pieces of a range come to.
use Rattle.std.specs.Prelude.{◌≡◌, ℕ, ◌+◌, ◌/◌, ◌%◌, ◌<◌, ◌≤◌, ◌*◌, List, [], ◌∷◌, ◌++◌, length, take, drop}
use Rattle.std.specs.List.{AllByRecursion, flat_map, range_with_len}
use Rattle.pv_words.specs.declared.grant.Hold.{Hold}
use Rattle.octet_window.specs.declared.piece.Piece.{Piece}
use Rattle.octet_window.specs.Octets.{octets_in, octets_of, words_of}
use Rattle.octet_window.specs.Pages.{word_place}
use Rattle.octet_window.specs.Parts.{blended, part_of}
use Rattle.octet_window.specs.Pieces.{octets_at, pieces_in}

-- The octets of the pieces of a range are those of the range, in order, each once.
abbrev pub CoversRange : Type 0
CoversRange = (pages : List Hold) (first count : ℕ) → flat_map octets_at (pieces_in pages first count) ≡ range_with_len first count

-- a piece of a word of these pages: it has an octet, and no more than the word has
pub record IsInPages (pages : List Hold) (p : Piece) : Type 0 where
  pub inside : p.index / 1024 < length pages
  pub place : p.place ≡ word_place pages p.index
  pub some : 0 < p.len
  pub whole : p.first + p.len ≤ 4

-- The pieces of a range that lies in the pages are of words of the pages.
abbrev pub LiesInPages : Type 0
LiesInPages =
    (pages : List Hold) (first count : ℕ) → first + count ≤ 4096 * length pages
    → AllByRecursion (IsInPages pages) (pieces_in pages first count)

-- all words of a range were found
abbrev pub AreFound : (first count : ℕ) → List ℕ → Type 0
AreFound first count words = length words ≡ length (words_of first count)

-- the octets of pieces, where their words, in order, are these
abbrev pub joined : List Piece → List ℕ → List ℕ
joined [] words = []
joined (p ∷ ps) [] = []
joined (p ∷ ps) (v ∷ vs) = part_of p v ++ joined ps vs

-- What is found for the pieces joins to the octets of the range.
abbrev pub JoinsRange : Type 0
JoinsRange =
    (pages : List Hold) (first count : ℕ) (words : List ℕ) → AreFound first count words
    → joined (pieces_in pages first count) words ≡ octets_in first count words

-- piece by piece, the next of these octets were blended into the words, which are then those
abbrev pub AreBlended : List Piece → (words octets then : List ℕ) → Type 0
AreBlended [] words octets then = then ≡ []
AreBlended (p ∷ ps) [] octets then = ⊥
AreBlended (p ∷ ps) (v ∷ vs) octets [] = ⊥
AreBlended (p ∷ ps) (v ∷ vs) octets (w ∷ ws) = (octets_of w ≡ blended p v octets) × AreBlended ps vs (drop p.len octets) ws

-- Blending the pieces of a range changes the octets of the range, in order, and no others of their words.
abbrev pub BlendsRange : Type 0
BlendsRange =
    (pages : List Hold) (first count : ℕ) (words octets then : List ℕ) → AreFound first count words → length octets ≡ count
    → AreBlended (pieces_in pages first count) words octets then → flat_map octets_of then
    ≡ take (first % 4) (flat_map octets_of words) ++ octets ++ drop (first % 4 + count) (flat_map octets_of words)

-- Where a piece is a whole word, the word that is blended is told by the octets alone.
abbrev pub ReplacesWhole : Type 0
ReplacesWhole = (p : Piece) (word : ℕ) (octets : List ℕ) → p.first ≡ 0 → p.len ≡ 4 → blended p word octets ≡ take 4 octets
