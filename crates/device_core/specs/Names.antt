-- Names: the buffers that live in a domain's pages, and how their words change, whoever writes them.
use Rattle.std.specs.Prelude.{◌≡◌, ℕ, zero, suc, ◌+◌, ◌<◌, ◌==◌, Bool, true, false, List, [], ◌∷◌, ◌++◌, length, map, slice_get, slice_set, Option, Some, None, if◌then◌else◌}
use Rattle.pv_words.specs.declared.access.Access.{Access}
use Rattle.pv_words.specs.declared.access.Access.TheVariants as access
use Rattle.pv_words.specs.declared.grant.Hold.{Hold}
use Rattle.pv_words.specs.declared.place.Place.{Place}
use Rattle.pv_words.specs.declared.place.Place.TheVariants.{Cell}
use Rattle.pv_words.specs.Memory.{Memory, without}
use Rattle.pv_words.specs.Place.{same_place}

-- a name is one making of a buffer: its number, and the words of its pages, in order
pub record Name : Type 0 where
  pub number : ℕ
  pub cells : List Place

-- what it looks like: what stands in these words
pub record Drawn : Type 0 where
  pub number : ℕ
  pub words : List ℕ

-- n words of a page, from word w on
unfoldable pub cells_from : Hold → ℕ → ℕ → List Place
cells_from h w zero = []
cells_from h w (suc n) = Cell h.dom h.frame w ∷ cells_from h (w + 1) n

-- the words of these pages, in order: word i is word i mod 1024 of page i / 1024
unfoldable pub cells_of : List Hold → List Place
cells_of [] = []
cells_of (h ∷ hs) = cells_from h 0 1024 ++ cells_of hs

-- What a reading knows of the words: nothing, so that its names are numbers alone, or the memory.
pub data Sight : Type 0 where
  Numbers : Sight
  Words : Memory → Sight

abbrev pub is_worded : Sight → Bool
is_worded Numbers = false
is_worded (Words memory) = true

abbrev pub words_at : Memory → List Place → List ℕ
words_at memory cells = map memory cells

abbrev pub words_in : Sight → List Place → List ℕ
words_in Numbers cells = []
words_in (Words memory) cells = words_at memory cells

abbrev pub drawn : Sight → Name → Drawn
drawn sight n = record { number = n.number; words = words_in sight n.cells }

abbrev pub all_drawn : Sight → List Name → List Drawn
all_drawn sight names = map (drawn sight) names

-- a word that is written, and where
pub record Writing : Type 0 where
  pub place : Place
  pub word : ℕ

-- what an access writes, if it does
abbrev pub writing_of : Access → Option Writing
writing_of (access.Load at v) = None
writing_of (access.Store at v) = Some (record { place = at; word = v })
writing_of (access.Cas at old new seen) = if seen == old then Some (record { place = at; word = new }) else None
writing_of (access.Clear at mask seen) = Some (record { place = at; word = without seen mask })

-- a word of a name: the name's number, which of its words, and the word
pub record Stroke : Type 0 where
  pub number : ℕ
  pub index : ℕ
  pub word : ℕ

-- the strokes on a name's words from this index on
abbrev pub strokes_on : Writing → ℕ → ℕ → List Place → List Stroke
strokes_on w number index [] = []
strokes_on w number index (c ∷ cs) =
    if same_place w.place c then record { number = number; index = index; word = w.word } ∷ strokes_on w number (index + 1) cs
    else strokes_on w number (index + 1) cs

-- on every word of every name that stands at the written place
abbrev pub all_strokes : Writing → List Name → List Stroke
all_strokes w [] = []
all_strokes w (n ∷ ns) = strokes_on w n.number 0 n.cells ++ all_strokes w ns

abbrev pub strokes_by : Option Writing → List Name → List Stroke
strokes_by None names = []
strokes_by (Some w) names = all_strokes w names

-- one word of one name is another
pub record Redraws (s : Stroke) (old new : List Drawn) : Type 0 where
  pub before : List Drawn
  pub words : List ℕ
  pub behind : List Drawn
  pub inside : s.index < length words
  pub old_is : old ≡ before ++ record { number = s.number; words = words } ∷ behind
  pub new_is : new ≡ before ++ record { number = s.number; words = slice_set words s.index s.word } ∷ behind

-- the name is live, and that word of it is this one, where the words are known
pub record HasWord (worded : Bool) (s : Stroke) (names : List Drawn) : Type 0 where
  pub before : List Drawn
  pub words : List ℕ
  pub behind : List Drawn
  pub live : names ≡ before ++ record { number = s.number; words = words } ∷ behind
  pub word : worded ≡ true → slice_get words s.index ≡ Some s.word

-- one name is live no longer
pub record Loses (number : ℕ) (old new : List Drawn) : Type 0 where
  pub before : List Drawn
  pub words : List ℕ
  pub behind : List Drawn
  pub old_is : old ≡ before ++ record { number = number; words = words } ∷ behind
  pub new_is : new ≡ before ++ behind

-- one more is, with these words, where a name is made
abbrev pub with_name : List Drawn → Option ℕ → List ℕ → List Drawn
with_name names None words = names
with_name names (Some number) words = names ++ record { number = number; words = words } ∷ []
