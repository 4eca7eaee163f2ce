-- What is left of a scan, a word at a time.
use Rattle.std.proofs.Common.{◌≡◌, ℕ, zero, suc, ◌+◌, ◌-◌, ◌/◌, ◌%◌, ◌<◌, ◌≤◌, min, Bool, true, false, Option, Some, None, List, [], ◌∷◌, length, take, drop, refl, sym, ◌∙◌, ap, subst, arith}
use Rattle.std.specs.List.{fold}
use Rattle.std.proofs.lemmas.List.Sums.{fold-append}
use Rattle.pv_words.proofs.Plans.{goes_from}
use Rattle.pv_words.specs.declared.access.Access.TheVariants as access
use Rattle.pv_words.specs.declared.grant.Hold.{Hold}
use Rattle.pv_words.specs.Plan.{Plan, Make, Load, Takes, IsUnfinished, Turns}
use Rattle.picture_scan.specs.declared.pixels.Pixels.{Pixels}
use Rattle.picture_scan.specs.declared.scan.Shown.{Shown}
use Rattle.picture_scan.specs.declared.shape.Shape.{Shape}
use Rattle.octet_window.specs.Octets.{octets_in, octets_of, words_of}
use Rattle.picture_scan.specs.Pixels.{begun, fed}
use Rattle.picture_scan.specs.Rectangle.{is_depth, pixel_octets, row_first, row_octets, row_words}
use Rattle.picture_scan.specs.Scan.{left_in}
use Rattle.octet_window.specs.Pages.{word_place}
use Rattle.picture_scan.specs.Scanning.{rows_plan, take_words}
use Rattle.picture_scan.proofs.Marks.{marks_row}
use Rattle.picture_scan.specs.Steps.{IsLeft}
use Rattle.octet_window.proofs.Words.{octets_last, octets_more, words_last, words_more, words_some}

-- loads that lead on alike, where as many words are found
take_same : {A : Type 0} (pages : List Hold) (key : ℕ) (is : List ℕ) (f g : List ℕ → Plan A) → ((vs : List ℕ) → length vs ≡ length is → f vs ≡ g vs) → take_words pages key is f ≡ take_words pages key is g
take_same pages key [] f g same = same [] refl
take_same pages key (x ∷ is) f g same =
    λ i. Make (Load (word_place pages x)) (Takes key x) (λ v. take_same pages key is (λ vs. f (v ∷ vs)) (λ vs. g (v ∷ vs)) (λ vs e. same (v ∷ vs) (omega arith)) i)

-- a row that is begun is a row that is left
pub row_begins : (s : Shape) (pages : List Hold) (key row rows mark : ℕ) → is_depth s.bpp ≡ true → left_in s pages key (row + 1) rows (row_first s row) (row_octets s) (begun (pixel_octets s) mark) false ≡ rows_plan s pages key row (suc rows) mark
row_begins s pages key row rows mark d =
    take_same pages key (row_words s row) _ _ (λ vs e. ap (λ (p : Pixels). rows_plan s pages key (row + 1) rows p.mark) (marks_row s row mark vs d e))

-- a row of which octets are to come isn't read
unfinished : {A : Type 0} (pages : List Hold) (key : ℕ) (is : List ℕ) (f : List ℕ → Plan A) (x : ℕ) (xs : List ℕ) → is ≡ x ∷ xs → IsUnfinished (take_words pages key is f)
unfinished {A} pages key is f x xs e = let P : List ℕ → Type 0 = λ ys. IsUnfinished (take_words pages key ys f) in subst P (sym e) tt

pub left_some : (s : Shape) (pages : List Hold) (key row rows place more : ℕ) (pixels : Pixels) → 0 < more → IsUnfinished (left_in s pages key row rows place more pixels false)
left_some s pages key row rows place more pixels h = let w = words_some place more h in unfinished pages key (words_of place more) _ (place / 4) w.0 w.1

-- the first access of a row that is left
pub head_is : (s : Shape) (pages : List Hold) (key row rows place more : ℕ) (pixels : Pixels) → 0 < more → (next : ℕ → Plan Shown) × (left_in s pages key row rows place more pixels false ≡ Make (Load (word_place pages (place / 4))) (Takes key (place / 4)) next)
head_is s pages key row rows place more pixels h =
    let w = words_some place more h in
    let f : List ℕ → Plan Shown = λ vs. rows_plan s pages key row rows (fold fed pixels (octets_in place more vs)).mark in
    (λ v. take_words pages key w.0 (λ vs. f (v ∷ vs)), ap (λ is. take_words pages key is f) w.1)

-- this many octets of the word are those of the row
abbrev absorbed : Pixels → (place count word : ℕ) → Pixels
absorbed pixels place count word = fold fed pixels (take count (drop (place % 4) (octets_of word)))

-- a word with the last octets of the row
last_is : (s : Shape) (pages : List Hold) (key row rows place more : ℕ) (pixels : Pixels) → 0 < more → place % 4 + more ≤ 4 → left_in s pages key row rows place more pixels false ≡ Make (Load (word_place pages (place / 4))) (Takes key (place / 4)) (λ v. rows_plan s pages key row rows (absorbed pixels place more v).mark)
last_is s pages key row rows place more pixels h l =
    let f : List ℕ → Plan Shown = λ vs. rows_plan s pages key row rows (fold fed pixels (octets_in place more vs)).mark in
    let same : (v : ℕ) → f (v ∷ []) ≡ rows_plan s pages key row rows (absorbed pixels place more v).mark =
    λ v. ap (λ os. rows_plan s pages key row rows (fold fed pixels os).mark) (octets_last place more v [] l) in
    ap (λ is. take_words pages key is f) (words_last place more h l) ∙ (λ i. Make (Load (word_place pages (place / 4))) (Takes key (place / 4)) (λ v. same v i))

-- a word behind which the row goes on
more_is : (s : Shape) (pages : List Hold) (key row rows place d more m : ℕ) (pixels : Pixels) → place % 4 + d ≡ 4 → more ≡ d + suc m → left_in s pages key row rows place more pixels false ≡ Make (Load (word_place pages (place / 4))) (Takes key (place / 4)) (λ v. left_in s pages key row rows (place + d) (suc m) (absorbed pixels place d v) false)
more_is s pages key row rows place d more m pixels e h =
    let f : List ℕ → Plan Shown = λ vs. rows_plan s pages key row rows (fold fed pixels (octets_in place more vs)).mark in
    let same : (v : ℕ) (vs : List ℕ) → f (v ∷ vs) ≡ rows_plan s pages key row rows (fold fed (absorbed pixels place d v) (octets_in (place + d) (suc m) vs)).mark =
    λ v vs. ap (λ (p : Pixels). rows_plan s pages key row rows p.mark) (ap (fold fed pixels) (octets_more place d more (suc m) v vs e h) ∙ fold-append fed pixels (take d (drop (place % 4) (octets_of v))) (octets_in (place + d) (suc m) vs)) in
    ap (λ is. take_words pages key is f) (words_more place d more m e h)
    ∙ (λ i. Make (Load (word_place pages (place / 4))) (Takes key (place / 4)) (λ v. take_words pages key (words_of (place + d) (suc m)) (λ vs. same v vs i)))

-- the load of a word behind which the row goes on
turns_on : (s : Shape) (pages : List Hold) (key row rows place count more rest word : ℕ) (pixels : Pixels) → 0 < rest → place % 4 + count ≡ 4 → more ≡ count + rest → Turns (left_in s pages key row rows place more pixels false) (Some (access.Load (word_place pages (place / 4)) word)) None (left_in s pages key row rows (place + count) rest (absorbed pixels place count word) false)
turns_on s pages key row rows place count more zero word pixels h e f = absurd (omega arith)
turns_on s pages key row rows place count more (suc m) word pixels h e f = (
  goes_from _ _ _ _ (access.Load (word_place pages (place / 4)) word) _ (more_is s pages key row rows place count more m pixels e f) (refl, refl),
  left_some s pages key row rows (place + count) (suc m) (absorbed pixels place count word) h,
)

pub turns_more : (s : Shape) (pages : List Hold) (key row rows place count more word : ℕ) (pixels new : Pixels) → count ≡ min more (4 - place % 4) → count < more → new ≡ absorbed pixels place count word → Turns (left_in s pages key row rows place more pixels false) (Some (access.Load (word_place pages (place / 4)) word)) None (left_in s pages key row rows (place + count) (more - count) new false)
turns_more s pages key row rows place count more word pixels new c l e =
    let P : Pixels → Type 0 = λ p. Turns (left_in s pages key row rows place more pixels false) (Some (access.Load (word_place pages (place / 4)) word)) None (left_in s pages key row rows (place + count) (more - count) p false) in
    subst P (sym e) (turns_on s pages key row rows place count more (more - count) word pixels (omega arith) (omega arith) (omega arith))

-- the load of the last word of a row
ends_on : (s : Shape) (pages : List Hold) (key row rows place more word : ℕ) (pixels : Pixels) (done : Option Shown) (left : Plan Shown) → 0 < more → place % 4 + more ≤ 4 → IsLeft (rows_plan s pages key row rows (absorbed pixels place more word).mark) done left → Turns (left_in s pages key row rows place more pixels false) (Some (access.Load (word_place pages (place / 4)) word)) done left
ends_on s pages key row rows place more word pixels None left h l is = (
  goes_from _ _ _ _ (access.Load (word_place pages (place / 4)) word) _ (last_is s pages key row rows place more pixels h l) (refl, is.0),
  is.1,
)
ends_on s pages key row rows place more word pixels (Some x) left h l is =
    goes_from _ _ _ _ (access.Load (word_place pages (place / 4)) word) _ (last_is s pages key row rows place more pixels h l) (refl, sym is)

pub turns_last : (s : Shape) (pages : List Hold) (key row rows place count more word : ℕ) (pixels new : Pixels) (done : Option Shown) (left : Plan Shown) → 0 < more → count ≡ min more (4 - place % 4) → more ≤ count → new ≡ absorbed pixels place count word → IsLeft (rows_plan s pages key row rows new.mark) done left → Turns (left_in s pages key row rows place more pixels false) (Some (access.Load (word_place pages (place / 4)) word)) done left
turns_last s pages key row rows place count more word pixels new done left h c l e is =
    let n : count ≡ more = omega arith in
    let P : Pixels → Type 0 = λ p. IsLeft (rows_plan s pages key row rows p.mark) done left in
    ends_on s pages key row rows place more word pixels done left h (omega arith) (subst P (e ∙ ap (λ k. absorbed pixels place k word) n) is)

-- a row that is begun, by its parts
pub row_same : (s : Shape) (pages : List Hold) (key row rows k mark a b m : ℕ) (p : Pixels) (over : Bool) → is_depth s.bpp ≡ true → rows ≡ k + 1 → a ≡ row_first s row → b ≡ row_octets s → p ≡ begun (pixel_octets s) m → m ≡ mark → over ≡ false → left_in s pages key (row + 1) k a b p over ≡ rows_plan s pages key row rows mark
row_same s pages key row rows k mark a b m p over d er ea eb ep em eo =
    let n : suc k ≡ rows = omega arith in
    ap (left_in s pages key (row + 1) k a b p) eo
    ∙ (ap (λ (q : Pixels). left_in s pages key (row + 1) k a b q false) (ep ∙ ap (begun (pixel_octets s)) em)
    ∙ (ap (λ x. left_in s pages key (row + 1) k x b (begun (pixel_octets s) mark) false) ea
    ∙ (ap (λ x. left_in s pages key (row + 1) k (row_first s row) x (begun (pixel_octets s) mark) false) eb
    ∙ (row_begins s pages key row k mark d ∙ ap (λ x. rows_plan s pages key row x mark) n))))

pub some_left : (s : Shape) (pages : List Hold) (key row rows place more : ℕ) (p : Pixels) (over : Bool) → 0 < more → over ≡ false → IsUnfinished (left_in s pages key row rows place more p over)
some_left s pages key row rows place more p over h e =
    let P : Bool → Type 0 = λ o. IsUnfinished (left_in s pages key row rows place more p o) in
    subst P (sym e) (left_some s pages key row rows place more p h)
