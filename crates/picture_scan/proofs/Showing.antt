-- Whatever words a scan finds.
use Rattle.std.proofs.Common.{◌≡◌, ℕ, zero, suc, ◌+◌, ◌*◌, List, [], ◌∷◌, ◌++◌, length, drop, refl, sym, ◌∙◌, ap, append-nil, append_assoc, arith}
use Rattle.std.specs.List.{fold}
use Rattle.std.proofs.lemmas.List.{length-append}
use Rattle.std.proofs.lemmas.List.Sums.{fold-append}
use Rattle.pv_words.specs.declared.grant.Hold.{Hold}
use Rattle.pv_words.specs.Mark.{mark_after}
use Rattle.pv_words.specs.Plan.{Plan, Want, Note, FitsFrom}
use Rattle.pv_words.specs.Held.{kept}
use Rattle.pv_words.proofs.Fits.{fits_so}
use Rattle.device_core.specs.Learned.{Learned, learning}
use Rattle.device_core.specs.Touched.{Carried, Touch, Took, carrying}
use Rattle.picture_scan.specs.declared.scan.Shown.{Shown}
use Rattle.picture_scan.specs.declared.shape.Shape.{Shape}
use Rattle.picture_scan.specs.Laws.{AreRead, HasHeld, HasShown, IsTaking, ShowsExactly, taken}
use Rattle.octet_window.specs.Octets.{octets_in}
use Rattle.picture_scan.specs.Rectangle.{pixel_octets, pixels_in, row_first, row_octets, row_pixels, row_words}
use Rattle.picture_scan.specs.Scan.{LiesIn}
use Rattle.octet_window.specs.Pages.{word_place}
use Rattle.picture_scan.specs.Scanning.{rows_plan, scan_plan, take_words}
use Rattle.picture_scan.proofs.Cells.{AreCells, words_cells}
use Rattle.picture_scan.proofs.Rows.{row_inside}

count_pixels : (size n : ℕ) (octets : List ℕ) → length (pixels_in size n octets) ≡ n
count_pixels size zero octets = refl
count_pixels size (suc n) octets = omega (arith, count_pixels size n (drop size octets))

abbrev shown_with : Shape → ℕ → Shown
shown_with s mark = record { pixels = s.columns * s.rows; mark = mark }

module _ (frames : ℕ → ℕ) (s : Shape) (pages held : List Hold) (key : ℕ) where
  abbrev May : Carried Learned → Want → Note → Type 0
  May j want note = HasHeld held j × IsTaking pages key want note

  -- loads of words of the pages
  words_fit : {A : Type 0} (Q : Carried Learned → A → Type 0) (is : List ℕ) (f : List ℕ → Plan A) (k : Carried Learned) → AreCells pages is → HasHeld held k → ((vs : List ℕ) (j : Carried Learned) → length vs ≡ length is → HasHeld held j → j.touched ≡ k.touched ++ taken key is vs → FitsFrom May (carrying (learning frames)) Q j (f vs)) → FitsFrom May (carrying (learning frames)) Q k (take_words pages key is f)
  words_fit Q [] f k all has more = more [] k refl has (sym (append-nil k.touched))
  words_fit Q (i ∷ is) f k all has more = (
    (has, record { index = i; at = word_place pages i; loads = refl; takes = refl; is = all.0 }),
    λ v. words_fit Q is (λ vs. f (v ∷ vs)) _ all.1 (ap kept has) (λ vs j n h t. more (v ∷ vs) j (omega (arith, n)) h (t ∙ append_assoc k.touched (Took (record { number = key; index = i; word = v }) ∷ []) (taken key is vs))),
  )

  -- so many rows from this one on were read, by words that were taken since
  abbrev HasRead : (row n mark : ℕ) → Carried Learned → Carried Learned → Shown → Type 0
  HasRead row n mark k j x =
      (touched : List Touch) × (pixels : List ℕ) × (j.touched ≡ k.touched ++ touched) × AreRead s key row n touched pixels
      × (length pixels ≡ n * s.columns) × (x ≡ shown_with s (fold mark_after mark pixels))

  reads_more : (row n mark : ℕ) (k j l : Carried Learned) (vs : List ℕ) (x : Shown) → length vs ≡ length (row_words s row) → j.touched ≡ k.touched ++ taken key (row_words s row) vs → HasRead (row + 1) n (fold mark_after mark (row_pixels s row vs)) j l x → HasRead row (suc n) mark k l x
  reads_more row n mark k j l vs x len t r =
      let own : List Touch = taken key (row_words s row) vs in
      let px : List ℕ = row_pixels s row vs in
      let n_px : length px ≡ s.columns = count_pixels (pixel_octets s) s.columns (octets_in (row_first s row) (row_octets s) vs) in (
        own ++ r.0,
        px ++ r.1,
        r.2 ∙ (ap (λ ts. ts ++ r.0) t ∙ append_assoc k.touched own r.0),
        (vs, r.0, r.1, len, refl, refl, r.3),
        omega (arith, r.4, n_px, length-append px r.1),
        r.5 ∙ ap (shown_with s) (sym (fold-append mark_after mark px r.1)),
      )

  rows_fit : (row n mark : ℕ) (k : Carried Learned) → row + n ≡ s.y + s.rows → LiesIn pages s → HasHeld held k → FitsFrom May (carrying (learning frames)) (λ j x. HasHeld held j × HasRead row n mark k j x) k (rows_plan s pages key row n mark)
  rows_fit row zero mark k bottom lies has = (has, ([], [], sym (append-nil k.touched), (refl, refl), omega arith, refl))
  rows_fit row (suc n) mark k bottom lies has =
      let inside = row_inside s row (omega arith) lies.across in
      words_fit (λ j x. HasHeld held j × HasRead row (suc n) mark k j x) (row_words s row) (λ vs. rows_plan s pages key (row + 1) n (fold mark_after mark (row_pixels s row vs))) k
      (words_cells pages (row_first s row) (row_octets s) (omega (arith, inside, lies.down))) has
      (λ vs j len h t. fits_so May (carrying (learning frames)) (λ l x. HasHeld held l × HasRead (row + 1) n (fold mark_after mark (row_pixels s row vs)) j l x) (λ l x. HasHeld held l × HasRead row (suc n) mark k l x) (λ l x r. (r.0, reads_more row n mark k j l vs x len t r.1)) j (rows_plan s pages key (row + 1) n (fold mark_after mark (row_pixels s row vs))) (rows_fit (row + 1) n (fold mark_after mark (row_pixels s row vs)) j (omega arith) lies h))

  shown_by : (k j : Carried Learned) (x : Shown) → HasRead s.y s.rows 0 k j x → HasShown s key k.touched j.touched x
  shown_by k j x r = (
    r.0,
    r.2,
    record {
      pixels = r.1;
      read = r.3;
      count = ap (λ (y : Shown). y.pixels) r.5 ∙ omega (arith, r.4);
      all = omega (arith, r.4);
      mark = ap (λ (y : Shown). y.mark) r.5;
    },
  )

pub shows_exactly : ShowsExactly
unfolding scan_plan
shows_exactly = λ frames s pages held key k lies has. fits_so (May frames s pages held key) (carrying (learning frames)) (λ j x. HasHeld held j × HasRead frames s pages held key s.y s.rows 0 k j x) (λ j x. HasHeld held j × HasShown s key k.touched j.touched x) (λ j x r. (r.0, shown_by frames s pages held key k j x r.1)) k (rows_plan s pages key s.y s.rows 0) (rows_fit frames s pages held key s.y s.rows 0 k refl lies has)
