-- The mark of pixels, octet by octet.
use Rattle.std.proofs.Common.{◌≡◌, ℕ, zero, suc, ◌*◌, ◌/◌, ◌⊎◌, true, List, [], ◌∷◌, length, refl, sym, ◌∙◌, ap, subst, arith, inl, inr}
use Rattle.std.proofs.lemmas.Bool.Decides.{nat_tests}
use Rattle.std.specs.List.{fold}
use Rattle.pv_words.specs.Mark.{mark_after}
use Rattle.picture_scan.specs.declared.shape.Shape.{Shape}
use Rattle.octet_window.specs.Octets.{number_of, octets_in}
use Rattle.picture_scan.specs.Pixels.{begun, fed, grown}
use Rattle.picture_scan.specs.Rectangle.{is_depth, pixel_octets, pixels_in, row_first, row_octets, row_pixels, row_words}
use Rattle.octet_window.proofs.Words.{length_range}

mark_two : (n mark : ℕ) (octets : List ℕ) → length octets ≡ n * 2 → fold fed (begun 2 mark) octets ≡ begun 2 (fold mark_after mark (pixels_in 2 n octets))
mark_two zero mark [] h = refl
mark_two zero mark (o ∷ os) h = absurd (omega arith)
mark_two (suc n) mark [] h = absurd (omega arith)
mark_two (suc n) mark (a ∷ []) h = absurd (omega arith)
mark_two (suc n) mark (a ∷ b ∷ os) h =
    let e : grown (grown 0 a) b / 65536 ≡ number_of (a ∷ b ∷ []) = omega arith in
    ap (λ x. fold fed (begun 2 (mark_after mark x)) os) e ∙ mark_two n (mark_after mark (number_of (a ∷ b ∷ []))) os (omega arith)

mark_three : (n mark : ℕ) (octets : List ℕ) → length octets ≡ n * 3 → fold fed (begun 3 mark) octets ≡ begun 3 (fold mark_after mark (pixels_in 3 n octets))
mark_three zero mark [] h = refl
mark_three zero mark (o ∷ os) h = absurd (omega arith)
mark_three (suc n) mark [] h = absurd (omega arith)
mark_three (suc n) mark (a ∷ []) h = absurd (omega arith)
mark_three (suc n) mark (a ∷ b ∷ []) h = absurd (omega arith)
mark_three (suc n) mark (a ∷ b ∷ c ∷ os) h =
    let e : grown (grown (grown 0 a) b) c / 256 ≡ number_of (a ∷ b ∷ c ∷ []) = omega arith in
    ap (λ x. fold fed (begun 3 (mark_after mark x)) os) e ∙ mark_three n (mark_after mark (number_of (a ∷ b ∷ c ∷ []))) os (omega arith)

mark_four : (n mark : ℕ) (octets : List ℕ) → length octets ≡ n * 4 → fold fed (begun 4 mark) octets ≡ begun 4 (fold mark_after mark (pixels_in 4 n octets))
mark_four zero mark [] h = refl
mark_four zero mark (o ∷ os) h = absurd (omega arith)
mark_four (suc n) mark [] h = absurd (omega arith)
mark_four (suc n) mark (a ∷ []) h = absurd (omega arith)
mark_four (suc n) mark (a ∷ b ∷ []) h = absurd (omega arith)
mark_four (suc n) mark (a ∷ b ∷ c ∷ []) h = absurd (omega arith)
mark_four (suc n) mark (a ∷ b ∷ c ∷ d ∷ os) h =
    let e : grown (grown (grown (grown 0 a) b) c) d ≡ number_of (a ∷ b ∷ c ∷ d ∷ []) = omega arith in
    ap (λ x. fold fed (begun 4 (mark_after mark x)) os) e ∙ mark_four n (mark_after mark (number_of (a ∷ b ∷ c ∷ d ∷ []))) os (omega arith)

sizes : (bpp : ℕ) → is_depth bpp ≡ true → (bpp / 8 ≡ 2) ⊎ ((bpp / 8 ≡ 3) ⊎ (bpp / 8 ≡ 4))
sizes bpp h = grind (arith, nat_tests)

abbrev MarksAll : ℕ → Type 0
MarksAll size = (n mark : ℕ) (octets : List ℕ) → length octets ≡ n * size → fold fed (begun size mark) octets ≡ begun size (fold mark_after mark (pixels_in size n octets))

marks_all : (size : ℕ) → (size ≡ 2) ⊎ ((size ≡ 3) ⊎ (size ≡ 4)) → MarksAll size
marks_all size (inl e) = subst MarksAll (sym e) mark_two
marks_all size (inr (inl e)) = subst MarksAll (sym e) mark_three
marks_all size (inr (inr e)) = subst MarksAll (sym e) mark_four

-- the octets of a row give the row's pixels, whole
pub marks_row : (s : Shape) (row mark : ℕ) (words : List ℕ) → is_depth s.bpp ≡ true → length words ≡ length (row_words s row) → fold fed (begun (pixel_octets s) mark) (octets_in (row_first s row) (row_octets s) words) ≡ begun (pixel_octets s) (fold mark_after mark (row_pixels s row words))
marks_row s row mark words d e =
    marks_all (pixel_octets s) (sizes s.bpp d) s.columns mark (octets_in (row_first s row) (row_octets s) words) (length_range (row_first s row) (row_octets s) words e)
