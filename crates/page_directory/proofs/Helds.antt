-- What a walk holds, and where a page stands among its holds.
use Rattle.std.proofs.Common.{◌≡◌, ℕ, zero, suc, ◌+◌, ◌<◌, ◌≤◌, List, [], ◌∷◌, length, drop, get_or, add-one, slice_get, Some, None, refl, sym, ap, ◌∙◌, arith, length-drop}
use Rattle.std.specs.List.{insert}
use Rattle.std.proofs.Math.Seq.{drop-cons}
use Rattle.std.proofs.lemmas.List.{get_or-drop}
use Rattle.std.proofs.lemmas.Option.{slice_get-get_or}
use Rattle.pv_words.specs.declared.grant.Hold.{Hold}
use Rattle.page_directory.specs.declared.walk.Stage.{Stage}
use Rattle.page_directory.specs.declared.walk.Stage.TheVariants as stage
use Rattle.page_directory.specs.Stages.{directory_in, undone}
use Rattle.page_directory.specs.WalkLeft.{held_in}

pub held_some : (s : Stage) (begins : ℕ) (pages : List Hold) (d : Hold) → directory_in s ≡ Some d → held_in begins pages s ≡ insert pages begins d
held_some stage.Directory begins pages d e = let wrong : ⊥ = cc in absurd wrong
held_some (stage.Reference x) begins pages d e = let same : x ≡ d = cc in ap (insert pages begins) same
held_some (stage.Page x) begins pages d e = let same : x ≡ d = cc in ap (insert pages begins) same
held_some (stage.Next x) begins pages d e = let same : x ≡ d = cc in ap (insert pages begins) same
held_some (stage.Further x g) begins pages d e = let same : x ≡ d = cc in ap (insert pages begins) same
held_some (stage.Leave x) begins pages d e = let same : x ≡ d = cc in ap (insert pages begins) same
held_some (stage.Undo i r) begins pages d e = let wrong : ⊥ = cc in absurd wrong
held_some stage.Over begins pages d e = let wrong : ⊥ = cc in absurd wrong

pub held_none : (s : Stage) (begins : ℕ) (pages : List Hold) → directory_in s ≡ None → held_in begins pages s ≡ drop (undone s) pages
held_none stage.Directory begins pages e = refl
held_none (stage.Reference x) begins pages e = let wrong : ⊥ = cc in absurd wrong
held_none (stage.Page x) begins pages e = let wrong : ⊥ = cc in absurd wrong
held_none (stage.Next x) begins pages e = let wrong : ⊥ = cc in absurd wrong
held_none (stage.Further x g) begins pages e = let wrong : ⊥ = cc in absurd wrong
held_none (stage.Leave x) begins pages e = let wrong : ⊥ = cc in absurd wrong
held_none (stage.Undo i r) begins pages e = refl
held_none stage.Over begins pages e = refl

pub undone_some : (s : Stage) (d : Hold) → directory_in s ≡ Some d → undone s ≡ 0
undone_some stage.Directory d e = refl
undone_some (stage.Reference x) d e = refl
undone_some (stage.Page x) d e = refl
undone_some (stage.Next x) d e = refl
undone_some (stage.Further x g) d e = refl
undone_some (stage.Leave x) d e = refl
undone_some (stage.Undo i r) d e = let wrong : ⊥ = cc in absurd wrong
undone_some stage.Over d e = refl

pub length_insert : {X : Type 0} (xs : List X) (b : ℕ) (x : X) → b ≤ length xs → length (insert xs b x) ≡ length xs + 1
length_insert [] zero x h = refl
length_insert [] (suc b) x h = absurd (omega (arith, h))
length_insert (y ∷ ys) zero x h = omega arith
length_insert (y ∷ ys) (suc b) x h = let rest = length_insert ys b x (omega (arith, h)) in omega (arith, rest)

pub get_before : {X : Type 0} (xs : List X) (b i : ℕ) (x : X) → i < b → b ≤ length xs → slice_get (insert xs b x) i ≡ slice_get xs i
get_before xs zero i x l h = absurd (omega (arith, l))
get_before [] (suc b) i x l h = absurd (omega (arith, h))
get_before (y ∷ ys) (suc b) zero x l h = refl
get_before (y ∷ ys) (suc b) (suc i) x l h = get_before ys b i x (omega (arith, l)) (omega (arith, h))

pub get_here : {X : Type 0} (xs : List X) (b : ℕ) (x : X) → b ≤ length xs → slice_get (insert xs b x) b ≡ Some x
get_here xs zero x h = refl
get_here [] (suc b) x h = absurd (omega (arith, h))
get_here (y ∷ ys) (suc b) x h = get_here ys b x (omega (arith, h))

pub get_behind : {X : Type 0} (xs : List X) (b i : ℕ) (x : X) → b ≤ i → b ≤ length xs → slice_get (insert xs b x) (suc i) ≡ slice_get xs i
get_behind xs zero i x l h = refl
get_behind [] (suc b) i x l h = absurd (omega (arith, h))
get_behind (y ∷ ys) (suc b) zero x l h = absurd (omega (arith, l))
get_behind (y ∷ ys) (suc b) (suc i) x l h = get_behind ys b i x (omega (arith, l)) (omega (arith, h))

-- what was read of a list is what stands there
pub read_at : {X : Type 0} (xs : List X) (i : ℕ) (x : X) → i < length xs → x ≡ get_or xs i x → slice_get xs i ≡ Some x
read_at xs i x l e = slice_get-get_or xs i x l ∙ ap Some (sym e)

pub read_behind : {X : Type 0} (xs : List X) (n i : ℕ) (x : X) → n + i < length xs → x ≡ get_or xs (n + i) x → slice_get (drop n xs) i ≡ Some x
read_behind {X} xs n i x l e =
    let within : i < length (drop n xs) = omega (arith, length-drop n xs) in
    slice_get-get_or (drop n xs) i x within ∙ ap Some (get_or-drop n xs i x ∙ sym e)

-- the rest of a list from an element that was read
pub rest_from : {X : Type 0} (xs : List X) (i : ℕ) (x : X) → i < length xs → x ≡ get_or xs i x → drop i xs ≡ x ∷ drop (i + 1) xs
rest_from xs i x l e =
    drop-cons xs i x l ∙ ap (λ y. y ∷ drop (suc i) xs) (sym e) ∙ ap (λ k. x ∷ drop k xs) (sym (add-one i))
