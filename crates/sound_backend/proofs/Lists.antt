-- Lists of pages, of which one is changed, or the first of all pages is given up.
use Rattle.std.proofs.Common.{◌≡◌, ◌≢◌, ℕ, zero, suc, ◌+◌, ◌<◌, List, [], ◌∷◌, ◌++◌, drop, get_or, length, length-append, replicate, slice_get, take, refl, sym, ap, ◌∙◌, arith}
use Rattle.pv_words.specs.declared.grant.Hold.{Hold}
use Rattle.page_directory.specs.Same.{AreSame, times}
use Rattle.page_directory.proofs.Counts.{times_append}
use Rattle.sound_backend.specs.Held.{all_bared, bared, less_one, list_at, pages_in, with_list, without_first, IsPage}

-- the list that was put at a place, and those at others
pub list_put : (lists : List (List Hold)) (k : ℕ) (hs : List Hold) → k < length lists → list_at (with_list lists k hs) k ≡ hs
list_put [] k hs within = absurd (omega (arith, within))
list_put (ks ∷ lists) zero hs within = refl
list_put (ks ∷ lists) (suc k) hs within = list_put lists k hs (omega (arith, within))

pub list_other : (lists : List (List Hold)) (k j : ℕ) (hs : List Hold) → j ≢ k → list_at (with_list lists k hs) j ≡ list_at lists j
list_other [] k j hs apart = refl
list_other (ks ∷ lists) zero zero hs apart = absurd (apart refl)
list_other (ks ∷ lists) zero (suc j) hs apart = refl
list_other (ks ∷ lists) (suc k) zero hs apart = refl
list_other (ks ∷ lists) (suc k) (suc j) hs apart = list_other lists k j hs (λ e. apart (ap suc e))

pub list_bared : (lists : List (List Hold)) (k : ℕ) → list_at (bared lists k) k ≡ []
list_bared [] k = refl
list_bared (ks ∷ lists) zero = refl
list_bared (ks ∷ lists) (suc k) = list_bared lists k

pub list_less : (lists : List (List Hold)) (k : ℕ) → list_at (less_one lists k) k ≡ drop 1 (list_at lists k)
list_less [] k = refl
list_less (ks ∷ lists) zero = refl
list_less (ks ∷ lists) (suc k) = list_less lists k

pub bared_less : (lists : List (List Hold)) (k : ℕ) → bared (less_one lists k) k ≡ bared lists k
bared_less [] k = refl
bared_less (ks ∷ lists) zero = refl
bared_less (ks ∷ lists) (suc k) = ap (λ rest. ks ∷ rest) (bared_less lists k)

-- a list without pages stays as it is
pub bared_bare : (lists : List (List Hold)) (k : ℕ) → list_at lists k ≡ [] → bared lists k ≡ lists
bared_bare [] k e = refl
bared_bare (ks ∷ lists) zero e = ap (λ (x : List Hold). x ∷ lists) (sym e)
bared_bare (ks ∷ lists) (suc k) e = ap (λ rest. ks ∷ rest) (bared_bare lists k e)

-- a list that has pages is there
pub list_within : (lists : List (List Hold)) (k : ℕ) → 0 < length (list_at lists k) → k < length lists
list_within [] k some = absurd (omega (arith, some))
list_within (ks ∷ lists) zero some = omega arith
list_within (ks ∷ lists) (suc k) some = let later = list_within lists k some in omega (arith, later)

pub length_put : (lists : List (List Hold)) (k : ℕ) (hs : List Hold) → length (with_list lists k hs) ≡ length lists
length_put [] k hs = refl
length_put (ks ∷ lists) zero hs = refl
length_put (ks ∷ lists) (suc k) hs = ap suc (length_put lists k hs)

-- all pages are those of one list and those of the others
pub parted : (lists : List (List Hold)) (k : ℕ) → AreSame (pages_in lists) (list_at lists k ++ pages_in (bared lists k))
parted [] k g = refl
parted (ks ∷ lists) zero g = refl
parted (ks ∷ lists) (suc k) g =
    let under = list_at lists k in
    let rest = pages_in (bared lists k) in
    omega (arith, parted lists k g, times_append g ks (pages_in lists), times_append g under (ks ++ rest), times_append g ks rest, times_append g under rest)

-- a list that had no page has these
pub filled : (lists : List (List Hold)) (k : ℕ) (hs : List Hold) → k < length lists → list_at lists k ≡ [] → AreSame (hs ++ pages_in lists) (pages_in (with_list lists k hs))
filled [] k hs within e g = absurd (omega (arith, within))
filled (ks ∷ lists) zero hs within e g = ap (λ (x : List Hold). times g (hs ++ (x ++ pages_in lists))) e
filled (ks ∷ lists) (suc k) hs within e g =
    let later = filled lists k hs (omega (arith, within)) e g in
    omega (arith, later, times_append g hs (ks ++ pages_in lists), times_append g hs (pages_in lists), times_append g ks (pages_in lists), times_append g ks (pages_in (with_list lists k hs)))

-- the first page of all goes first
pub first_in : (lists : List (List Hold)) → pages_in (without_first lists) ≡ drop 1 (pages_in lists)
first_in [] = refl
first_in ([] ∷ lists) = first_in lists
first_in ((h ∷ hs) ∷ lists) = refl

-- the lists stay, but for their pages
pub bared_first : (lists : List (List Hold)) → all_bared (without_first lists) ≡ all_bared lists
bared_first [] = refl
bared_first ([] ∷ lists) = ap (λ rest. [] ∷ rest) (bared_first lists)
bared_first ((h ∷ hs) ∷ lists) = refl

pub none_in : (lists : List (List Hold)) → pages_in (all_bared lists) ≡ []
none_in [] = refl
none_in (ks ∷ lists) = none_in lists

pub all_none : (lists : List (List Hold)) → all_bared lists ≡ replicate (length lists) []
all_none [] = refl
all_none (ks ∷ lists) = ap (λ rest. [] ∷ rest) (all_none lists)

pub none_among : (n : ℕ) → pages_in (replicate n []) ≡ []
none_among zero = refl
none_among (suc n) = none_among n

-- no list has a page where there is none at all
pub none_at : (lists : List (List Hold)) (k : ℕ) → pages_in lists ≡ [] → list_at lists k ≡ []
none_at [] k e = refl
none_at ([] ∷ lists) zero e = refl
none_at ([] ∷ lists) (suc k) e = none_at lists k e
none_at ((h ∷ hs) ∷ lists) k e = let wrong : ⊥ = cc in absurd wrong

pub none_at_bared : (lists : List (List Hold)) (k : ℕ) → list_at (all_bared lists) k ≡ []
none_at_bared lists k = none_at (all_bared lists) k (none_in lists)

-- the pages of one list more
pub pages_more : (lists : List (List Hold)) (k : ℕ) → k < length lists → length (pages_in (take (k + 1) lists)) ≡ length (pages_in (take k lists)) + length (list_at lists k)
pages_more [] k within = absurd (omega (arith, within))
pages_more (ks ∷ lists) zero within = omega (arith, length-append ks [])
pages_more (ks ∷ lists) (suc k) within =
    let later = pages_more lists k (omega (arith, within)) in
    let one : suc k + 1 ≡ suc (k + 1) = omega arith in
    ap (λ n. length (pages_in (take n (ks ∷ lists)))) one
    ∙ omega (arith, later, length-append ks (pages_in (take (k + 1) lists)), length-append ks (pages_in (take k lists)))

-- a page of two lists that are joined
pub get_first : (xs ys : List Hold) (i : ℕ) → i < length xs → slice_get (xs ++ ys) i ≡ slice_get xs i
get_first [] ys i within = absurd (omega (arith, within))
get_first (x ∷ xs) ys zero within = refl
get_first (x ∷ xs) ys (suc i) within = get_first xs ys i (omega (arith, within))

pub get_behind : (xs ys : List Hold) (i j : ℕ) → i ≡ length xs + j → slice_get (xs ++ ys) i ≡ slice_get ys j
get_behind [] ys i j at = let e : i ≡ j = omega (arith, at) in ap (slice_get ys) e
get_behind (x ∷ xs) ys zero j at = absurd (omega (arith, at))
get_behind (x ∷ xs) ys (suc i) j at = get_behind xs ys i j (omega (arith, at))

-- the page of a number stands there
pub page_there : (lists : List (List Hold)) (i k j : ℕ) → IsPage lists i k j → slice_get (pages_in lists) i ≡ slice_get (list_at lists k) j
page_there [] i k j is = let within : j < 0 = is.0 in absurd (omega (arith, within))
page_there (ks ∷ lists) i zero j is =
    let at : i ≡ j = omega (arith, is.1) in
    ap (slice_get (ks ++ pages_in lists)) at ∙ get_first ks (pages_in lists) j is.0
page_there (ks ∷ lists) i (suc k) j is =
    let before = pages_in (take k lists) in
    let there : i ≡ length ks + (length before + j) = sym is.1 ∙ omega (arith, length-append ks before) in
    get_behind ks (pages_in lists) i (length before + j) there ∙ page_there lists (length before + j) k j (is.0, refl)

-- the first of all pages is the first of the list where it stands
pub first_there : (lists : List (List Hold)) (k j : ℕ) → IsPage lists 0 k j → (without_first lists ≡ less_one lists k) × (slice_get (list_at lists k) 0 ≡ slice_get (pages_in lists) 0) × (0 < length (list_at lists k))
first_there [] k j is = let within : j < 0 = is.0 in absurd (omega (arith, within))
first_there ([] ∷ lists) zero j is = let within : j < 0 = is.0 in absurd (omega (arith, within))
first_there ([] ∷ lists) (suc k) j is = let later = first_there lists k j is in (ap (λ rest. [] ∷ rest) later.0, later.1, later.2)
first_there ((h ∷ hs) ∷ lists) zero j is = (refl, refl, omega arith)
first_there ((h ∷ hs) ∷ lists) (suc k) j is = let none : suc (length (hs ++ pages_in (take k lists))) + j ≡ 0 = is.1 in absurd (omega (arith, none))

-- a list that stands at a place
pub list_got : (lists : List (List Hold)) (k : ℕ) (hs : List Hold) → k < length lists → hs ≡ get_or lists k hs → list_at lists k ≡ hs
list_got [] k hs within at = absurd (omega (arith, within))
list_got (ks ∷ lists) zero hs within at = sym at
list_got (ks ∷ lists) (suc k) hs within at = list_got lists k hs (omega (arith, within)) at

pub length_first : (lists : List (List Hold)) → length (without_first lists) ≡ length lists
length_first [] = refl
length_first ([] ∷ lists) = ap suc (length_first lists)
length_first ((h ∷ hs) ∷ lists) = refl
