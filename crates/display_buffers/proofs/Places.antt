-- Buffers by their places in a list.
use Rattle.std.proofs.Common.{◌≡◌, ℕ, zero, suc, ◌+◌, ◌<◌, Bool, true, false, cond, not, List, [], ◌∷◌, drop, take, length, length-append, slice_get, Some, refl, sym, ap, ◌∙◌, arith, subst}
use Rattle.std.proofs.lemmas.Bool.{le-ltb, lt-ltb}
use Rattle.std.specs.List.{AllByRecursion}
use Rattle.std.specs.Option.{option_map}
use Rattle.display_buffers.specs.Buffers.{has_cookie, without_buffer}
use Rattle.display_buffers.specs.Stock.{Held, buffer_pages, has_pages, less_first, less_where, pages_under}
use Rattle.display_buffers.specs.Left.{pages_at, less_at, IsFirst, IsPage}
use Rattle.display_buffers.proofs.Gets.{get_first, get_second}

module _ (p : Held → Bool) where
  none_after : (bs : List Held) (k : ℕ) → AllByRecursion (λ b. p b ≡ false) (take k bs) → option_map p (slice_get bs k) ≡ Some false → AllByRecursion (λ b. p b ≡ false) (take (suc k) bs)
  none_after [] k none here = tt
  none_after (b ∷ bs) zero none here = let fails : p b ≡ false = cc in (fails, tt)
  none_after (b ∷ bs) (suc k) none here = (none.0, none_after bs k none.1 here)

  pub none_more : (bs : List Held) (k : ℕ) → AllByRecursion (λ b. p b ≡ false) (take k bs) → option_map p (slice_get bs k) ≡ Some false → AllByRecursion (λ b. p b ≡ false) (take (k + 1) bs)
  none_more bs k none here =
      let e : suc k ≡ k + 1 = omega arith in
      subst (λ n. AllByRecursion (λ b. p b ≡ false) (take n bs)) e (none_after bs k none here)

  pub first_passes : (bs : List Held) (k : ℕ) → AllByRecursion (λ b. p b ≡ false) (take k bs) → option_map p (slice_get bs k) ≡ Some true → IsFirst p bs k
  first_passes [] k none here = let wrong : ⊥ = cc in wrong
  first_passes (b ∷ bs) zero none here = cc
  first_passes (b ∷ bs) (suc k) none here = (none.0, first_passes bs k none.1 here)

  pub first_within : (bs : List Held) (k : ℕ) → IsFirst p bs k → k < length bs
  first_within [] k first = absurd first
  first_within (b ∷ bs) zero first = omega arith
  first_within (b ∷ bs) (suc k) first = omega (arith, first_within bs k first.1)

  -- its first page goes
  pub less_place : (bs : List Held) (k : ℕ) → IsFirst p bs k → less_at bs k ≡ less_where p bs
  less_place [] k first = absurd first
  less_place (b ∷ bs) zero first = ap (λ t. cond t (less_first b ∷ bs) (b ∷ less_where p bs)) (sym first)
  less_place (b ∷ bs) (suc k) first =
      ap (λ cs. b ∷ cs) (less_place bs k first.1)
      ∙ ap (λ t. cond t (less_first b ∷ bs) (b ∷ less_where p bs)) (sym first.0)

-- a place that has a page is one of the list
pub pages_within : (bs : List Held) (k : ℕ) → 0 < length (pages_at bs k) → k < length bs
pages_within [] k some = absurd (omega (arith, some))
pages_within (b ∷ bs) zero some = omega arith
pages_within (b ∷ bs) (suc k) some = omega (arith, pages_within bs k some)

pub pages_less : (bs : List Held) (k : ℕ) → pages_at (less_at bs k) k ≡ drop 1 (pages_at bs k)
pages_less [] k = refl
pages_less (b ∷ bs) zero = refl
pages_less (b ∷ bs) (suc k) = pages_less bs k

-- the buffer of a cookie, by its place
pub under_place : (cookie : ℕ) (bs : List Held) (k : ℕ) → IsFirst (has_cookie cookie) bs k → pages_under cookie bs ≡ pages_at bs k
under_place cookie [] k first = absurd first
under_place cookie (b ∷ bs) zero first = ap (λ t. cond t b.pages (pages_under cookie bs)) first
under_place cookie (b ∷ bs) (suc k) first = ap (λ t. cond t b.pages (pages_under cookie bs)) first.0 ∙ under_place cookie bs k first.1

pub under_none : (cookie : ℕ) (bs : List Held) → AllByRecursion (λ b. has_cookie cookie b ≡ false) bs → pages_under cookie bs ≡ []
under_none cookie [] none = refl
under_none cookie (b ∷ bs) none = ap (λ t. cond t b.pages (pages_under cookie bs)) none.0 ∙ under_none cookie bs none.1

pub without_none : (cookie : ℕ) (bs : List Held) → AllByRecursion (λ b. has_cookie cookie b ≡ false) bs → bs ≡ without_buffer cookie bs
without_none cookie [] none = refl
without_none cookie (b ∷ bs) none =
    ap (λ cs. b ∷ cs) (without_none cookie bs none.1)
    ∙ ap (λ t. cond (not t) (b ∷ without_buffer cookie bs) (without_buffer cookie bs)) (sym none.0)

-- how many pages the buffers before a place have
pages_after : (bs : List Held) (k : ℕ) → k < length bs → length (buffer_pages (take (suc k) bs)) ≡ length (buffer_pages (take k bs)) + length (pages_at bs k)
pages_after [] k within = absurd (omega (arith, within))
pages_after (b ∷ bs) zero within = omega (arith, length-append b.pages [])
pages_after (b ∷ bs) (suc k) within =
    let later = pages_after bs k (omega (arith, within)) in
    omega (arith, later, length-append b.pages (buffer_pages (take (suc k) bs)), length-append b.pages (buffer_pages (take k bs)))

pub pages_more : (bs : List Held) (k : ℕ) → k < length bs → length (buffer_pages (take (k + 1) bs)) ≡ length (buffer_pages (take k bs)) + length (pages_at bs k)
pages_more bs k within =
    let e : k + 1 ≡ suc k = omega arith in
    ap (λ n. length (buffer_pages (take n bs))) e ∙ pages_after bs k within

-- a page of all buffers, by its place
pub page_there : (bs : List Held) (i k j : ℕ) → IsPage bs i k j → slice_get (buffer_pages bs) i ≡ slice_get (pages_at bs k) j
page_there [] i k j is = absurd (omega (arith, is.0))
page_there (b ∷ bs) i zero j is =
    let e : i ≡ j = omega (arith, is.1) in
    get_first b.pages (buffer_pages bs) i (omega (arith, e, is.0)) ∙ ap (slice_get b.pages) e
page_there (b ∷ bs) i (suc k) j is =
    let before = length (buffer_pages (take k bs)) in
    let at : i ≡ length b.pages + (before + j) = omega (arith, is.1, length-append b.pages (buffer_pages (take k bs))) in
    get_second b.pages (buffer_pages bs) i (before + j) at ∙ page_there bs (before + j) k j (is.0, refl)

-- the first of all is the first of its buffer
pub first_alike : (bs : List Held) (k j : ℕ) → IsPage bs 0 k j → slice_get (pages_at bs k) 0 ≡ slice_get (buffer_pages bs) 0
first_alike bs k j is =
    let e : j ≡ 0 = omega (arith, is.1) in
    sym (page_there bs 0 k j is ∙ ap (slice_get (pages_at bs k)) e)

-- the buffer that has the first of them is the first that has one
pub first_there : (bs : List Held) (k j : ℕ) → IsPage bs 0 k j → IsFirst has_pages bs k
first_there [] k j is = absurd (omega (arith, is.0))
first_there (b ∷ bs) zero j is = lt-ltb 0 (length b.pages) (omega (arith, is.0))
first_there (b ∷ bs) (suc k) j is =
    let parts = length-append b.pages (buffer_pages (take k bs)) in
    (le-ltb 0 (length b.pages) (omega (arith, is.1, parts)), first_there bs k j (is.0, omega (arith, is.1, parts)))
