-- What giving up pages comes to: order, and how often each page is held.
use Rattle.std.proofs.Common.{◌≡◌, ℕ, suc, Bool, true, false, cond, not, nat_lt, List, [], ◌∷◌, ◌++◌, drop, length, refl, sym, ap, ◌∙◌, arith, subst, append-nil, append_assoc}
use Rattle.std.proofs.lemmas.Bool.{eqb-true, lt-ltb}
use Rattle.pv_words.specs.declared.grant.Hold.{Hold}
use Rattle.displ_wire.specs.declared.Create.{Create}
use Rattle.display_buffers.specs.Buffers.{AreDistinct, IsFresh, cookies, has_cookie, with_buffer, without_buffer}
use Rattle.display_buffers.proofs.Rows.{without_fresh}
use Rattle.page_directory.specs.Same.{AreSame, times}
use Rattle.page_directory.proofs.Counts.{times_append}
use Rattle.display_buffers.specs.Stock.{Stock, Held, pages_of, buffer_pages, pages_under, has_pages, with_pages, less_first, less_where, less_one, bared, all_bared, stripped, without_first_in, without_first_of, without_first, created, destroyed}

-- the first page of all goes first
pub first_in : (bs : List Held) → buffer_pages (without_first_in bs) ≡ drop 1 (buffer_pages bs)
first_in [] = refl
first_in (b ∷ bs) = by_pages b.pages refl (first_in bs)
  where
    by_pages : (pages : List Hold) → b.pages ≡ pages → buffer_pages (without_first_in bs) ≡ drop 1 (buffer_pages bs) → buffer_pages (cond (nat_lt 0 (length pages)) (with_pages b (drop 1 pages) ∷ bs) (b ∷ without_first_in bs)) ≡ drop 1 (pages ++ buffer_pages bs)
    by_pages [] e later = ap (λ pages. pages ++ buffer_pages (without_first_in bs)) e ∙ later
    by_pages (h ∷ hs) e later =
        ap (λ t. buffer_pages (cond t (with_pages b hs ∷ bs) (b ∷ without_first_in bs))) (lt-ltb 0 (suc (length hs)) (omega arith))

first_of : (mapped : List Hold) (bs : List Held) → pages_of (without_first_of mapped bs) ≡ drop 1 (mapped ++ buffer_pages bs)
first_of [] bs = first_in bs
first_of (h ∷ hs) bs = refl

pub first_goes : (s : Stock) → pages_of (without_first s) ≡ drop 1 (pages_of s)
first_goes s = first_of s.mapped s.buffers

-- the first buffer that passes is without its first page
module _ (p : Held → Bool) where
  -- the buffers stay, but for their pages
  bared_in : (bs : List Held) → all_bared (less_where p bs) ≡ all_bared bs
  bared_in [] = refl
  bared_in (b ∷ bs) = by_test (p b) (bared_in bs)
    where
      by_test : (t : Bool) → all_bared (less_where p bs) ≡ all_bared bs → all_bared (cond t (less_first b ∷ bs) (b ∷ less_where p bs)) ≡ all_bared (b ∷ bs)
      by_test true later = refl
      by_test false later = ap (λ cs. with_pages b [] ∷ cs) later

  -- a buffer that has no page has none still
  none_under_less : (cookie : ℕ) (bs : List Held) → pages_under cookie bs ≡ [] → pages_under cookie (less_where p bs) ≡ []
  none_under_less cookie [] e = refl
  none_under_less cookie (b ∷ bs) e = by_test (p b) (none_under_less cookie bs)
    where
      gone : (u : Bool) → cond u b.pages (pages_under cookie bs) ≡ [] → cond u (drop 1 b.pages) (pages_under cookie bs) ≡ []
      gone true none = ap (drop 1) none
      gone false none = none

      stays : (u : Bool) → cond u b.pages (pages_under cookie bs) ≡ [] → (pages_under cookie bs ≡ [] → pages_under cookie (less_where p bs) ≡ []) → cond u b.pages (pages_under cookie (less_where p bs)) ≡ []
      stays true none later = none
      stays false none later = later none

      by_test : (t : Bool) → (pages_under cookie bs ≡ [] → pages_under cookie (less_where p bs) ≡ []) → pages_under cookie (cond t (less_first b ∷ bs) (b ∷ less_where p bs)) ≡ []
      by_test true later = gone (has_cookie cookie b) e
      by_test false later = stays (has_cookie cookie b) e later

pub under_less : (cookie : ℕ) (mapped : List Hold) (bs : List Held) → pages_under cookie bs ≡ [] → pages_under cookie (without_first_of mapped bs).buffers ≡ []
under_less cookie [] bs e = none_under_less has_pages cookie bs e
under_less cookie (h ∷ hs) bs e = e

bared_of : (mapped : List Hold) (bs : List Held) → stripped (without_first_of mapped bs) ≡ record { mapped = []; buffers = all_bared bs }
bared_of [] bs = ap (λ (cs : List Held). let s : Stock = record { mapped = []; buffers = cs } in s) (bared_in has_pages bs)
bared_of (h ∷ hs) bs = refl

pub buffers_stay : (s : Stock) → stripped (without_first s) ≡ stripped s
buffers_stay s = bared_of s.mapped s.buffers

none_in : (bs : List Held) → buffer_pages (all_bared bs) ≡ []
none_in [] = refl
none_in (b ∷ bs) = none_in bs

pub none_left : (s : Stock) → pages_of (stripped s) ≡ []
none_left s = none_in s.buffers

-- the first page of one buffer
pub first_of_one : (cookie : ℕ) (bs : List Held) → pages_under cookie (less_one cookie bs) ≡ drop 1 (pages_under cookie bs)
first_of_one cookie [] = refl
first_of_one cookie (b ∷ bs) = by_test (has_cookie cookie b) refl (first_of_one cookie bs)
  where
    by_test : (t : Bool) → has_cookie cookie b ≡ t → pages_under cookie (less_one cookie bs) ≡ drop 1 (pages_under cookie bs) → pages_under cookie (cond t (with_pages b (drop 1 b.pages) ∷ bs) (b ∷ less_one cookie bs)) ≡ drop 1 (cond t b.pages (pages_under cookie bs))
    by_test true e later = ap (λ t. cond t (drop 1 b.pages) (pages_under cookie bs)) e
    by_test false e later = ap (λ t. cond t b.pages (pages_under cookie (less_one cookie bs))) e ∙ later

pub others_stay : (cookie : ℕ) (bs : List Held) → bared cookie (less_one cookie bs) ≡ bared cookie bs
others_stay cookie [] = refl
others_stay cookie (b ∷ bs) = by_test (has_cookie cookie b) refl (others_stay cookie bs)
  where
    by_test : (t : Bool) → has_cookie cookie b ≡ t → bared cookie (less_one cookie bs) ≡ bared cookie bs → bared cookie (cond t (with_pages b (drop 1 b.pages) ∷ bs) (b ∷ less_one cookie bs)) ≡ cond t (with_pages b [] ∷ bs) (b ∷ bared cookie bs)
    by_test true e later = ap (λ t. cond t (with_pages b [] ∷ bs) (with_pages b (drop 1 b.pages) ∷ bared cookie bs)) e
    by_test false e later =
        ap (λ t. cond t (with_pages b [] ∷ less_one cookie bs) (b ∷ bared cookie (less_one cookie bs))) e
        ∙ ap (λ cs. b ∷ cs) later

pub none_under : (cookie : ℕ) (bs : List Held) → pages_under cookie (bared cookie bs) ≡ []
none_under cookie [] = refl
none_under cookie (b ∷ bs) = by_test (has_cookie cookie b) refl (none_under cookie bs)
  where
    by_test : (t : Bool) → has_cookie cookie b ≡ t → pages_under cookie (bared cookie bs) ≡ [] → pages_under cookie (cond t (with_pages b [] ∷ bs) (b ∷ bared cookie bs)) ≡ []
    by_test true e later = ap (λ t. cond t [] (pages_under cookie bs)) e
    by_test false e later = ap (λ t. cond t b.pages (pages_under cookie (bared cookie bs))) e ∙ later

-- all pages are those of one buffer and those of the others
pub parted : (cookie : ℕ) (bs : List Held) → AreSame (buffer_pages bs) (pages_under cookie bs ++ buffer_pages (bared cookie bs))
parted cookie [] k = refl
parted cookie (b ∷ bs) k = by_test (has_cookie cookie b) (parted cookie bs k)
  where
    by_test : (t : Bool) → times k (buffer_pages bs) ≡ times k (pages_under cookie bs ++ buffer_pages (bared cookie bs)) → times k (b.pages ++ buffer_pages bs) ≡ times k (cond t b.pages (pages_under cookie bs) ++ buffer_pages (cond t (with_pages b [] ∷ bs) (b ∷ bared cookie bs)))
    by_test true later = refl
    by_test false later =
        let rest = buffer_pages (bared cookie bs) in
        let under = pages_under cookie bs in
        omega (arith, later, times_append k b.pages (buffer_pages bs), times_append k under (b.pages ++ rest), times_append k b.pages rest, times_append k under rest)

-- a buffer is made of the pages that were mapped
pages_with : (bs : List Held) (c : Create) (pages : List Hold) → buffer_pages (with_buffer bs c pages) ≡ buffer_pages bs ++ pages
pages_with [] c pages = append-nil pages
pages_with (b ∷ bs) c pages = ap (λ hs. b.pages ++ hs) (pages_with bs c pages) ∙ sym (append_assoc b.pages (buffer_pages bs) pages)

pub creating_keeps : (s : Stock) (c : Create) → AreSame (pages_of s) (pages_of (created s c))
creating_keeps s c k =
    let there = ap (times k) (pages_with s.buffers c s.mapped) in
    omega (arith, there, times_append k s.mapped (buffer_pages s.buffers), times_append k (buffer_pages s.buffers) s.mapped)

-- a buffer with no page goes
pages_without : (cookie : ℕ) (bs : List Held) → AreDistinct (cookies bs) → pages_under cookie bs ≡ [] → buffer_pages (without_buffer cookie bs) ≡ buffer_pages bs
pages_without cookie [] distinct bare = refl
pages_without cookie (b ∷ bs) distinct bare = by_test (has_cookie cookie b) refl bare (pages_without cookie bs distinct.1)
  where
    by_test : (t : Bool) → has_cookie cookie b ≡ t → cond t b.pages (pages_under cookie bs) ≡ [] → (pages_under cookie bs ≡ [] → buffer_pages (without_buffer cookie bs) ≡ buffer_pages bs) → buffer_pages (cond (not t) (b ∷ without_buffer cookie bs) (without_buffer cookie bs)) ≡ b.pages ++ buffer_pages bs
    by_test true e none later =
        let fresh = subst (λ n. IsFresh n (cookies bs)) (eqb-true _ _ e) distinct.0 in
        ap buffer_pages (without_fresh cookie bs fresh) ∙ ap (λ hs. hs ++ buffer_pages bs) (sym none)
    by_test false e none later = ap (λ hs. b.pages ++ hs) (later none)

pub destroying_keeps : (s : Stock) (cookie : ℕ) → AreDistinct (cookies s.buffers) → pages_under cookie s.buffers ≡ [] → AreSame (pages_of s) (pages_of (destroyed s cookie))
destroying_keeps s cookie distinct bare k =
    ap (λ hs. times k (s.mapped ++ hs)) (sym (pages_without cookie s.buffers distinct bare))
