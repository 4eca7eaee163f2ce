-- The buffers without the pages that were given up: fields and order stay, and what becomes of them.
use Rattle.std.proofs.Common.{◌≡◌, ℕ, zero, suc, ◌+◌, ◌<◌, Bool, true, false, cond, not, List, [], ◌∷◌, ◌++◌, drop, length, get_or, slice_get, slice_set, Option, Some, None, is_some, eqb, refl, sym, ap, ◌∙◌, arith, subst}
use Rattle.std.proofs.lemmas.Bool.{eqb-true}
use Rattle.std.specs.List.{remove}
use Rattle.std.specs.Option.{option_map}
use Rattle.pv_words.specs.declared.access.Access.{Access}
use Rattle.pv_words.specs.declared.grant.Hold.{Hold}
use Rattle.pv_words.specs.Release.{Drops}
use Rattle.displ_wire.specs.declared.Create.{Create}
use Rattle.display_buffers.specs.Buffers.{AreDistinct, IsFresh, buffer_of, cookies, has_cookie, with_buffer, without_buffer}
use Rattle.display_buffers.proofs.Rows.{without_fresh}
use Rattle.displ_wire.specs.declared.buffer.Buffer.{Buffer}
use Rattle.page_directory.specs.declared.release.Release.{Release}
use Rattle.page_directory.specs.Release.{left_of}
use Rattle.page_directory.proofs.Releases.{drops_as, drops_rest}
use Rattle.display_buffers.specs.Buffers.{buffer_at}
use Rattle.display_buffers.specs.Stock.{Held, with_pages}
use Rattle.display_buffers.specs.Left.{left_by, left_in, pages_at, less_at, IsFirst}
use Rattle.display_buffers.proofs.Places.{pages_less, pages_within}

-- the cookies stay, and where they stand
pub cookies_left : (bs : List Held) (rs : List Release) → cookies (left_in bs rs) ≡ cookies bs
cookies_left [] rs = refl
cookies_left (b ∷ bs) rs = ap (λ ns. b.buffer.cookie ∷ ns) (cookies_left bs (drop 1 rs))

pub length_left : (bs : List Held) (rs : List Release) → length (left_in bs rs) ≡ length bs
length_left [] rs = refl
length_left (b ∷ bs) rs = ap suc (length_left bs (drop 1 rs))

pub count_left : (bs left : List Held) (rs : List Release) → left_in bs rs ≡ left → length left ≡ length bs
count_left bs left rs view = ap length (sym view) ∙ length_left bs rs

pub first_left : (cookie : ℕ) (bs : List Held) (rs : List Release) (k : ℕ) → IsFirst (has_cookie cookie) (left_in bs rs) k → IsFirst (has_cookie cookie) bs k
first_left cookie [] rs k first = first
first_left cookie (b ∷ bs) rs zero first = first
first_left cookie (b ∷ bs) rs (suc k) first = (first.0, first_left cookie bs (drop 1 rs) k first.1)

cookie_here : (bs : List Held) (rs : List Release) (k cookie there : ℕ) → option_map (λ (b : Held). b.buffer.cookie) (slice_get bs k) ≡ Some there → option_map (has_cookie cookie) (slice_get (left_in bs rs) k) ≡ Some (eqb there cookie)
cookie_here [] rs k cookie there at = let wrong : ⊥ = cc in absurd wrong
cookie_here (b ∷ bs) rs zero cookie there at = let same : b.buffer.cookie ≡ there = cc in ap (λ n. Some (eqb n cookie)) same
cookie_here (b ∷ bs) rs (suc k) cookie there at = cookie_here bs (drop 1 rs) k cookie there at

pub cookie_left : (bs left : List Held) (rs : List Release) → left_in bs rs ≡ left → (k cookie there : ℕ) (t : Bool) → option_map (λ (b : Held). b.buffer.cookie) (slice_get bs k) ≡ Some there → eqb there cookie ≡ t → option_map (has_cookie cookie) (slice_get left k) ≡ Some t
cookie_left bs left rs view k cookie there t at test =
    ap (λ cs. option_map (has_cookie cookie) (slice_get cs k)) (sym view)
    ∙ cookie_here bs rs k cookie there at
    ∙ ap (λ u. let o : Option Bool = Some u in o) test

-- the buffer of a cookie stays
abbrev of_live : Option Held → Option Buffer
of_live o = option_map (λ b. b.buffer) o

pub buffer_left : (cookie : ℕ) (bs : List Held) (rs : List Release) → buffer_at cookie (left_in bs rs) ≡ buffer_at cookie bs
buffer_left cookie [] rs = refl
buffer_left cookie (b ∷ bs) rs = same (has_cookie cookie b) (buffer_left cookie bs (drop 1 rs))
  where
    same : (t : Bool) → buffer_at cookie (left_in bs (drop 1 rs)) ≡ buffer_at cookie bs → of_live (cond t (Some (with_pages b (left_by rs b.pages))) (buffer_of cookie (left_in bs (drop 1 rs)))) ≡ of_live (cond t (Some b) (buffer_of cookie bs))
    same true later = refl
    same false later = later

pub some_mapped : {X Y : Type 0} (f : X → Y) (o : Option X) → is_some (option_map f o) ≡ is_some o
some_mapped f None = refl
some_mapped f (Some x) = refl

-- a buffer that has pages has its Release
pub within_left : (bs left : List Held) (rs : List Release) (n k : ℕ) → left_in bs rs ≡ left → n ≡ length bs → n ≡ length rs → 0 < length (pages_at left k) → k < length rs
within_left bs left rs n k view kept long some = omega (arith, pages_within left k some, count_left bs left rs view, kept, long)

-- what is left of the pages at a place
pages_here : (bs : List Held) (rs : List Release) (k : ℕ) (r : Release) (pages : List Hold) → k < length rs → r ≡ get_or rs k r → option_map (λ (b : Held). b.pages) (slice_get bs k) ≡ Some pages → pages_at (left_in bs rs) k ≡ left_of r pages
pages_here [] rs k r pages within by there = let wrong : ⊥ = cc in absurd wrong
pages_here (b ∷ bs) [] k r pages within by there = absurd (omega (arith, within))
pages_here (b ∷ bs) (q ∷ rs) zero r pages within by there =
    let same : b.pages ≡ pages = cc in
    ap (left_of q) same ∙ ap (λ x. left_of x pages) (sym by)
pages_here (b ∷ bs) (q ∷ rs) (suc k) r pages within by there = pages_here bs rs k r pages (omega (arith, within)) by there

-- one page of them more is given up
less_here : (bs : List Held) (rs : List Release) (k : ℕ) (r : Release) (pages : List Hold) → k < length rs → option_map (λ (b : Held). b.pages) (slice_get bs k) ≡ Some pages → left_of r pages ≡ drop 1 (pages_at (left_in bs rs) k) → left_in bs (slice_set rs k r) ≡ less_at (left_in bs rs) k
less_here [] rs k r pages within there less = refl
less_here (b ∷ bs) [] k r pages within there less = absurd (omega (arith, within))
less_here (b ∷ bs) (q ∷ rs) zero r pages within there less =
    let same : b.pages ≡ pages = cc in
    ap (λ hs. with_pages b hs ∷ left_in bs rs) (ap (left_of r) same ∙ less)
less_here (b ∷ bs) (q ∷ rs) (suc k) r pages within there less =
    ap (λ cs. with_pages b (left_of q b.pages) ∷ cs) (less_here bs rs k r pages (omega (arith, within)) there less)

module _ (bs left : List Held) (rs : List Release) (view : left_in bs rs ≡ left) (k : ℕ) (within : k < length rs) (pages : List Hold) (there : option_map (λ (b : Held). b.pages) (slice_get bs k) ≡ Some pages) where
  pub pages_left : (r : Release) → r ≡ get_or rs k r → pages_at left k ≡ left_of r pages
  pages_left r by = ap (λ cs. pages_at cs k) (sym view) ∙ pages_here bs rs k r pages within by there

  less_left : (r : Release) → left_of r pages ≡ drop 1 (pages_at left k) → left_in bs (slice_set rs k r) ≡ less_at left k
  less_left r less =
      less_here bs rs k r pages within there (less ∙ ap (λ cs. drop 1 (pages_at cs k)) (sym view))
      ∙ ap (λ cs. less_at cs k) view

  -- the Release at this place makes a step
  pub step_left : (r q : Release) (a : Access) → r ≡ get_or rs k r → Drops (left_of r pages) a (left_of q pages) → Drops (pages_at left k) a (pages_at (left_in bs (slice_set rs k q)) k) × (left_in bs (slice_set rs k q) ≡ less_at left k)
  step_left r q a by drops =
      let was = pages_left r by in
      let rest = less_left q (drops_rest (left_of r pages) (left_of q pages) a drops ∙ ap (drop 1) (sym was)) in
      let now = ap (λ cs. pages_at cs k) rest ∙ pages_less left k in
      (drops_as (left_of r pages) (pages_at left k) (left_of q pages) (pages_at (left_in bs (slice_set rs k q)) k) a (ap (λ hs. slice_get hs 0) was) drops now, rest)

-- a buffer comes with what is left of its pages
pub created_left : (bs : List Held) (rs : List Release) (c : Create) (pages : List Hold) (r : Release) → length rs ≡ length bs → left_in (with_buffer bs c pages) (rs ++ r ∷ []) ≡ with_buffer (left_in bs rs) c (left_of r pages)
created_left [] [] c pages r long = refl
created_left [] (q ∷ rs) c pages r long = absurd (omega (arith, long))
created_left (b ∷ bs) [] c pages r long = absurd (omega (arith, long))
created_left (b ∷ bs) (q ∷ rs) c pages r long =
    ap (λ cs. with_pages b (left_of q b.pages) ∷ cs) (created_left bs rs c pages r (omega (arith, long)))

-- the only buffer of a cookie goes, with its Release
fresh_rest : (cookie : ℕ) (b : Held) (bs : List Held) → has_cookie cookie b ≡ true → AreDistinct (cookies (b ∷ bs)) → IsFresh cookie (cookies bs)
fresh_rest cookie b bs e distinct = subst (λ n. IsFresh n (cookies bs)) (eqb-true _ _ e) distinct.0

-- the first buffer goes or stays, and the others without that of the cookie
with_test : (cookie : ℕ) (b : Held) (bs : List Held) (t : Bool) → has_cookie cookie b ≡ t → without_buffer cookie (b ∷ bs) ≡ cond (not t) (b ∷ without_buffer cookie bs) (without_buffer cookie bs)
with_test cookie b bs t test = ap (λ u. cond (not u) (b ∷ without_buffer cookie bs) (without_buffer cookie bs)) test

pub length_without : (cookie : ℕ) (bs : List Held) (k : ℕ) → IsFirst (has_cookie cookie) bs k → AreDistinct (cookies bs) → length (without_buffer cookie bs) + 1 ≡ length bs
length_without cookie [] k first distinct = absurd first
length_without cookie (b ∷ bs) zero first distinct =
    omega (arith, ap length (with_test cookie b bs true first), ap length (without_fresh cookie bs (fresh_rest cookie b bs first distinct)))
length_without cookie (b ∷ bs) (suc k) first distinct =
    omega (arith, ap length (with_test cookie b bs false first.0), length_without cookie bs k first.1 distinct.1)

pub destroyed_left : (cookie : ℕ) (bs : List Held) (rs : List Release) (k : ℕ) → IsFirst (has_cookie cookie) bs k → AreDistinct (cookies bs) → length rs ≡ length bs → left_in (without_buffer cookie bs) (remove rs k) ≡ without_buffer cookie (left_in bs rs)
destroyed_left cookie [] rs k first distinct long = absurd first
destroyed_left cookie (b ∷ bs) [] k first distinct long = absurd (omega (arith, long))
destroyed_left cookie (b ∷ bs) (r ∷ rs) zero first distinct long =
    let fresh = fresh_rest cookie b bs first distinct in
    ap (λ cs. left_in cs rs) (with_test cookie b bs true first ∙ without_fresh cookie bs fresh)
    ∙ sym (without_fresh cookie (left_in bs rs) (subst (IsFresh cookie) (sym (cookies_left bs rs)) fresh))
    ∙ sym (with_test cookie (with_pages b (left_of r b.pages)) (left_in bs rs) true first)
destroyed_left cookie (b ∷ bs) (r ∷ rs) (suc k) first distinct long =
    ap (λ cs. left_in cs (r ∷ remove rs k)) (with_test cookie b bs false first.0)
    ∙ ap (λ cs. with_pages b (left_of r b.pages) ∷ cs) (destroyed_left cookie bs rs k first.1 distinct.1 (omega (arith, long)))
    ∙ sym (with_test cookie (with_pages b (left_of r b.pages)) (left_in bs rs) false first.0)
