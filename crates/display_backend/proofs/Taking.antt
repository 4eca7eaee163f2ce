-- A word of a live buffer's pages is a word of its name, and a device that holds them may load it.
use Rattle.std.proofs.Common.{◌≡◌, ◌⊎◌, inl, inr, ℕ, zero, suc, ◌+◌, ◌<◌, Bool, true, false, cond, List, [], ◌∷◌, ◌++◌, length, slice_get, Some, refl, sym, ap, ◌∙◌, arith, subst}
use Rattle.std.specs.List.{AllByRecursion}
use Rattle.pv_words.specs.declared.grant.Hold.{Hold}
use Rattle.pv_words.specs.declared.place.Place.{Place}
use Rattle.pv_words.specs.declared.place.Place.TheVariants.{Cell}
use Rattle.pv_words.specs.Held.{Has, Holds, IsProper}
use Rattle.pv_words.specs.Plan.{Load, Takes}
use Rattle.display_buffers.specs.Buffers.{has_cookie}
use Rattle.page_directory.specs.Same.{times}
use Rattle.page_directory.proofs.Counts.{covers_counted, has_counted, times_append, times_here}
use Rattle.link_core.specs.Laws.{AreOf}
use Rattle.device_core.specs.Names.{Name, cells_from, cells_of}
use Rattle.display_backend.specs.Names.{live_names, numbered}
use Rattle.device_service.specs.Named.{named_if}
use Rattle.display_backend.specs.Picture.{number_under}
use Rattle.display_buffers.specs.Stock.{Held, pages_under}

-- a name of this number is among these, and this place is a word of it
pub record IsAmong (names : List Name) (number index : ℕ) (at : Place) : Type 0 where
  pub before : List Name
  pub cells : List Place
  pub behind : List Name
  pub live : names ≡ before ++ record { number = number; cells = cells } ∷ behind
  pub is : slice_get cells index ≡ Some at

module _ (index : ℕ) (at : Place) where
  abbrev IsWord : List Hold → Type 0
  IsWord pages = slice_get (cells_of pages) index ≡ Some at

  none_there : IsWord [] → ⊥
  unfolding cells_of
  none_there e = cc

  here : (pages : List Hold) (n : ℕ) (others : List Name) → IsWord pages → IsAmong (named_if pages n others) n index at
  here [] n others e = absurd (none_there e)
  here (h ∷ hs) n others e = record { before = []; cells = cells_of (h ∷ hs); behind = others; live = refl; is = e }

  later : (pages : List Hold) (n : ℕ) (others : List Name) (number : ℕ) → IsAmong others number index at → IsAmong (named_if pages n others) number index at
  later [] n others number a = a
  later (h ∷ hs) n others number a =
      let first : Name = record { number = n; cells = cells_of (h ∷ hs) } in
      record { before = first ∷ a.before; cells = a.cells; behind = a.behind; live = ap (λ names. first ∷ names) a.live; is = a.is }

  pub word_of_name : (key : ℕ) (bs : List Held) (m : List ℕ) → length m ≡ length bs → IsWord (pages_under key bs) → IsAmong (live_names bs m) (number_under key (numbered bs m)) index at
  word_of_name key [] m long e = absurd (none_there e)
  word_of_name key (b ∷ bs) [] long e = absurd (omega (arith, long))
  word_of_name key (b ∷ bs) (n ∷ ns) long e = by_test (λ f. word_of_name key bs ns (omega (arith, long)) f) (has_cookie key b) e
    where
      by_test : (IsWord (pages_under key bs) → IsAmong (live_names bs ns) (number_under key (numbered bs ns)) index at) → (t : Bool) → IsWord (cond t b.pages (pages_under key bs)) → IsAmong (named_if b.pages n (live_names bs ns)) (cond t n (number_under key (numbered bs ns))) index at
      by_test more true f = here b.pages n (live_names bs ns) f
      by_test more false f = later b.pages n (live_names bs ns) (number_under key (numbered bs ns)) (more f)

-- a word of these pages lies in one of them
pub record LiesAt (pages : List Hold) (at : Place) : Type 0 where
  pub hold : Hold
  pub word : ℕ
  pub among : 0 < times hold pages
  pub small : word < 1024
  pub is : at ≡ Cell hold.dom hold.frame word

cell_lies : (h : Hold) (w n i : ℕ) (at : Place) → slice_get (cells_from h w n) i ≡ Some at → (at ≡ Cell h.dom h.frame (w + i)) × (i < n)
unfolding cells_from
cell_lies h w zero i at e = let wrong : ⊥ = cc in absurd wrong
cell_lies h w (suc n) zero at e =
    let same : at ≡ Cell h.dom h.frame w = cc in
    let first : w ≡ w + 0 = omega arith in
    (same ∙ ap (λ x. Cell h.dom h.frame x) first, omega arith)
cell_lies h w (suc n) (suc i) at e =
    let r = cell_lies h (w + 1) n i at e in
    let next : w + 1 + i ≡ w + suc i = omega arith in
    (r.0 ∙ ap (λ x. Cell h.dom h.frame x) next, omega (arith, r.1))

get_either : (xs ys : List Place) (i : ℕ) (at : Place) → slice_get (xs ++ ys) i ≡ Some at → (slice_get xs i ≡ Some at) ⊎ ((j : ℕ) × (slice_get ys j ≡ Some at))
get_either [] ys i at e = inr (i, e)
get_either (x ∷ xs) ys zero at e = inl e
get_either (x ∷ xs) ys (suc i) at e = get_either xs ys i at e

pub lies_at : (pages : List Hold) (i : ℕ) (at : Place) → slice_get (cells_of pages) i ≡ Some at → LiesAt pages at
unfolding cells_of
lies_at [] i at e = let wrong : ⊥ = cc in absurd wrong
lies_at (h ∷ hs) i at e = by_page (λ j f. lies_at hs j at f) (get_either (cells_from h 0 1024) (cells_of hs) i at e)
  where
    by_page : ((j : ℕ) → slice_get (cells_of hs) j ≡ Some at → LiesAt hs at) → (slice_get (cells_from h 0 1024) i ≡ Some at) ⊎ ((j : ℕ) × (slice_get (cells_of hs) j ≡ Some at)) → LiesAt (h ∷ hs) at
    by_page more (inl f) =
        let r = cell_lies h 0 1024 i at f in
        record { hold = h; word = 0 + i; among = times_here h hs; small = omega (arith, r.1); is = r.0 }
    by_page more (inr f) =
        let r = more f.0 f.1 in
        record { hold = r.hold; word = r.word; among = omega (arith, r.among, times_append r.hold (h ∷ []) hs); small = r.small; is = r.is }

of_has : (grants dom : ℕ) (k : Hold) (hs : List Hold) → AreOf grants dom hs → Has (λ x. x ≡ k) hs → k.dom.0 ≡ dom
of_has grants dom k [] are has = absurd has
of_has grants dom k (h ∷ hs) are (inl e) = ap (λ (x : Hold). x.dom.0) (sym e) ∙ are.0
of_has grants dom k (h ∷ hs) are (inr has) = of_has grants dom k hs are.2 has

all_has : (Q : Hold → Type 0) (k : Hold) (hs : List Hold) → AllByRecursion Q hs → Has (λ x. x ≡ k) hs → Q k
all_has Q k [] all has = absurd has
all_has Q k (h ∷ hs) all (inl e) = subst Q e all.0
all_has Q k (h ∷ hs) all (inr has) = all_has Q k hs all.1 has

-- a word of pages that are held may be loaded
pub may_take : (frames grants : ℕ → ℕ) (dom : ℕ) (pages : List Hold) (now : Holds) (key index : ℕ) (at : Place) → AreOf (grants dom) dom pages → AllByRecursion (λ (h : Hold). h.frame.0 < frames dom) pages → ((k : Hold) → 0 < times k pages → 0 < times k now.held) → slice_get (cells_of pages) index ≡ Some at → IsProper frames grants dom now (Load at) (Takes key index)
may_take frames grants dom pages now key index at are framed held e =
    let lies = lies_at pages index at e in
    let h = lies.hold in
    let has = has_counted h pages lies.among in
    let home : h.dom.0 ≡ dom = of_has (grants dom) dom h pages are has in
    let inside : h.frame.0 < frames h.dom.0 = subst (λ d. h.frame.0 < frames d) (sym home) (all_has (λ (x : Hold). x.frame.0 < frames dom) h pages framed has) in
    subst (λ (x : Place). IsProper frames grants dom now (Load x) (Takes key index)) (sym lies.is)
    ((inside, lies.small), (covers_counted h now.held (held h lies.among), tt))
