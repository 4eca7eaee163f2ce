-- The names of the buffers that have pages: one comes with a CREATE, they go where the pages do.
use Rattle.std.proofs.Common.{◌≡◌, ℕ, ◌<◌, Bool, true, false, not, cond, List, [], ◌∷◌, ◌++◌, refl, sym, ◌∙◌, ap, subst, arith, length}
use Rattle.std.proofs.lemmas.Bool.{eqb-true}
use Rattle.pv_words.specs.declared.grant.Hold.{Hold}
use Rattle.display_buffers.specs.Buffers.{AreDistinct, IsFresh, cookies, has_cookie, without_buffer}
use Rattle.display_buffers.proofs.Rows.{without_fresh}
use Rattle.display_buffers.specs.Stock.{Held, buffer_pages, pages_under, with_pages, bared, all_bared}
use Rattle.device_core.specs.Names.{Name, cells_of}
use Rattle.display_backend.specs.Names.{ids_without, live_names, names_under}
use Rattle.device_service.specs.Named.{named_if}
use Rattle.device_service.proofs.Mapping.Named.{named_behind, named_one}
use Rattle.display_backend.proofs.Numbered.{AreAll, ids_fresh}

-- buffers without pages have no names
pub names_none : (bs : List Held) (ns : List ℕ) → buffer_pages bs ≡ [] → live_names bs ns ≡ []
names_none [] ns bare = refl
names_none (b ∷ bs) [] bare = refl
names_none (b ∷ bs) (n ∷ ns) bare = by_pages b.pages bare (names_none bs ns)
  where
    by_pages : (pages : List Hold) → pages ++ buffer_pages bs ≡ [] → (buffer_pages bs ≡ [] → live_names bs ns ≡ []) → named_if pages n (live_names bs ns) ≡ []
    by_pages [] none later = later none
    by_pages (h ∷ hs) none later = let wrong : ⊥ = cc in absurd wrong

pub none_bared : (bs : List Held) (ns : List ℕ) → live_names (all_bared bs) ns ≡ []
none_bared [] ns = refl
none_bared (b ∷ bs) [] = refl
none_bared (b ∷ bs) (n ∷ ns) = none_bared bs ns

-- a buffer of pages has a name of their words
pub names_with : (bs : List Held) (ns : List ℕ) (b : Held) (n : ℕ) → AreAll bs ns → 0 < length b.pages → live_names (bs ++ b ∷ []) (ns ++ n ∷ []) ≡ live_names bs ns ++ record { number = n; cells = cells_of b.pages } ∷ []
names_with [] [] b n all some = named_one b.pages n some
names_with [] (m ∷ ns) b n all some = absurd (omega (arith, all))
names_with (a ∷ bs) [] b n all some = absurd (omega (arith, all))
names_with (a ∷ bs) (m ∷ ns) b n all some =
    ap (λ x. named_if a.pages m x) (names_with bs ns b n (omega (arith, all)) some)
    ∙ named_behind a.pages m (live_names bs ns) (record { number = n; cells = cells_of b.pages } ∷ [])

-- a buffer without pages goes, and all names stay
pub names_without : (cookie : ℕ) (bs : List Held) (ns : List ℕ) → AreAll bs ns → AreDistinct (cookies bs) → pages_under cookie bs ≡ [] → live_names (without_buffer cookie bs) (ids_without cookie bs ns) ≡ live_names bs ns
names_without cookie [] ns all distinct bare = refl
names_without cookie (b ∷ bs) [] all distinct bare = absurd (omega (arith, all))
names_without cookie (b ∷ bs) (n ∷ ns) all distinct bare =
    by_test (has_cookie cookie b) refl bare (names_without cookie bs ns (omega (arith, all)) distinct.1)
  where
    by_test : (t : Bool) → has_cookie cookie b ≡ t → cond t b.pages (pages_under cookie bs) ≡ [] → (pages_under cookie bs ≡ [] → live_names (without_buffer cookie bs) (ids_without cookie bs ns) ≡ live_names bs ns) → live_names (cond (not t) (b ∷ without_buffer cookie bs) (without_buffer cookie bs)) (cond t (ids_without cookie bs ns) (n ∷ ids_without cookie bs ns)) ≡ named_if b.pages n (live_names bs ns)
    by_test true e none later =
        let same : b.buffer.cookie ≡ cookie = eqb-true b.buffer.cookie cookie e in
        let fresh : IsFresh cookie (cookies bs) = subst (λ x. IsFresh x (cookies bs)) same distinct.0 in
        ap (λ x. live_names x (ids_without cookie bs ns)) (without_fresh cookie bs fresh)
        ∙ (ap (λ x. live_names bs x) (ids_fresh cookie bs ns (omega (arith, all)) fresh)
        ∙ ap (λ x. named_if x n (live_names bs ns)) (sym none))
    by_test false e none later = ap (λ x. named_if b.pages n x) (later none)

-- What goes of the names, if one does.
abbrev pub GoesFrom : List Name → List Name → List Name → Type 0
GoesFrom [] old new = new ≡ old
GoesFrom (n ∷ []) old new = (before : List Name) × (behind : List Name) × (old ≡ before ++ n ∷ behind) × (new ≡ before ++ behind)
GoesFrom (n ∷ m ∷ ms) old new = ⊥

goes_behind : (pages : List Hold) (n : ℕ) (gone old new : List Name) → GoesFrom gone old new → GoesFrom gone (named_if pages n old) (named_if pages n new)
goes_behind pages n [] old new g = ap (λ x. named_if pages n x) g
goes_behind pages n (k ∷ []) old new g =
    (named_if pages n g.0, g.1, ap (λ x. named_if pages n x) g.2 ∙ named_behind pages n g.0 (k ∷ g.1), ap (λ x. named_if pages n x) g.3 ∙ named_behind pages n g.0 g.1)
goes_behind pages n (k ∷ m ∷ ms) old new g = absurd g

goes_first : (pages : List Hold) (n : ℕ) (others : List Name) → GoesFrom (named_if pages n []) (named_if pages n others) others
goes_first [] n others = refl
goes_first (h ∷ hs) n others = ([], others, refl, refl)

-- where the pages of one buffer are given up, its name goes
pub name_goes : (cookie : ℕ) (bs : List Held) (ns : List ℕ) → GoesFrom (names_under cookie bs ns) (live_names bs ns) (live_names (bared cookie bs) ns)
name_goes cookie [] ns = refl
name_goes cookie (b ∷ bs) [] = by_test (has_cookie cookie b)
  where
    by_test : (t : Bool) → live_names (cond t (with_pages b [] ∷ bs) (b ∷ bared cookie bs)) [] ≡ []
    by_test true = refl
    by_test false = refl
name_goes cookie (b ∷ bs) (n ∷ ns) = by_test (has_cookie cookie b) (name_goes cookie bs ns)
  where
    by_test : (t : Bool) → GoesFrom (names_under cookie bs ns) (live_names bs ns) (live_names (bared cookie bs) ns) → GoesFrom (cond t (named_if b.pages n []) (names_under cookie bs ns)) (named_if b.pages n (live_names bs ns)) (live_names (cond t (with_pages b [] ∷ bs) (b ∷ bared cookie bs)) (n ∷ ns))
    by_test true later = goes_first b.pages n (live_names bs ns)
    by_test false later = goes_behind b.pages n (names_under cookie bs ns) (live_names bs ns) (live_names (bared cookie bs) ns) later
