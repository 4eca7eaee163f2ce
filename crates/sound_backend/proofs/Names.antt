-- The names of open streams, as streams are opened, given up and closed.
use Rattle.std.proofs.Common.{◌≡◌, ◌≢◌, ℕ, ◌<◌, ◌==◌, Bool, true, false, cond, List, [], ◌∷◌, ◌++◌, length, refl, sym, ap, ◌∙◌, subst}
use Rattle.std.proofs.lemmas.Bool.{true≢false, eqb-true, eq-eqb}
use Rattle.std.specs.List.{AllByRecursion}
use Rattle.pv_words.specs.declared.grant.Hold.{Hold}
use Rattle.device_core.specs.Names.{Drawn, Name, Sight, all_drawn, cells_of, drawn}
use Rattle.device_service.specs.Laws.{AreLost}
use Rattle.sound_backend.specs.Held.{bared, list_at, pages_in, with_list}
use Rattle.sound_backend.specs.Names.{Numbered, live_names, names_under, without_part}
use Rattle.device_service.specs.Named.{named_if, numbers}
use Rattle.device_service.proofs.Mapping.Named.{named_behind, named_one}
use Rattle.sound_backend.proofs.Lists.{list_bared, list_other, list_put, none_at}

-- names without a page
pub names_none : (held : List (List Hold)) (m : List Numbered) → pages_in held ≡ [] → live_names held m ≡ []
names_none held [] e = refl
names_none held (n ∷ ns) e =
    ap (λ hs. named_if hs n.number (live_names held ns)) (none_at held n.part e) ∙ names_none held ns e

-- the stream of a part comes to these pages: its name is the last
pub names_opened : (held : List (List Hold)) (k n : ℕ) (pages : List Hold) (m : List Numbered) → k < length held → 0 < length pages → AllByRecursion (λ (e : Numbered). e.part ≢ k) m → live_names (with_list held k pages) (m ++ record { part = k; number = n } ∷ []) ≡ live_names held m ++ record { number = n; cells = cells_of pages } ∷ []
names_opened held k n pages [] within some apart =
    ap (λ hs. named_if hs n []) (list_put held k pages within) ∙ named_one pages n some
names_opened held k n pages (e ∷ es) within some apart =
    ap (λ hs. named_if hs e.number (live_names (with_list held k pages) (es ++ record { part = k; number = n } ∷ []))) (list_other held k e.part pages apart.0)
    ∙ ap (named_if (list_at held e.part) e.number) (names_opened held k n pages es within some apart.1)
    ∙ named_behind (list_at held e.part) e.number (live_names held es) (record { number = n; cells = cells_of pages } ∷ [])

-- the number of a part without pages goes
pub names_closed : (held : List (List Hold)) (k : ℕ) (m : List Numbered) → list_at held k ≡ [] → live_names held (without_part k m) ≡ live_names held m
names_closed held k [] bare = refl
names_closed held k (e ∷ es) bare = by_test (e.part == k) refl (names_closed held k es bare)
  where
    by_test : (b : Bool) → (e.part == k) ≡ b → live_names held (without_part k es) ≡ live_names held es → live_names held (cond b (without_part k es) (e ∷ without_part k es)) ≡ named_if (list_at held e.part) e.number (live_names held es)
    by_test true f later =
        let none : list_at held e.part ≡ [] = ap (list_at held) (eqb-true _ _ f) ∙ bare in
        later ∙ ap (λ hs. named_if hs e.number (live_names held es)) (sym none)
    by_test false f later = ap (named_if (list_at held e.part) e.number) later

-- names that are lost behind another one
lost_behind : (d : Drawn) (ns : List ℕ) (old new : List Drawn) → AreLost ns old new → AreLost ns (d ∷ old) (d ∷ new)
lost_behind d [] old new lost = ap (λ ds. d ∷ ds) lost
lost_behind d (n ∷ ns) old new lost =
    let l = lost.1 in (
      d ∷ lost.0,
      record {
        before = d ∷ l.before;
        words = l.words;
        behind = l.behind;
        old_is = ap (λ ds. d ∷ ds) l.old_is;
        new_is = ap (λ ds. d ∷ ds) l.new_is;
      },
      lost_behind d ns lost.0 new lost.2,
    )

-- the name of a stream goes with its pages
pub names_freed : (sight : Sight) (held : List (List Hold)) (k : ℕ) (m : List Numbered) → AreLost (numbers (names_under k held m)) (all_drawn sight (live_names held m)) (all_drawn sight (live_names (bared held k) m))
names_freed sight held k [] = refl
names_freed sight held k (e ∷ es) = by_test (e.part == k) refl (names_freed sight held k es)
  where
    old : List Name
    old = live_names held es

    new : List Name
    new = live_names (bared held k) es

    under : List Name
    under = names_under k held es

    gone : (hs ks : List Hold) → ks ≡ [] → AreLost (numbers under) (all_drawn sight old) (all_drawn sight new) → AreLost (numbers (named_if hs e.number under)) (all_drawn sight (named_if hs e.number old)) (all_drawn sight (named_if ks e.number new))
    gone [] ks none later = subst (λ (z : List Hold). AreLost (numbers under) (all_drawn sight old) (all_drawn sight (named_if z e.number new))) (sym none) later
    gone (h ∷ hs) ks none later =
        let name : Name = record { number = e.number; cells = cells_of (h ∷ hs) } in
        subst (λ (z : List Hold). AreLost (e.number ∷ numbers under) (drawn sight name ∷ all_drawn sight old) (all_drawn sight (named_if z e.number new))) (sym none) (
          all_drawn sight old,
          record { before = []; words = (drawn sight name).words; behind = all_drawn sight old; old_is = refl; new_is = refl },
          later,
        )

    stays : (hs ks : List Hold) → ks ≡ hs → AreLost (numbers under) (all_drawn sight old) (all_drawn sight new) → AreLost (numbers under) (all_drawn sight (named_if hs e.number old)) (all_drawn sight (named_if ks e.number new))
    stays [] ks same later = subst (λ (z : List Hold). AreLost (numbers under) (all_drawn sight old) (all_drawn sight (named_if z e.number new))) (sym same) later
    stays (h ∷ hs) ks same later =
        let name : Name = record { number = e.number; cells = cells_of (h ∷ hs) } in
        subst (λ (z : List Hold). AreLost (numbers under) (drawn sight name ∷ all_drawn sight old) (all_drawn sight (named_if z e.number new))) (sym same)
        (lost_behind (drawn sight name) (numbers under) (all_drawn sight old) (all_drawn sight new) later)

    by_test : (b : Bool) → (e.part == k) ≡ b → AreLost (numbers under) (all_drawn sight old) (all_drawn sight new) → AreLost (numbers (cond b (named_if (list_at held e.part) e.number under) under)) (all_drawn sight (named_if (list_at held e.part) e.number old)) (all_drawn sight (named_if (list_at (bared held k) e.part) e.number new))
    by_test true f later =
        let none : list_at (bared held k) e.part ≡ [] = ap (list_at (bared held k)) (eqb-true _ _ f) ∙ list_bared held k in
        gone (list_at held e.part) (list_at (bared held k) e.part) none later
    by_test false f later =
        stays (list_at held e.part) (list_at (bared held k) e.part) (list_other held k e.part [] (λ same. true≢false (sym (eq-eqb _ _ same) ∙ f))) later
