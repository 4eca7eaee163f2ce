-- What a device holds along a walk.
use Rattle.std.proofs.Common.{◌≡◌, ℕ, zero, suc, ◌+◌, ◌-◌, ◌<◌, ◌≤◌, ◌==◌, Bool, true, false, cond, nat_lt, List, [], ◌∷◌, ◌++◌, length, Result, Ok, Err, refl, sym, subst, arith, length-append}
use Rattle.std.proofs.lemmas.Bool.Decides.{nat_tests}
use Rattle.std.specs.List.{AllByRecursion, insert}
use Rattle.pv_words.specs.declared.grant.Hold.{Hold}
use Rattle.pv_words.specs.declared.grant.Mode.{Mode}
use Rattle.pv_words.specs.declared.grant.Mode.TheVariants.{Read}
use Rattle.pv_words.specs.declared.grant.GrantRefusal.{GrantRefusal}
use Rattle.pv_words.specs.declared.grant.GrantRefusal.TheVariants.{NoNext}
use Rattle.pv_words.specs.Plan.{Plan, Finished, Make, Load, Plain, Ends}
use Rattle.pv_words.specs.Mapping.{map_plan, unmap_want}
use Rattle.pv_words.specs.MapLaws.{with_result}
use Rattle.page_directory.specs.declared.walk.Walked.{Walked}
use Rattle.page_directory.specs.declared.walk.Walked.TheVariants.{Pages}
use Rattle.pv_words.specs.Plan.{FitsFrom}
use Rattle.pv_words.proofs.Fits.{fits_then}
use Rattle.pv_words.specs.Held.{Holds, IsProper, holding, holds_of, unheld}
use Rattle.pv_words.specs.MapLaws.{IsHold, IsResult}
use Rattle.page_directory.specs.Same.{AreSame, times}
use Rattle.pv_words.specs.Plan.{joined}
use Rattle.page_directory.specs.Laws.{IsPage, Leaves, WalksExactly}
use Rattle.page_directory.specs.Walking.{per_page, word_in, undo_plan, with_map, entry_plan, enter_plan, leave_plan, next_plan, rest_plan, walk_plan}
use Rattle.page_directory.proofs.Counts.{times_append, times_insert, times_here, has_counted, covers_counted, times_unheld}
use Rattle.pv_words.proofs.Holdings.{holds_exactly, unmaps_exactly}

pub all_push : {X : Type 0} (P : X → Type 0) (xs : List X) (x : X) → AllByRecursion P xs → P x → AllByRecursion P (xs ++ x ∷ [])
all_push P [] x h p = (p, tt)
all_push P (y ∷ ys) x h p = (h.0, all_push P ys x h.1 p)

pub all_insert : {X : Type 0} (P : X → Type 0) (xs : List X) (b : ℕ) (x : X) → AllByRecursion P xs → P x → AllByRecursion P (insert xs b x)
all_insert P [] zero x h p = (p, tt)
all_insert P [] (suc b) x h p = (p, tt)
all_insert P (y ∷ ys) zero x h p = (p, h)
all_insert P (y ∷ ys) (suc b) x h p = (h.0, all_insert P ys b x h.1 p)

pub all_weaker : {X : Type 0} (P Q : X → Type 0) → ((x : X) → P x → Q x) → (xs : List X) → AllByRecursion P xs → AllByRecursion Q xs
all_weaker P Q f [] h = tt
all_weaker P Q f (x ∷ xs) h = (f x h.0, all_weaker P Q f xs h.1)

module _ (frames grants : ℕ → ℕ) (dom : ℕ) (mode : Mode) (count : ℕ) (others : List Hold) where
  abbrev Fit : List Hold → Plan Walked → Type 0
  Fit held p = FitsFrom (IsProper frames grants dom) (holding frames) (Leaves (frames dom) (grants dom) dom mode count others) (holds_of held) p

  -- it may be unmapped by this domain's entries
  abbrev IsOwn : Hold → Type 0
  IsOwn h = (h.dom.0 ≡ dom) × (h.gref.0 < grants dom)

  own_page : (h : Hold) → IsPage (frames dom) (grants dom) dom mode h → IsOwn h
  own_page h p = (p.dom_is, p.gref_in)

  -- a hold that stands is unmapped
  unmap_fits : (h : Hold) (held rest : List Hold) (p : Plan Walked) → IsOwn h → AreSame held (others ++ h ∷ rest) → ((left : List Hold) → AreSame left (others ++ rest) → Fit left p) → Fit held (Make (unmap_want h) (Ends h) (λ _. p))
  unmap_fits h held rest p own same more =
      let stands : 0 < times h held = omega (arith, same h, times_append h others (h ∷ rest), times_here h rest) in
      let has = has_counted h held stands in
      let left : AreSame (unheld h held) (others ++ rest) = λ k. omega (arith, same k, times_append k others (h ∷ rest), times_append k others rest, times_unheld k h held has) in
      let u = unmaps_exactly frames grants dom h held 0 own.0 own.1 has in (
        u.0,
        λ v.
            let w = unmaps_exactly frames grants dom h held v own.0 own.1 has in
            subst (λ s. FitsFrom (IsProper frames grants dom) (holding frames) (Leaves (frames dom) (grants dom) dom mode count others) s p) (sym w.1) (more (unheld h held) left),
      )

  undo_fits : (hs : List Hold) (r : GrantRefusal) (held : List Hold) → AreSame held (others ++ hs) → AllByRecursion IsOwn hs → Fit held (undo_plan hs r)
  undo_fits [] r held same own = (refl, (λ k. omega (arith, same k, times_append k others [])))
  undo_fits (h ∷ hs) r held same own =
      unmap_fits h held hs (undo_plan hs r) own.0 same (λ left s. undo_fits hs r left s own.1)

  -- a map, where these pages are unmapped if it is refused
  map_fits : (gref : ℕ) (m : Mode) (held hs : List Hold) (next : Hold → Plan Walked) → AreSame held (others ++ hs) → AllByRecursion IsOwn hs → ((h : Hold) → IsHold (frames dom) (grants dom) dom gref m h → Fit (held ++ h ∷ []) (next h)) → Fit held (joined (map_plan (frames dom) (grants dom) dom gref m) (with_map hs next))
  map_fits gref m held hs next same own more =
      fits_then (IsProper frames grants dom) (holding frames) (λ h r. (h ≡ holds_of (with_result held r)) × IsResult (frames dom) (grants dom) dom gref m r) (Leaves (frames dom) (grants dom) dom mode count others) (with_map hs next) (holds_of held) (map_plan (frames dom) (grants dom) dom gref m) (holds_exactly frames grants dom gref m held) ended
    where
      ended : (t : Holds) (x : Result Hold GrantRefusal) → (t ≡ holds_of (with_result held x)) × IsResult (frames dom) (grants dom) dom gref m x → FitsFrom (IsProper frames grants dom) (holding frames) (Leaves (frames dom) (grants dom) dom mode count others) t (with_map hs next x)
      ended t (Ok h) e = subst (λ s. FitsFrom (IsProper frames grants dom) (holding frames) (Leaves (frames dom) (grants dom) dom mode count others) s (next h)) (sym e.0) (more h e.1)
      ended t (Err r) e = subst (λ s. FitsFrom (IsProper frames grants dom) (holding frames) (Leaves (frames dom) (grants dom) dom mode count others) s (undo_plan hs r)) (sym e.0) (undo_fits hs r held same own)

  -- the walk is at a directory page, and so many references are still needed
  record At (n : ℕ) (d : Hold) (begins : ℕ) (pages held : List Hold) : Type 0 where
    directory : IsHold (frames dom) (grants dom) dom d.gref.0 Read d
    all : AllByRecursion (IsPage (frames dom) (grants dom) dom mode) pages
    within : begins ≤ length pages
    few : length pages ≤ begins + 1023
    same : AreSame held (others ++ insert pages begins d)
    total : length pages + n ≡ count

  abbrev Rests : ℕ → Type 0
  Rests n = (e : Hold) (b : ℕ) (ps hs : List Hold) → At n e b ps hs → Fit hs (rest_plan (frames dom) (grants dom) dom mode n e b ps)

  owned : (n : ℕ) (d : Hold) (begins : ℕ) (pages held : List Hold) → At n d begins pages held → AllByRecursion IsOwn (insert pages begins d)
  owned n d begins pages held at =
      all_insert IsOwn pages begins d (all_weaker (IsPage (frames dom) (grants dom) dom mode) IsOwn own_page pages at.all) (at.directory.dom_is, at.directory.gref_in)

  -- a word of the directory page is loaded
  load_proper : (n : ℕ) (d : Hold) (begins : ℕ) (pages held : List Hold) (w : ℕ) → At n d begins pages held → w < 1024 → IsProper frames grants dom (holds_of held) (Load (word_in d w)) Plain
  load_proper n d begins pages held w at small =
      let there : d.frame.0 < frames d.dom.0 = subst (λ x. d.frame.0 < frames x) (sym at.directory.dom_is) at.directory.frame_in in
      let stands : 0 < times d held = omega (arith, at.same d, times_append d others (insert pages begins d), times_insert d pages begins d, times_here d []) in
      ((there, small), (covers_counted d held stands, tt))

  pushed : (n : ℕ) (d : Hold) (begins : ℕ) (pages held : List Hold) (h : Hold) → At (suc n) d begins pages held → length pages - begins < 1023 → IsPage (frames dom) (grants dom) dom mode h → At n d begins (pages ++ h ∷ []) (held ++ h ∷ [])
  pushed n d begins pages held h at room p =
      record {
        directory = at.directory;
        all = all_push (IsPage (frames dom) (grants dom) dom mode) pages h at.all p;
        within = omega (arith, at.within, length-append pages (h ∷ []));
        few = omega (arith, at.within, room, length-append pages (h ∷ []));
        same = λ k. omega (arith, at.same k, times_append k others (insert pages begins d), times_append k others (insert (pages ++ h ∷ []) begins d), times_insert k pages begins d, times_insert k (pages ++ h ∷ []) begins d, times_append k pages (h ∷ []), times_append k held (h ∷ []));
        total = omega (arith, at.total, length-append pages (h ∷ []));
      }

  entry_fits : (n : ℕ) → Rests n → (d : Hold) (begins : ℕ) (pages held : List Hold) → At (suc n) d begins pages held → length pages - begins < 1023 → Fit held (entry_plan (frames dom) (grants dom) dom mode (rest_plan (frames dom) (grants dom) dom mode n d begins) d begins pages)
  entry_fits n rest d begins pages held at room = (
    load_proper (suc n) d begins pages held (length pages - begins + 1) at (omega (arith, room)),
    λ gref.
        map_fits gref mode held (insert pages begins d) (λ h. rest_plan (frames dom) (grants dom) dom mode n d begins (pages ++ h ∷ [])) at.same (owned (suc n) d begins pages held at) (λ h is.
        rest d begins (pages ++ h ∷ []) (held ++ h ∷ []) (pushed n d begins pages held h at room (page_from gref h is))),
  )
    where
      page_from : (gref : ℕ) (h : Hold) → IsHold (frames dom) (grants dom) dom gref mode h → IsPage (frames dom) (grants dom) dom mode h
      page_from gref h is = record { dom_is = is.dom_is; gref_is = refl; mode_is = is.mode_is; frame_in = is.frame_in; gref_in = subst (λ g. g < grants dom) (sym is.gref_is) is.gref_in }

  enter_fits : (n : ℕ) → Rests n → (gref : ℕ) (pages held : List Hold) → AreSame held (others ++ pages) → AllByRecursion (IsPage (frames dom) (grants dom) dom mode) pages → length pages + suc n ≡ count → Fit held (enter_plan (frames dom) (grants dom) dom mode (rest_plan (frames dom) (grants dom) dom mode n) gref pages)
  enter_fits n rest gref pages held same all total =
      map_fits gref Read held pages (λ d. entry_plan (frames dom) (grants dom) dom mode (rest_plan (frames dom) (grants dom) dom mode n d (length pages)) d (length pages) pages) same (all_weaker (IsPage (frames dom) (grants dom) dom mode) IsOwn own_page pages all) (λ d is.
      entry_fits n rest d (length pages) pages (held ++ d ∷ []) (arrived d is) (omega arith))
    where
      arrived : (d : Hold) → IsHold (frames dom) (grants dom) dom gref Read d → At (suc n) d (length pages) pages (held ++ d ∷ [])
      arrived d is =
          record {
            directory = record { dom_is = is.dom_is; gref_is = refl; mode_is = is.mode_is; frame_in = is.frame_in; gref_in = subst (λ g. g < grants dom) (sym is.gref_is) is.gref_in };
            all = all;
            within = omega arith;
            few = omega arith;
            same = λ k. omega (arith, same k, times_append k others pages, times_append k others (insert pages (length pages) d), times_insert k pages (length pages) d, times_append k held (d ∷ []));
            total = total;
          }

  leave_fits : (n : ℕ) (d : Hold) (begins : ℕ) (pages held : List Hold) (p : Plan Walked) → At n d begins pages held → ((left : List Hold) → AreSame left (others ++ pages) → Fit left p) → Fit held (leave_plan d p)
  leave_fits n d begins pages held p at more =
      unmap_fits d held pages p (at.directory.dom_is, at.directory.gref_in) (λ k. omega (arith, at.same k, times_append k others (insert pages begins d), times_insert k pages begins d, times_append k others (d ∷ pages))) more

  rest_fits : (n : ℕ) (d : Hold) (begins : ℕ) (pages held : List Hold) → At n d begins pages held → Fit held (rest_plan (frames dom) (grants dom) dom mode n d begins pages)
  unfolding rest_plan
  rest_fits zero d begins pages held at =
      leave_fits zero d begins pages held (Finished (Pages pages)) at (λ left s. (refl, s, at.all, omega (arith, at.total)))
  rest_fits (suc n) d begins pages held at = by_room (nat_lt (length pages - begins) per_page) refl (rest_fits n)
    where
      further : Rests n → (b : Bool) (gref : ℕ) → Fit held (cond b (undo_plan (insert pages begins d) NoNext) (leave_plan d (enter_plan (frames dom) (grants dom) dom mode (rest_plan (frames dom) (grants dom) dom mode n) gref pages)))
      further rest true gref = undo_fits (insert pages begins d) NoNext held at.same (owned (suc n) d begins pages held at)
      further rest false gref = leave_fits (suc n) d begins pages held (enter_plan (frames dom) (grants dom) dom mode (rest_plan (frames dom) (grants dom) dom mode n) gref pages) at (λ left s. enter_fits n rest gref pages left s at.all at.total)

      by_room : (b : Bool) → nat_lt (length pages - begins) per_page ≡ b → Rests n → Fit held (cond b (entry_plan (frames dom) (grants dom) dom mode (rest_plan (frames dom) (grants dom) dom mode n d begins) d begins pages) (next_plan d begins pages (λ gref. enter_plan (frames dom) (grants dom) dom mode (rest_plan (frames dom) (grants dom) dom mode n) gref pages)))
      by_room true e rest = entry_fits n rest d begins pages held at (grind (arith, nat_tests, e))
      by_room false e rest = (load_proper (suc n) d begins pages held 0 at (omega arith), λ v. further rest (v == 0) v)

  walk_fits : (gref n : ℕ) → count ≡ n → Fit others (walk_plan (frames dom) (grants dom) dom gref mode n)
  unfolding walk_plan
  walk_fits gref zero e = (refl, (λ k. omega (arith, times_append k others [])), tt, sym e)
  walk_fits gref (suc n) e =
      enter_fits n (rest_fits n) gref [] others (λ k. omega (arith, times_append k others [])) tt (omega (arith, e))

pub walks_exactly : WalksExactly
walks_exactly frames grants dom gref mode count others = walk_fits frames grants dom mode count others gref count refl
