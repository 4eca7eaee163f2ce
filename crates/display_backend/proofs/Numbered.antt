-- The buffers as the machine has them: each with its number in place of its pages.
use Rattle.std.proofs.Common.{◌≡◌, inl, inr, ℕ, suc, ◌≤◌, ◌==◌, ℤ, pos, Bool, true, false, not, cond, nat_le, List, [], ◌∷◌, ◌++◌, Option, Some, option_map, is_some, Result, Ok, Err, refl, sym, ◌∙◌, ap, subst, arith, length, length-append}
use Rattle.std.proofs.lemmas.Bool.{eqb-true}
use Rattle.std.specs.List.{AllByRecursion}
use Rattle.pv_words.specs.declared.grant.Hold.{Hold}
use Rattle.displ_wire.specs.declared.Asked.{Asked}
use Rattle.displ_wire.specs.declared.Asked.TheVariants as asked
use Rattle.displ_wire.specs.declared.Create.{Create}
use Rattle.displ_wire.specs.declared.buffer.Buffer.{Buffer}
use Rattle.displ_wire.specs.declared.buffer.Refused.{Refused}
use Rattle.displ_wire.specs.declared.buffer.Refused.TheVariants.{NotSupported, Exists, Full, Invalid, Unknown, InUse, Pending}
use Rattle.displ_wire.specs.Refused.{status_of}
use Rattle.display_buffers.specs.declared.live.Live.{Live}
use Rattle.display_buffers.specs.Buffers.{AreDistinct, AreSound, IsFresh, buffer_of, check_of, cookies, has_cookie, is_in_range, made_of, without_buffer}
use Rattle.display_buffers.specs.Stock.{Held, with_pages, bared, all_bared}
use Rattle.display_backend.specs.Names.{ids_without, numbered}
use Rattle.framebuffers.specs.Frames.{attach_check, is_used, with_frame}
use Rattle.display_backend.specs.Scene.{Scene, scene_after}
use Rattle.display_buffers.specs.Buffers.{buffer_at}
use Rattle.display_backend.specs.Verdict.{IsStatus, checked, destroy_verdict, verdict}

-- a number for each buffer
abbrev pub AreAll : List Held → List ℕ → Type 0
AreAll bs ns = length ns ≡ length bs

abbrev of_live : {P : Type 0} → Option (Live P) → Option Buffer
of_live o = option_map (λ b. b.buffer) o

pub same_live : (cookie : ℕ) (bs : List Held) (ns : List ℕ) → is_some (buffer_of cookie (numbered bs ns)) ≡ is_some (buffer_of cookie bs)
same_live cookie [] ns = refl
same_live cookie (b ∷ bs) [] = by_test (has_cookie cookie b) (same_live cookie bs [])
  where
    by_test : (t : Bool) → is_some (buffer_of cookie (numbered bs [])) ≡ is_some (buffer_of cookie bs) → is_some (cond t (Some (record { buffer = b.buffer; pages = 0 })) (buffer_of cookie (numbered bs []))) ≡ is_some (cond t (Some b) (buffer_of cookie bs))
    by_test true later = refl
    by_test false later = later
same_live cookie (b ∷ bs) (n ∷ ns) = by_test (has_cookie cookie b) (same_live cookie bs ns)
  where
    by_test : (t : Bool) → is_some (buffer_of cookie (numbered bs ns)) ≡ is_some (buffer_of cookie bs) → is_some (cond t (Some (record { buffer = b.buffer; pages = n })) (buffer_of cookie (numbered bs ns))) ≡ is_some (cond t (Some b) (buffer_of cookie bs))
    by_test true later = refl
    by_test false later = later

pub same_length : (bs : List Held) (ns : List ℕ) → length (numbered bs ns) ≡ length bs
same_length [] ns = refl
same_length (b ∷ bs) [] = ap suc (same_length bs [])
same_length (b ∷ bs) (n ∷ ns) = ap suc (same_length bs ns)

-- the checks of a CREATE and the verdict on a request know no pages
pub same_check : (bs : List Held) (ns : List ℕ) (c : Create) → check_of (numbered bs ns) c ≡ check_of bs c
same_check bs ns c =
    ap (λ t. cond (not (c.flags == 0)) (Err NotSupported) (cond t (Err Exists) (cond (nat_le 64 (length (numbered bs ns))) (Err Full) (cond (is_in_range (made_of c)) (Ok tt) (Err Invalid))))) (same_live c.dbuf_cookie bs ns)
    ∙ ap (λ n. cond (not (c.flags == 0)) (Err NotSupported) (cond (is_some (buffer_of c.dbuf_cookie bs)) (Err Exists) (cond (nat_le 64 n) (Err Full) (cond (is_in_range (made_of c)) (Ok tt) (Err Invalid))))) (same_length bs ns)

pub same_buffer : (cookie : ℕ) (bs : List Held) (ns : List ℕ) → buffer_at cookie (numbered bs ns) ≡ buffer_at cookie bs
same_buffer cookie [] ns = refl
same_buffer cookie (b ∷ bs) [] = by_test (has_cookie cookie b) (same_buffer cookie bs [])
  where
    by_test : (t : Bool) → buffer_at cookie (numbered bs []) ≡ buffer_at cookie bs → of_live (cond t (Some (record { buffer = b.buffer; pages = 0 })) (buffer_of cookie (numbered bs []))) ≡ of_live (cond t (Some b) (buffer_of cookie bs))
    by_test true later = refl
    by_test false later = later
same_buffer cookie (b ∷ bs) (n ∷ ns) = by_test (has_cookie cookie b) (same_buffer cookie bs ns)
  where
    by_test : (t : Bool) → buffer_at cookie (numbered bs ns) ≡ buffer_at cookie bs → of_live (cond t (Some (record { buffer = b.buffer; pages = n })) (buffer_of cookie (numbered bs ns))) ≡ of_live (cond t (Some b) (buffer_of cookie bs))
    by_test true later = refl
    by_test false later = later

pub same_verdict : (bs : List Held) (ns : List ℕ) (sc : Scene) (a : Asked) → verdict (numbered bs ns) sc a ≡ verdict bs sc a
same_verdict bs ns sc (asked.Create c) = ap checked (same_check bs ns c)
same_verdict bs ns sc (asked.Destroy cookie) = ap (λ t. destroy_verdict t (is_used cookie sc.frames)) (same_live cookie bs ns)
same_verdict bs ns sc (asked.Attach a) = ap (λ o. checked (attach_check sc.frames a o)) (same_buffer a.dbuf_cookie bs ns)
same_verdict bs ns sc (asked.Detach fb) = refl
same_verdict bs ns sc (asked.Config c) = refl
same_verdict bs ns sc (asked.Flip fb) = refl
same_verdict bs ns sc asked.Other = refl

pub same_scene : (bs : List Held) (ns : List ℕ) (sc : Scene) (a : Asked) (accepted : Bool) → scene_after bs sc a accepted ≡ scene_after (numbered bs ns) sc a accepted
same_scene bs ns sc (asked.Attach a) true = ap (λ o. record sc { frames = with_frame sc.frames a o }) (sym (same_buffer a.dbuf_cookie bs ns))
same_scene bs ns sc (asked.Attach a) false = refl
same_scene bs ns sc (asked.Create c) accepted = refl
same_scene bs ns sc (asked.Destroy cookie) accepted = refl
same_scene bs ns sc (asked.Detach fb) true = refl
same_scene bs ns sc (asked.Detach fb) false = refl
same_scene bs ns sc (asked.Config c) true = refl
same_scene bs ns sc (asked.Config c) false = refl
same_scene bs ns sc (asked.Flip fb) true = refl
same_scene bs ns sc (asked.Flip fb) false = refl
same_scene bs ns sc asked.Other accepted = refl

pub same_status : (denied : Bool) (bs : List Held) (ns : List ℕ) (sc : Scene) (a : Asked) (status : ℤ) → IsStatus denied bs sc a status → IsStatus denied (numbered bs ns) sc a status
same_status true bs ns sc a status h = h
same_status false bs ns sc a status (inl h) = inl (h ∙ sym (same_verdict bs ns sc a))
same_status false bs ns sc a status (inr h) = inr (h.0, same_verdict bs ns sc a ∙ h.1, h.2)

-- buffers without pages have their numbers still
pub numbered_bared : (cookie : ℕ) (bs : List Held) (ns : List ℕ) → numbered (bared cookie bs) ns ≡ numbered bs ns
numbered_bared cookie [] ns = refl
numbered_bared cookie (b ∷ bs) [] = by_test (has_cookie cookie b) (numbered_bared cookie bs [])
  where
    by_test : (t : Bool) → numbered (bared cookie bs) [] ≡ numbered bs [] → numbered (cond t (with_pages b [] ∷ bs) (b ∷ bared cookie bs)) [] ≡ numbered (b ∷ bs) []
    by_test true later = refl
    by_test false later = ap (λ (x : List (Live ℕ)). record { buffer = b.buffer; pages = 0 } ∷ x) later
numbered_bared cookie (b ∷ bs) (n ∷ ns) = by_test (has_cookie cookie b) (numbered_bared cookie bs ns)
  where
    by_test : (t : Bool) → numbered (bared cookie bs) ns ≡ numbered bs ns → numbered (cond t (with_pages b [] ∷ bs) (b ∷ bared cookie bs)) (n ∷ ns) ≡ numbered (b ∷ bs) (n ∷ ns)
    by_test true later = refl
    by_test false later = ap (λ (x : List (Live ℕ)). record { buffer = b.buffer; pages = n } ∷ x) later

pub numbered_all_bared : (bs : List Held) (ns : List ℕ) → numbered (all_bared bs) ns ≡ numbered bs ns
numbered_all_bared [] ns = refl
numbered_all_bared (b ∷ bs) [] = ap (λ (x : List (Live ℕ)). record { buffer = b.buffer; pages = 0 } ∷ x) (numbered_all_bared bs [])
numbered_all_bared (b ∷ bs) (n ∷ ns) = ap (λ (x : List (Live ℕ)). record { buffer = b.buffer; pages = n } ∷ x) (numbered_all_bared bs ns)

-- the same buffers, but for their pages
abbrev pub AreLike : List Held → List Held → Type 0
AreLike bs cs = numbered bs [] ≡ numbered cs []

pub like_length : (bs cs : List Held) → AreLike bs cs → length bs ≡ length cs
like_length bs cs e = sym (same_length bs []) ∙ (ap (λ (x : List (Live ℕ)). length x) e ∙ same_length cs [])

pub like_verdict : (bs cs : List Held) (sc : Scene) (a : Asked) → AreLike bs cs → verdict bs sc a ≡ verdict cs sc a
like_verdict bs cs sc a e = sym (same_verdict bs [] sc a) ∙ (ap (λ (x : List (Live ℕ)). verdict x sc a) e ∙ same_verdict cs [] sc a)

pub like_buffer : (bs cs : List Held) (cookie : ℕ) → AreLike bs cs → buffer_at cookie bs ≡ buffer_at cookie cs
like_buffer bs cs cookie e = sym (same_buffer cookie bs []) ∙ (ap (λ (x : List (Live ℕ)). buffer_at cookie x) e ∙ same_buffer cookie cs [])

same_cookies : (bs : List Held) → cookies (numbered bs []) ≡ cookies bs
same_cookies [] = refl
same_cookies (b ∷ bs) = ap (λ x. b.buffer.cookie ∷ x) (same_cookies bs)

in_range_so : (bs : List Held) → AllByRecursion (λ b. is_in_range b.buffer ≡ true) bs → AllByRecursion (λ b. is_in_range b.buffer ≡ true) (numbered bs [])
in_range_so [] all = tt
in_range_so (b ∷ bs) all = (all.0, in_range_so bs all.1)

in_range_back : (bs : List Held) → AllByRecursion (λ b. is_in_range b.buffer ≡ true) (numbered bs []) → AllByRecursion (λ b. is_in_range b.buffer ≡ true) bs
in_range_back [] all = tt
in_range_back (b ∷ bs) all = (all.0, in_range_back bs all.1)

pub like_sound : (bs cs : List Held) → AreLike bs cs → AreSound bs → AreSound cs
like_sound bs cs e s =
    record {
      at_most = subst (λ n. n ≤ 64) (like_length bs cs e) s.at_most;
      distinct = subst AreDistinct (sym (same_cookies bs) ∙ (ap (λ (x : List (Live ℕ)). cookies x) e ∙ same_cookies cs)) s.distinct;
      in_range = in_range_back cs (subst (λ (x : List (Live ℕ)). AllByRecursion (λ b. is_in_range b.buffer ≡ true) x) e (in_range_so bs s.in_range));
    }

-- one buffer more, with its number
pub numbered_with : (bs : List Held) (ns : List ℕ) (b : Held) (n : ℕ) → AreAll bs ns → numbered (bs ++ b ∷ []) (ns ++ n ∷ []) ≡ numbered bs ns ++ record { buffer = b.buffer; pages = n } ∷ []
numbered_with [] [] b n all = refl
numbered_with [] (m ∷ ns) b n all = absurd (omega (arith, all))
numbered_with (a ∷ bs) [] b n all = absurd (omega (arith, all))
numbered_with (a ∷ bs) (m ∷ ns) b n all =
    ap (λ (x : List (Live ℕ)). record { buffer = a.buffer; pages = m } ∷ x) (numbered_with bs ns b n (omega (arith, all)))

-- one less, without its number
pub numbered_without : (cookie : ℕ) (bs : List Held) (ns : List ℕ) → AreAll bs ns → numbered (without_buffer cookie bs) (ids_without cookie bs ns) ≡ without_buffer cookie (numbered bs ns)
numbered_without cookie [] ns all = refl
numbered_without cookie (b ∷ bs) [] all = absurd (omega (arith, all))
numbered_without cookie (b ∷ bs) (n ∷ ns) all = by_test (has_cookie cookie b) (numbered_without cookie bs ns (omega (arith, all)))
  where
    by_test : (t : Bool) → numbered (without_buffer cookie bs) (ids_without cookie bs ns) ≡ without_buffer cookie (numbered bs ns) → numbered (cond (not t) (b ∷ without_buffer cookie bs) (without_buffer cookie bs)) (cond t (ids_without cookie bs ns) (n ∷ ids_without cookie bs ns)) ≡ cond (not t) (record { buffer = b.buffer; pages = n } ∷ without_buffer cookie (numbered bs ns)) (without_buffer cookie (numbered bs ns))
    by_test true later = later
    by_test false later = ap (λ (x : List (Live ℕ)). record { buffer = b.buffer; pages = n } ∷ x) later

pub all_with : (bs : List Held) (ns : List ℕ) (b : Held) (n : ℕ) → AreAll bs ns → AreAll (bs ++ b ∷ []) (ns ++ n ∷ [])
all_with bs ns b n all = omega (arith, all, length-append bs (b ∷ []), length-append ns (n ∷ []))

pub all_without : (cookie : ℕ) (bs : List Held) (ns : List ℕ) → AreAll bs ns → AreAll (without_buffer cookie bs) (ids_without cookie bs ns)
all_without cookie [] ns all = refl
all_without cookie (b ∷ bs) [] all = absurd (omega (arith, all))
all_without cookie (b ∷ bs) (n ∷ ns) all = by_test (has_cookie cookie b) (all_without cookie bs ns (omega (arith, all)))
  where
    by_test : (t : Bool) → AreAll (without_buffer cookie bs) (ids_without cookie bs ns) → AreAll (cond (not t) (b ∷ without_buffer cookie bs) (without_buffer cookie bs)) (cond t (ids_without cookie bs ns) (n ∷ ids_without cookie bs ns))
    by_test true later = later
    by_test false later = ap suc later

-- what no buffer is called leaves all numbers
pub ids_fresh : (cookie : ℕ) (bs : List Held) (ns : List ℕ) → AreAll bs ns → IsFresh cookie (cookies bs) → ids_without cookie bs ns ≡ ns
ids_fresh cookie [] [] all fresh = refl
ids_fresh cookie [] (n ∷ ns) all fresh = absurd (omega (arith, all))
ids_fresh cookie (b ∷ bs) [] all fresh = absurd (omega (arith, all))
ids_fresh cookie (b ∷ bs) (n ∷ ns) all fresh = by_test (has_cookie cookie b) refl (ids_fresh cookie bs ns (omega (arith, all)) fresh.1)
  where
    by_test : (t : Bool) → has_cookie cookie b ≡ t → ids_without cookie bs ns ≡ ns → cond t (ids_without cookie bs ns) (n ∷ ids_without cookie bs ns) ≡ n ∷ ns
    by_test true e later = absurd (fresh.0 (sym (eqb-true b.buffer.cookie cookie e)))
    by_test false e later = ap (λ x. n ∷ x) later

-- a CREATE is accepted where it passed its checks
pub not_refused : (why : Refused) → status_of why ≡ pos 0 → ⊥
not_refused NotSupported h = cc
not_refused Exists h = cc
not_refused Full h = cc
not_refused Invalid h = cc
not_refused Unknown h = cc
not_refused (InUse f) h = cc
not_refused (Pending f) h = cc

pub passes_by : (x : Result (Unit {0}) Refused) → checked x ≡ pos 0 → x ≡ Ok tt
passes_by (Ok tt) h = refl
passes_by (Err why) h = absurd (not_refused why h)

-- none are sound
pub no_buffers : AreSound {P = List Hold} []
no_buffers = record { at_most = omega arith; distinct = tt; in_range = tt }
