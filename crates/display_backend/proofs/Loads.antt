-- The reading of a picture: its steps, and where its accesses lie.
use Rattle.std.proofs.Common.{◌≡◌, ℕ, zero, suc, ◌+◌, ◌<◌, Bool, true, false, List, [], ◌∷◌, ◌++◌, length, slice_index_or, IfSome, inl, inr, Option, Some, None, IsTrue, ◌↔◌, ◌≤◌, ◌*◌, ◌/◌, refl, sym, ap, ◌∙◌, arith, subst}
use Rattle.std.proofs.lemmas.Bool.{false≢true}
use Rattle.std.proofs.lemmas.Bool.Decides.{nat_tests}
use Rattle.std.proofs.lemmas.Nat.{mul-le}
use Rattle.pv_words.specs.declared.access.Access.{Access}
use Rattle.pv_words.specs.declared.grant.Hold.{Hold}
use Rattle.pv_words.specs.declared.device.Said.{Said}
use Rattle.pv_words.specs.declared.device.Said.TheVariants as said
use Rattle.pv_words.specs.Held.{Covers, Has}
use Rattle.pv_words.specs.Plan.{Plan, Finished, Make, Want, IsUnfinished, MayGo, Turns, mapped}
use Rattle.device_service.specs.declared.deed.Now.{Now}
use Rattle.device_service.specs.declared.deed.Now.TheVariants.{GoesOn, Over}
use Rattle.device_service.specs.Operating.{Continues, Leaves, Serves}
use Rattle.display_backend.specs.declared.waiting.Waiting.{Waiting}
use Rattle.display_backend.specs.Waiting.{said_of}
use Rattle.device_service.proofs.Mapping.Steps.{goes_mapped}
use Rattle.device_service.specs.Service.{Deed, Runs}
use Rattle.device_service.proofs.InPages.{StaysInPages}
use Rattle.octet_window.specs.Octets.{words_of}
use Rattle.picture_scan.specs.declared.pixels.Pixels.{Pixels}
use Rattle.picture_scan.specs.declared.shape.Shape.{Shape}
use Rattle.picture_scan.specs.declared.scan.Shown.{Shown}
use Rattle.picture_scan.specs.Rectangle.{IsWithin, is_depth, row_words}
use Rattle.picture_scan.specs.Scan.{LiesIn, left_in, left_of}
use Rattle.picture_scan.specs.Scanning.{rows_plan, scan_plan, take_words}
use Rattle.display_backend.specs.declared.picture.Reading.{Reading}
use Rattle.display_backend.specs.declared.picture.Source.{Source}
use Rattle.display_backend.specs.declared.waiting.Waiting.TheVariants as waiting
use Rattle.display_backend.specs.Course.{reading_left, scan_left}
use Rattle.display_backend.specs.Picture.{is_within}
use Rattle.display_backend.specs.Service.{Ending, Known, Pictured, Served, display, show_in, show_of}
use Rattle.display_backend.proofs.Pictures.{within_by, within_so}
use Rattle.display_buffers.specs.Left.{pages_at}
use Rattle.display_buffers.specs.Stock.{Stock, Held, buffer_pages, pages_of, pages_under}
use Rattle.link_core.specs.Stays.{AccessIn}
use Rattle.octet_window.specs.Pages.{no_page}
use Rattle.picture_scan.specs.Steps.{IsInPages}

in_words : {A : Type 0} (pages : List Hold) (key : ℕ) (is : List ℕ) (more : List ℕ → Plan A) → ((vs : List ℕ) → StaysInPages (more vs)) → StaysInPages (take_words pages key is more)
in_words pages key [] more h = h []
in_words pages key (i ∷ is) more h = (refl, λ v. in_words pages key is (λ vs. more (v ∷ vs)) (λ vs. h (v ∷ vs)))

in_rows : (s : Shape) (pages : List Hold) (key row rows mark : ℕ) → StaysInPages (rows_plan s pages key row rows mark)
in_rows s pages key row zero mark = tt
in_rows s pages key row (suc n) mark = in_words pages key (row_words s row) _ (λ vs. in_rows s pages key (row + 1) n _)

in_left : (s : Shape) (pages : List Hold) (key row rows place more : ℕ) (pixels : Pixels) (over : Bool) → StaysInPages (left_in s pages key row rows place more pixels over)
in_left s pages key row rows place more pixels true = in_rows s pages key row rows pixels.mark
in_left s pages key row rows place more pixels false = in_words pages key (words_of place more) _ (λ vs. in_rows s pages key row rows _)

pub in_scan : (bs : List Held) (r : Reading) → StaysInPages (scan_left bs r)
unfolding left_of
in_scan bs r =
    let c = r.scan in
    in_left c.shape (pages_at bs r.place) c.key (c.row + 1) c.rows c.place c.more c.pixels c.over

-- a rectangle has an octet, and so pages that it lies in
size_some : (bpp : ℕ) → is_depth bpp ≡ true → 1 ≤ bpp / 8
size_some bpp h = grind (arith, nat_tests)

pub lies_some : (pages : List Hold) (s : Shape) → LiesIn pages s → 0 < length pages
lies_some pages s w =
    let area : 1 * 1 ≤ (s.y + s.rows) * s.width = mul-le 1 1 (s.y + s.rows) s.width (omega (arith, w.rows)) (omega (arith, w.columns, w.across)) in
    let all : 1 * 1 * 1 ≤ (s.y + s.rows) * s.width * (s.bpp / 8) = mul-le (1 * 1) 1 ((s.y + s.rows) * s.width) (s.bpp / 8) area (size_some s.bpp w.depth) in
    let down : (s.y + s.rows) * s.width * (s.bpp / 8) ≤ 4096 * length pages = w.down in
    omega (arith, all, down)

pub none_within : (s : Shape) → is_within (4096 * length {A = Hold} []) s ≡ false
none_within s = by_test (is_within (4096 * length {A = Hold} []) s) refl
  where
    by_test : (t : Bool) → is_within (4096 * length {A = Hold} []) s ≡ t → t ≡ false
    by_test true e = let some : 0 < length {A = Hold} [] = lies_some [] s (within_by (4096 * length {A = Hold} []) s e) in absurd (omega (arith, some))
    by_test false e = refl

-- what a Show leads to, as its picture may be read or not
module _ (part : ℕ) (bs : List Held) (o : Option Source) (s : Source) (is : o ≡ Some s) where
  pub told_by : is_within (4096 * length (pages_under s.dbuf bs)) s.shape ≡ false → show_of part bs o ≡ Runs (Finished (Served (waiting.Show part)))
  told_by out = ap (show_of part bs) is ∙ ap (show_in part (pages_under s.dbuf bs) s) out

  pub told_without : pages_under s.dbuf bs ≡ [] → show_of part bs o ≡ Runs (Finished (Served (waiting.Show part)))
  told_without none = told_by (ap (λ (ps : List Hold). is_within (4096 * length ps) s.shape) none ∙ none_within s.shape)

  pub read_by : (r : Reading) (k : ℕ) → r.part ≡ part → r.place ≡ k → pages_under s.dbuf bs ≡ pages_at bs k → is_within (4096 * length (pages_at bs k)) s.shape ≡ true → left_of (pages_at bs k) r.scan ≡ scan_plan s.shape (pages_at bs k) s.dbuf → show_of part bs o ≡ Runs (reading_left bs r)
  read_by r k of place here inside begins =
      ap (show_of part bs) is
      ∙ ap (λ (ps : List Hold). show_in part ps s (is_within (4096 * length ps) s.shape)) here
      ∙ ap (show_in part (pages_at bs k) s) inside
      ∙ ap (λ (p : Plan Shown). runs (mapped (Pictured part) p)) (sym begins)
      ∙ ap (λ n. runs (mapped (Pictured part) (left_of (pages_at bs n) r.scan))) (sym place)
      ∙ ap (λ n. runs (mapped (Pictured n) (left_of (pages_at bs r.place) r.scan))) (sym of)
    where
      runs : Plan Ending → Deed Ending
      runs p = Runs p

-- a test that says whether a rectangle may be read says it so
pub tested : (t : Bool) (octets : ℕ) (s : Shape) → (IsTrue t ↔ IsWithin octets s) → is_within octets s ≡ t
tested true octets s e = within_so octets s (e.0 refl)
tested false octets s e = by_test (is_within octets s) refl
  where
    by_test : (t : Bool) → is_within octets s ≡ t → t ≡ false
    by_test true f = absurd (false≢true (e.1 (within_by octets s f)))
    by_test false f = refl

-- the next access of a reading may be made
pub may_scan : {A B : Type 0} (may : Want → Type 0) (f : A → B) (p : Plan A) → MayGo may (mapped f p) → MayGo may p
may_scan may f (Finished x) m = tt
may_scan may f (Make want note more) m = m

-- a reading goes on
reading_on : (x y : Known) (part : ℕ) (q : Plan Shown) (left : Plan Ending) → IsUnfinished q → y ≡ x → left ≡ mapped (Pictured part) q → Leaves display x (mapped (Pictured part) q) GoesOn None y left
reading_on x y part (Finished shown) left u e l = absurd u
reading_on x y part (Make want note more) left u e l = (refl, refl, e, l)

pub read_goes : (x y : Known) (p q : Plan Shown) (part : ℕ) (access : Option Access) (last : Option Shown) (left : Plan Ending) → last ≡ None → y ≡ x → Turns p access last q → left ≡ mapped (Pictured part) q → Continues display x (mapped (Pictured part) p) access GoesOn None y left
read_goes x y p q part None last left e same t l = absurd t
read_goes x y p q part (Some a) last left e same t l =
    let goes : Turns p (Some a) None q = subst (λ (z : Option Shown). Turns p (Some a) z q) e t in
    (mapped (Pictured part) q, goes_mapped (λ z. Pictured part z) p a q goes.0, reading_on x y part q left goes.1 same l)

-- it is over
pub read_ends : (x y : Known) (p q : Plan Shown) (part : ℕ) (access : Option Access) (last : Option Shown) (shown : Shown) (told : Option Said) (left : Plan Ending) → last ≡ Some shown → Turns p access last q → told ≡ Some (said.Shown part shown.pixels shown.mark) → y ≡ x → Continues display x (mapped (Pictured part) p) access Over told y left
read_ends x y p q part None last shown told left is t e n = absurd t
read_ends x y p q part (Some a) last shown told left is t e n =
    let goes : Turns p (Some a) (Some shown) q = subst (λ (z : Option Shown). Turns p (Some a) z q) is t in
    (Finished (Pictured part shown), goes_mapped (λ z. Pictured part z) p a (Finished shown) goes, (refl, e, n))

-- the first step of a Show: of a reading, or all of it
reads_first : (x : Known) (p : Plan Ending) (access : Option Access) (now : Now) (told : Option Said) (y : Known) (left : Plan Ending) → Continues display x p access now told y left → Serves display x (Runs p) access now told y left
reads_first x p None now told y left c = absurd c
reads_first x p (Some a) now told y left c = c

pub shows_first : (x : Known) (d : Deed Ending) (p : Plan Ending) (access : Option Access) (now : Now) (told : Option Said) (y : Known) (left : Plan Ending) → d ≡ Runs p → Continues display x p access now told y left → Serves display x d access now told y left
shows_first x d p access now told y left is c =
    subst (λ (z : Deed Ending). Serves display x z access now told y left) (sym is) (reads_first x p access now told y left c)

told_first : (x : Known) (e : Waiting) (told : Option Said) (left : Plan Ending) → told ≡ Some (said_of e) → Serves display x (Runs (Finished (Served e))) None Over told x left
told_first x e told left is = record { end = Served e; said = said_of e; over = refl; says = is; said_is = refl; now_is = refl; left = refl }

pub shows_nothing : (x : Known) (d : Deed Ending) (e : Waiting) (access : Option Access) (now : Now) (told : Option Said) (left : Plan Ending) → d ≡ Runs (Finished (Served e)) → access ≡ None → now ≡ Over → told ≡ Some (said_of e) → Serves display x d access now told x left
shows_nothing x d e access now told left is none over says =
    subst (λ (z : Deed Ending). Serves display x z access now told x left) (sym is)
    (subst (λ (a : Option Access). Serves display x (Runs (Finished (Served e))) a now told x left) (sym none)
    (subst (λ (n : Now). Serves display x (Runs (Finished (Served e))) None n told x left) (sym over) (told_first x e told left says)))

-- its accesses lie in pages of buffers
has_front : (P : Hold → Type 0) (xs ys : List Hold) → Has P xs → Has P (xs ++ ys)
has_front P [] ys h = absurd h
has_front P (x ∷ xs) ys (inl p) = inl p
has_front P (x ∷ xs) ys (inr h) = inr (has_front P xs ys h)

has_behind : (P : Hold → Type 0) (xs ys : List Hold) → Has P ys → Has P (xs ++ ys)
has_behind P [] ys h = h
has_behind P (x ∷ xs) ys h = inr (has_behind P xs ys h)

has_at : (pages : List Hold) (i : ℕ) (d : Hold) → i < length pages → Has (Covers (slice_index_or pages i d).dom.0 (slice_index_or pages i d).frame.0) pages
has_at [] i d h = absurd (omega (arith, h))
has_at (x ∷ xs) zero d h = inl (refl, refl)
has_at (x ∷ xs) (suc i) d h = inr (has_at xs i d (omega (arith, h)))

has_among : (P : Hold → Type 0) (bs : List Held) (k : ℕ) → Has P (pages_at bs k) → Has P (buffer_pages bs)
has_among P [] k h = absurd h
has_among P (b ∷ bs) zero h = has_front P b.pages (buffer_pages bs) h
has_among P (b ∷ bs) (suc k) h = has_behind P b.pages (buffer_pages bs) (has_among P bs k h)

pub in_stock : (access : Option Access) (k : ℕ) (st : Stock) → IfSome access (IsInPages (pages_at st.buffers k)) → AccessIn (pages_of st) access
in_stock None k st h = tt
in_stock (Some a) k st h =
    let hold = slice_index_or (pages_at st.buffers k) (h.index / 1024) no_page in
    let P : Hold → Type 0 = Covers hold.dom.0 hold.frame.0 in
    subst (λ (z : Access). AccessIn (pages_of st) (Some z)) (sym h.is)
    (has_behind P st.mapped (buffer_pages st.buffers) (has_among P st.buffers k (has_at (pages_at st.buffers k) (h.index / 1024) no_page h.inside)))
