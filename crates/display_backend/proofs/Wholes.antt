-- Each live buffer has all its pages, but for the one that goes by an accepted DESTROY.
use Rattle.std.proofs.Common.{◌≡◌, ℕ, Bool, true, false, not, cond, List, [], ◌∷◌, length, Option, Some, None, is_some, option_map, refl, sym, ap, ◌∙◌, arith, subst}
use Rattle.std.proofs.lemmas.Bool.{true≢false}
use Rattle.std.specs.List.{AllByRecursion}
use Rattle.cookie_table.proofs.Keys.{all_push}
use Rattle.pv_words.specs.declared.grant.Hold.{Hold}
use Rattle.displ_wire.specs.declared.Asked.{Asked}
use Rattle.displ_wire.specs.declared.Asked.TheVariants as asked
use Rattle.displ_wire.specs.declared.Create.{Create}
use Rattle.displ_wire.specs.declared.Request.{Request}
use Rattle.displ_wire.specs.declared.buffer.Buffer.{Buffer}
use Rattle.display_buffers.specs.Buffers.{buffer_of, has_cookie, made_of, with_buffer, without_buffer}
use Rattle.page_directory.specs.declared.progress.Progress.{Progress}
use Rattle.page_directory.specs.declared.progress.Progress.TheVariants as progress
use Rattle.display_backend.specs.Kept.{AreAllOf, AreMapped, AreWholeBut, HasComeTo, WholeFor, goes_by}
use Rattle.display_backend.specs.Reply.{stock_after}
use Rattle.display_backend.specs.Scene.{Scene}
use Rattle.display_buffers.specs.Buffers.{buffer_at}
use Rattle.display_buffers.specs.Stock.{Stock, Held, bared, pages_under, with_pages}
use Rattle.display_backend.specs.Verdict.{verdict}
use Rattle.page_directory.specs.Progress.{is_accepted, status_in}
use Rattle.display_backend.proofs.Answering.{IsDone}

-- what is so of each buffer is so of the live one of a cookie, whose pages are those under it
pub found_at : (Q : Held → Type 0) (cookie : ℕ) (bs : List Held) (b : Buffer) → AllByRecursion Q bs → buffer_at cookie bs ≡ Some b → (h : Held) × (h.buffer ≡ b) × (h.pages ≡ pages_under cookie bs) × Q h
found_at Q cookie [] b all e = let wrong : ⊥ = cc in absurd wrong
found_at Q cookie (x ∷ xs) b all e = by_test (λ f. found_at Q cookie xs b all.1 f) (has_cookie cookie x) e
  where
    by_test : (buffer_at cookie xs ≡ Some b → (h : Held) × (h.buffer ≡ b) × (h.pages ≡ pages_under cookie xs) × Q h) → (t : Bool) → option_map (λ (y : Held). y.buffer) (cond t (Some x) (buffer_of cookie xs)) ≡ Some b → (h : Held) × (h.buffer ≡ b) × (h.pages ≡ cond t x.pages (pages_under cookie xs)) × Q h
    by_test later true f = let same : x.buffer ≡ b = cc in (x, same, refl, all.0)
    by_test later false f = later f

module _ (frames : ℕ) where
  abbrev AllWhole : List Held → Type 0
  AllWhole bs = AreWholeBut frames (λ b. false) bs

  pub whole_any : (goes : Held → Bool) (bs : List Held) → AllWhole bs → AreWholeBut frames goes bs
  whole_any goes [] all = tt
  whole_any goes (b ∷ bs) all = ((λ e. all.0 refl), whole_any goes bs all.1)

  pub not_mapped : (a : Asked) (p : Progress) (ps : List Hold) → (p ≡ progress.Mapped → ⊥) → AreMapped frames a p ps
  not_mapped (asked.Create c) progress.Mapped ps apart = absurd (apart refl)
  not_mapped (asked.Create c) progress.Decided ps apart = tt
  not_mapped (asked.Create c) progress.NoMemory ps apart = tt
  not_mapped (asked.Create c) progress.Denied ps apart = tt
  not_mapped (asked.Create c) progress.Released ps apart = tt
  not_mapped (asked.Destroy k) p ps apart = tt
  not_mapped (asked.Attach k) p ps apart = tt
  not_mapped (asked.Detach k) p ps apart = tt
  not_mapped (asked.Config k) p ps apart = tt
  not_mapped (asked.Flip k) p ps apart = tt
  not_mapped asked.Other p ps apart = tt

  -- the pages of the buffer that goes are given up; then it goes
  abbrev But : ℕ → List Held → Type 0
  But cookie bs = AreWholeBut frames (goes_by (asked.Destroy cookie) true) bs

  pub bared_whole : (cookie : ℕ) (bs : List Held) → But cookie bs → But cookie (bared cookie bs)
  bared_whole cookie [] all = tt
  bared_whole cookie (b ∷ bs) all = by_test (bared_whole cookie bs all.1) (has_cookie cookie b) refl
    where
      by_test : But cookie (bared cookie bs) → (t : Bool) → has_cookie cookie b ≡ t → But cookie (cond t (with_pages b [] ∷ bs) (b ∷ bared cookie bs))
      by_test later true e = ((λ f. absurd (true≢false (sym e ∙ f))), all.1)
      by_test later false e = (all.0, later)

  without_whole : (cookie : ℕ) (bs : List Held) → But cookie bs → AllWhole (without_buffer cookie bs)
  without_whole cookie [] all = tt
  without_whole cookie (b ∷ bs) all = by_test (without_whole cookie bs all.1) (has_cookie cookie b) refl
    where
      by_test : AllWhole (without_buffer cookie bs) → (t : Bool) → has_cookie cookie b ≡ t → AllWhole (cond (not t) (b ∷ without_buffer cookie bs) (without_buffer cookie bs))
      by_test later true e = later
      by_test later false e = ((λ f. all.0 e), later)

  with_whole : (bs : List Held) (c : Create) (ps : List Hold) → AllWhole bs → AreAllOf frames c.buffer_sz ps → AllWhole (with_buffer bs c ps)
  with_whole bs c ps all are =
      let b : Held = record { buffer = made_of c; pages = ps } in
      all_push (λ x. false ≡ false → AreAllOf frames x.buffer.buffer_sz x.pages) bs b all (λ e. are)

  -- an answer
  settled_whole : (st : Stock) (a : Asked) (accepted : Bool) → AreWholeBut frames (goes_by a accepted) st.buffers → ((c : Create) → a ≡ asked.Create c → accepted ≡ true → AreAllOf frames c.buffer_sz st.mapped) → AllWhole (stock_after st a accepted).buffers
  settled_whole st (asked.Create c) true w m = with_whole st.buffers c st.mapped w (m c refl refl)
  settled_whole st (asked.Create c) false w m = w
  settled_whole st (asked.Destroy k) true w m = without_whole k st.buffers w
  settled_whole st (asked.Destroy k) false w m = w
  settled_whole st (asked.Attach k) accepted w m = w
  settled_whole st (asked.Detach k) accepted w m = w
  settled_whole st (asked.Config k) accepted w m = w
  settled_whole st (asked.Flip k) accepted w m = w
  settled_whole st asked.Other accepted w m = w

  refused_whole : (st : Stock) (a : Asked) (c : Create) (v : Bool) → a ≡ asked.Create c → AreWholeBut frames (goes_by a v) st.buffers → AllWhole (stock_after st a false).buffers
  refused_whole st a c v e w =
      subst (λ (x : Asked). AllWhole (stock_after st x false).buffers) (sym e)
      (subst (λ (x : Asked). AreWholeBut frames (goes_by x v) st.buffers) e w)

  has_pages : (st : Stock) (a : Asked) (accepted : Bool) (c : Create) → a ≡ asked.Create c → accepted ≡ true → IsDone st a accepted → st.mapped ≡ [] → ⊥
  has_pages st a accepted c e f done none =
      let d : IsDone st (asked.Create c) true = subst (λ (x : Asked). IsDone st x true) e (subst (λ t. IsDone st a t) f done) in
      omega (arith, d.1, ap length none)

  pub answered_whole : (st : Stock) (sc : Scene) (q : Request) (p : Progress) → HasComeTo st sc q p → IsDone st q.asked (is_accepted (status_in p (verdict st.buffers sc q.asked))) → WholeFor frames st sc p (Some q) → AllWhole (stock_after st q.asked (is_accepted (status_in p (verdict st.buffers sc q.asked)))).buffers
  answered_whole st sc q progress.Decided come done w =
      let a = is_accepted (verdict st.buffers sc q.asked) in
      settled_whole st q.asked a w.0 (λ c e f. absurd (has_pages st q.asked a c e f done come))
  answered_whole st sc q progress.NoMemory come done w = refused_whole st q.asked come.0.0 (is_accepted (verdict st.buffers sc q.asked)) come.0.1.0 w.0
  answered_whole st sc q progress.Denied come done w = refused_whole st q.asked come.0.0 (is_accepted (verdict st.buffers sc q.asked)) come.0.1.0 w.0
  answered_whole st sc q progress.Mapped come done w =
      settled_whole st q.asked (is_accepted (verdict st.buffers sc q.asked)) w.0
      (λ c e f. subst (λ (x : Asked). AreMapped frames x progress.Mapped st.mapped) e w.1)
  answered_whole st sc q progress.Released come done w =
      let a = is_accepted (verdict st.buffers sc q.asked) in
      settled_whole st q.asked a w.0 (λ c e f. absurd (has_pages st q.asked a c e f done come.1))

  -- what is shown may change while no request is in hand
  pub whole_still : (st : Stock) (old new : Scene) (p : Progress) (o : Option Request) → is_some o ≡ false → WholeFor frames st old p o → WholeFor frames st new p o
  whole_still st old new p None none w = w
  whole_still st old new p (Some q) none w = absurd (true≢false none)
