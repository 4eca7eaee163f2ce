-- Each picture that a display tells is of the framebuffer that was named last.
use Rattle.std.proofs.Common.{◌≡◌, ◌⊎◌, inl, inr, ℕ, suc, ◌<◌, ◌≤◌, ℤ, pos, Bool, true, false, cond, ◌&&◌, ◌==◌, nat_le, ◌+◌, List, [], ◌∷◌, ◌++◌, Option, Some, None, option_map, IsSomeAnd, refl, sym, subst, ◌∙◌, ap}
use Rattle.std.proofs.lemmas.Bool.{and_parts, leb-true}
use Rattle.std.proofs.lemmas.Option.{same_Some}
use Rattle.std.specs.List.{AllByRecursion}
use Rattle.pv_words.specs.declared.device.Said.{Said}
use Rattle.pv_words.specs.declared.device.Said.TheVariants as said
use Rattle.pv_words.specs.Along.{after}
use Rattle.displ_wire.specs.declared.Request.{Request}
use Rattle.displ_wire.specs.declared.buffer.Buffer.{Buffer}
use Rattle.display_buffers.specs.declared.live.Live.{Live}
use Rattle.display_buffers.specs.Buffers.{buffer_of, has_cookie}
use Rattle.displ_wire.specs.declared.framebuffer.Framebuffer.{Framebuffer}
use Rattle.framebuffers.specs.Frames.{LiesIn, frame_of}
use Rattle.connectors.specs.declared.rectangle.Rectangle.{Rectangle}
use Rattle.connectors.specs.declared.connector.Picture.{Picture}
use Rattle.connectors.specs.Connectors.{lies_in, picture_in}
use Rattle.connectors.specs.Laws as connectors
use Rattle.picture_scan.specs.declared.scan.Shown.{Shown}
use Rattle.picture_scan.specs.Laws.{HasShown}
use Rattle.device_core.specs.Machine.{Happening, Row, Meanwhile, Refuses, Gone, Draw, Touches, HappensTo, IsRun, Snapshot}
use Rattle.device_core.specs.Order.{Sets, Hosts}
use Rattle.device_core.specs.Site.{Site}
use Rattle.device_core.specs.Touched.{Touch}
use Rattle.device_service.specs.Rows.{Event, Evidence, Moves, Own, Paid, Rows, Says, Hears, Begins, Served, Tells as SaysBy}
use Rattle.display_backend.specs.declared.waiting.Waiting.{Waiting}
use Rattle.display_backend.specs.declared.waiting.Waiting.TheVariants as waiting
use Rattle.display_backend.specs.Picture.{AreShown, number_under, source_at, source_by, source_in, source_of}
use Rattle.display_backend.specs.Scene.{LiesInLive, Scene, after_blank_at, connector_at, live_among}
use Rattle.display_backend.specs.Service.{Lines, Serves, Tells, replied_for, table}
use Rattle.display_backend.specs.Verdict.{IsStatus, verdict}
use Rattle.page_directory.specs.Progress.{is_accepted}
use Rattle.page_directory.proofs.Ready.{accepted_is}
use Rattle.display_backend.proofs.Scenes.{connector_sound}
use Rattle.backend_core.specs.Nature.{display_nature, first_snapshot, machine}
use Rattle.backend_core.specs.Flips.{FlipsKeepOrder}
use Rattle.backend_core.specs.Pictures.{Asking, Change, IsPictureOf, IsShownAt, IsShownOf, Making, Past, ShowsNamed, answered_after, event_after, made, named, no_past, past_next, past_of, rectangle_at, said_after, shape_in}
use Rattle.backend_core.proofs.Answers.{false_true, none_some, run_parts}
use Rattle.backend_core.proofs.Pending.{in_order}
use Rattle.backend_core.proofs.Changes.{AreChanges, IsFrame, asked_by, changes_answered, changes_raised, nothing_changed}

-- a status that accepts is the verdict
status_accepts : (denied : Bool) (y : Lines) (q : Request) (status : ℤ) → IsStatus denied y.buffers y.scene q.asked status → is_accepted status ≡ true → verdict y.buffers y.scene q.asked ≡ pos 0
status_accepts true y q status is h = false_true (ap is_accepted (sym is) ∙ h)
status_accepts false y q status (inl is) h = sym is ∙ accepted_is status h
status_accepts false y q status (inr x) h = x.1

-- the request in hand, with the part by which it came
abbrev pub asking_of : ℕ → Request → Asking
asking_of part q = record { part = part; asks = q.asked }

-- what a display's rows are is told by the past
pub record IsToldBy (p : Past) (y : Lines) : Type 0 where
  pub hand : p.hand ≡ option_map (asking_of y.scene.part) y.request
  pub are : AreChanges y.buffers y.scene p.changes

pub record IsPast (p : Past) (r : Rows Lines Waiting) : Type 0 where
  pub replies : p.replies ≡ r.replies
  pub told : IsToldBy p r.service

-- after a reply
replied_told : (y : Lines) (o : Option Request) (p : Past) (n : ℕ) (status : ℤ) → y.request ≡ o → (q : Request) → o ≡ Some q → IsStatus y.denied y.buffers y.scene q.asked status → IsToldBy p y → p.replies ≡ n → IsToldBy (said_after p (said.Replied 0 0 status false) []) (replied_for y o n status)
replied_told y None p n status in_hand q e is old same = none_some q e
replied_told y (Some r) p n status in_hand q e is old same =
    let hand : p.hand ≡ Some (asking_of y.scene.part r) = old.hand ∙ ap (option_map (asking_of y.scene.part)) in_hand in
    let right : IsStatus y.denied y.buffers y.scene r.asked status = subst (λ (x : Request). IsStatus y.denied y.buffers y.scene x.asked status) (sym (same_Some r q e)) is in
    let new = changes_answered y.buffers y.scene p.changes old.are n r.asked (is_accepted status) (status_accepts y.denied y r status right) in
    record {
      hand = refl;
      are = subst (λ o. AreChanges (replied_for y (Some r) n status).buffers (replied_for y (Some r) n status).scene (answered_after p.replies o (is_accepted status) p.changes)) (sym hand)
          (subst (λ k. AreChanges (replied_for y (Some r) n status).buffers (replied_for y (Some r) n status).scene (answered_after k (Some (asking_of y.scene.part r)) (is_accepted status) p.changes)) (sym same) new);
    }

module _ (site : Site) where
  -- after what is said of the request in hand
  own_told : (p : Past) (y z : Lines) (told : Evidence) (what : Said) (words : List ℕ) → Tells site y told what z → IsToldBy p y → IsToldBy (said_after p what words) z
  own_told p y z told (said.Denied why) words x old = subst (λ l. IsToldBy p l) (sym x.left) (record { hand = old.hand; are = old.are })
  own_told p y z told other words x old = absurd x

  -- after an event that waited is done
  served_told : (p : Past) (y z : Lines) (e : Waiting) (told : Evidence) (what : Said) (words : List ℕ) → Serves site y e told what z → IsToldBy p y → IsToldBy (said_after p what words) z
  served_told p y z (waiting.Blank part) told (said.Blank k) words x old = subst (λ l. IsToldBy p l) (sym x.2) old
  served_told p y z (waiting.Blank part) told (said.Full k) words x old = subst (λ l. IsToldBy p l) (sym x.2) old
  served_told p y z (waiting.Blank part) told (said.Raised k fb) words x old =
      subst (λ l. IsToldBy (said_after p (said.Raised k fb) words) l) (sym x.2)
      (subst (λ n. IsToldBy (said_after p (said.Raised n fb) words) (record y { scene = after_blank_at y.scene part })) (sym x.0)
      (record { hand = old.hand; are = changes_raised y.buffers y.scene p.changes old.are part fb x.1 }))
  served_told p y z (waiting.Show part) told (said.Shown k pixels mark) words x old = subst (λ l. IsToldBy p l) (sym x.2) old
  served_told p y z (waiting.Blank part) told other words x old = absurd x
  served_told p y z (waiting.Show part) told other words x old = absurd x

  -- nothing of these is the beginning or the end of a request
  abbrev IsOwn : Rows Lines Waiting → Evidence → Said → Rows Lines Waiting → Type 0
  IsOwn old told what new = Own table site old told what new ⊎ (Served table site old told what new ⊎ Paid table site old told what new)

  abbrev Keeps : Said → Type 0
  Keeps what = (p : Past) (words : List ℕ) → (said_after p what words).replies ≡ p.replies

  own_past : (p : Past) (old new : Rows Lines Waiting) (told : Evidence) (what : Said) (words : List ℕ) → Keeps what → IsOwn old told what new → IsPast p old → IsPast (said_after p what words) new
  own_past p old new told what words keeps (inl x) was =
      subst (λ r. IsPast (said_after p what words) r) (sym x.done)
      (record { replies = keeps p words ∙ was.replies; told = own_told p old.service x.service told what words x.tells was.told })
  own_past p old new told what words keeps (inr (inl x)) was =
      subst (λ r. IsPast (said_after p what words) r) (sym x.done)
      (record { replies = keeps p words ∙ was.replies; told = served_told p old.service x.service x.event told what words x.serves was.told })
  own_past p old new told what words keeps (inr (inr x)) was = absurd x.pays

  says_past : (p : Past) (old new : Rows Lines Waiting) (told : Evidence) (what : Said) (words : List ℕ) → SaysBy table site old told what words new → IsPast p old → IsPast (said_after p what words) new
  says_past p old new told (said.Request part id op) words x was =
      subst (λ r. IsPast (said_after p (said.Request part id op) words) r) (sym x.taken)
      (record { replies = was.replies; told = record { hand = refl; are = asked_by old.service.buffers old.service.scene p.changes was.told.are part } })
  says_past p old new told (said.Replied part id status notified) words x was =
      let new_told = replied_told old.service old.service.request p old.replies status refl x.status_is.0 x.status_is.1 x.status_is.2 was.told was.replies in
      subst (λ r. IsPast (said_after p (said.Replied part id status notified) words) r) (sym x.done)
      (record { replies = ap suc was.replies; told = record { hand = new_told.hand; are = new_told.are } })
  says_past p old new told (said.Closed why) words x was =
      subst (λ r. IsPast (said_after p (said.Closed why) words) r) (sym x.1)
      (record { replies = was.replies; told = record { hand = refl; are = was.told.are } })
  says_past p old new told (said.State s) words x was =
      subst (λ r. IsPast (said_after p (said.State s) words) r) (sym x.1)
      (record { replies = was.replies; told = record { hand = refl; are = nothing_changed } })
  says_past p old new told other words x was = own_past p old new told other words (λ q ws. refl) x was

  moves_past : (p : Past) (old new : Rows Lines Waiting) (touched : List Touch) (e : Event) → Moves table site old touched e new → IsPast p old → IsPast (event_after p e) new
  moves_past p old new touched (Says what words f) x was = says_past p old new (record { touched = touched; found = f }) what words x was
  moves_past p old new touched (Hears (Sets front nodes)) x was = subst (λ r. IsPast p r) (sym x) (record { replies = was.replies; told = was.told })
  moves_past p old new touched (Hears (Hosts e)) x was = subst (λ r. IsPast p r) (sym x) (record { replies = was.replies; told = was.told })
  moves_past p old new touched Begins x was = subst (λ r. IsPast p r) (sym x.1) (record { replies = was.replies; told = was.told })

  -- the words that were taken and put stay, whatever is said
  said_keeps : (p : Past) (what : Said) (words : List ℕ) → (said_after p what words).touched ≡ p.touched
  said_keeps p (said.Request part id op) words = refl
  said_keeps p (said.Replied part id status notified) words = refl
  said_keeps p (said.Raised part fb) words = refl
  said_keeps p (said.Closed why) words = refl
  said_keeps p (said.State s) words = refl
  said_keeps p other words = refl

  event_keeps : (p : Past) (e : Event) → (event_after p e).touched ≡ p.touched
  event_keeps p (Says what words f) = said_keeps p what words
  event_keeps p (Hears news) = refl
  event_keeps p Begins = refl

  -- so it is after each thing that happens
  pub record IsNow (p : Past) (m : Snapshot (Rows Lines Waiting)) : Type 0 where
    pub rows : IsPast p m.rows
    pub touched : p.touched ≡ m.touched

  past_with : (p : Past) (r : Rows Lines Waiting) (ts : List Touch) → IsPast p r → IsPast (record p { touched = ts }) r
  past_with p r ts was = record { replies = was.replies; told = record { hand = was.told.hand; are = was.told.are } }

  pub happens_now : (p : Past) (m k : Snapshot (Rows Lines Waiting)) (e : Happening Event) → HappensTo true (machine display_nature site) m e k → IsNow p m → IsNow (past_next p e) k
  happens_now p m k (Row e words) x now =
      record { rows = past_with (event_after p e) k.rows [] (moves_past p m.rows k.rows m.touched e x.move now.rows); touched = sym x.touched }
  happens_now p m k (Meanwhile e) x now =
      record { rows = moves_past p m.rows k.rows m.touched e x.move now.rows; touched = event_keeps p e ∙ (now.touched ∙ sym x.touched) }
  happens_now p m k (Touches w) x now =
      record {
        rows = past_with p k.rows (p.touched ++ w ∷ []) (subst (λ r. IsPast p r) (sym x.rows) now.rows);
        touched = ap (λ ts. ts ++ w ∷ []) now.touched ∙ sym x.touched;
      }
  happens_now p m k (Refuses why) x now =
      record {
        rows = subst (λ r. IsPast p r) (sym (ap (λ (n : Snapshot (Rows Lines Waiting)). n.rows) x.1)) now.rows;
        touched = now.touched ∙ sym (ap (λ (n : Snapshot (Rows Lines Waiting)). n.touched) x.1);
      }
  happens_now p m k (Gone number) x now = record { rows = subst (λ r. IsPast p r) (sym x.0.rows) now.rows; touched = now.touched ∙ sym x.0.touched }
  happens_now p m k (Draw w) x now = record { rows = subst (λ r. IsPast p r) (sym x.0.rows) now.rows; touched = now.touched ∙ sym x.0.touched }

  -- at first
  pub nothing_now : IsNow no_past (first_snapshot display_nature)
  nothing_now = record { rows = record { replies = refl; told = record { hand = refl; are = nothing_changed } }; touched = refl }

  run_now : (p : Past) (m n : Snapshot (Rows Lines Waiting)) (es : List (Happening Event)) → IsRun (HappensTo true (machine display_nature site)) m es n → IsNow p m → IsNow (after past_next p es) n
  run_now p m n [] x now = subst (λ k. IsNow p k) x now
  run_now p m n (e ∷ es) x now = run_now (past_next p e) x.0 n es x.2 (happens_now p m x.0 e x.1 now)

-- the number of the name of a live buffer
number_found : (d : ℕ) (bs : List (Live ℕ)) (b : Live ℕ) → buffer_of d bs ≡ Some b → number_under d bs ≡ b.pages
number_found d [] b e = none_some b e
number_found d (x ∷ xs) b e = by_test (λ g. number_found d xs b g) (has_cookie d x) e
  where
    by_test : (buffer_of d xs ≡ Some b → number_under d xs ≡ b.pages) → (t : Bool) → cond t (Some x) (buffer_of d xs) ≡ Some b → cond t x.pages (number_under d xs) ≡ b.pages
    by_test later true g = ap (λ (y : Live ℕ). y.pages) (same_Some x b g)
    by_test later false g = later g

-- what is so of each framebuffer is so of the live one of a cookie
frame_so : (Q : Framebuffer → Type 0) (fb : ℕ) (fs : List Framebuffer) (f : Framebuffer) → AllByRecursion Q fs → frame_of fb fs ≡ Some f → Q f
frame_so Q fb [] f all e = none_some f e
frame_so Q fb (x ∷ xs) f all e = by_test (λ g. frame_so Q fb xs f all.1 g) (x.cookie == fb) e
  where
    by_test : (frame_of fb xs ≡ Some f → Q f) → (t : Bool) → cond t (Some x) (frame_of fb xs) ≡ Some f → Q f
    by_test later true g = subst (λ y. Q y) (same_Some x f g) all.0
    by_test later false g = later g

-- a rectangle lies in a framebuffer
inside : (r : Rectangle) (f : Framebuffer) → lies_in r f ≡ true → (r.x + r.width ≤ f.width) × (r.y + r.height ≤ f.height)
inside r f h =
    let across = and_parts (nat_le (r.x + r.width) f.width) (nat_le (r.y + r.height) f.height && (r.bpp == f.bpp)) h in
    let down = and_parts (nat_le (r.y + r.height) f.height) (r.bpp == f.bpp) across.1 in
    (leb-true (r.x + r.width) f.width across.0, leb-true (r.y + r.height) f.height down.0)

-- what a connector shows is what is named for it
module _ (bs : List (Live ℕ)) (sc : Scene) (changes : List Change) (are : AreChanges bs sc changes) (touched : List Touch) (x : Shown) where
  abbrev picture_as : ℕ → Rectangle → Picture
  picture_as fb r = record { fb = fb; x = r.x; y = r.y; width = r.width; height = r.height }

  by_buffer : (r : Rectangle) (fb : ℕ) (f : Framebuffer) (o : Option (Live ℕ)) → IsFrame changes fb f → lies_in r f ≡ true → buffer_of f.dbuf bs ≡ o → IsSomeAnd (option_map (λ (b : Live ℕ). b.buffer) o) (LiesIn f) → AreShown bs (source_in (picture_as fb r) f.dbuf (option_map (λ (b : Live ℕ). b.buffer) o)) touched x → IsPictureOf r fb changes touched x
  by_buffer r fb f None frame lies e live shown = absurd live
  by_buffer r fb f (Some b) frame lies e live shown =
      let buffer = are.buffers f.dbuf b e in
      let within = inside r f lies in
      let making : Making = record { name = b.pages; create = buffer.create } in
      let dbuf : f.dbuf ≡ frame.attach.dbuf_cookie = ap (λ (g : Framebuffer). g.dbuf) frame.frame in
      record {
        attach = frame.attach;
        buffer = making;
        attached_is = frame.is;
        buffer_is = ap (λ n. made n changes) (sym dbuf) ∙ buffer.is;
        across = subst (λ n. r.x + r.width ≤ n) (ap (λ (g : Framebuffer). g.width) frame.frame) within.0;
        down = subst (λ n. r.y + r.height ≤ n) (ap (λ (g : Framebuffer). g.height) frame.frame) within.1;
        before = shown.0;
        pixels = subst (λ n. HasShown (shape_in r buffer.create) n shown.0 touched x) (number_found f.dbuf bs b e)
            (subst (λ (k : Buffer). HasShown (record { width = k.width; bpp = k.bpp; x = r.x; y = r.y; columns = r.width; rows = r.height }) (number_under f.dbuf bs) shown.0 touched x) buffer.buffer shown.1);
      }

  by_frame : (r : Rectangle) (fb : ℕ) (o : Option Framebuffer) → frame_of fb sc.frames ≡ o → IsSomeAnd o (λ f. lies_in r f ≡ true) → AreShown bs (source_by bs (picture_as fb r) o) touched x → IsPictureOf r fb changes touched x
  by_frame r fb None e live shown = absurd live
  by_frame r fb (Some f) e live shown =
      by_buffer r fb f (buffer_of f.dbuf bs) (are.frames fb f e) live refl (frame_so (λ g. LiesInLive bs g) fb sc.frames f are.sound.frames_lie e) shown

  by_named : (r : Option Rectangle) (fb : Option ℕ) → ((n : ℕ) → fb ≡ Some n → connectors.CanShow (live_among sc.frames) r n) → AreShown bs (source_of bs sc.frames (picture_in r fb)) touched x → IsShownOf r fb changes touched x
  by_named None fb can shown = shown
  by_named (Some r) None can shown = shown
  by_named (Some r) (Some fb) can shown = by_frame r fb (frame_of fb sc.frames) refl (can fb refl) shown

  shown_named : (part : ℕ) → part < 4 → AreShown bs (source_at bs sc part) touched x → IsShownOf (rectangle_at part changes) (named part changes) changes touched x
  shown_named part small shown =
      let c = connector_at sc part in
      let k = are.connectors part small in
      let sound = connector_sound sc part are.sound.connectors_are in
      subst (λ r. IsShownOf r (named part changes) changes touched x) k.rectangle
      (subst (λ o. IsShownOf c.rectangle o changes touched x) k.shown (by_named c.rectangle c.shown sound.shown shown))

module _ (site : Site) where
  -- where a display says what it shows
  served_shows : (p : Past) (y z : Lines) (e : Waiting) (told : Evidence) (part pixels mark : ℕ) → Serves site y e told (said.Shown part pixels mark) z → part < 4 → IsToldBy p y → p.touched ≡ told.touched → IsShownAt part p (record { pixels = pixels; mark = mark })
  served_shows p y z (waiting.Blank k) told part pixels mark x small was same = absurd x
  served_shows p y z (waiting.Show k) told part pixels mark x small was same =
      let shown : Shown = record { pixels = pixels; mark = mark } in
      let of : AreShown y.buffers (source_at y.buffers y.scene part) told.touched shown =
      subst (λ n. AreShown y.buffers (source_at y.buffers y.scene n) told.touched shown) (sym x.0) x.1 in
      shown_named y.buffers y.scene p.changes was.are p.touched shown part small
      (subst (λ ts. AreShown y.buffers (source_at y.buffers y.scene part) ts shown) (sym same) of)

  says_shows : (p : Past) (old new : Rows Lines Waiting) (told : Evidence) (part pixels mark : ℕ) → IsOwn site old told (said.Shown part pixels mark) new → part < 4 → IsPast p old → p.touched ≡ told.touched → IsShownAt part p (record { pixels = pixels; mark = mark })
  says_shows p old new told part pixels mark (inl x) small was same = absurd x.tells
  says_shows p old new told part pixels mark (inr (inl x)) small was same =
      served_shows p old.service x.service x.event told part pixels mark x.serves small was.told same
  says_shows p old new told part pixels mark (inr (inr x)) small was same = absurd x.pays

  pub display_names : (es : List (Happening Event)) (end : Snapshot (Rows Lines Waiting)) → IsRun (HappensTo true (machine display_nature site)) (first_snapshot display_nature) es end → ShowsNamed es
  display_names es end run before later part pixels mark taken drawn found split small =
      let whole = subst (λ (hs : List (Happening Event)). IsRun (HappensTo true (machine display_nature site)) (first_snapshot display_nature) hs end) split run in
      let parts = run_parts (HappensTo true (machine display_nature site)) (first_snapshot display_nature) end before (Row (Says (said.Shown part pixels mark) taken found) drawn ∷ later) whole in
      let now = run_now site no_past (first_snapshot display_nature) parts.0 before parts.1 (nothing_now site) in
      says_shows (past_of before) parts.0.rows parts.2.0.rows (record { touched = parts.0.touched; found = found }) part pixels mark parts.2.1.move small now.rows now.touched

  -- what was accepted and done of flips
  pub display_flips : (es : List (Happening Event)) (end : Snapshot (Rows Lines Waiting)) → IsRun (HappensTo true (machine display_nature site)) (first_snapshot display_nature) es end → FlipsKeepOrder es
  display_flips es end run part before later split =
      let whole = subst (λ (hs : List (Happening Event)). IsRun (HappensTo true (machine display_nature site)) (first_snapshot display_nature) hs end) split run in
      let parts = run_parts (HappensTo true (machine display_nature site)) (first_snapshot display_nature) end before later whole in
      let now = run_now site no_past (first_snapshot display_nature) parts.0 before parts.1 (nothing_now site) in
      in_order parts.0.rows.service.scene (past_of before).changes part now.rows.told.are.pends
