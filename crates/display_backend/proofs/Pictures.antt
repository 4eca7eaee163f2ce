-- What a connector shows lies in the pages of a live display buffer, and is the same for buffers that are the same but for their pages.
use Rattle.std.proofs.Common.{◌≡◌, ◌⊎◌, inl, inr, ℕ, zero, suc, ◌+◌, ◌*◌, ◌/◌, ◌<◌, ◌≤◌, ◌==◌, ◌&&◌, nat_lt, nat_le, Bool, true, false, cond, List, [], ◌∷◌, ◌++◌, length, map, Option, Some, None, IsSomeAnd, refl, ap, ◌∙◌, arith, subst}
use Rattle.std.proofs.lemmas.Bool.{and_parts, leb-true}
use Rattle.std.proofs.lemmas.Bool.Decides.{nat_tests}
use Rattle.std.proofs.lemmas.List.{map-append}
use Rattle.std.proofs.Math.Nat.{mul-le-mul_right, mul_comm}
use Rattle.std.specs.Cmp.Derive.{both_true}
use Rattle.displ_wire.specs.declared.buffer.Buffer.{Buffer}
use Rattle.std.specs.List.{AllByRecursion}
use Rattle.pv_words.specs.declared.grant.Hold.{Hold}
use Rattle.display_buffers.specs.declared.live.Live.{Live}
use Rattle.display_buffers.specs.Buffers as buffers
use Rattle.display_buffers.specs.Buffers.{is_in_range, picture_octets}
use Rattle.display_buffers.specs.Pixels.{page_count}
use Rattle.displ_wire.specs.declared.framebuffer.Framebuffer.{Framebuffer}
use Rattle.framebuffers.specs.Frames.{LiesIn, frame_of}
use Rattle.connectors.specs.declared.connector.Picture.{Picture}
use Rattle.connectors.specs.Connectors.{picture_of}
use Rattle.connectors.specs.Laws as connectors
use Rattle.connectors.proofs.Pictures.{picture_shown}
use Rattle.device_core.specs.Touched as touch
use Rattle.device_core.specs.Touched.{Touch, Took}
use Rattle.picture_scan.specs.declared.scan.Shown.{Shown}
use Rattle.picture_scan.specs.declared.shape.Shape.{Shape}
use Rattle.picture_scan.specs.Laws.{AreRead, IsShown, taken}
use Rattle.picture_scan.specs.Rectangle.{IsWithin, is_depth, row_words, rows_octets}
use Rattle.display_backend.specs.Names.{numbered}
use Rattle.display_backend.specs.declared.picture.Source.{Source}
use Rattle.display_backend.specs.Picture.{is_within, source_at, source_by, source_in, source_of}
use Rattle.display_backend.specs.Kept.{AreAllOf, AreWholeBut}
use Rattle.display_backend.specs.Scene.{IsSound, LiesInLive, Scene, connector_at, live_among}
use Rattle.display_buffers.specs.Buffers.{buffer_at}
use Rattle.display_buffers.specs.Stock.{Held, pages_under}
use Rattle.display_backend.proofs.Numbered.{same_buffer}
use Rattle.display_backend.proofs.Scenes.{connector_sound}
use Rattle.display_backend.proofs.Wholes.{found_at}

-- a picture is the same by the buffers' numbers in place of their pages
pub same_source : (bs : List Held) (ns : List ℕ) (sc : Scene) (part : ℕ) → source_at (numbered bs ns) sc part ≡ source_at bs sc part
same_source bs ns sc part = by_picture (picture_of (connector_at sc part))
  where
    by_frame : (p : Picture) (o : Option Framebuffer) → source_by (numbered bs ns) p o ≡ source_by bs p o
    by_frame p None = refl
    by_frame p (Some f) = ap (source_in p f.dbuf) (same_buffer f.dbuf bs ns)

    by_picture : (o : Option Picture) → source_of (numbered bs ns) sc.frames o ≡ source_of bs sc.frames o
    by_picture None = refl
    by_picture (Some p) = by_frame p (frame_of p.fb sc.frames)

-- so is what is shown, by the number of a name in place of the key
module _ (f : ℕ → ℕ) (key : ℕ) where
  taken_numbered : (is vs : List ℕ) → map (touch.numbered f) (taken key is vs) ≡ taken (f key) is vs
  taken_numbered [] vs = refl
  taken_numbered (i ∷ is) [] = refl
  taken_numbered (i ∷ is) (v ∷ vs) = ap (λ ts. Took (record { number = f key; index = i; word = v }) ∷ ts) (taken_numbered is vs)

  read_numbered : (s : Shape) (row rows : ℕ) (touched : List Touch) (pixels : List ℕ) → AreRead s key row rows touched pixels → AreRead s (f key) row rows (map (touch.numbered f) touched) pixels
  read_numbered s row zero touched pixels r = (ap (map (touch.numbered f)) r.0, r.1)
  read_numbered s row (suc n) touched pixels r =
      let own : List Touch = taken key (row_words s row) r.0 in (
        r.0,
        map (touch.numbered f) r.1,
        r.2,
        r.3,
        ap (map (touch.numbered f)) r.4 ∙ map-append (touch.numbered f) own r.1 ∙ ap (λ ts. ts ++ map (touch.numbered f) r.1) (taken_numbered (row_words s row) r.0),
        r.5,
        read_numbered s (row + 1) n r.1 r.2 r.6,
      )

  pub shown_numbered : (s : Shape) (touched : List Touch) (x : Shown) → IsShown s key touched x → IsShown s (f key) (map (touch.numbered f) touched) x
  shown_numbered s touched x is =
      record { pixels = is.pixels; read = read_numbered s s.y s.rows touched is.pixels is.read; count = is.count; all = is.all; mark = is.mark }

-- whether a rectangle may be read is decided
pub within_by : (octets : ℕ) (s : Shape) → is_within octets s ≡ true → IsWithin octets s
within_by octets s h =
    let down = nat_le (rows_octets s) octets in
    let across = nat_le (s.x + s.columns) s.width in
    let a = and_parts (is_depth s.bpp) (nat_lt 0 s.columns && (nat_lt 0 s.rows && (across && down))) h in
    let b = and_parts (nat_lt 0 s.columns) (nat_lt 0 s.rows && (across && down)) a.1 in
    let c = and_parts (nat_lt 0 s.rows) (across && down) b.1 in
    let d = and_parts across down c.1 in
    record {
      depth = a.0;
      columns = grind (arith, nat_tests, b.0);
      rows = grind (arith, nat_tests, c.0);
      across = leb-true (s.x + s.columns) s.width d.0;
      down = leb-true (rows_octets s) octets d.1;
    }

pub within_so : (octets : ℕ) (s : Shape) → IsWithin octets s → is_within octets s ≡ true
within_so octets s w =
    let columns : nat_lt 0 s.columns ≡ true = grind (arith, nat_tests, w.columns) in
    let rows : nat_lt 0 s.rows ≡ true = grind (arith, nat_tests, w.rows) in
    let across : nat_le (s.x + s.columns) s.width ≡ true = grind (arith, nat_tests, w.across) in
    let down : nat_le (rows_octets s) octets ≡ true = grind (arith, nat_tests, w.down) in
    both_true w.depth (both_true columns (both_true rows (both_true across down)))

-- rows of pixels of a known depth lie where more of them do
rows_within : (d n m size : ℕ) → is_depth d ≡ true → n ≤ m → m * d / 8 ≤ size → n * (d / 8) ≤ size
rows_within d n m size known less fits = by_depth (depths d known)
  where
    depths : (d : ℕ) → is_depth d ≡ true → (d ≡ 16) ⊎ ((d ≡ 24) ⊎ (d ≡ 32))
    depths d h = grind (arith, nat_tests)

    at : (e : ℕ) → d ≡ e → n * (e / 8) ≤ m * e / 8 → n * (d / 8) ≤ size
    at e same enough = let there : m * e / 8 ≤ size = rw same at fits in rw same (omega (arith, enough, there))

    by_depth : (d ≡ 16) ⊎ ((d ≡ 24) ⊎ (d ≡ 32)) → n * (d / 8) ≤ size
    by_depth (inl e) = at 16 e (omega (arith, less))
    by_depth (inr (inl e)) = at 24 e (omega (arith, less))
    by_depth (inr (inr e)) = at 32 e (omega (arith, less))

-- what a buffer's fields in range say of its pixels
pub record HasPixels (b : Buffer) : Type 0 where
  pub depth : is_depth b.bpp ≡ true
  pub fits : picture_octets b ≤ b.buffer_sz
  pub small : b.buffer_sz ≤ 33554432

pub pixels_of : (b : Buffer) → is_in_range b ≡ true → HasPixels b
pixels_of b h =
    let fits = nat_le (picture_octets b) b.buffer_sz in
    let small = nat_le b.buffer_sz 33554432 in
    let p = and_parts (is_depth b.bpp) (nat_lt 0 b.width && (nat_lt 0 b.height && (nat_lt 0 b.buffer_sz && (small && fits)))) h in
    let q = and_parts (nat_lt 0 b.width) (nat_lt 0 b.height && (nat_lt 0 b.buffer_sz && (small && fits))) p.1 in
    let r = and_parts (nat_lt 0 b.height) (nat_lt 0 b.buffer_sz && (small && fits)) q.1 in
    let t = and_parts (nat_lt 0 b.buffer_sz) (small && fits) r.1 in
    let u = and_parts small fits t.1 in
    record { depth = p.0; fits = leb-true (picture_octets b) b.buffer_sz u.1; small = leb-true b.buffer_sz 33554432 u.0 }

-- a picture in a framebuffer that lies in a buffer lies in all its pages
pub lies_within : (p : Picture) (f : Framebuffer) (b : Buffer) (pages : ℕ) → connectors.Shows p f → LiesIn f b → is_in_range b ≡ true → pages ≡ page_count b.buffer_sz → IsWithin (4096 * pages) (record { width = b.width; bpp = b.bpp; x = p.x; y = p.y; columns = p.width; rows = p.height })
lies_within p f b pages shows lies range whole =
    let has = pixels_of b range in
    let high : p.y + p.height ≤ b.height = omega (arith, shows.down, lies.within_height) in
    let less : (p.y + p.height) * b.width ≤ b.width * b.height = omega (arith, mul-le-mul_right b.width high, mul_comm b.width b.height) in
    let inside : (p.y + p.height) * b.width * (b.bpp / 8) ≤ b.buffer_sz = rows_within b.bpp ((p.y + p.height) * b.width) (b.width * b.height) b.buffer_sz has.depth less has.fits in
    record {
      depth = has.depth;
      columns = shows.wide;
      rows = shows.high;
      across = omega (arith, shows.across, lies.within_width);
      down = omega (arith, inside, whole);
    }

-- the picture of a part, where there is one
pub record IsSourced {P : Type 0} (bs : List (Live P)) (sc : Scene) (part : ℕ) (s : Source) : Type 0 where
  pub picture : Picture
  pub frame : Framebuffer
  pub buffer : Buffer
  pub is_picture : picture_of (connector_at sc part) ≡ Some picture
  pub is_frame : frame_of picture.fb sc.frames ≡ Some frame
  pub is_buffer : buffer_at frame.dbuf bs ≡ Some buffer
  pub is : source_in picture frame.dbuf (Some buffer) ≡ Some s

pub sourced : {P : Type 0} (bs : List (Live P)) (sc : Scene) (part : ℕ) (s : Source) → source_at bs sc part ≡ Some s → IsSourced bs sc part s
sourced bs sc part s e = by_picture (picture_of (connector_at sc part)) refl e
  where
    by_buffer : (p : Picture) (f : Framebuffer) (o : Option Buffer) → picture_of (connector_at sc part) ≡ Some p → frame_of p.fb sc.frames ≡ Some f → buffer_at f.dbuf bs ≡ o → source_in p f.dbuf o ≡ Some s → IsSourced bs sc part s
    by_buffer p f None g h i e = let wrong : ⊥ = cc in absurd wrong
    by_buffer p f (Some b) g h i e = record { picture = p; frame = f; buffer = b; is_picture = g; is_frame = h; is_buffer = i; is = e }

    by_frame : (p : Picture) (o : Option Framebuffer) → picture_of (connector_at sc part) ≡ Some p → frame_of p.fb sc.frames ≡ o → source_by bs p o ≡ Some s → IsSourced bs sc part s
    by_frame p None g h e = let wrong : ⊥ = cc in absurd wrong
    by_frame p (Some f) g h e = by_buffer p f (buffer_at f.dbuf bs) g h refl e

    by_picture : (o : Option Picture) → picture_of (connector_at sc part) ≡ o → source_of bs sc.frames o ≡ Some s → IsSourced bs sc part s
    by_picture None g e = let wrong : ⊥ = cc in absurd wrong
    by_picture (Some p) g e = by_frame p (frame_of p.fb sc.frames) g refl e

-- what is so of each framebuffer is so of the live one of a cookie
pub frame_so : (Q : Framebuffer → Type 0) (fb : ℕ) (fs : List Framebuffer) (f : Framebuffer) → AllByRecursion Q fs → frame_of fb fs ≡ Some f → Q f
frame_so Q fb [] f all e = let wrong : ⊥ = cc in absurd wrong
frame_so Q fb (x ∷ xs) f all e = by_test (λ g. frame_so Q fb xs f all.1 g) (x.cookie == fb) e
  where
    by_test : (frame_of fb xs ≡ Some f → Q f) → (t : Bool) → cond t (Some x) (frame_of fb xs) ≡ Some f → Q f
    by_test later true g = let same : x ≡ f = cc in subst Q same all.0
    by_test later false g = later g

-- it lies in the pages of its buffer, where these are all there
pub picture_within : (frames : ℕ) (bs : List Held) (sc : Scene) (part : ℕ) (s : Source) → buffers.AreSound bs → IsSound bs sc → AreWholeBut frames (λ b. false) bs → source_at bs sc part ≡ Some s → IsWithin (4096 * length (pages_under s.dbuf bs)) s.shape × AllByRecursion (λ (h : Hold). h.frame.0 < frames) (pages_under s.dbuf bs)
picture_within frames bs sc part s sound is_sound whole e =
    let of = sourced bs sc part s e in
    let c = connector_at sc part in
    let k = connector_sound sc part is_sound.connectors_are in
    let shows : connectors.Shows of.picture of.frame =
    subst (λ (o : Option Framebuffer). IsSomeAnd o (connectors.Shows of.picture)) of.is_frame
    (picture_shown (live_among sc.frames) c.rectangle c.shown of.picture k.has_pixels k.shown of.is_picture) in
    let lies : LiesIn of.frame of.buffer =
    subst (λ (o : Option Buffer). IsSomeAnd o (LiesIn of.frame)) of.is_buffer
    (frame_so (LiesInLive bs) of.picture.fb sc.frames of.frame is_sound.frames_lie of.is_frame) in
    let there = found_at (λ (b : Held). false ≡ false → AreAllOf frames b.buffer.buffer_sz b.pages) of.frame.dbuf bs of.buffer whole of.is_buffer in
    let range = found_at (λ (b : Held). is_in_range b.buffer ≡ true) of.frame.dbuf bs of.buffer sound.in_range of.is_buffer in
    let are : AreAllOf frames of.buffer.buffer_sz (pages_under of.frame.dbuf bs) =
    subst (λ (x : Buffer). AreAllOf frames x.buffer_sz (pages_under of.frame.dbuf bs)) there.1
    (subst (λ (ps : List Hold). AreAllOf frames there.0.buffer.buffer_sz ps) there.2 (there.3 refl)) in
    let in_range : is_in_range of.buffer ≡ true = subst (λ (x : Buffer). is_in_range x ≡ true) range.1 range.3 in
    let own : Source = record {
      dbuf = of.frame.dbuf;
      shape = record { width = of.buffer.width; bpp = of.buffer.bpp; x = of.picture.x; y = of.picture.y; columns = of.picture.width; rows = of.picture.height };
    } in
    let same : own ≡ s = some_same own s of.is in
    subst (λ (x : Source). IsWithin (4096 * length (pages_under x.dbuf bs)) x.shape × AllByRecursion (λ (h : Hold). h.frame.0 < frames) (pages_under x.dbuf bs)) same
    (lies_within of.picture of.frame of.buffer (length (pages_under of.frame.dbuf bs)) shows lies in_range are.0, are.1)
  where
    some_same : (a b : Source) → Some a ≡ Some b → a ≡ b
    some_same a b e = cc
