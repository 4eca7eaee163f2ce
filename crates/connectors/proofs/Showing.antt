-- What a connector can show is kept by each request and each blank.
use Rattle.std.proofs.Common.{◌≡◌, ◌≢◌, ℕ, Bool, true, false, cond, ◌&&◌, ◌==◌, Option, Some, None, option_map, Result, Ok, Err, IsSomeAnd, refl, sym, ap, subst}
use Rattle.std.proofs.lemmas.Bool.{and_parts, eqb-false}
use Rattle.displ_wire.specs.Wire.{all_zero}
use Rattle.displ_wire.specs.declared.Config.{Config}
use Rattle.displ_wire.specs.declared.buffer.Refused.{Refused}
use Rattle.displ_wire.specs.declared.buffer.Refused.TheVariants.{Invalid}
use Rattle.displ_wire.specs.declared.framebuffer.Framebuffer.{Framebuffer}
use Rattle.connectors.specs.declared.connector.Connector.{Connector}
use Rattle.connectors.specs.declared.connector.Flip.{Flip}
use Rattle.connectors.specs.declared.rectangle.Rectangle.{Rectangle}
use Rattle.connectors.specs.Connectors.{after_blank, config_check, after_config, after_detach, flip_check, after_flip, frame_check, has_area, is_shown_by, lies_in, other_than, pending_check, pending_of, rectangle_of, shown_after, without_mark, without_mark_at}
use Rattle.connectors.specs.Laws.{CanShow, Frames, IsSound, StayBut, StayLive}

abbrev pub marked_flip : ℕ → Flip
marked_flip fb = record { fb = fb; marked = true }

abbrev accepted : Result (Unit {0}) Refused
accepted = Ok tt

-- a flip without its mark has none
no_mark : {A : Type 0} (p : Flip) (fb : ℕ) → without_mark p ≡ marked_flip fb → A
no_mark p fb e = let wrong : false ≡ true = ap (λ (q : Flip). q.marked) e in absurd (cc)

none_marked : {A : Type 0} (o : Option Flip) (fb : ℕ) → option_map without_mark o ≡ Some (marked_flip fb) → A
none_marked None fb e = absurd (cc)
none_marked (Some p) fb e = no_mark p fb (cc)

-- where what is found stays, it can be shown still
still_shown : (old new : Option Framebuffer) (r : Option Rectangle) → ((f : Framebuffer) → old ≡ Some f → new ≡ Some f) → IsSomeAnd old (λ f. is_shown_by r f ≡ true) → IsSomeAnd new (λ f. is_shown_by r f ≡ true)
still_shown None new r kept h = absurd h
still_shown (Some f) new r kept h = subst (λ (o : Option Framebuffer). IsSomeAnd o (λ g. is_shown_by r g ≡ true)) (sym (kept f refl)) h

-- ATTACH
pub attached_sound : (old new : Frames) (c : Connector) → IsSound old c → StayLive old new → IsSound new c
attached_sound old new c s stay = record {
  has_pixels = s.has_pixels;
  shown = λ fb e. still_shown (old fb) (new fb) c.rectangle (stay fb) (s.shown fb e);
  marked = λ fb e. still_shown (old fb) (new fb) c.rectangle (stay fb) (s.marked fb e);
}

-- DETACH
elsewhere_shown : (old new : Frames) (r : Option Rectangle) (fb other : ℕ) → StayBut fb old new → other ≢ fb → CanShow old r other → CanShow new r other
elsewhere_shown old new r fb other stay apart h =
    subst (λ (o : Option Framebuffer). IsSomeAnd o (λ f. is_shown_by r f ≡ true)) (sym (stay other apart)) h

apart_if : (fb other : ℕ) → (other == fb) ≡ false → other ≢ fb
apart_if fb other e = eqb-false other fb e

other_shown : (fb other : ℕ) (shown : Option ℕ) → other_than fb shown ≡ Some other → (shown ≡ Some other) × (other ≢ fb)
other_shown fb other None e = absurd (cc)
other_shown fb other (Some cookie) e = by_test (cookie == fb) refl e
  where
    by_test : (t : Bool) → (cookie == fb) ≡ t → cond t None (Some cookie) ≡ Some other → (Some cookie ≡ Some other) × (other ≢ fb)
    by_test true test h = absurd (cc)
    by_test false test h =
        let same : cookie ≡ other = cc in
        (h, subst (λ n. n ≢ fb) same (apart_if fb cookie test))

other_marked : (fb other : ℕ) (flip : Option Flip) → option_map (without_mark_at fb) flip ≡ Some (marked_flip other) → (flip ≡ Some (marked_flip other)) × (other ≢ fb)
other_marked fb other None e = absurd (cc)
other_marked fb other (Some p) e = by_test (p.fb == fb) refl (cc)
  where
    by_test : (t : Bool) → (p.fb == fb) ≡ t → cond t (without_mark p) p ≡ marked_flip other → (Some p ≡ Some (marked_flip other)) × (other ≢ fb)
    by_test true test h = no_mark p other h
    by_test false test h = (ap (λ q. Some q) h, subst (λ n. n ≢ fb) (ap (λ (q : Flip). q.fb) h) (apart_if fb p.fb test))

pub detached_sound : (old new : Frames) (c : Connector) (fb : ℕ) → IsSound old c → StayBut fb old new → IsSound new (after_detach fb c)
detached_sound old new c fb s stay = record {
  has_pixels = s.has_pixels;
  shown = λ other e.
      let kept = other_shown fb other c.shown e in
      elsewhere_shown old new c.rectangle fb other stay kept.1 (s.shown other kept.0);
  marked = λ other e.
      let kept = other_marked fb other c.flip e in
      elsewhere_shown old new c.rectangle fb other stay kept.1 (s.marked other kept.0);
}

-- SET_CONFIG
abbrev valid_or : Bool → Result (Unit {0}) Refused
valid_or t = cond t (Ok tt) (Err Invalid)

is_valid : (t : Bool) → valid_or t ≡ Ok tt → t ≡ true
is_valid true h = refl
is_valid false h = absurd (cc)

checked_frame : (asked : Config) (o : Option Framebuffer) → frame_check asked o ≡ Ok tt → (has_area (rectangle_of asked) ≡ true) × IsSomeAnd o (λ f. is_shown_by (Some (rectangle_of asked)) f ≡ true)
checked_frame asked None h = absurd (cc)
checked_frame asked (Some f) h =
    and_parts (has_area (rectangle_of asked)) (lies_in (rectangle_of asked) f)
    (is_valid (has_area (rectangle_of asked) && lies_in (rectangle_of asked) f) h)

-- what is shown, and nothing marked
bare : (live : Frames) (o : Option Rectangle) (shown : Option ℕ) (flip : Option Flip) → ((r : Rectangle) → o ≡ Some r → has_area r ≡ true) → ((fb : ℕ) → shown ≡ Some fb → CanShow live o fb) → IsSound live (record { rectangle = o; shown = shown; flip = option_map without_mark flip })
bare live o shown flip pixels can = record { has_pixels = pixels; shown = can; marked = λ fb e. none_marked flip fb e }

pub configured_sound : (live : Frames) (c : Connector) (asked : Config) → config_check asked (live asked.fb_cookie) ≡ Ok tt → IsSound live (after_config c asked)
configured_sound live c asked h = by_test (all_zero asked) h
  where
    by_test : (t : Bool) → cond t accepted (frame_check asked (live asked.fb_cookie)) ≡ accepted → IsSound live (cond t (record { rectangle = None; shown = None; flip = option_map without_mark c.flip }) (record { rectangle = Some (rectangle_of asked); shown = Some asked.fb_cookie; flip = option_map without_mark c.flip }))
    by_test true g = bare live None None c.flip (λ r e. absurd (cc)) (λ fb e. absurd (cc))
    by_test false g =
        let checked = checked_frame asked (live asked.fb_cookie) g in
        bare live (Some (rectangle_of asked)) (Some asked.fb_cookie) c.flip
        (λ r e.
        let same : rectangle_of asked ≡ r = cc in
        subst (λ (q : Rectangle). has_area q ≡ true) same checked.0)
        (λ fb e.
        let same : asked.fb_cookie ≡ fb = cc in
        subst (λ n. CanShow live (Some (rectangle_of asked)) n) same checked.1)

-- FLIP
shown_by_flip : (c : Connector) (o : Option Framebuffer) → flip_check c o ≡ Ok tt → IsSomeAnd o (λ f. is_shown_by c.rectangle f ≡ true)
shown_by_flip c None h = absurd (cc)
shown_by_flip c (Some f) h = inside (is_shown_by c.rectangle f) (pending_check c.flip) h
  where
    inside : (t : Bool) (r : Result (Unit {0}) Refused) → cond t r (Err Invalid) ≡ accepted → t ≡ true
    inside true r h = refl
    inside false r h = absurd (cc)

pub flipped_sound : (live : Frames) (c : Connector) (fb : ℕ) → IsSound live c → flip_check c (live fb) ≡ Ok tt → IsSound live (after_flip c fb)
flipped_sound live c fb s h = record {
  has_pixels = s.has_pixels;
  shown = s.shown;
  marked = λ other e.
      let as_flips : marked_flip fb ≡ marked_flip other = cc in
      subst (λ n. CanShow live c.rectangle n) (ap (λ (q : Flip). q.fb) as_flips) (shown_by_flip c (live fb) h);
}

-- a blank
shown_then : (A : ℕ → Type 0) (flip : Option Flip) (shown : Option ℕ) → ((fb : ℕ) → shown ≡ Some fb → A fb) → ((fb : ℕ) → flip ≡ Some (marked_flip fb) → A fb) → (fb : ℕ) → shown_after flip shown ≡ Some fb → A fb
shown_then A None shown is_shown is_marked fb e = is_shown fb e
shown_then A (Some p) shown is_shown is_marked fb e = by_test p.marked refl e
  where
    by_test : (t : Bool) → p.marked ≡ t → cond t (Some p.fb) shown ≡ Some fb → A fb
    by_test true mark h =
        let same : p.fb ≡ fb = cc in
        let whole : p ≡ marked_flip p.fb = ap (λ t. let q : Flip = record { fb = p.fb; marked = t } in q) mark in
        subst A same (is_marked p.fb (ap (λ q. Some q) whole))
    by_test false mark h = is_shown fb h

pub blanked_sound : (live : Frames) (c : Connector) → IsSound live c → IsSound live (after_blank c)
blanked_sound live c s = record {
  has_pixels = s.has_pixels;
  shown = shown_then (CanShow live c.rectangle) c.flip c.shown s.shown s.marked;
  marked = λ fb e. absurd (cc);
}

-- a flip is pending until its blank
pub flips_alone : (c : Connector) (f : Option Framebuffer) → flip_check c f ≡ Ok tt → option_map (λ (p : Flip). p.fb) c.flip ≡ None
flips_alone c None h = absurd (cc)
flips_alone c (Some f) h = by_test (is_shown_by c.rectangle f) c.flip h
  where
    by_test : (t : Bool) (flip : Option Flip) → cond t (pending_check flip) (Err Invalid) ≡ accepted → option_map (λ (p : Flip). p.fb) flip ≡ None
    by_test false flip g = absurd (cc)
    by_test true None g = refl
    by_test true (Some p) g = absurd (cc)

unmarked_pending : (flip : Option Flip) → option_map (λ (p : Flip). p.fb) (option_map without_mark flip) ≡ option_map (λ (p : Flip). p.fb) flip
unmarked_pending None = refl
unmarked_pending (Some p) = refl

pub configured_pending : (c : Connector) (asked : Config) → pending_of (after_config c asked) ≡ pending_of c
configured_pending c asked = by_test (all_zero asked)
  where
    by_test : (t : Bool) → pending_of (cond t (record { rectangle = None; shown = None; flip = option_map without_mark c.flip }) (record { rectangle = Some (rectangle_of asked); shown = Some asked.fb_cookie; flip = option_map without_mark c.flip })) ≡ pending_of c
    by_test true = unmarked_pending c.flip
    by_test false = unmarked_pending c.flip

pub detached_pending : (fb : ℕ) (flip : Option Flip) → option_map (λ (p : Flip). p.fb) (option_map (without_mark_at fb) flip) ≡ option_map (λ (p : Flip). p.fb) flip
detached_pending fb None = refl
detached_pending fb (Some p) = by_test (p.fb == fb)
  where
    by_test : (t : Bool) → option_map (λ (q : Flip). q.fb) (Some (cond t (without_mark p) p)) ≡ Some p.fb
    by_test true = refl
    by_test false = refl
