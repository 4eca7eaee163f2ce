-- A picture lies in the framebuffer that it is of.
use Rattle.std.proofs.Common.{◌≡◌, ℕ, ◌+◌, true, ◌&&◌, ◌==◌, nat_lt, nat_le, Option, Some, None, IsSomeAnd, refl, subst}
use Rattle.std.proofs.lemmas.Bool.{and_parts, leb-true, ltb-true}
use Rattle.displ_wire.specs.declared.framebuffer.Framebuffer.{Framebuffer}
use Rattle.connectors.specs.declared.connector.Picture.{Picture}
use Rattle.connectors.specs.declared.rectangle.Rectangle.{Rectangle}
use Rattle.connectors.specs.Connectors.{has_area, lies_in, picture_in}
use Rattle.connectors.specs.Laws.{CanShow, Frames, Shows}

abbrev part_of : ℕ → Rectangle → Picture
part_of fb r = record { fb = fb; x = r.x; y = r.y; width = r.width; height = r.height }

part_shown : (fb : ℕ) (r : Rectangle) (f : Framebuffer) → has_area r ≡ true → lies_in r f ≡ true → Shows (part_of fb r) f
part_shown fb r f area inside =
    let sides = and_parts (nat_lt 0 r.width) (nat_lt 0 r.height) area in
    let across = and_parts (nat_le (r.x + r.width) f.width) (nat_le (r.y + r.height) f.height && (r.bpp == f.bpp)) inside in
    let down = and_parts (nat_le (r.y + r.height) f.height) (r.bpp == f.bpp) across.1 in
    record {
      wide = ltb-true 0 r.width sides.0;
      high = ltb-true 0 r.height sides.1;
      across = leb-true (r.x + r.width) f.width across.0;
      down = leb-true (r.y + r.height) f.height down.0;
    }

found_shown : (fb : ℕ) (r : Rectangle) (o : Option Framebuffer) → has_area r ≡ true → IsSomeAnd o (λ f. lies_in r f ≡ true) → IsSomeAnd o (Shows (part_of fb r))
found_shown fb r None area h = absurd h
found_shown fb r (Some f) area h = part_shown fb r f area h

pub picture_shown : (live : Frames) (o : Option Rectangle) (shown : Option ℕ) (p : Picture) → ((r : Rectangle) → o ≡ Some r → has_area r ≡ true) → ((fb : ℕ) → shown ≡ Some fb → CanShow live o fb) → picture_in o shown ≡ Some p → IsSomeAnd (live p.fb) (Shows p)
picture_shown live None shown p pixels can e = absurd (cc)
picture_shown live (Some r) None p pixels can e = absurd (cc)
picture_shown live (Some r) (Some fb) p pixels can e =
    let same : part_of fb r ≡ p = cc in
    subst (λ (q : Picture). IsSomeAnd (live q.fb) (Shows q)) same (found_shown fb r (live fb) (pixels r refl) (can fb refl))
