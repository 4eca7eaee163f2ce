-- What a connector shows, and what a pending flip is to show, is a live framebuffer in which the connector's rectangle lies;
-- and a flip is pending until its blank. Which framebuffers are live is told by their cookies: `live fb` is that of cookie fb.
use Rattle.std.specs.Prelude.{◌≡◌, ◌≢◌, ℕ, ◌+◌, ◌<◌, ◌≤◌, true, Option, Some, None, Ok, IsSomeAnd}
use Rattle.displ_wire.specs.declared.Config.{Config}
use Rattle.displ_wire.specs.declared.framebuffer.Framebuffer.{Framebuffer}
use Rattle.connectors.specs.declared.connector.Connector.{Connector}
use Rattle.connectors.specs.declared.connector.Picture.{Picture}
use Rattle.connectors.specs.declared.rectangle.Rectangle.{Rectangle}
use Rattle.connectors.specs.Connectors.{after_blank, config_check, after_config, after_detach, first_connector, flip_check, after_flip, has_area, is_shown_by, pending_of, picture_of}

-- the live framebuffers, by their cookies
abbrev pub Frames : Type 0
Frames = ℕ → Option Framebuffer

-- a cookie names a live framebuffer in which the rectangle lies, with as many bits a pixel
abbrev pub CanShow : Frames → Option Rectangle → ℕ → Type 0
CanShow live rectangle fb = IsSomeAnd (live fb) (λ f. is_shown_by rectangle f ≡ true)

-- the shown cookie does, and so does that of a pending flip whose mark stands; and the rectangle has pixels
pub record IsSound (live : Frames) (c : Connector) : Type 0 where
  pub has_pixels : (r : Rectangle) → c.rectangle ≡ Some r → has_area r ≡ true
  pub shown : (fb : ℕ) → c.shown ≡ Some fb → CanShow live c.rectangle fb
  pub marked : (fb : ℕ) → c.flip ≡ Some (record { fb = fb; marked = true }) → CanShow live c.rectangle fb

-- framebuffers may come, as by an ATTACH, and none goes or changes
abbrev pub StayLive : Frames → Frames → Type 0
StayLive old new = (fb : ℕ) (f : Framebuffer) → old fb ≡ Some f → new fb ≡ Some f

-- no framebuffer changes but that of this cookie, as by a DETACH
abbrev pub StayBut : ℕ → Frames → Frames → Type 0
StayBut fb old new = (other : ℕ) → other ≢ fb → new other ≡ old other

-- it is so at first, and stays so at each request and at each blank
pub record StaysSound : Type 0 where
  pub first : (live : Frames) → IsSound live first_connector
  pub attaches : (old new : Frames) (c : Connector) → IsSound old c → StayLive old new → IsSound new c
  pub detaches : (old new : Frames) (c : Connector) (fb : ℕ) → IsSound old c → StayBut fb old new → IsSound new (after_detach fb c)
  pub configures : (live : Frames) (c : Connector) (asked : Config) → IsSound live c
      → config_check asked (live asked.fb_cookie) ≡ Ok tt → IsSound live (after_config c asked)
  pub flips : (live : Frames) (c : Connector) (fb : ℕ) → IsSound live c → flip_check c (live fb) ≡ Ok tt
      → IsSound live (after_flip c fb)
  pub blanks : (live : Frames) (c : Connector) → IsSound live c → IsSound live (after_blank c)

-- a picture has pixels, and lies in a framebuffer
pub record Shows (p : Picture) (f : Framebuffer) : Type 0 where
  pub wide : 0 < p.width
  pub high : 0 < p.height
  pub across : p.x + p.width ≤ f.width
  pub down : p.y + p.height ≤ f.height

-- that of a connector lies in a live one
abbrev pub PicturesInside : Type 0
PicturesInside =
    (live : Frames) (c : Connector) (p : Picture) → IsSound live c → picture_of c ≡ Some p
    → IsSomeAnd (live p.fb) (Shows p)

-- a flip is accepted only where none is pending; it is pending then, whatever is configured or detached, until its blank
pub record FlipsWait : Type 0 where
  pub alone : (c : Connector) (f : Option Framebuffer) → flip_check c f ≡ Ok tt → pending_of c ≡ None
  pub begins : (c : Connector) (fb : ℕ) → pending_of (after_flip c fb) ≡ Some fb
  pub configures : (c : Connector) (asked : Config) → pending_of (after_config c asked) ≡ pending_of c
  pub detaches : (c : Connector) (fb : ℕ) → pending_of (after_detach fb c) ≡ pending_of c
  pub ends : (c : Connector) → pending_of (after_blank c) ≡ None
