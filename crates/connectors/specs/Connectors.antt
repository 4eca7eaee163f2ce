-- A connector: the rows of SET_CONFIG and FLIP, what a DETACH leaves of it, and what a blank of it makes of a pending flip (the
-- operations of displif.h; that a flip is done at a blank, that it may lose its mark, and which error answers which fault are
-- this project's own). Sums are those of numbers, which don't wrap.
use Rattle.std.specs.Prelude.{ℕ, ◌+◌, Bool, true, false, ◌&&◌, ◌==◌, nat_lt, nat_le, if◌then◌else◌, Option, Some, None, option_map, Result, Ok, Err}
use Rattle.displ_wire.specs.Wire.{all_zero}
use Rattle.displ_wire.specs.declared.Config.{Config}
use Rattle.displ_wire.specs.declared.buffer.Refused.{Refused}
use Rattle.displ_wire.specs.declared.buffer.Refused.TheVariants.{Invalid, Pending, Unknown}
use Rattle.displ_wire.specs.declared.framebuffer.Framebuffer.{Framebuffer}
use Rattle.connectors.specs.declared.connector.Connector.{Connector}
use Rattle.connectors.specs.declared.connector.Flip.{Flip}
use Rattle.connectors.specs.declared.connector.Picture.{Picture}
use Rattle.connectors.specs.declared.rectangle.Rectangle.{Rectangle}

-- the rectangle of a configuration
abbrev pub rectangle_of : Config → Rectangle
rectangle_of c = record { x = c.x; y = c.y; width = c.width; height = c.height; bpp = c.bpp }

-- a rectangle has pixels
abbrev pub has_area : Rectangle → Bool
has_area r = nat_lt 0 r.width && nat_lt 0 r.height

-- a rectangle lies in a framebuffer of as many bits a pixel
abbrev pub lies_in : Rectangle → Framebuffer → Bool
lies_in r f =
    nat_le (r.x + r.width) f.width
    && (nat_le (r.y + r.height) f.height
    && (r.bpp == f.bpp))

-- a connector at first: no configuration, nothing shown, no flip pending
abbrev pub first_connector : Connector
first_connector = record { rectangle = None; shown = None; flip = None }

-- what a pending flip is without its mark
abbrev pub without_mark : Flip → Flip
without_mark p = record p { marked = false }

-- a configuration needs a live framebuffer in which its rectangle lies
abbrev pub frame_check : Config → Option Framebuffer → Result (Unit {0}) Refused
frame_check c None = Err Unknown
frame_check c (Some f) = if has_area (rectangle_of c) && lies_in (rectangle_of c) f then Ok tt else Err Invalid

-- The first check of a SET_CONFIG that fails, while this is the live framebuffer of its cookie, if there is one. One whose
-- fields are all 0 takes the configuration away, before any check.
abbrev pub config_check : Config → Option Framebuffer → Result (Unit {0}) Refused
config_check c f = if all_zero c then Ok tt else frame_check c f

-- the connector after an accepted SET_CONFIG: a pending flip loses its mark
abbrev pub after_config : Connector → Config → Connector
after_config old c =
    if all_zero c
    then record { rectangle = None; shown = None; flip = option_map without_mark old.flip }
    else record {
      rectangle = Some (rectangle_of c);
      shown = Some c.fb_cookie;
      flip = option_map without_mark old.flip;
    }

-- the configuration's rectangle lies in a framebuffer
abbrev pub is_shown_by : Option Rectangle → Framebuffer → Bool
is_shown_by None f = false
is_shown_by (Some r) f = lies_in r f

-- no flip is pending
abbrev pub pending_check : Option Flip → Result (Unit {0}) Refused
pending_check None = Ok tt
pending_check (Some p) = Err (Pending p.fb)

-- the first check of a FLIP that fails, while this is the live framebuffer of its cookie, if there is one
abbrev pub flip_check : Connector → Option Framebuffer → Result (Unit {0}) Refused
flip_check old None = Err Unknown
flip_check old (Some f) = if is_shown_by old.rectangle f then pending_check old.flip else Err Invalid

-- the connector after an accepted FLIP: it is pending, with its mark
abbrev pub after_flip : Connector → ℕ → Connector
after_flip old fb = record old { flip = Some (record { fb = fb; marked = true }) }

-- a cookie, unless it is this one
abbrev pub other_than : ℕ → Option ℕ → Option ℕ
other_than fb None = None
other_than fb (Some cookie) = if cookie == fb then None else Some cookie

-- a pending flip after a DETACH: one to that framebuffer loses its mark
abbrev pub without_mark_at : ℕ → Flip → Flip
without_mark_at fb p = if p.fb == fb then without_mark p else p

-- the connector after a DETACH: it shows that framebuffer no longer
abbrev pub after_detach : ℕ → Connector → Connector
after_detach fb old = record old { shown = other_than fb old.shown; flip = option_map (without_mark_at fb) old.flip }

-- the framebuffer of the pending flip
abbrev pub pending_of : Connector → Option ℕ
pending_of c = option_map (λ p. p.fb) c.flip

-- what is shown once a pending flip is done: its framebuffer, where its mark stands
abbrev pub shown_after : Option Flip → Option ℕ → Option ℕ
shown_after None shown = shown
shown_after (Some p) shown = if p.marked then Some p.fb else shown

-- the connector after a blank with a pending flip
abbrev pub after_blank : Connector → Connector
after_blank old = record old { shown = shown_after old.flip old.shown; flip = None }

-- what a connector shows: the rectangle in the shown framebuffer
abbrev pub picture_in : Option Rectangle → Option ℕ → Option Picture
picture_in None shown = None
picture_in (Some r) None = None
picture_in (Some r) (Some fb) = Some (record { fb = fb; x = r.x; y = r.y; width = r.width; height = r.height })

abbrev pub picture_of : Connector → Option Picture
picture_of c = picture_in c.rectangle c.shown
