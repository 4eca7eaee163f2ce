-- The messages of displif.h of Xen's public headers, protocol 1, as lists of sixteen words. A word is a
-- number below 2 ^ 32, stored with its low octet first.
use Rattle.std.specs.Prelude.{◌≡◌, ℕ, ◌^◌, ◌<◌, ℤ, FitsSigned, List, ◌∷◌, ◌++◌, slice_index, replicate, if◌then◌else◌, ◌==◌, Bool, ◌&&◌}
use Rattle.std.specs.Int.{w32, cast_signed, cast_unsigned}
pub use Rattle.wire_fields.specs.Fields.{id_of, operation_of, head_of, u64_at, u64_words}
use Rattle.displ_wire.specs.declared.Asked.{Asked}
use Rattle.displ_wire.specs.declared.Asked.TheVariants.{Create as AskedCreate, Destroy, Attach as AskedAttach, Detach, Config as AskedConfig, Flip, Other}
use Rattle.displ_wire.specs.declared.Attach.{Attach}
use Rattle.displ_wire.specs.declared.Config.{Config}
use Rattle.displ_wire.specs.declared.Create.{Create}
use Rattle.displ_wire.specs.declared.Event.{Event}
use Rattle.displ_wire.specs.declared.Reply.{Reply}
use Rattle.displ_wire.specs.declared.Request.{Request}

-- struct xendispl_dbuf_create_req
abbrev pub create_of : List ℕ → Create
create_of words = record {
  dbuf_cookie = u64_at words 2;
  width = slice_index words 4;
  height = slice_index words 5;
  bpp = slice_index words 6;
  buffer_sz = slice_index words 7;
  flags = slice_index words 8;
  gref_directory = slice_index words 9;
}

-- the fourteen words of that structure, from word 2 of a request on
abbrev pub create_words : Create → List ℕ
create_words c =
    u64_words c.dbuf_cookie
    ++ (c.width ∷ c.height ∷ c.bpp ∷ c.buffer_sz ∷ c.flags ∷ c.gref_directory ∷ replicate 6 0)

-- The fourteen words of struct xendispl_dbuf_destroy_req, struct xendispl_fb_detach_req, struct xendispl_page_flip_req and,
-- in an event, struct xendispl_pg_flip_evt: each has a cookie alone.
abbrev pub cookie_words : ℕ → List ℕ
cookie_words cookie = u64_words cookie ++ replicate 12 0

-- struct xendispl_fb_attach_req
abbrev pub attach_of : List ℕ → Attach
attach_of words = record {
  dbuf_cookie = u64_at words 2;
  fb_cookie = u64_at words 4;
  width = slice_index words 6;
  height = slice_index words 7;
  pixel_format = slice_index words 8;
}

-- the fourteen words of that structure, from word 2 of a request on
abbrev pub attach_words : Attach → List ℕ
attach_words a =
    u64_words a.dbuf_cookie ++ u64_words a.fb_cookie ++ (a.width ∷ a.height ∷ a.pixel_format ∷ replicate 7 0)

-- struct xendispl_set_config_req
abbrev pub config_of : List ℕ → Config
config_of words = record {
  fb_cookie = u64_at words 2;
  x = slice_index words 4;
  y = slice_index words 5;
  width = slice_index words 6;
  height = slice_index words 7;
  bpp = slice_index words 8;
}

-- the fourteen words of that structure, from word 2 of a request on
abbrev pub config_words : Config → List ℕ
config_words c = u64_words c.fb_cookie ++ (c.x ∷ c.y ∷ c.width ∷ c.height ∷ c.bpp ∷ replicate 7 0)

-- what a request with this operation asks for: XENDISPL_OP_DBUF_CREATE is 0, XENDISPL_OP_DBUF_DESTROY 1,
-- XENDISPL_OP_FB_ATTACH 2, XENDISPL_OP_FB_DETACH 3, XENDISPL_OP_SET_CONFIG 4 and XENDISPL_OP_PG_FLIP 5
abbrev pub asked_of : ℕ → List ℕ → Asked
asked_of op words =
    if op == 0
    then AskedCreate (create_of words)
    else if op == 1
    then Destroy (u64_at words 2)
    else if op == 2
    then AskedAttach (attach_of words)
    else if op == 3
    then Detach (u64_at words 2)
    else if op == 4
    then AskedConfig (config_of words)
    else if op == 5
    then Flip (u64_at words 2)
    else Other

-- the fourteen words of what a request asks for
abbrev pub asked_words : Asked → List ℕ
asked_words (AskedCreate c) = create_words c
asked_words (Destroy cookie) = cookie_words cookie
asked_words (AskedAttach a) = attach_words a
asked_words (Detach cookie) = cookie_words cookie
asked_words (AskedConfig c) = config_words c
asked_words (Flip cookie) = cookie_words cookie
asked_words Other = replicate 14 0

-- struct xendispl_req: word 1 is reserved
abbrev pub request_of : List ℕ → Request
request_of words = record {
  id = id_of words;
  op = operation_of words;
  asked = asked_of (operation_of words) words;
}

-- the words of a request
abbrev pub request_words : Request → List ℕ
request_words r = head_of r.id r.op ∷ 0 ∷ asked_words r.asked

-- struct xendispl_resp: the status stands in word 1, as two's complement
abbrev pub reply_of : List ℕ → Reply
reply_of words = record {
  id = id_of words;
  op = operation_of words;
  status = cast_signed w32 (slice_index words 1);
}

-- the words of a reply
abbrev pub reply_words : ℕ → ℕ → ℤ → List ℕ
reply_words id op status = head_of id op ∷ cast_unsigned w32 status ∷ replicate 14 0

-- struct xendispl_evt: word 1 is reserved, as in a request
abbrev pub event_of : List ℕ → Event
event_of words = record {
  id = id_of words;
  kind = operation_of words;
  value = u64_at words 2;
}

-- XENDISPL_EVT_PG_FLIP
abbrev pub flip_event : ℕ
flip_event = 0

-- the words of the event that a flip is done
abbrev pub event_words : ℕ → ℕ → List ℕ
event_words id value = head_of id flip_event ∷ 0 ∷ cookie_words value

-- each field of a configuration is 0
pub record IsZero (c : Config) : Type 0 where
  pub fb_cookie : c.fb_cookie ≡ 0
  pub x : c.x ≡ 0
  pub y : c.y ≡ 0
  pub width : c.width ≡ 0
  pub height : c.height ≡ 0
  pub bpp : c.bpp ≡ 0

-- whether each field of a configuration is 0
abbrev pub all_zero : Config → Bool
all_zero c = (c.fb_cookie == 0) && ((c.x == 0) && ((c.y == 0) && ((c.width == 0) && ((c.height == 0) && (c.bpp == 0)))))

-- each field of a request for a display buffer fits its type
pub record FitsCreate (c : Create) : Type 0 where
  pub dbuf_cookie : c.dbuf_cookie < 2 ^ 64
  pub width : c.width < 2 ^ 32
  pub height : c.height < 2 ^ 32
  pub bpp : c.bpp < 2 ^ 32
  pub buffer_sz : c.buffer_sz < 2 ^ 32
  pub flags : c.flags < 2 ^ 32
  pub gref_directory : c.gref_directory < 2 ^ 32

-- each field of a request for a framebuffer fits its type
pub record FitsAttach (a : Attach) : Type 0 where
  pub dbuf_cookie : a.dbuf_cookie < 2 ^ 64
  pub fb_cookie : a.fb_cookie < 2 ^ 64
  pub width : a.width < 2 ^ 32
  pub height : a.height < 2 ^ 32
  pub pixel_format : a.pixel_format < 2 ^ 32

-- each field of a configuration fits its type
pub record Fits (c : Config) : Type 0 where
  pub fb_cookie : c.fb_cookie < 2 ^ 64
  pub x : c.x < 2 ^ 32
  pub y : c.y < 2 ^ 32
  pub width : c.width < 2 ^ 32
  pub height : c.height < 2 ^ 32
  pub bpp : c.bpp < 2 ^ 32

-- this operation asks for such a thing
abbrev pub AsksFor : ℕ → Asked → Type 0
AsksFor op (AskedCreate c) = (op ≡ 0) × FitsCreate c
AsksFor op (Destroy cookie) = (op ≡ 1) × (cookie < 2 ^ 64)
AsksFor op (AskedAttach a) = (op ≡ 2) × FitsAttach a
AsksFor op (Detach cookie) = (op ≡ 3) × (cookie < 2 ^ 64)
AsksFor op (AskedConfig c) = (op ≡ 4) × Fits c
AsksFor op (Flip cookie) = (op ≡ 5) × (cookie < 2 ^ 64)
AsksFor op Other = 5 < op

-- the fields of a request fit their types, and what it asks for is what its operation asks for
pub record Belongs (r : Request) : Type 0 where
  pub id : r.id < 2 ^ 16
  pub op : r.op < 2 ^ 8
  pub asked : AsksFor r.op r.asked

-- a request comes back from its words
abbrev pub RequestsReadBack : Type 0
RequestsReadBack = (r : Request) → Belongs r → request_of (request_words r) ≡ r

-- a reply comes back from its words
abbrev pub RepliesReadBack : Type 0
RepliesReadBack =
    (id op : ℕ) (status : ℤ) → id < 2 ^ 16 → op < 2 ^ 8 → FitsSigned w32 status
    → reply_of (reply_words id op status) ≡ record { id = id; op = op; status = status }

-- an event comes back from its words
abbrev pub EventsReadBack : Type 0
EventsReadBack =
    (id value : ℕ) → id < 2 ^ 16 → value < 2 ^ 64
    → event_of (event_words id value) ≡ record { id = id; kind = flip_event; value = value }
