-- The live buffers of a display, and the pages that it holds for buffers.
use Rattle.std.specs.Prelude.{ℕ, Bool, nat_lt, List, [], ◌∷◌, ◌++◌, drop, length, map, if◌then◌else◌}
use Rattle.pv_words.specs.declared.grant.Hold.{Hold}
use Rattle.displ_wire.specs.declared.Create.{Create}
use Rattle.display_buffers.specs.declared.live.Live.{Live}
use Rattle.display_buffers.specs.Buffers.{has_cookie, with_buffer, without_buffer}

-- a buffer with the pages of it that are held
abbrev pub Held : Type 0
Held = Live (List Hold)

-- The pages that were mapped for a CREATE that isn't answered, and the live buffers in order of creation.
pub record Stock : Type 0 where
  pub mapped : List Hold
  pub buffers : List Held

abbrev pub no_stock : Stock
no_stock = record { mapped = []; buffers = [] }

-- the pages of these buffers, in order
abbrev pub buffer_pages : List Held → List Hold
buffer_pages [] = []
buffer_pages (b ∷ bs) = b.pages ++ buffer_pages bs

-- all pages that are held, in the order in which a Close unmaps them
abbrev pub pages_of : Stock → List Hold
pages_of s = s.mapped ++ buffer_pages s.buffers

-- the buffer with these pages; without its first page
abbrev pub with_pages : Held → List Hold → Held
with_pages b pages = record { buffer = b.buffer; pages = pages }

abbrev pub less_first : Held → Held
less_first b = with_pages b (drop 1 b.pages)

-- the pages of the buffer of a cookie; none where it isn't live
abbrev pub pages_under : ℕ → List Held → List Hold
pages_under cookie [] = []
pages_under cookie (b ∷ bs) = if has_cookie cookie b then b.pages else pages_under cookie bs

-- the first buffer that passes has its first page no longer
abbrev pub less_where : (Held → Bool) → List Held → List Held
less_where p [] = []
less_where p (b ∷ bs) = if p b then less_first b ∷ bs else b ∷ less_where p bs

-- the buffer of a cookie without its first page; without any page
abbrev pub less_one : ℕ → List Held → List Held
less_one cookie bs = less_where (has_cookie cookie) bs

abbrev pub bared : ℕ → List Held → List Held
bared cookie [] = []
bared cookie (b ∷ bs) = if has_cookie cookie b then with_pages b [] ∷ bs else b ∷ bared cookie bs

-- no buffer has a page
abbrev pub all_bared : List Held → List Held
all_bared bs = map (λ b. with_pages b []) bs

-- all pages are given up
abbrev pub stripped : Stock → Stock
stripped s = record { mapped = []; buffers = all_bared s.buffers }

-- the first page of these buffers is gone
abbrev pub has_pages : Held → Bool
has_pages b = nat_lt 0 (length b.pages)

abbrev pub without_first_in : List Held → List Held
without_first_in bs = less_where has_pages bs

-- the first of all pages is gone
abbrev pub without_first_of : List Hold → List Held → Stock
without_first_of [] bs = record { mapped = []; buffers = without_first_in bs }
without_first_of (h ∷ hs) bs = record { mapped = hs; buffers = bs }

abbrev pub without_first : Stock → Stock
without_first s = without_first_of s.mapped s.buffers

-- the first page of the buffer of a cookie is gone
abbrev pub without_one : Stock → ℕ → Stock
without_one s cookie = record { mapped = s.mapped; buffers = less_one cookie s.buffers }

-- after a CREATE of the pages that were mapped for it, and after a DESTROY
abbrev pub created : Stock → Create → Stock
created s c = record { mapped = []; buffers = with_buffer s.buffers c s.mapped }

abbrev pub destroyed : Stock → ℕ → Stock
destroyed s cookie = record { mapped = s.mapped; buffers = without_buffer cookie s.buffers }
