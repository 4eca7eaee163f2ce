-- How a device maps the pages that a page directory lists (`struct xendispl_page_directory` of displif.h, the same in
-- sndif.h): access by access, and what follows each word that may be found. Word 0 of a directory page is the reference
-- of the next directory page, words 1 to 1023 are the references of pages.
use Rattle.std.specs.Prelude.{ℕ, zero, suc, ◌+◌, ◌-◌, ◌/◌, ◌==◌, List, [], ◌∷◌, ◌++◌, length, Result, Ok, Err, nat_lt, if◌then◌else◌}
use Rattle.std.specs.List.{insert}
use Rattle.pv_words.specs.declared.place.Place.{Place}
use Rattle.pv_words.specs.declared.place.Place.TheVariants.{Cell}
use Rattle.pv_words.specs.declared.grant.Hold.{Hold}
use Rattle.pv_words.specs.declared.grant.Mode.{Mode}
use Rattle.pv_words.specs.declared.grant.Mode.TheVariants.{Read}
use Rattle.pv_words.specs.declared.grant.GrantRefusal.{GrantRefusal}
use Rattle.pv_words.specs.declared.grant.GrantRefusal.TheVariants.{NoNext}
use Rattle.pv_words.specs.Plan.{Plan, Finished, Make, Load, Plain, Ends}
use Rattle.pv_words.specs.Mapping.{map_plan, unmap_want}
use Rattle.pv_words.specs.Release.{unmaps}
use Rattle.page_directory.specs.declared.walk.Walked.{Walked}
use Rattle.page_directory.specs.declared.walk.Walked.TheVariants.{Pages, Refused}
use Rattle.pv_words.specs.Plan.{joined}

-- how many pages a buffer of so many octets has
abbrev pub pages_of : ℕ → ℕ
pages_of octets = (octets + 4095) / 4096

-- how many references a directory page has room for
abbrev pub per_page : ℕ
per_page = 1023

-- a word of a page that is held
abbrev pub word_in : Hold → ℕ → Place
word_in h w = Cell h.dom h.frame w

-- these pages are unmapped, in this order, and the walk is refused
abbrev pub undo_plan : List Hold → GrantRefusal → Plan Walked
undo_plan hs refusal = unmaps hs (Finished (Refused refusal))

-- what a map leads to, where the walk holds these pages: it goes on, or is undone
abbrev pub with_map : List Hold → (Hold → Plan Walked) → Result Hold GrantRefusal → Plan Walked
with_map held next (Ok h) = next h
with_map held next (Err refusal) = undo_plan held refusal

-- Of the pages that the walk has mapped, those from number `begins` on are listed by the directory page at which it is.
-- The next reference of that directory page is loaded, and its page mapped.
abbrev pub entry_plan : (frames grants dom : ℕ) → Mode → (List Hold → Plan Walked) → (directory : Hold) (begins : ℕ) → List Hold → Plan Walked
entry_plan frames grants dom mode next directory begins pages =
    Make (Load (word_in directory (length pages - begins + 1))) Plain (λ gref.
    joined (map_plan frames grants dom gref mode) (with_map (insert pages begins directory) (λ h. next (pages ++ h ∷ []))))

-- a directory page is mapped, and the walk goes on at its first reference
abbrev pub enter_plan : (frames grants dom : ℕ) → Mode → (Hold → ℕ → List Hold → Plan Walked) → (gref : ℕ) → List Hold → Plan Walked
enter_plan frames grants dom mode next gref pages =
    joined (map_plan frames grants dom gref Read) (with_map pages (λ directory.
    entry_plan frames grants dom mode (next directory (length pages)) directory (length pages) pages))

-- the directory page is unmapped
abbrev pub leave_plan : Hold → Plan Walked → Plan Walked
leave_plan directory next = Make (unmap_want directory) (Ends directory) (λ _. next)

-- what the reference of the next directory page leads to: there has to be one
abbrev pub with_next : (directory : Hold) (begins : ℕ) → List Hold → (ℕ → Plan Walked) → ℕ → Plan Walked
with_next directory begins pages next gref =
    if gref == 0 then undo_plan (insert pages begins directory) NoNext else leave_plan directory (next gref)

-- the reference of the next directory page is loaded, and the walk leaves the one at which it is
abbrev pub next_plan : (directory : Hold) (begins : ℕ) → List Hold → (ℕ → Plan Walked) → Plan Walked
next_plan directory begins pages next = Make (Load (word_in directory 0)) Plain (with_next directory begins pages next)

-- the walk at a directory page, where so many references are still needed
unfoldable pub rest_plan : (frames grants dom : ℕ) → Mode → (needed : ℕ) → (directory : Hold) (begins : ℕ) → List Hold → Plan Walked
rest_plan frames grants dom mode zero directory begins pages = leave_plan directory (Finished (Pages pages))
rest_plan frames grants dom mode (suc n) directory begins pages =
    if nat_lt (length pages - begins) per_page
    then entry_plan frames grants dom mode (rest_plan frames grants dom mode n directory begins) directory begins pages
    else next_plan directory begins pages (λ gref. enter_plan frames grants dom mode (rest_plan frames grants dom mode n) gref pages)

-- Walk: the whole of it, for so many pages, from the first directory page's reference on, over a domain with so many
-- frames and grant entries
unfoldable pub walk_plan : (frames grants dom gref : ℕ) → Mode → (count : ℕ) → Plan Walked
walk_plan frames grants dom gref mode zero = Finished (Pages [])
walk_plan frames grants dom gref mode (suc n) = enter_plan frames grants dom mode (rest_plan frames grants dom mode n) gref []
