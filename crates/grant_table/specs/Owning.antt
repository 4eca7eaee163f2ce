-- How a domain grants a frame by an entry of its own grant table, and ends a grant (grant_table.h, version 1): access
-- by access, and what follows each word that may be found.
use Rattle.std.specs.Prelude.{ℕ, ◌==◌, if◌then◌else◌}
use Rattle.pv_words.specs.declared.grant.Mode.{Mode}
use Rattle.pv_words.specs.Memory.{without}
use Rattle.pv_words.specs.Plan.{Plan, Finished, Make, Load, Store, Swap, Plain}
pub use Rattle.pv_words.specs.Port.{granting}
use Rattle.grant_table.specs.declared.owner.Owned.{Owned}
use Rattle.grant_table.specs.declared.owner.Owned.TheVariants.{Opened, AlreadyOpen, Ended, Busy, Moved}
use Rattle.pv_words.specs.Flags.{flags_place, frame_place, has, used}

abbrev pub opened_at : ℕ → Owned
opened_at seen = if seen == 0 then Opened else AlreadyOpen seen

-- the entry becomes valid, if it is still free
abbrev pub open_plan : (dom gref : ℕ) → Mode → Plan Owned
open_plan dom gref mode = Make (Swap (flags_place dom gref) 0 (granting mode)) Plain (λ seen. Finished (opened_at seen))

abbrev pub name_plan : (dom gref frame : ℕ) → Mode → Plan Owned
name_plan dom gref frame mode = Make (Store (frame_place dom gref) frame) Plain (λ _. open_plan dom gref mode)

-- Permit: a free entry, whose flags' word is 0, gets its frame, and then becomes valid
abbrev pub permit_plan : (dom gref frame : ℕ) → Mode → Plan Owned
permit_plan dom gref frame mode =
    Make (Load (flags_place dom gref)) Plain (λ word. if word == 0 then name_plan dom gref frame mode else Finished (AlreadyOpen word))

-- what an end answers: of the word that it loaded, and the one that its exchange saw
abbrev pub ended_at : ℕ → ℕ → Owned
ended_at word seen =
    if has seen used then Busy seen
    else (if seen == without word used then Ended
    else Moved word seen)

-- the entry becomes free, if the word stands there without its in-use bits
abbrev pub close_plan : (dom gref word : ℕ) → Plan Owned
close_plan dom gref word = Make (Swap (flags_place dom gref) (without word used) 0) Plain (λ seen. Finished (ended_at word seen))

-- End: the entry becomes free, unless it is in use
abbrev pub end_plan : (dom gref : ℕ) → Plan Owned
end_plan dom gref = Make (Load (flags_place dom gref)) Plain (close_plan dom gref)
