-- How far a request has come whose pages a walk maps, or a Release gives up, and the status that answers it.
use Rattle.std.specs.Prelude.{◌≡◌, ◌⊎◌, zero, ℤ, pos, negsuc, Bool, true, false, not}
use Rattle.page_directory.specs.declared.progress.Progress.{Progress}
use Rattle.page_directory.specs.declared.progress.Progress.TheVariants as progress

-- want of memory (ENOMEM), and a page that is denied (EACCES)
abbrev pub no_memory : ℤ
no_memory = negsuc 11

abbrev pub no_access : ℤ
no_access = negsuc 12

-- a status, or a verdict, that accepts a request
abbrev pub is_accepted : ℤ → Bool
is_accepted (pos zero) = true
is_accepted other = false

-- the status of a request: its verdict, unless memory was wanting or a page was denied
abbrev pub status_in : Progress → ℤ → ℤ
status_in progress.Decided verdict = verdict
status_in progress.NoMemory verdict = no_memory
status_in progress.Denied verdict = no_access
status_in progress.Mapped verdict = verdict
status_in progress.Released verdict = verdict

-- a page was denied to it
abbrev pub is_denied : Progress → Bool
is_denied progress.Decided = false
is_denied progress.NoMemory = false
is_denied progress.Denied = true
is_denied progress.Mapped = false
is_denied progress.Released = false

-- it is to be answered, where something is done before its answer or nothing
abbrev pub ready_at : Progress → (working : Bool) → Bool
ready_at progress.Decided working = not working
ready_at p working = true

-- The status that answers a request of this verdict, which may need memory and pages or not: where a page was denied to it, just that;
-- else its verdict, or want of memory, of an accepted one that needs it.
abbrev pub IsStatusOf : (denied needs : Bool) → (verdict status : ℤ) → Type 0
IsStatusOf true needs verdict status = status ≡ no_access
IsStatusOf false needs verdict status = (status ≡ verdict) ⊎ ((needs ≡ true) × (verdict ≡ pos 0) × (status ≡ no_memory))
