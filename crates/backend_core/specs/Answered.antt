-- What becomes of an accepted request, of whatever device.
use Rattle.std.specs.Prelude.{◌≡◌, ◌⊎◌, ℕ, ℤ, pos, Bool, true, false, List, [], ◌∷◌, Option, Some}
use Rattle.pv_words.specs.declared.device.Said.TheVariants as said
use Rattle.device_core.specs.Machine.{Happening, Row, Meanwhile}
use Rattle.device_core.specs.Order.{Own, Spoke}
use Rattle.page_directory.specs.Progress.{no_memory, no_access}

-- a request that was accepted: the part whose ring it came by, its id, and whether pages are mapped for it
pub record Accepted : Type 0 where
  pub part : ℕ
  pub id : ℕ
  pub maps : Bool

-- it is answered by 0; or, where pages are mapped for it, by want of memory (ENOMEM), or, once a page was denied to it, by EACCES
abbrev pub IsAnswer : (denied maps : Bool) → ℤ → Type 0
IsAnswer false maps status = (status ≡ pos 0) ⊎ ((maps ≡ true) × (status ≡ no_memory))
IsAnswer true maps status = (maps ≡ true) × (status ≡ no_access)

-- the reply to this request, by its part and with its id
pub record IsReplyTo (a : Accepted) (denied : Bool) (part id : ℕ) (status : ℤ) : Type 0 where
  pub part_is : part ≡ a.part
  pub id_is : id ≡ a.id
  pub answer : IsAnswer denied a.maps status

-- What a further event makes of it, by what the device says with it: a reply answers it, and it is settled once the connection is
-- closed; until then no other request is taken, and the backend's state stays.
abbrev pub IsAnsweredBy : Accepted → (denied : Bool) → Option Own → ((denied : Bool) → Type 0) → Type 0
IsAnsweredBy a denied (Some (Spoke (said.Replied part id status notified))) later = IsReplyTo a denied part id status
IsAnsweredBy a denied (Some (Spoke (said.Closed why))) later = Unit {0}
IsAnsweredBy a denied (Some (Spoke (said.Denied why))) later = later true
IsAnsweredBy a denied (Some (Spoke (said.Request part id op))) later = ⊥
IsAnsweredBy a denied (Some (Spoke (said.State s))) later = ⊥
IsAnsweredBy a denied other later = later denied

-- What happens after an accepted request came in hand, where `tells` says what is said or heard with an event: the first that is a
-- reply answers it, or the connection is closed before that. Where neither comes, the request is in hand at the end.
abbrev pub IsAnsweredIn : {E : Type 0} → (E → Option Own) → Accepted → (denied : Bool) → List (Happening E) → Type 0
IsAnsweredIn tells a denied [] = Unit {0}
IsAnsweredIn tells a denied (Row e words ∷ es) = IsAnsweredBy a denied (tells e) (λ d. IsAnsweredIn tells a d es)
IsAnsweredIn tells a denied (Meanwhile e ∷ es) = IsAnsweredBy a denied (tells e) (λ d. IsAnsweredIn tells a d es)
IsAnsweredIn tells a denied (e ∷ es) = IsAnsweredIn tells a denied es
