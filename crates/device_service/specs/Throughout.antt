-- What a service tells that it holds while an activity of its own is under way.
use Rattle.std.specs.Prelude.{◌≡◌, ℕ, ◌++◌, Bool, true, List}
use Rattle.pv_words.specs.declared.grant.Hold.{Hold}
use Rattle.pv_words.specs.Held.{Holds, IsProper, holding}
use Rattle.pv_words.specs.Plan.{Plan, FitsFrom}
use Rattle.page_directory.specs.Same.{AreSame}
use Rattle.device_core.specs.Site.{Site}
use Rattle.device_service.specs.Claims.{site_of}
use Rattle.device_service.specs.Laws.{AreHeld, Facts}
use Rattle.device_service.specs.Service.{Service}

-- Where what is left of an activity leaves just the pages of the service and these others, just the pages that the service tells are
-- held now, and these others, each as often.
abbrev pub HoldsThroughout : {S X A V M : Type 0} → Service X A V → ((frames grants : ℕ → ℕ) → (dom parts : ℕ) → Facts X A V M) → (S → X) → (S → Bool) → (Site → S → Plan A) → (ℕ → S → Bool) → (S → List Hold) → Type 0
HoldsThroughout {S} service known knows going left is_of holds =
    (frames grants : ℕ → ℕ) (dom parts : ℕ) (s : S) (b : Bool) (rest : List Hold) (now : Holds)
    → going s ≡ true → is_of dom s ≡ true
    → (known frames grants dom parts).Sane (knows s) → (known frames grants dom parts).Has b (knows s)
    → FitsFrom (IsProper frames grants dom) (holding frames) (λ h a. AreHeld h (service.pages (service.after (knows s) a) ++ rest)) now (left (site_of frames grants dom parts) s)
    → AreSame now.held (holds s ++ rest)
