-- What a step of an activity, and one that begins it, leads to.
use Rattle.std.specs.Prelude.{◌≡◌, ◌⊎◌, true, false, Option, Some, None}
use Rattle.pv_words.specs.declared.access.Access.{Access}
use Rattle.pv_words.specs.declared.device.Said.{Said}
use Rattle.pv_words.specs.declared.device.Said.TheVariants as said
use Rattle.pv_words.specs.declared.device.Reason.{Reason}
use Rattle.pv_words.specs.declared.device.Reason.TheVariants as reason
use Rattle.pv_words.specs.Memory.{place_of}
use Rattle.pv_words.specs.Plan.{Plan, Finished}
use Rattle.device_core.specs.Order.{Order, Act, Either, Rest, Stand, Between, GoesOn, is_in_page}
use Rattle.device_core.specs.Site.{Site}
use Rattle.device_service.specs.Service.{Service}
use Rattle.device_service.specs.Work.{Work, End, Denied, Shut, device, shut, said_at, settled}

-- an activity that closes the connection, for this reason
abbrev pub Closes : {A V : Type 0} → End A V → Reason → Type 0
Closes (Denied refusal) why = why ≡ reason.Refused refusal
Closes (Shut told) why = why ≡ told
Closes other why = ⊥

module _ {X A V : Type 0} (s : Service X A V) (site : Site) where
  -- Nothing is left of a plan that closes the connection, and this is said, with no access.
  pub record Closed (w : Work X V) (p : Plan (End A V)) (event : Option Said) (new : Stand (Work X V) (End A V)) : Type 0 where
    pub end : End A V
    pub why : Reason
    pub over : p ≡ Finished end
    pub closes : Closes end why
    pub says : event ≡ Some (said.Closed why)
    pub left : new ≡ Between (shut s w)

  -- a step of a Connect, or of a Close
  abbrev pub GoesOut : Work X V → Plan (End A V) → Option Access → Option Said → Stand (Work X V) (End A V) → Type 0
  GoesOut w p None event new = Closed w p event new
  GoesOut w p (Some a) event new = GoesOn (device s site) w p (Some a) event new

  -- an activity that is over at once says its event
  pub record Told (w : Work X V) (p : Plan (End A V)) (event : Option Said) (new : Stand (Work X V) (End A V)) : Type 0 where
    pub end : End A V
    pub told : Said
    pub over : p ≡ Finished end
    pub says : event ≡ Some told
    pub told_is : said_at s w end ≡ Some told
    pub left : new ≡ Between (settled s site w end)

  abbrev pub Comes : Work X V → Plan (End A V) → Option Access → Option Said → Stand (Work X V) (End A V) → Type 0
  Comes w p None event new = Told w p event new
  Comes w p (Some a) event new = GoesOn (device s site) w p (Some a) event new

  -- which of two activities begins, as the access tells
  abbrev pub ComesAs : Work X V → Plan (End A V) → Work X V → Plan (End A V) → Option Access → Option Said → Stand (Work X V) (End A V) → Type 0
  ComesAs v p u q None event new = Comes u q None event new
  ComesAs v p u q (Some a) event new =
      ((is_in_page (place_of a) ≡ true) × Comes v p (Some a) event new) ⊎ ((is_in_page (place_of a) ≡ false) × Comes u q (Some a) event new)

  -- a step that begins what comes next
  abbrev pub Begins : Order (Work X V) (End A V) → Option Access → Option Said → Stand (Work X V) (End A V) → Type 0
  Begins (Act w p) access event new = Comes w p access event new
  Begins (Either v p u q) access event new = ComesAs v p u q access event new
  Begins (Rest w) access event new = (access ≡ None) × (event ≡ None) × (new ≡ Between w)
