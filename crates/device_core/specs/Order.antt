-- The order of a device's work, and where a device stands in it.
use Rattle.std.specs.Prelude.{◌≡◌, ◌⊎◌, Bool, true, false, List, [], ◌∷◌, Option, Some, None, if◌then◌else◌}
use Rattle.pv_words.specs.declared.access.Access.{Access}
use Rattle.pv_words.specs.declared.device.HostEvent.{HostEvent}
use Rattle.pv_words.specs.declared.device.HostRefusal.{HostRefusal}
use Rattle.pv_words.specs.declared.device.Said.{Said}
use Rattle.pv_words.specs.declared.device.State.{State}
use Rattle.pv_words.specs.declared.device.NodeValue.{NodeValue}
use Rattle.pv_words.specs.declared.place.Place.{Place}
use Rattle.pv_words.specs.declared.place.Place.TheVariants.{Cell, Grant}
use Rattle.pv_words.specs.Along.{after, Along}
use Rattle.pv_words.specs.Memory.{place_of}
use Rattle.pv_words.specs.Held.{Made}
use Rattle.pv_words.specs.Plan.{Plan, Finished, Make, Want, Note, Plain, Goes, MayGo, wanted, seen_by}

-- What a device hears, at any moment: its frontend sets its state, while the nodes stand so; or its host tells it an event.
pub data News : Type 0 where
  Sets : State → List NodeValue → News
  Hosts : HostEvent → News

-- What a device does and hears, one after another: an access, something that it says, or resting until it is stepped
-- again; or it hears news; or it refuses the event that its host just told; or a domain or another device makes an access.
pub data Own : Type 0 where
  Did : Access → Own
  Spoke : Said → Own
  Rested : Own
  Heard : News → Own
  Refused : HostRefusal → Own
  Others : Access → Own

-- What a device does next: an activity (one that is over at once says its event in a step of its own), with the work as
-- the activity's beginning leaves it; or, where memory may be wanting, the first of two activities if it is, the second if
-- it isn't; or it rests.
pub data Order (W O : Type 0) : Type 0 where
  Act : W → Plan O → Order W O
  Either : W → Plan O → W → Plan O → Order W O
  Rest : W → Order W O

-- the place is a word of a page, not of a grant entry
abbrev pub is_in_page : Place → Bool
is_in_page (Cell d f w) = true
is_in_page (Grant d g h) = false

-- Which of two activities it is, as what comes next shows: the first begins with an access to a page, the second with one
-- to a grant entry, or it is over at once.
abbrev pub picked : {W O : Type 0} → Order W O → Own → Order W O
picked (Act v p) e = Act v p
picked (Rest v) e = Rest v
picked (Either v p u q) (Did a) = if is_in_page (place_of a) then Act v p else Act u q
picked (Either v p u q) other = Act u q

-- one of the activities that may come next, with the work as its beginning leaves it
abbrev pub Offers : {W O : Type 0} → Order W O → W → Plan O → Type 0
Offers (Act v p) w x = (v ≡ w) × (p ≡ x)
Offers (Either v p u q) w x = ((v ≡ w) × (p ≡ x)) ⊎ ((u ≡ w) × (q ≡ x))
Offers (Rest v) w x = ⊥

-- how a device works: what it does next, what it says at an activity's end, and what that end makes of its work; why it
-- refuses an event of its host, if it does; and what news make of its work, of which an event that it refuses makes nothing
pub record Rules (W O : Type 0) : Type 0 where
  pub choice : W → Order W O
  pub said_at : W → O → Option Said
  pub settled : W → O → W
  pub refuses : W → HostEvent → Option HostRefusal
  pub heard : W → News → W

-- where a device stands: between two activities, in one with this left of it, or about to say the event that rides
-- on the access that it made last
pub data Stand (W O : Type 0) : Type 0 where
  Between : W → Stand W O
  During : W → Plan O → Stand W O
  Telling : Said → W → O → Stand W O

-- the work there
abbrev pub work_at : {W O : Type 0} → Stand W O → W
work_at (Between w) = w
work_at (During w p) = w
work_at (Telling s w o) = w

-- an activity is over
abbrev pub ended : {W O : Type 0} → Rules W O → W → O → Option Said → Stand W O
ended r w o None = Between (r.settled w o)
ended r w o (Some s) = Telling s w o

-- this is left of an activity
abbrev pub going : {W O : Type 0} → Rules W O → W → Plan O → Stand W O
going r w (Finished o) = ended r w o (r.said_at w o)
going r w (Make want note more) = During w (Make want note more)

-- the stand after what a device does between two activities
abbrev pub begun : {W O : Type 0} → Rules W O → W → Order W O → Own → Stand W O
begun r w c (Heard news) = Between (r.heard w news)
begun r w (Act v (Finished o)) (Spoke s) = Between (r.settled v o)
begun r w (Act v (Make want note more)) (Did a) = going r v (more (seen_by a))
begun r w (Rest v) Rested = Between v
begun r w c other = Between w

-- the stand after an access in an activity, or after what is heard in it
abbrev pub gone : {W O : Type 0} → Rules W O → W → Plan O → Own → Stand W O
gone r w p (Heard news) = During (r.heard w news) p
gone r w (Make want note more) (Did a) = going r w (more (seen_by a))
gone r w p other = During w p

-- the stand after an event is told; what is heard before it is told changes the work
abbrev pub told : {W O : Type 0} → Rules W O → Said → W → O → Own → Stand W O
told r s w o (Spoke t) = Between (r.settled w o)
told r s w o (Heard news) = Telling s (r.heard w news) o
told r s w o other = Telling s w o

-- the stand after one more thing
abbrev pub next : {W O : Type 0} → Rules W O → Stand W O → Own → Stand W O
next r (Between w) e = begun r w (picked (r.choice w) e) e
next r (During w p) e = gone r w p e
next r (Telling s w o) e = told r s w o e

-- what may come between two activities: what the order of work gives next, news, or another's access
abbrev pub MayBegin : {W O : Type 0} → Rules W O → W → Order W O → Own → Type 0
MayBegin r w c (Heard news) = Unit {0}
MayBegin r w c (Others a) = Unit {0}
MayBegin r w (Act v (Finished o)) (Spoke s) = r.said_at v o ≡ Some s
MayBegin r w (Act v (Make want note more)) (Did a) = wanted a ≡ want
MayBegin r w (Rest v) Rested = Unit {0}
MayBegin r w c other = ⊥

-- what may come in an activity: its next access, news, or another's access
abbrev pub MayGoOn : {W O : Type 0} → Rules W O → W → Plan O → Own → Type 0
MayGoOn r w p (Heard news) = Unit {0}
MayGoOn r w p (Others a) = Unit {0}
MayGoOn r w (Make want note more) (Did a) = wanted a ≡ want
MayGoOn r w p other = ⊥

-- an event that rides on an access is what the device says next, whatever is heard, and whoever makes an access, before it
abbrev pub MayTell : Said → Own → Type 0
MayTell s (Spoke t) = t ≡ s
MayTell s (Heard news) = Unit {0}
MayTell s (Others a) = Unit {0}
MayTell s other = ⊥

-- what may come where a device stands
abbrev pub May : {W O : Type 0} → Rules W O → Stand W O → Own → Type 0
May r (Between w) e = MayBegin r w (picked (r.choice w) e) e
May r (During w p) e = MayGoOn r w p e
May r (Telling s w o) e = MayTell s e

-- each of these comes next where those before it left the stand
abbrev pub Comes : {W O : Type 0} → Rules W O → Stand W O → List Own → Type 0
Comes r s es = Along (next r) (May r) s es

-- Where a device stands, and the refusal that it owes: once its host told it an event that it refuses, nothing comes but
-- that refusal.
pub record Station (W O : Type 0) : Type 0 where
  pub stand : Stand W O
  pub owes : Option HostRefusal

-- a device that owes nothing
abbrev pub at_stand : {W O : Type 0} → Stand W O → Station W O
at_stand s = record { stand = s; owes = None }

-- why the news are refused, if they are
abbrev pub refused_by : {W O : Type 0} → Rules W O → W → News → Option HostRefusal
refused_by r w (Sets front nodes) = None
refused_by r w (Hosts e) = r.refuses w e

-- the refusal that is owed after one more thing
abbrev pub owed : {W O : Type 0} → Rules W O → Stand W O → Own → Option HostRefusal
owed r s (Heard news) = refused_by r (work_at s) news
owed r s other = None

abbrev pub follow : {W O : Type 0} → Rules W O → Stand W O → Option HostRefusal → Own → Station W O
follow r s (Some why) e = at_stand s
follow r s None e = record { stand = next r s e; owes = owed r s e }

-- where a device stands after one more thing
abbrev pub followed : {W O : Type 0} → Rules W O → Station W O → Own → Station W O
followed r p e = follow r p.stand p.owes e

abbrev pub IsRefusal : HostRefusal → Own → Type 0
IsRefusal why (Refused x) = x ≡ why
IsRefusal why other = ⊥

abbrev pub MayFollowWith : {W O : Type 0} → Rules W O → Stand W O → Option HostRefusal → Own → Type 0
MayFollowWith r s (Some why) e = IsRefusal why e
MayFollowWith r s None e = May r s e

-- what may come there: the refusal that is owed, and nothing else before it
abbrev pub MayFollow : {W O : Type 0} → Rules W O → Station W O → Own → Type 0
MayFollow r p e = MayFollowWith r p.stand p.owes e

-- each thing that a device does is what comes next where the earlier ones left it
abbrev pub IsExplained : {W O : Type 0} → Rules W O → Station W O → List Own → Type 0
IsExplained r p es = Along (followed r) (MayFollow r) p es

-- whether the device rests next
abbrev pub rests_next : {W O : Type 0} → Order W O → Bool
rests_next (Rest v) = true
rests_next other = false

abbrev pub at_rest : {W O : Type 0} → Rules W O → Stand W O → Bool
at_rest r (Between w) = rests_next (r.choice w)
at_rest r other = false

-- an access to a page, where memory may be wanting for the pages of the request in hand, begins the answer that it is
abbrev pub wants_by : {W O : Type 0} → Order W O → Own → Bool
wants_by (Either v p u q) (Did a) = is_in_page (place_of a)
wants_by other e = false

abbrev pub wants_at : {W O : Type 0} → Rules W O → Stand W O → Own → Bool
wants_at r (Between w) e = wants_by (r.choice w) e
wants_at r other e = false

-- the event that is to be said next, where one rides on the access that was made last
abbrev pub due_at : {W O : Type 0} → Stand W O → Option Said
due_at (Telling s w o) = Some s
due_at other = None

-- what one step of a device does: its access, where it makes one, and the event that rides on it or is said alone;
-- a step with neither rests
abbrev pub steps_of : Option Access → Option Said → List Own
steps_of None None = Rested ∷ []
steps_of None (Some s) = Spoke s ∷ []
steps_of (Some a) None = Did a ∷ []
steps_of (Some a) (Some s) = Did a ∷ Spoke s ∷ []

-- One step leads from stand to stand, and makes what comes next. With an access just the event is said that rides on it, and no
-- event is due behind the step.
pub record Steps {W O : Type 0} (r : Rules W O) (old : Stand W O) (access : Option Access) (said : Option Said) (new : Stand W O) : Type 0 where
  pub comes : Comes r old (steps_of access said)
  pub left : new ≡ after (next r) old (steps_of access said)
  pub rides : (a : Access) → access ≡ Some a → said ≡ due_at (next r old (Did a))
  pub whole : due_at new ≡ None

-- the access was made, and this is left: the activity goes on, or it is over and what is said at its end is said
abbrev pub Went : {W O : Type 0} → Rules W O → W → Plan O → Option Said → Stand W O → Type 0
Went r w (Finished o) said new = (said ≡ r.said_at w o) × (new ≡ Between (r.settled w o))
Went r w (Make want note more) said new = (said ≡ None) × (new ≡ During w (Make want note more))

-- one step of an activity
abbrev pub GoesOn : {W O : Type 0} → Rules W O → W → Plan O → Option Access → Option Said → Stand W O → Type 0
GoesOn r w p None said new = ⊥
GoesOn {W} {O} r w p (Some a) said new = (q : Plan O) × Goes p a q × Went r w q said new

-- the next access, whichever comes next, may be made through a port
abbrev pub MayChoose : {W O : Type 0} → (Want → Type 0) → Order W O → Type 0
MayChoose may (Act v p) = MayGo may p
MayChoose may (Either v p u q) = MayGo may p × MayGo may q
MayChoose may (Rest v) = Unit {0}

abbrev pub MayStep : {W O : Type 0} → (Want → Type 0) → Rules W O → Stand W O → Type 0
MayStep may r (Between w) = MayChoose may (r.choice w)
MayStep may r (During w p) = MayGo may p
MayStep may r (Telling s w o) = Unit {0}

-- what a device's next access is for
abbrev pub note_of : {A : Type 0} → Plan A → Note
note_of (Finished x) = Plain
note_of (Make want note more) = note

abbrev pub note_in : {W O : Type 0} → Order W O → Note
note_in (Act v p) = note_of p
note_in (Either v p u q) = Plain
note_in (Rest v) = Plain

abbrev pub note_at : {W O : Type 0} → Rules W O → Stand W O → Own → Note
note_at r (Between w) e = note_in (picked (r.choice w) e)
note_at r (During w p) e = note_of p
note_at r (Telling s w o) e = Plain

-- the accesses among what a device does and hears, and what they are for
abbrev pub made_by : {W O : Type 0} → Rules W O → Station W O → List Own → List Made
made_by r p [] = []
made_by r p (Did a ∷ es) = record { access = a; note = note_at r p.stand (Did a) } ∷ made_by r (followed r p (Did a)) es
made_by r p (e ∷ es) = made_by r (followed r p e) es
