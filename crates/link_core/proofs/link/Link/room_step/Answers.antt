use Rattle.std.proofs.Common.{refl, sym}
use Rattle.std.proofs.lemmas.Bool.{false≢true}
use Rattle.link_core.specs.declared.link.Stage.TheVariants as stage
use Rattle.link_core.specs.Activities.{page_at}
use Rattle.link_core.specs.Link.{dom_of, held_of, idle, is_joined, joined_of, page_of, puts}
use Rattle.link_core.proofs.Raises.{finds_bar, finds_room, fits_slots, in_joined, none_published, unfinished_put}
use Rattle.link_core.proofs.link.Link.room_step.Goals as goal

pub returns-then-prod-ge-EVENT_LIMIT-clause-keeps : goal.returns-then-prod-ge-EVENT_LIMIT-clause-keeps
unfolding dom_of held_of is_joined page_of
returns-then-prod-ge-EVENT_LIMIT-clause-keeps g c = record { dom = refl; part = refl; held = refl; is_joined = refl; page = refl }

pub returns-then-prod-ge-EVENT_LIMIT-clause-joined : goal.returns-then-prod-ge-EVENT_LIMIT-clause-joined
unfolding joined_of
returns-then-prod-ge-EVENT_LIMIT-clause-joined g c = refl

pub returns-then-prod-ge-EVENT_LIMIT-clause-rests : goal.returns-then-prod-ge-EVENT_LIMIT-clause-rests
unfolding idle
returns-then-prod-ge-EVENT_LIMIT-clause-rests g c = refl

pub returns-in-Some-clause-keeps : goal.returns-in-Some-clause-keeps
unfolding dom_of held_of is_joined page_of
returns-in-Some-clause-keeps g c = record { dom = refl; part = refl; held = refl; is_joined = refl; page = refl }

pub returns-in-Some-clause-rests : goal.returns-in-Some-clause-rests
unfolding idle
returns-in-Some-clause-rests g c = refl

pub returns-in-Some-clause-stays : goal.returns-in-Some-clause-stays
unfolding held_of joined_of
returns-in-Some-clause-stays g c = λ h. in_joined c.args.self.now.kept c.args.self.now.ring_page c.args.self.now.event_page h

pub returns-in-Some-clause-joined : goal.returns-in-Some-clause-joined
unfolding joined_of
returns-in-Some-clause-joined g c =
    sym (none_published c.args.layout.slots c.args.self.now.prod c.args.n c.load-cons.result c.in-Some.end (joined_of c.args.self.now) c.in-Some.ensures)

pub returns-in-Some-clause-leads : goal.returns-in-Some-clause-leads
returns-in-Some-clause-leads g c =
    let l = c.args.self.now in
    finds_bar c.args.layout (page_at l.event_page) l.prod c.args.n c.load-cons.result c.args.w.now c.if-prod-ge-EVENT_LIMIT.false c.in-Some.end c.in-Some.ensures

pub returns-in-None-clause-keeps : goal.returns-in-None-clause-keeps
unfolding dom_of held_of is_joined page_of
returns-in-None-clause-keeps g c = record { dom = refl; part = refl; held = refl; is_joined = refl; page = refl }

pub returns-in-None-clause-joined : goal.returns-in-None-clause-joined
unfolding joined_of
returns-in-None-clause-joined g c = refl

pub returns-in-None-clause-stays : goal.returns-in-None-clause-stays
unfolding held_of joined_of
returns-in-None-clause-stays g c = λ h. in_joined c.args.self.now.kept c.args.self.now.ring_page c.args.self.now.event_page h

pub returns-in-None-clause-room : goal.returns-in-None-clause-room
returns-in-None-clause-room g c = λ h. fits_slots c.args.layout.slots c.args.self.now.prod c.args.n c.load-cons.result c.in-None.ensures

pub returns-in-None-clause-leads : goal.returns-in-None-clause-leads
returns-in-None-clause-leads g c =
    let l = c.args.self.now in (
      finds_room c.args.layout (page_at l.event_page) l.prod c.args.n c.load-cons.result c.args.w.now c.if-prod-ge-EVENT_LIMIT.false c.in-None.ensures,
      unfinished_put c.args.layout (page_at l.event_page) l.prod 0 c.args.n c.args.w.now stage.Raise refl,
    )

pub returns-then-prod-ge-EVENT_LIMIT-clause-room : goal.returns-then-prod-ge-EVENT_LIMIT-clause-room
unfolding puts
returns-then-prod-ge-EVENT_LIMIT-clause-room g c = λ h. absurd (false≢true h)

pub returns-in-Some-clause-room : goal.returns-in-Some-clause-room
unfolding puts
returns-in-Some-clause-room g c = λ h. absurd (false≢true h)
