use Rattle.std.proofs.Common.{◌≡◌, ◌+◌, ◌%◌, ◌^◌, true, refl, sym, ap, ◌∙◌, arith}
use Rattle.pv_words.specs.Plan.{Finished, Make, Store, Plain}
use Rattle.ring_words.specs.Ring.{next_index, notifies}
use Rattle.link_core.specs.Activities.{word_of, event_plan}
use Rattle.link_core.specs.Link.{dom_of, held_of, is_joined, joined_of, page_of, rsp_of, answer_left, idle}
use Rattle.link_core.specs.Stage.{answered_in, ring_in}
use Rattle.link_core.proofs.Transitions.{may_from, answer_head, answer_publishes, answer_event, answer_stores, answer_told, answer_ends}
use Rattle.link_core.proofs.Stays.{in_ring, in_ring_to_write}
use Rattle.link_core.proofs.link.Link.answer_step.Goals as goal

pub returns-then-n-lt16-clause-stays : goal.returns-then-n-lt16-clause-stays
unfolding held_of
returns-then-n-lt16-clause-stays g c = λ h. in_ring_to_write c.args.self.now.kept c.args.self.now.ring_page c.args.self.now.event_page c.args.self.now.writes.0 h

pub returns-then-n-eq16-clause-stays : goal.returns-then-n-eq16-clause-stays
unfolding held_of
returns-then-n-eq16-clause-stays g c = λ h. in_ring_to_write c.args.self.now.kept c.args.self.now.ring_page c.args.self.now.event_page c.args.self.now.writes.0 h

pub returns-clause-stays : goal.returns-clause-stays
unfolding held_of
returns-clause-stays g c = λ h. in_ring c.args.self.now.kept c.args.self.now.ring_page c.args.self.now.event_page h

pub store-requires : goal.store-requires
unfolding answer_left page_of rsp_of
store-requires g c =
    let l = c.args.self.now in
    may_from _ _ _ _ (answer_head (page_of l) (rsp_of l) (answered_in l.stage l.count) c.answered-n.result c.args.reply.now c.answered-n.ensures.exact (omega arith) c.slot_word.result _ c.slot_word.ensures.word refl c.if-n-lt16.true) c.requires

pub returns-then-n-lt16-clause-turns : goal.returns-then-n-lt16-clause-turns
unfolding answer_left page_of rsp_of
returns-then-n-lt16-clause-turns g c =
    let l = c.args.self.now in
    answer_stores (page_of l) (rsp_of l) (answered_in l.stage l.count) c.answered-n.result c.args.reply.now c.answered-n.ensures.exact (omega arith) c.slot_word.result _ c.slot_word.ensures.word refl c.if-n-lt16.true

pub returns-then-n-lt16-clause-keeps : goal.returns-then-n-lt16-clause-keeps
unfolding dom_of held_of is_joined page_of
returns-then-n-lt16-clause-keeps g c = record { dom = refl; part = refl; held = refl; is_joined = refl; page = refl }

pub returns-then-n-lt16-clause-joined : goal.returns-then-n-lt16-clause-joined
unfolding joined_of
returns-then-n-lt16-clause-joined g c = refl

pub store-requires-then-n-eq16 : goal.store-requires-then-n-eq16
unfolding answer_left page_of rsp_of
store-requires-then-n-eq16 g c =
    let l = c.args.self.now in
    let value : (c.rsp-next.result + 1) % 2 ^ 32 ≡ next_index (rsp_of l) = ap next_index c.rsp-next.ensures in
    let head = answer_publishes (page_of l) (rsp_of l) (answered_in l.stage l.count) c.answered-n.result c.args.reply.now c.answered-n.ensures.exact (omega arith) c.if-n-eq16.true in
    may_from _ _ _ _ (head ∙ ap (λ v. Make (Store (word_of (page_of l) 2) v) Plain (λ _. event_plan (page_of l) (rsp_of l))) (sym value)) c.requires

pub returns-then-n-eq16-clause-turns : goal.returns-then-n-eq16-clause-turns
unfolding answer_left page_of rsp_of
returns-then-n-eq16-clause-turns g c =
    let l = c.args.self.now in
    answer_told (page_of l) (rsp_of l) (answered_in l.stage l.count) c.answered-n.result c.args.reply.now c.answered-n.ensures.exact (omega arith) _ (ap next_index c.rsp-next.ensures) c.if-n-eq16.true

pub returns-then-n-eq16-clause-keeps : goal.returns-then-n-eq16-clause-keeps
unfolding dom_of held_of is_joined page_of
returns-then-n-eq16-clause-keeps g c = record { dom = refl; part = refl; held = refl; is_joined = refl; page = refl }

pub returns-then-n-eq16-clause-joined : goal.returns-then-n-eq16-clause-joined
unfolding joined_of
returns-then-n-eq16-clause-joined g c = refl

pub load-event-requires : goal.load-event-requires
unfolding answer_left page_of rsp_of
load-event-requires g c =
    let l = c.args.self.now in
    may_from _ _ _ _ (answer_event (page_of l) (rsp_of l) (answered_in l.stage l.count) c.answered-n.result c.args.reply.now c.answered-n.ensures.exact (omega arith) (omega arith)) c.requires

pub returns-clause-turns : goal.returns-clause-turns
unfolding answer_left page_of rsp_of
returns-clause-turns g c =
    let l = c.args.self.now in
    let told : c.must_notify.result ≡ notifies (rsp_of l) (next_index (rsp_of l)) c.load-event.result = c.must_notify.ensures ∙ (ap (λ old. notifies old c.answered-new.result c.load-event.result) c.rsp-old.ensures ∙ ap (λ new. notifies (rsp_of l) new c.load-event.result) (c.answered-new.ensures.told ∙ c.answered-new.ensures.next)) in
    answer_ends (page_of l) (rsp_of l) (answered_in l.stage l.count) c.answered-n.result c.args.reply.now c.answered-n.ensures.exact (omega arith) c.load-event.result c.must_notify.result (Finished true) told (omega arith)

pub returns-clause-keeps : goal.returns-clause-keeps
unfolding dom_of held_of is_joined page_of
returns-clause-keeps g c = record { dom = refl; part = refl; held = refl; is_joined = refl; page = refl }

pub returns-clause-joined : goal.returns-clause-joined
unfolding joined_of
returns-clause-joined g c =
    let l = c.args.self.now in
    ap (λ rsp. record { ring = ring_in l.kept l.ring_page; event = l.event_page; rsp = rsp; prod = l.prod }) c.answered-new.ensures.next

pub returns-clause-rests : goal.returns-clause-rests
unfolding idle
returns-clause-rests g c = refl
