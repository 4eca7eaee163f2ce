use Rattle.std.proofs.Common.{◌≡◌, ◌+◌, ◌%◌, ◌^◌, ◌==◌, true, refl, sym, ap, ◌∙◌, arith}
use Rattle.pv_words.specs.Plan.{Finished, Make, Store, Plain}
use Rattle.ring_words.specs.Ring.{next_index}
use Rattle.link_core.specs.Activities.{word_of, check_plan}
use Rattle.link_core.specs.Link.{dom_of, held_of, is_joined, joined_of, page_of, rsp_of, sleep_left, idle}
use Rattle.link_core.specs.Stage.{slept_in}
use Rattle.link_core.proofs.Transitions.{may_from, sleep_asks, sleep_checks, sleep_goes_on, sleep_ends}
use Rattle.link_core.proofs.Stays.{in_ring, in_ring_to_write}
use Rattle.link_core.proofs.link.Link.sleep_step.Goals as goal

pub returns-then-slept-eq0-clause-stays : goal.returns-then-slept-eq0-clause-stays
unfolding held_of
returns-then-slept-eq0-clause-stays g c = λ h. in_ring_to_write c.args.self.now.kept c.args.self.now.ring_page c.args.self.now.event_page c.args.self.now.writes.0 h

pub returns-clause-stays : goal.returns-clause-stays
unfolding held_of
returns-clause-stays g c = λ h. in_ring c.args.self.now.kept c.args.self.now.ring_page c.args.self.now.event_page h

pub store-requires : goal.store-requires
unfolding sleep_left page_of rsp_of
store-requires g c =
    let l = c.args.self.now in
    let value : (c.rsp-rsp.result + 1) % 2 ^ 32 ≡ next_index (rsp_of l) = ap next_index c.rsp-rsp.ensures in
    may_from _ _ _ _ (sleep_asks (page_of l) (rsp_of l) (slept_in l.stage l.count) c.slept.result c.slept.ensures.exact c.if-slept-eq0.true ∙ ap (λ v. Make (Store (word_of (page_of l) 1) v) Plain (λ _. check_plan (page_of l) (rsp_of l))) (sym value)) c.requires

pub returns-then-slept-eq0-clause-turns : goal.returns-then-slept-eq0-clause-turns
unfolding sleep_left page_of rsp_of
returns-then-slept-eq0-clause-turns g c =
    let l = c.args.self.now in
    sleep_goes_on (page_of l) (rsp_of l) (slept_in l.stage l.count) c.slept.result c.slept.ensures.exact _ (ap next_index c.rsp-rsp.ensures) c.if-slept-eq0.true

pub returns-then-slept-eq0-clause-keeps : goal.returns-then-slept-eq0-clause-keeps
unfolding dom_of held_of is_joined page_of
returns-then-slept-eq0-clause-keeps g c = record { dom = refl; part = refl; held = refl; is_joined = refl; page = refl }

pub returns-then-slept-eq0-clause-joined : goal.returns-then-slept-eq0-clause-joined
unfolding joined_of
returns-then-slept-eq0-clause-joined g c = refl

pub load-prod-requires : goal.load-prod-requires
unfolding sleep_left page_of rsp_of
load-prod-requires g c =
    let l = c.args.self.now in
    may_from _ _ _ _ (sleep_checks (page_of l) (rsp_of l) (slept_in l.stage l.count) c.slept.result c.slept.ensures.exact (omega arith)) c.requires

pub returns-clause-turns : goal.returns-clause-turns
unfolding sleep_left page_of rsp_of
returns-clause-turns g c =
    let l = c.args.self.now in
    sleep_ends (page_of l) (rsp_of l) (slept_in l.stage l.count) c.slept.result c.slept.ensures.exact c.load-prod.result (c.load-prod.result == c.rsp-rsp.result) (Finished true) (ap (λ r. c.load-prod.result == r) c.rsp-rsp.ensures) (omega arith)

pub returns-clause-keeps : goal.returns-clause-keeps
unfolding dom_of held_of is_joined page_of
returns-clause-keeps g c = record { dom = refl; part = refl; held = refl; is_joined = refl; page = refl }

pub returns-clause-joined : goal.returns-clause-joined
unfolding joined_of
returns-clause-joined g c = refl

pub returns-clause-rests : goal.returns-clause-rests
unfolding idle
returns-clause-rests g c = refl
