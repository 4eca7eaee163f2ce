use Rattle.std.proofs.Common.{refl, arith}
use Rattle.link_core.specs.Link.{dom_of, held_of, is_joined, joined_of, page_of, rsp_of, take_left, idle}
use Rattle.link_core.specs.Stage.{taken_in}
use Rattle.pv_words.specs.Plan.{Finished}
use Rattle.link_core.proofs.Transitions.{may_from, take_head, take_goes_on, take_ends}
use Rattle.link_core.proofs.Stays.{in_ring}
use Rattle.link_core.proofs.link.Link.take_step.Goals as goal

pub returns-then-n-eq15-clause-stays : goal.returns-then-n-eq15-clause-stays
unfolding held_of
returns-then-n-eq15-clause-stays g c = λ h. in_ring c.args.self.now.kept c.args.self.now.ring_page c.args.self.now.event_page h

pub returns-clause-stays : goal.returns-clause-stays
unfolding held_of
returns-clause-stays g c = λ h. in_ring c.args.self.now.kept c.args.self.now.ring_page c.args.self.now.event_page h

pub load-word-requires : goal.load-word-requires
unfolding take_left page_of rsp_of
load-word-requires g c =
    let l = c.args.self.now in
    may_from _ _ _ _ (take_head (page_of l) (rsp_of l) (taken_in l.stage l.count) c.taken-n.result c.slot_word.result l.words c.taken-n.ensures.exact c.slot_word.ensures.word (omega arith)) c.requires

pub returns-then-n-eq15-clause-turns : goal.returns-then-n-eq15-clause-turns
unfolding take_left page_of rsp_of
returns-then-n-eq15-clause-turns g c =
    let l = c.args.self.now in
    take_ends (page_of l) (rsp_of l) (taken_in l.stage l.count) c.taken-n.result c.slot_word.result l.words c.taken-n.ensures.exact c.slot_word.ensures.word c.load-word.result (Finished l.words) (omega arith) (omega arith) c.if-n-eq15.true

pub returns-then-n-eq15-clause-keeps : goal.returns-then-n-eq15-clause-keeps
unfolding dom_of held_of is_joined page_of
returns-then-n-eq15-clause-keeps g c = record { dom = refl; part = refl; held = refl; is_joined = refl; page = refl }

pub returns-then-n-eq15-clause-joined : goal.returns-then-n-eq15-clause-joined
unfolding joined_of
returns-then-n-eq15-clause-joined g c = refl

pub returns-then-n-eq15-clause-rests : goal.returns-then-n-eq15-clause-rests
unfolding idle
returns-then-n-eq15-clause-rests g c = refl

pub returns-clause-turns : goal.returns-clause-turns
unfolding take_left page_of rsp_of
returns-clause-turns g c =
    let l = c.args.self.now in
    take_goes_on (page_of l) (rsp_of l) (taken_in l.stage l.count) c.taken-n.result c.slot_word.result l.words c.taken-n.ensures.exact c.slot_word.ensures.word c.load-word.result (omega arith) (omega arith) c.if-n-eq15.false

pub returns-clause-keeps : goal.returns-clause-keeps
unfolding dom_of held_of is_joined page_of
returns-clause-keeps g c = record { dom = refl; part = refl; held = refl; is_joined = refl; page = refl }

pub returns-clause-joined : goal.returns-clause-joined
unfolding joined_of
returns-clause-joined g c = refl
