use Rattle.std.proofs.Common.{◌<◌, length, refl, sym, subst, arith}
use Rattle.pv_words.specs.Plan.{MayGo, Turns}
use Rattle.device_service.specs.Parts.{count_of, doing_of, held_of, joined_of, kind_of}
use Rattle.device_service.proofs.Holding.Held.{here, in_all}
use Rattle.device_service.proofs.Opened.{looks_is, rung_by}
use Rattle.device_service.proofs.Wholes.{all_met}
use Rattle.device_service.proofs.parts.Parts.look_step.Goals as goal

pub index_mut-requires : goal.index_mut-requires
unfolding count_of
index_mut-requires g c = let lt : c.args.part < length c.args.self.now.links.items = c.requires.opened.0 in omega arith

pub look_step-requires : goal.look_step-requires
unfolding count_of doing_of joined_of kind_of
look_step-requires g c =
    let p = c.args.self.now in
    let l = c.index_mut.result.now in
    let at = here p.links.items c.args.part l _ c.requires.opened.0 c.index_mut.ensures.value in
    let met = all_met p.dom.0 p.ringed p.doing p.links.items p.whole c.requires.opened.1 c.args.part l at in
    let is = looks_is p.doing p.links.items c.args.part l c.requires.opened.1 at (met.both (rung_by p.ringed c.requires.ringed)) in
    subst (λ x. MayGo (g.W.Words.may c.args.words.now) x) is c.requires.may

pub returns-clause-turns : goal.returns-clause-turns
unfolding count_of doing_of joined_of kind_of
returns-clause-turns g c = λ new.
    let p = c.args.self.now in
    let l = c.index_mut.result.now in
    let at = here p.links.items c.args.part l _ c.requires.opened.0 c.index_mut.ensures.value in
    let met = all_met p.dom.0 p.ringed p.doing p.links.items p.whole c.requires.opened.1 c.args.part l at in
    let is = looks_is p.doing p.links.items c.args.part l c.requires.opened.1 at (met.both (rung_by p.ringed c.requires.ringed)) in
    subst (λ x. Turns x c.look_step.result.access c.look_step.result.done new) (sym is) (c.look_step.ensures.turns new)

pub returns-clause-stays : goal.returns-clause-stays
unfolding count_of doing_of held_of kind_of
returns-clause-stays g c =
    let p = c.args.self.now in
    let l = c.index_mut.result.now in
    let at = here p.links.items c.args.part l _ c.requires.opened.0 c.index_mut.ensures.value in
    let met = all_met p.dom.0 p.ringed p.doing p.links.items p.whole c.requires.opened.1 c.args.part l at in
    in_all c.look_step.result.access p.links.items c.args.part l at (c.look_step.ensures.stays (met.both (rung_by p.ringed c.requires.ringed)))

pub returns-clause-doing : goal.returns-clause-doing
unfolding doing_of
returns-clause-doing g c = refl
