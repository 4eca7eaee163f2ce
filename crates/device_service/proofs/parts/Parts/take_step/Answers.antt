use Rattle.std.proofs.Common.{◌<◌, length, slice_set, refl, sym, ap, subst, ◌∙◌, arith}
use Rattle.std.proofs.lemmas.List.{length-set}
use Rattle.link_core.specs.Activities.{pages_of}
use Rattle.device_service.specs.declared.parts.Doing.{Doing}
use Rattle.device_service.specs.declared.parts.Doing.TheVariants as doing
use Rattle.device_service.specs.Doing.{Whole, is_open}
use Rattle.device_service.specs.Parts.{count_of, doing_of, dom_of, held_of, joined_of, kind_of, rest_if, take_from, take_left}
use Rattle.device_service.proofs.Holding.Held.{held_set, here, in_all}
use Rattle.device_service.proofs.Opened.{joined_set, may_at, rung_by, turns_at}
use Rattle.device_service.proofs.Wholes.{all_met, open_after, serving_open, whole_served}
use Rattle.device_service.proofs.parts.Parts.take_step.Goals as goal

pub index_mut-requires : goal.index_mut-requires
unfolding count_of
index_mut-requires g c = let lt : c.args.part < length c.args.self.now.links.items = c.requires.part in omega arith

pub take_step-turn-requires : goal.take_step-turn-requires
unfolding count_of take_left
take_step-turn-requires g c =
    let ls = c.args.self.now.links.items in
    let k = c.args.part in
    let l = c.index_mut.result.now in
    let at = here ls k l _ c.requires.part c.index_mut.ensures.value in
    may_at take_from (g.W.Words.may c.args.words.now) ls k l at c.requires.may

pub invariant_of-self : goal.invariant_of-self
unfolding count_of doing_of kind_of
invariant_of-self g c =
    let p = c.args.self.now in
    let ls = p.links.items in
    let k = c.args.part in
    let l = c.index_mut.result.now in
    let turn = c.take_step-turn in
    let at = here ls k l _ c.requires.part c.index_mut.ensures.value in
    let is = c.rest_if-self.ensures ∙ ap (λ b. rest_if b (doing.Taking k)) c.is_some.ensures in
    let whole = whole_served p.dom.0 p.ringed p.doing (doing.Taking k) ls k l turn.new.self turn.result.done p.whole refl refl c.requires.part (λ _. rung_by p.ringed c.requires.ringed) c.requires.serving at turn.ensures.keeps.dom turn.ensures.keeps.held (ap pages_of turn.ensures.joined) turn.ensures.rests in
    record { whole = subst (λ (d : Doing). Whole p.dom.0 p.ringed d (slice_set ls k turn.new.self)) (sym is) whole }

pub returns-clause-turns : goal.returns-clause-turns
unfolding count_of take_left
returns-clause-turns g c =
    let ls = c.args.self.now.links.items in
    let k = c.args.part in
    let l = c.index_mut.result.now in
    let turn = c.take_step-turn in
    let at = here ls k l _ c.requires.part c.index_mut.ensures.value in
    turns_at take_from ls k l turn.new.self turn.result.access turn.result.done at turn.ensures.turns

pub returns-clause-stays : goal.returns-clause-stays
unfolding count_of doing_of held_of kind_of
returns-clause-stays g c =
    let p = c.args.self.now in
    let ls = p.links.items in
    let k = c.args.part in
    let l = c.index_mut.result.now in
    let at = here ls k l _ c.requires.part c.index_mut.ensures.value in
    let opened = serving_open p.doing (doing.Taking k) refl c.requires.serving in
    let met = all_met p.dom.0 p.ringed p.doing ls p.whole opened k l at in
    in_all c.take_step-turn.result.access ls k l at (c.take_step-turn.ensures.stays (met.both (rung_by p.ringed c.requires.ringed)))

pub returns-clause-doing : goal.returns-clause-doing
unfolding doing_of
returns-clause-doing g c =
    c.rest_if-self.ensures ∙ ap (λ b. rest_if b (doing.Taking c.args.part)) c.is_some.ensures

pub returns-clause-keeps : goal.returns-clause-keeps
unfolding count_of doing_of dom_of held_of joined_of kind_of
returns-clause-keeps g c =
    let p = c.args.self.now in
    let ls = p.links.items in
    let k = c.args.part in
    let l = c.index_mut.result.now in
    let turn = c.take_step-turn in
    let at = here ls k l _ c.requires.part c.index_mut.ensures.value in
    let is = c.rest_if-self.ensures ∙ ap (λ b. rest_if b (doing.Taking k)) c.is_some.ensures in
    let opened = serving_open p.doing (doing.Taking k) refl c.requires.serving in
    let after = ap is_open is ∙ open_after turn.result.done (doing.Taking k) refl in
    record {
      same = record { dom = refl; count = length-set ls k turn.new.self; kind = refl };
      held = held_set ls k l turn.new.self at turn.ensures.keeps.held;
      stays = joined_set (is_open p.doing) (is_open c.rest_if-self.result) ls k l turn.new.self opened after at turn.ensures.joined;
    }
